-- Longest prefixes of texts in the languages that numbers are made of.
use Rattle.std.proofs.Common.{◌≡◌, ℕ, ◌+◌, ◌-◌, ◌<◌, ◌≤◌, Bool, true, false, List, [], ◌∷◌, ◌++◌, length, get_or, take, drop, sym, refl, ap, ◌∙◌, subst, inl, inr, arith, length-append, length-drop, length-take-le, get_or-take, get_or-drop, add-zero, zero-add, eq-eqb, suc, zero}
use Rattle.std.specs.Prelude.{IsTrue, All}
use Rattle.std.specs.List.{prefix_len}
use Rattle.std.specs.Char.{is_ascii_digit}
use Rattle.std.proofs.lemmas.Bool.{cases_lt, both_ways}
use Rattle.std.proofs.lemmas.List.{take-take, take_at, drop_at, drop-take, take_all, take_rest, nil_from_length}
use Rattle.std.proofs.Math.Nat.{suc-add}
use Rattle.std.proofs.lemmas.List.Elements.{All-from_get_or}
use Rattle.std.proofs.lemmas.List.Sums.{prefix_len-le-length, prefix_len_passes, prefix_len_stops}
use Rattle.sig_text.specs.Prefixes.{IsLongestPrefix}
use Rattle.sig_text.specs.Lexemes.{AreDigits, IsAfter, IsWithOption, IsFraction}

-- each byte of the run passes
pub All-run : (p : ℕ → Bool) (text : List ℕ) → All (λ b. IsTrue (p b)) (take (prefix_len p text) text)
All-run p text =
    let fits = prefix_len-le-length p text in
    All-from_get_or (λ b. IsTrue (p b)) _ 0 (λ k inside.
    let short : k < prefix_len p text = omega (arith, length-take-le (prefix_len p text) text fits) in
    ap p (get_or-take (prefix_len p text) text k 0 short) ∙ prefix_len_passes p text k 0 short)

-- a prefix whose bytes all pass is no longer than the run
pub run_longest : (p : ℕ → Bool) (text : List ℕ) (m : ℕ) → m ≤ length text → All (λ b. IsTrue (p b)) (take m text) → m ≤ prefix_len p text
run_longest p text m fits each =
    elim (cases_lt (prefix_len p text) m) [
      | inl longer ↦
          let inside : prefix_len p text < length (take m text) = omega (arith, length-take-le m text fits) in
          absurd (both_ways _ (prefix_len_stops p text 0 (omega arith)) (sym (ap p (get_or-take m text (prefix_len p text) 0 longer)) ∙ each (prefix_len p text) 0 inside))
      | inr within ↦ within
    ]

-- the longest prefix of digits is the run of digits
pub digits_prefix : (p : ℕ → Bool) (text : List ℕ) → IsLongestPrefix (AreDigits p) text (prefix_len p text)
digits_prefix p text =
    let fits = prefix_len-le-length p text in
    record {
      within = fits;
      lexeme = λ some. record { some = omega (arith, length-take-le (prefix_len p text) text fits); each = All-run p text };
      longest = λ m inside digits. run_longest p text m inside digits.each;
    }

-- a prefix behind a byte of the class is a byte longer than a prefix of the rest
after_longest : (p : ℕ → Bool) (Rest : List ℕ → Type 0) (b : ℕ) (rest : List ℕ) (n : ℕ) → IsLongestPrefix Rest rest n → (m : ℕ) → m ≤ length (b ∷ rest) → IsAfter p Rest (take m (b ∷ rest)) → m ≤ suc n
after_longest p Rest b rest n prefix zero inside lexeme = omega arith
after_longest p Rest b rest n prefix (suc m) inside lexeme = omega (arith, prefix.longest m (omega arith) lexeme.1)

-- behind a byte of the class is a prefix of the rest
pub after_prefix : (p : ℕ → Bool) (Rest : List ℕ → Type 0) (text : List ℕ) (n : ℕ) → 0 < length text → p (get_or text 0 0) ≡ true → 0 < n → IsLongestPrefix Rest (drop 1 text) n → IsLongestPrefix (IsAfter p Rest) text (1 + n)
after_prefix p Rest [] n there pass some prefix = absurd (omega arith)
after_prefix p Rest (b ∷ rest) n there pass some prefix =
    let next : 1 + n ≡ suc n = omega arith in
    rw next (record {
      within = omega (arith, prefix.within);
      lexeme = λ _. (pass, prefix.lexeme some);
      longest = after_longest p Rest b rest n prefix;
    })

-- a prefix behind a byte of the class would need a prefix of the rest
after_nothing_longest : (p : ℕ → Bool) (Rest : List ℕ → Type 0) (b : ℕ) (rest : List ℕ) → (Rest [] → ⊥) → IsLongestPrefix Rest rest 0 → (m : ℕ) → m ≤ length (b ∷ rest) → IsAfter p Rest (take m (b ∷ rest)) → m ≤ 0
after_nothing_longest p Rest b rest none prefix zero inside lexeme = omega arith
after_nothing_longest p Rest b rest none prefix (suc m) inside lexeme =
    let no_length : m ≡ 0 = omega (arith, prefix.longest m (omega arith) lexeme.1) in
    absurd (none (subst (λ k. Rest (take k rest)) no_length lexeme.1))

-- nothing is behind the byte of the class
pub after_nothing : (p : ℕ → Bool) (Rest : List ℕ → Type 0) (text : List ℕ) → (Rest [] → ⊥) → IsLongestPrefix Rest (drop 1 text) 0 → IsLongestPrefix (IsAfter p Rest) text 0
after_nothing p Rest [] none prefix = record { within = omega arith; lexeme = λ some. absurd (omega arith); longest = λ m inside lexeme. inside }
after_nothing p Rest (b ∷ rest) none prefix = record {
  within = omega arith;
  lexeme = λ some. absurd (omega arith);
  longest = λ m inside lexeme. after_nothing_longest p Rest b rest none prefix m inside lexeme;
}

-- a prefix behind a byte of the class would begin with one
after_other_longest : (p : ℕ → Bool) (Rest : List ℕ → Type 0) (b : ℕ) (rest : List ℕ) → p b ≡ false → (m : ℕ) → IsAfter p Rest (take m (b ∷ rest)) → m ≤ 0
after_other_longest p Rest b rest other zero lexeme = omega arith
after_other_longest p Rest b rest other (suc m) lexeme = absurd (both_ways (p b) other lexeme.0)

-- the text begins with a byte of another class
pub after_other : (p : ℕ → Bool) (Rest : List ℕ → Type 0) (text : List ℕ) → p (get_or text 0 0) ≡ false → IsLongestPrefix (IsAfter p Rest) text 0
after_other p Rest [] other = record { within = omega arith; lexeme = λ some. absurd (omega arith); longest = λ m inside lexeme. inside }
after_other p Rest (b ∷ rest) other = record {
  within = omega arith;
  lexeme = λ some. absurd (omega arith);
  longest = λ m inside lexeme. after_other_longest p Rest b rest other m lexeme;
}

-- a fraction is no longer than the point and the run of digits
fraction_longest : (b : ℕ) (digits : List ℕ) (m : ℕ) → m ≤ length (b ∷ digits) → IsFraction (take m (b ∷ digits)) → m ≤ suc (prefix_len is_ascii_digit digits)
fraction_longest b digits zero inside lexeme = omega arith
fraction_longest b digits (suc m) inside lexeme = omega (arith, run_longest is_ascii_digit digits m (omega arith) lexeme.1)

-- a point and the run of digits behind it
pub fraction_prefix : (text : List ℕ) (n : ℕ) → 0 < length text → get_or text 0 0 ≡ 46 → n ≡ prefix_len is_ascii_digit (drop 1 text) → IsLongestPrefix IsFraction text (1 + n)
fraction_prefix [] n there dot run = absurd (omega arith)
fraction_prefix (b ∷ digits) n there dot run =
    let next : 1 + n ≡ suc (prefix_len is_ascii_digit digits) = omega arith in
    let fits = prefix_len-le-length is_ascii_digit digits in
    rw next (record {
      within = omega (arith, fits);
      lexeme = λ _. (eq-eqb b 46 dot, All-run is_ascii_digit digits);
      longest = fraction_longest b digits;
    })

-- a prefix is cut at any place
pub take_sum : (n k : ℕ) (text : List ℕ) → take (n + k) text ≡ take n text ++ take k (drop n text)
take_sum zero k text = ap (λ i. take i text) (zero-add k)
take_sum (suc n) k [] = rw suc-add (sym (take_all k [] (omega arith)))
take_sum (suc n) k (b ∷ text) = rw suc-add (ap (λ s. b ∷ s) (take_sum n k text))

-- The longest prefix of one language and then optionally the other, where no byte of the first begins the second.
module _ (First Second : List ℕ → Type 0) (c : ℕ → Bool) (of_first : (s : List ℕ) → First s → All (λ b. IsTrue (c b)) s) (of_second : (s : List ℕ) → Second s → (0 < length s) × (c (get_or s 0 0) ≡ false)) where
  -- the parts of a prefix by their places in the text
  option_parts : (text : List ℕ) (m : ℕ) → m ≤ length text → (parts : IsWithOption First Second (take m text)) → (length parts.prefix ≤ m) × (parts.prefix ≡ take (length parts.prefix) text) × (parts.rest ≡ take (m - length parts.prefix) (drop (length parts.prefix) text))
  option_parts text m inside parts =
      let j = length parts.prefix in
      let sizes : j + length parts.rest ≡ m = omega (arith, ap length parts.joined, length-append parts.prefix parts.rest, length-take-le m text inside) in
      let short : j ≤ m = omega arith in
      let whole : j + (m - j) ≡ m = omega arith in (
        short,
        sym (take_at parts.prefix parts.rest j refl) ∙ ap (take j) (sym parts.joined) ∙ take-take j m text short,
        sym (drop_at parts.prefix parts.rest j refl) ∙ ap (drop j) (sym parts.joined) ∙ ap (λ k. drop j (take k text)) (sym whole) ∙ drop-take j (m - j) text,
      )

  -- the second part begins where the longest prefix of the first language ends
  option_longest : (text : List ℕ) (n k m : ℕ) → 0 < n → IsLongestPrefix First text n → IsLongestPrefix Second (drop n text) k → m ≤ length text → (parts : IsWithOption First Second (take m text)) → Second parts.rest → m ≤ n + k
  option_longest text n k m some prefix rest inside parts second =
      let places = option_parts text m inside parts in
      let j = length parts.prefix in
      let begins = of_second parts.rest second in
      let rest_size : length parts.rest + j ≡ m = omega (arith, ap length parts.joined, length-append parts.prefix parts.rest, length-take-le m text inside) in
      elim (cases_lt j n) [
        | inl early ↦
            let first_byte : get_or parts.rest 0 0 ≡ get_or text j 0 =
            ap (λ s. get_or s 0 0) places.2 ∙ get_or-take (m - j) (drop j text) 0 0 (omega arith) ∙ get_or-drop j text 0 0 ∙ ap (λ i. get_or text i 0) (add-zero j) in
            let inside_first : j < length (take n text) = omega (arith, length-take-le n text prefix.within) in
            absurd (both_ways _ begins.1 (ap c (first_byte ∙ sym (get_or-take n text j 0 early)) ∙ of_first _ (prefix.lexeme some) j 0 inside_first))
        | inr late ↦
            let first_within : j ≤ n = prefix.longest j (omega arith) (subst First places.1 parts.first) in
            let same : j ≡ n = omega arith in
            let fits : m - n ≤ length (drop n text) = omega (arith, length-drop n text) in
            omega (arith, rest.longest (m - n) fits (subst (λ i. Second (take (m - i) (drop i text))) same (subst Second places.2 second)))
      ]

  -- the two longest prefixes, one behind the other
  pub option_prefix : (text : List ℕ) (n k : ℕ) → 0 < n → IsLongestPrefix First text n → IsLongestPrefix Second (drop n text) k → IsLongestPrefix (IsWithOption First Second) text (n + k)
  option_prefix text n k some prefix rest = record {
    within = omega (arith, prefix.within, rest.within, length-drop n text);
    lexeme = λ _. record {
      prefix = take n text;
      rest = take k (drop n text);
      joined = take_sum n k text;
      first = prefix.lexeme some;
      second = elim (cases_lt 0 k) [ inl more ↦ inr (rest.lexeme more) | inr nothing ↦ inl (let is_zero : k ≡ 0 = omega arith in rw is_zero refl) ];
    };
    longest = λ m inside parts.
        let places = option_parts text m inside parts in
        let j = length parts.prefix in
        let first_within : j ≤ n = prefix.longest j (omega arith) (subst First places.1 parts.first) in
        elim parts.second [
          | inl nothing ↦ omega (arith, ap length nothing, ap length parts.joined, length-append parts.prefix parts.rest, length-take-le m text inside)
          | inr second ↦ option_longest text n k m some prefix rest inside parts second
        ];
  }

  -- without the first language there is nothing
  pub option_nothing : (text : List ℕ) → (First [] → ⊥) → IsLongestPrefix First text 0 → IsLongestPrefix (IsWithOption First Second) text 0
  option_nothing text none prefix = record {
    within = omega arith;
    lexeme = λ some. absurd (omega arith);
    longest = λ m inside parts.
        let places = option_parts text m inside parts in
        let j = length parts.prefix in
        let no_length : j ≤ 0 = prefix.longest j (omega arith) (subst First places.1 parts.first) in
        absurd (none (subst First (nil_from_length parts.prefix (omega arith)) parts.first));
  }

-- what a slice pattern leaves behind the first byte
pub behind_first : (text : List ℕ) (n : ℕ) → n ≡ length text - 1 → take n (drop 1 text) ≡ drop 1 text
behind_first text n size = ap (λ k. take k (drop 1 text)) size ∙ take_rest text 1
