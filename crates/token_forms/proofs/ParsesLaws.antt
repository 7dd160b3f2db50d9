-- Each form of a piece finds exactly what is at the front of the tokens.
use Rattle.std.proofs.Common.{◌≡◌, ◌∙◌, sym, ap, subst, refl, ℕ, ◌≤◌, ◌⊎◌, inl, inr, Bool, true, false, ◌&&◌, List, [], ◌∷◌, arith}
use Rattle.std.specs.Prelude.{Option, Some, None, nat_le, codes, drop, if◌then◌else◌}
use Rattle.std.specs.Str.{bytes_eq}
use Rattle.std.proofs.lemmas.Bool.{and_parts, or_cases, leb-true}
use Rattle.std.proofs.lemmas.Option.{none-some, cond_some}
use Rattle.std.proofs.lemmas.Slice.Eq.{bytes_eq-Decides}
use Rattle.byte_forms.specs.declared.numerals.Radix.{Radix}
use Rattle.byte_forms.specs.declared.numerals.Radix.TheVariants.{Decimal, Hexadecimal}
use Rattle.byte_forms.specs.Numerals.{number_of, is_numeral, number_up_to}
use Rattle.byte_forms.specs.Pieces.{◌>>=◌}
use Rattle.sig_text.specs.declared.token.TokenKind.{TokenKind}
use Rattle.sig_text.specs.declared.token.TokenKind.TheVariants.{Word, Number, Str, Sign}
use Rattle.sig_text.specs.declared.token.Token.{Token}
use Rattle.token_forms.specs.declared.numbers.SignedNumber.{SignedNumber}
use Rattle.token_forms.specs.Pieces.{token_text, literal_at, word_by, word_at, number_by, number_at, string_by, string_at}
use Rattle.token_forms.specs.Numbers.{whole_at, digits_at, is_hexadecimal, number_in, number_up_to_at, is_sign_token, after_sign, signed_at}
use Rattle.token_forms.specs.Grammar.{One, Quoted, IsWord, IsNumber, IsString, HasValue, IsDigits, Whole, HasAnyValue, NumberUpTo}
use Rattle.token_forms.specs.Grammar.{IsSignToken, OptionalSign, IsUnmarked, Signed}

-- ---- steps

some_same : {A : Type 0} (x y : A) → Some x ≡ Some y → x ≡ y
some_same x y e = cc

cons_same : {A : Type 0} (x y : A) (xs ys : List A) → x ∷ xs ≡ y ∷ ys → (x ≡ y) × (xs ≡ ys)
cons_same x y xs ys e = (cc, cc)

nil_cons : {A : Type 0} (x : A) (xs : List A) → [] ≡ x ∷ xs → ⊥
nil_cons x xs e = cc

pair_same : {A B : Type 0} (x y : A) (xs ys : B) → ◌≡◌ {A = A × B} (x, xs) (y, ys) → (x ≡ y) × (xs ≡ ys)
pair_same {A} {B} x y xs ys e = (ap (λ (p : A × B). p.0) e, ap (λ (p : A × B). p.1) e)

-- what a second step finds behind a first
behind : {A B : Type 0} (o : Option A) (f : A → Option B) (y : B) → (o >>= f) ≡ Some y → (x : A) × (o ≡ Some x) × (f x ≡ Some y)
behind None f y e = absurd (none-some y e)
behind (Some x) f y e = (x, refl, e)

-- ---- tokens of a kind

is_this : (text literal : List ℕ) (token : Token) (tail rest : List Token)
    → (if bytes_eq (token_text text token) literal then Some tail else None) ≡ Some rest → Quoted text literal (token ∷ tail) rest
is_this text literal token tail rest e =
    let found = cond_some (bytes_eq (token_text text token) literal) tail rest e in
    (token, (ap (λ r. token ∷ r) found.1, (bytes_eq-Decides (token_text text token) literal).0 found.0))

pub quoted_found : (text literal : List ℕ) (tokens rest : List Token) → literal_at text literal tokens ≡ Some rest
    → Quoted text literal tokens rest
unfolding literal_at
quoted_found text literal [] rest e = absurd (none-some rest e)
quoted_found text literal (token ∷ tail) rest e = is_this text literal token tail rest e

pub quoted_there : (text literal : List ℕ) (tokens rest : List Token) → Quoted text literal tokens rest
    → literal_at text literal tokens ≡ Some rest
unfolding literal_at
quoted_there text literal tokens rest (token, (prefix, is)) =
    let same = (bytes_eq-Decides (token_text text token) literal).1 is in
    ap (literal_at text literal) prefix ∙ ap (λ (b : Bool). if b then Some rest else None) same

word_of : (token x : Token) (kind : TokenKind) (tail rest : List Token) → token.kind ≡ kind → word_by token kind tail ≡ Some (x, rest)
    → One IsWord x (token ∷ tail) rest
word_of token x Word tail rest is e =
    let same = pair_same token x tail rest (some_same _ _ e) in
    (rw (same.0, same.1) refl, ap (λ (t : Token). t.kind) (sym same.0) ∙ is)
word_of token x Number tail rest is e = absurd (none-some _ e)
word_of token x Str tail rest is e = absurd (none-some _ e)
word_of token x Sign tail rest is e = absurd (none-some _ e)

pub word_found : (tokens : List Token) (x : Token) (rest : List Token) → word_at tokens ≡ Some (x, rest) → One IsWord x tokens rest
unfolding word_at
word_found [] x rest e = absurd (none-some _ e)
word_found (token ∷ tail) x rest e = word_of token x token.kind tail rest refl e

pub word_there : (tokens : List Token) (x : Token) (rest : List Token) → One IsWord x tokens rest → word_at tokens ≡ Some (x, rest)
unfolding word_at
word_there tokens x rest (prefix, is) = ap word_at prefix ∙ ap (λ kind. word_by x kind rest) is

number_of_kind : (token x : Token) (kind : TokenKind) (tail rest : List Token) → token.kind ≡ kind → number_by token kind tail ≡ Some (x, rest)
    → One IsNumber x (token ∷ tail) rest
number_of_kind token x Word tail rest is e = absurd (none-some _ e)
number_of_kind token x Number tail rest is e =
    let same = pair_same token x tail rest (some_same _ _ e) in
    (rw (same.0, same.1) refl, ap (λ (t : Token). t.kind) (sym same.0) ∙ is)
number_of_kind token x Str tail rest is e = absurd (none-some _ e)
number_of_kind token x Sign tail rest is e = absurd (none-some _ e)

number_found : (tokens : List Token) (x : Token) (rest : List Token) → number_at tokens ≡ Some (x, rest) → One IsNumber x tokens rest
unfolding number_at
number_found [] x rest e = absurd (none-some _ e)
number_found (token ∷ tail) x rest e = number_of_kind token x token.kind tail rest refl e

number_there : (tokens : List Token) (x : Token) (rest : List Token) → One IsNumber x tokens rest → number_at tokens ≡ Some (x, rest)
unfolding number_at
number_there tokens x rest (prefix, is) = ap number_at prefix ∙ ap (λ kind. number_by x kind rest) is

string_of : (token x : Token) (kind : TokenKind) (tail rest : List Token) → token.kind ≡ kind → string_by token kind tail ≡ Some (x, rest)
    → One IsString x (token ∷ tail) rest
string_of token x Word tail rest is e = absurd (none-some _ e)
string_of token x Number tail rest is e = absurd (none-some _ e)
string_of token x Str tail rest is e =
    let same = pair_same token x tail rest (some_same _ _ e) in
    (rw (same.0, same.1) refl, ap (λ (t : Token). t.kind) (sym same.0) ∙ is)
string_of token x Sign tail rest is e = absurd (none-some _ e)

pub string_found : (tokens : List Token) (x : Token) (rest : List Token) → string_at tokens ≡ Some (x, rest) → One IsString x tokens rest
unfolding string_at
string_found [] x rest e = absurd (none-some _ e)
string_found (token ∷ tail) x rest e = string_of token x token.kind tail rest refl e

pub string_there : (tokens : List Token) (x : Token) (rest : List Token) → One IsString x tokens rest → string_at tokens ≡ Some (x, rest)
unfolding string_at
string_there tokens x rest (prefix, is) = ap string_at prefix ∙ ap (λ kind. string_by x kind rest) is

-- ---- numbers

le_true : (a b : ℕ) → a ≤ b → nat_le a b ≡ true
le_true a b le = grind (arith, le)

pub value_found : (radix : Radix) (digits : List ℕ) (limit n : ℕ) → number_up_to radix limit digits ≡ Some n → HasValue radix digits limit n
unfolding number_up_to
value_found radix digits limit n e =
    let found = cond_some (is_numeral radix digits && nat_le (number_of radix digits) limit) (number_of radix digits) n e in
    let parts = and_parts (is_numeral radix digits) (nat_le (number_of radix digits) limit) found.0 in
    record {
      digits = parts.0;
      value = sym found.1;
      within = subst (λ m. m ≤ limit) found.1 (leb-true (number_of radix digits) limit parts.1);
    }

pub value_there : (radix : Radix) (digits : List ℕ) (limit n : ℕ) → HasValue radix digits limit n → number_up_to radix limit digits ≡ Some n
unfolding number_up_to
value_there radix digits limit n has =
    let within : nat_le (number_of radix digits) limit ≡ true =
    le_true (number_of radix digits) limit (subst (λ m. m ≤ limit) has.value has.within) in
    ap (λ b. if b && nat_le (number_of radix digits) limit then Some (number_of radix digits) else None) has.digits
    ∙ ap (λ b. if b then Some (number_of radix digits) else None) within ∙ ap Some (sym has.value)

-- a number token, and what its text says
record Said (P : Token → Type 0) (tokens rest : List Token) : Type 0 where
  token : Token
  one : One IsNumber token tokens rest
  says : P token

abbrev with_rest : {A : Type 0} → List Token → A → Option (A × List Token)
with_rest rest x = Some (x, rest)

abbrev value_of : {A : Type 0} → (Token → Option A) → Token × List Token → Option (A × List Token)
value_of value found = value found.0 >>= with_rest found.1

said : {A : Type 0} (value : Token → Option A) (tokens : List Token) (n : A) (rest : List Token)
    → (number_at tokens >>= value_of value) ≡ Some (n, rest)
    → Said (λ token. value token ≡ Some n) tokens rest
said {A} value tokens n rest e =
    let first = behind (number_at tokens) (value_of value) (n, rest) e in
    let second = behind (value first.0.0) (with_rest first.0.1) (n, rest) first.2 in
    let same = pair_same second.0 n first.0.1 rest (some_same _ _ second.2) in
    record {
      token = first.0.0;
      one = subst (λ r. One IsNumber first.0.0 tokens r) same.1 (number_found tokens first.0.0 first.0.1 first.1);
      says = second.1 ∙ ap Some same.0;
    }

unsaid : {A : Type 0} (value : Token → Option A) (tokens : List Token) (n : A) (rest : List Token) (token : Token)
    → One IsNumber token tokens rest → value token ≡ Some n
    → (number_at tokens >>= value_of value) ≡ Some (n, rest)
unsaid {A} value tokens n rest token one says =
    ap (λ (o : Option (Token × List Token)). o >>= value_of value) (number_there tokens token rest one)
    ∙ ap (λ (o : Option A). o >>= with_rest rest) says

pub whole_found : (text : List ℕ) (limit : ℕ) (tokens : List Token) (n : ℕ) (rest : List Token) → whole_at text limit tokens ≡ Some (n, rest)
    → Whole text limit n tokens rest
unfolding whole_at
whole_found text limit tokens n rest e =
    let s = said (λ token. number_up_to Decimal limit (token_text text token)) tokens n rest e in
    (s.token, (s.one.0, (s.one.1, value_found Decimal (token_text text s.token) limit n s.says)))

pub whole_there : (text : List ℕ) (limit : ℕ) (tokens : List Token) (n : ℕ) (rest : List Token) → Whole text limit n tokens rest
    → whole_at text limit tokens ≡ Some (n, rest)
unfolding whole_at
whole_there text limit tokens n rest (token, (prefix, (is, has))) =
    unsaid (λ token. number_up_to Decimal limit (token_text text token)) tokens n rest token (prefix, is)
    (value_there Decimal (token_text text token) limit n has)

any_found : (limit : ℕ) (text : List ℕ) (n : ℕ) (b : Bool) → is_hexadecimal text ≡ b
    → (if b then number_up_to Hexadecimal limit (drop 2 text) else number_up_to Decimal limit text) ≡ Some n → HasAnyValue text limit n
any_found limit text n true marked e = inr (marked, value_found Hexadecimal (drop 2 text) limit n e)
any_found limit text n false marked e = inl (marked, value_found Decimal text limit n e)

any_there : (limit : ℕ) (text : List ℕ) (n : ℕ) → HasAnyValue text limit n → number_in limit text ≡ Some n
any_there limit text n (inl (marked, has)) =
    ap (λ (b : Bool). if b then number_up_to Hexadecimal limit (drop 2 text) else number_up_to Decimal limit text) marked
    ∙ value_there Decimal text limit n has
any_there limit text n (inr (marked, has)) =
    ap (λ (b : Bool). if b then number_up_to Hexadecimal limit (drop 2 text) else number_up_to Decimal limit text) marked
    ∙ value_there Hexadecimal (drop 2 text) limit n has

pub number_up_to_found : (text : List ℕ) (limit : ℕ) (tokens : List Token) (n : ℕ) (rest : List Token)
    → number_up_to_at text limit tokens ≡ Some (n, rest) → NumberUpTo text limit n tokens rest
unfolding number_up_to_at
number_up_to_found text limit tokens n rest e =
    let s = said (λ token. number_in limit (token_text text token)) tokens n rest e in
    (s.token, (s.one.0, (s.one.1, any_found limit (token_text text s.token) n (is_hexadecimal (token_text text s.token)) refl s.says)))

pub number_up_to_there : (text : List ℕ) (limit : ℕ) (tokens : List Token) (n : ℕ) (rest : List Token)
    → NumberUpTo text limit n tokens rest → number_up_to_at text limit tokens ≡ Some (n, rest)
unfolding number_up_to_at
number_up_to_there text limit tokens n rest (token, (prefix, (is, has))) =
    unsaid (λ token. number_in limit (token_text text token)) tokens n rest token (prefix, is)
    (any_there limit (token_text text token) n has)

pub digits_found : (text : List ℕ) (tokens : List Token) (x : Token) (rest : List Token) → digits_at text tokens ≡ Some (x, rest)
    → One (IsDigits text) x tokens rest
unfolding digits_at
digits_found text tokens x rest e =
    let first = behind (number_at tokens) (λ found. if is_numeral Decimal (token_text text found.0) then Some found else None) (x, rest) e in
    let found = cond_some (is_numeral Decimal (token_text text first.0.0)) first.0 (x, rest) first.2 in
    let same = pair_same first.0.0 x first.0.1 rest found.1 in
    let one = number_found tokens x rest (first.1 ∙ ap Some found.1) in
    (one.0, (one.1, subst (λ (t : Token). is_numeral Decimal (token_text text t) ≡ true) same.0 found.0))

pub digits_there : (text : List ℕ) (tokens : List Token) (x : Token) (rest : List Token) → One (IsDigits text) x tokens rest
    → digits_at text tokens ≡ Some (x, rest)
unfolding digits_at
digits_there text tokens x rest (prefix, (is, digits)) =
    ap (λ o. o >>= λ found. if is_numeral Decimal (token_text text found.0) then Some found else None) (number_there tokens x rest (prefix, is))
    ∙ ap (λ (b : Bool). if b then Some (x, rest) else None) digits

-- ---- signed numbers

sign_found : (text : List ℕ) (token : Token) → is_sign_token text token ≡ true → IsSignToken text token
sign_found text token e = elim (or_cases (bytes_eq (token_text text token) (codes "+")) (bytes_eq (token_text text token) (codes "-")) e) [
  | inl plus ↦ inl ((bytes_eq-Decides (token_text text token) (codes "+")).0 plus)
  | inr minus ↦ inr ((bytes_eq-Decides (token_text text token) (codes "-")).0 minus)
]

sign_there : (text : List ℕ) (token : Token) → IsSignToken text token → is_sign_token text token ≡ true
sign_there text token (inl plus) = rw plus refl
sign_there text token (inr minus) = rw minus refl

either_bool : (b : Bool) → (b ≡ true) ⊎ (b ≡ false)
either_bool true = inl refl
either_bool false = inr refl

true_false : (b : Bool) → b ≡ true → b ≡ false → ⊥
true_false b t f = cc

after_found : (text : List ℕ) (sign : Option Token) (tokens : List Token) (n : SignedNumber) (rest : List Token)
    → after_sign text sign tokens ≡ Some (n, rest) → (sign ≡ n.sign) × One (IsUnmarked text) n.number tokens rest
after_found text sign tokens n rest e =
    let first = behind (number_at tokens) (λ found. if is_hexadecimal (token_text text found.0) then None
    else Some (record { sign = sign; number = found.0 }, found.1)) (n, rest) e in
    elim (either_bool (is_hexadecimal (token_text text first.0.0))) [
      | inl marked ↦ absurd (none-some (n, rest) (sym (ap (λ (b : Bool). if b then None
          else Some (record { sign = sign; number = first.0.0 }, first.0.1)) marked) ∙ first.2))
      | inr unmarked ↦
          let found : Some (record { sign = sign; number = first.0.0 }, first.0.1) ≡ Some (n, rest) =
          sym (ap (λ (b : Bool). if b then None
          else Some (record { sign = sign; number = first.0.0 }, first.0.1)) unmarked) ∙ first.2 in
          let same = pair_same _ n first.0.1 rest (some_same _ _ found) in
          let number : first.0.0 ≡ n.number = ap (λ (s : SignedNumber). s.number) same.0 in
          let one = number_found tokens first.0.0 first.0.1 first.1 in
          let P : Token → Type 0 = λ t. One (IsUnmarked text) t tokens first.0.1 in
          let Q : List Token → Type 0 = λ r. One (IsUnmarked text) n.number tokens r in
          (ap (λ (s : SignedNumber). s.sign) same.0, subst Q same.1 (subst P number (one.0, (one.1, unmarked))))
    ]

after_there : (text : List ℕ) (sign : Option Token) (tokens : List Token) (number : Token) (rest : List Token)
    → One (IsUnmarked text) number tokens rest → after_sign text sign tokens ≡ Some (record { sign = sign; number = number }, rest)
after_there text sign tokens number rest (prefix, (is, unmarked)) =
    ap (λ o. o >>= λ found. if is_hexadecimal (token_text text found.0) then None
    else Some (record { sign = sign; number = found.0 }, found.1)) (number_there tokens number rest (prefix, is))
    ∙ ap (λ (b : Bool). if b then None else Some (record { sign = sign; number = number }, rest)) unmarked

behind_sign : (text : List ℕ) (token : Token) (tail : List Token) (n : SignedNumber) (rest : List Token) → is_sign_token text token ≡ true
    → after_sign text (Some token) tail ≡ Some (n, rest) → Signed text n (token ∷ tail) rest
behind_sign text token tail n rest is e =
    let found = after_found text (Some token) tail n rest e in
    let P : Option Token → Type 0 = λ o. OptionalSign text o (token ∷ tail) tail in
    (tail, subst P found.0 (refl, sign_found text token is), found.1)

without_sign : (text : List ℕ) (token : Token) (tail : List Token) (n : SignedNumber) (rest : List Token) → is_sign_token text token ≡ false
    → after_sign text None (token ∷ tail) ≡ Some (n, rest) → Signed text n (token ∷ tail) rest
without_sign text token tail n rest isnt e =
    let found = after_found text None (token ∷ tail) n rest e in
    let P : Option Token → Type 0 = λ o. OptionalSign text o (token ∷ tail) (token ∷ tail) in
    let none : OptionalSign text None (token ∷ tail) (token ∷ tail) = (
      refl,
      λ left sign. let same = cons_same token sign.0 tail left sign.1.0 in
          true_false (is_sign_token text token) (ap (is_sign_token text) same.0 ∙ sign_there text sign.0 sign.1.1) isnt,
    ) in
    (token ∷ tail, subst P found.0 none, found.1)

abbrev signed_by : List ℕ → Token → List Token → Bool → Option (SignedNumber × List Token)
signed_by text token tail b = if b then after_sign text (Some token) tail else after_sign text None (token ∷ tail)

pub signed_found : (text : List ℕ) (tokens : List Token) (n : SignedNumber) (rest : List Token) → signed_at text tokens ≡ Some (n, rest)
    → Signed text n tokens rest
unfolding signed_at
signed_found text [] n rest e = absurd (none-some _ e)
signed_found text (token ∷ tail) n rest e = elim (either_bool (is_sign_token text token)) [
  | inl is ↦ behind_sign text token tail n rest is (sym (ap (signed_by text token tail) is) ∙ e)
  | inr isnt ↦ without_sign text token tail n rest isnt (sym (ap (signed_by text token tail) isnt) ∙ e)
]

signed_with : (text : List ℕ) (sign : Option Token) (tokens between : List Token) (number : Token) (rest : List Token)
    → OptionalSign text sign tokens between → One (IsUnmarked text) number between rest
    → signed_at text tokens ≡ Some (record { sign = sign; number = number }, rest)
unfolding signed_at
signed_with text (Some sign) tokens between number rest (prefix, is) one =
    ap (signed_at text) prefix ∙ ap (signed_by text sign between) (sign_there text sign is)
    ∙ after_there text (Some sign) between number rest one
signed_with text None [] between number rest (same, lacks) one = absurd (nil_cons number rest (same ∙ one.0))
signed_with text None (token ∷ tail) between number rest (same, lacks) one = elim (either_bool (is_sign_token text token)) [
  | inl is ↦ absurd (lacks tail (token, (refl, sign_found text token is)))
  | inr isnt ↦
      let P : List Token → Type 0 = λ ts. One (IsUnmarked text) number ts rest in
      ap (signed_by text token tail) isnt ∙ after_there text None (token ∷ tail) number rest (subst P (sym same) one)
]

pub signed_there : (text : List ℕ) (tokens : List Token) (n : SignedNumber) (rest : List Token) → Signed text n tokens rest
    → signed_at text tokens ≡ Some (n, rest)
signed_there text tokens n rest (between, sign, one) = signed_with text n.sign tokens between n.number rest sign one
