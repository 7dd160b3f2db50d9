-- The identifier and the body of a frame: what is read at the front of a text is encoded there, and what is encoded
-- there is read.
use Rattle.std.proofs.Common.{◌≡◌, ◌⊎◌, ℕ, ◌≤◌, Bool, true, false, cond, leb, eqb, List, [], ◌∷◌, ◌++◌, length, codes, Option, Some, None, refl, sym, ap, subst, ◌∙◌, arith, inl, inr, append_assoc}
use Rattle.std.specs.Prelude.{◌==◌, ◌&&◌, ◌||◌}
use Rattle.std.specs.Option.{option_map}
use Rattle.std.specs.List.{list_all}
use Rattle.std.specs.Char.{is_ascii_hexdigit}
use Rattle.std.proofs.lemmas.Bool.{cases_Bool, and_parts, eqb-true, eq-eqb, leb-true, le-leb}
use Rattle.byte_forms.specs.declared.class.Class.TheVariants as classes
use Rattle.byte_forms.specs.declared.numerals.Radix.TheVariants as radixes
use Rattle.byte_forms.specs.Classes.{is_in}
use Rattle.byte_forms.specs.Numerals.{number_of, number_up_to}
use Rattle.byte_forms.specs.Pieces.{field_before}
use Rattle.bench_model.specs.declared.database.Key.{Key}
use Rattle.candump_log.specs.Data.{EncodesData}
use Rattle.candump_log.specs.Line.{standard_limit, extended_limit, IsTail, IsIdentifier, IsLengthCode, IsLength, IsClassic, IsFd, IsRemote, IsBody}
use Rattle.candump_log.specs.LineOf.{key_of, key_prefix, bytes_prefix, after_length, after_code, fd_prefix, classic_prefix, body_prefix}
use Rattle.candump_log.proofs.ByteLaws.{PieceLaw, NumberLaw, bind_some}
use Rattle.candump_log.proofs.BlankLaws.{differs, blank_fails}
use Rattle.candump_log.proofs.DataLaws.{data_takes, data-encoded, StopsData, tail_stops}

-- ---- the identifier

mapped : (f : ℕ → Key) (o : Option ℕ) (key : Key) → option_map f o ≡ Some key → (n : ℕ) × (o ≡ Some n) × (f n ≡ key)
mapped f None key e = absurd cc
mapped f (Some n) key e = (n, refl, cc)

key_of_takes : (law : NumberLaw) (digits : List ℕ) (key : Key) → key_of digits ≡ Some key → IsIdentifier digits key
unfolding key_of
key_of_takes law digits key e =
    elim (cases_Bool (length digits == 3)) [
      | inl three ↦
          let m = mapped (λ (n : ℕ). record { extended = false; id = n }) (number_up_to radixes.Hexadecimal 2047 digits) key (rw three at e) in
          let n = (law.value radixes.Hexadecimal 2047 m.0 digits).0 m.1 in
          let id : m.0 ≡ key.id = ap (λ (k : Key). k.id) m.2 in
          let extended : false ≡ key.extended = ap (λ (k : Key). k.extended) m.2 in
          record { numeral = n.0; id = sym id ∙ n.1; form = inl (eqb-true (length digits) 3 three, sym extended, omega (arith, id, n.2)) }
      | inr other ↦
          elim (cases_Bool (length digits == 8)) [
            | inl eight ↦
                let m = mapped (λ (n : ℕ). record { extended = true; id = n }) (number_up_to radixes.Hexadecimal 1073741823 digits) key (rw (other, eight) at e) in
                let n = (law.value radixes.Hexadecimal 1073741823 m.0 digits).0 m.1 in
                let id : m.0 ≡ key.id = ap (λ (k : Key). k.id) m.2 in
                let extended : true ≡ key.extended = ap (λ (k : Key). k.extended) m.2 in
                record { numeral = n.0; id = sym id ∙ n.1; form = inr (eqb-true (length digits) 8 eight, sym extended, omega (arith, id, n.2)) }
            | inr neither ↦ absurd (cc (rw (other, neither) at e))
          ]
    ]

key_same : (key : Key) (extended : Bool) (n : ℕ) → key.extended ≡ extended → key.id ≡ n → record { extended = extended; id = n } ≡ key
key_same key extended n e i = rw (← e, ← i) refl

key_of-is : (law : NumberLaw) (digits : List ℕ) (key : Key) → IsIdentifier digits key → key_of digits ≡ Some key
unfolding key_of
key_of-is law digits key is = by_form is.form
  where
    by_form : ((length digits ≡ 3) × (key.extended ≡ false) × (key.id ≤ standard_limit)) ⊎ ((length digits ≡ 8) × (key.extended ≡ true) × (key.id ≤ extended_limit)) →
        cond (eqb (length digits) 3) (option_map (λ (n : ℕ). record { extended = false; id = n }) (number_up_to radixes.Hexadecimal 2047 digits))
        (cond (eqb (length digits) 8) (option_map (λ (n : ℕ). record { extended = true; id = n }) (number_up_to radixes.Hexadecimal 1073741823 digits)) None)
        ≡ Some key
    by_form (inl f) =
        let n = (law.value radixes.Hexadecimal 2047 (number_of radixes.Hexadecimal digits) digits).1 (is.numeral, refl, omega (arith, is.id, f.2)) in
        rw (eq-eqb (length digits) 3 f.0, n) (ap (λ (k : Key). Some k) (key_same key false _ f.1 is.id))
    by_form (inr f) =
        let n = (law.value radixes.Hexadecimal 1073741823 (number_of radixes.Hexadecimal digits) digits).1 (is.numeral, refl, omega (arith, is.id, f.2)) in
        let eight = f.0 in
        rw (eight, n) (ap (λ (k : Key). Some k) (key_same key true _ f.1 is.id))

pub key_prefix_takes : (pieces : PieceLaw) (numbers : NumberLaw) (bytes rest : List ℕ) (key : Key) → key_prefix bytes ≡ Some (key, rest) → (id : List ℕ) × IsIdentifier id key × (bytes ≡ id ++ (codes "#" ++ rest))
unfolding key_prefix
key_prefix_takes pieces numbers bytes rest key e =
    let f = bind_some (field_before classes.HexadecimalDigit (codes "#") bytes) _ _ e in
    let k = bind_some (key_of f.0.0) _ _ f.2 in
    let field = pieces.found classes.HexadecimalDigit (codes "#") bytes f.0.0 f.0.1 f.1 in
    let same : k.0 ≡ key = first (k.0, f.0.1) (key, rest) k.2 in
    let behind : f.0.1 ≡ rest = second (k.0, f.0.1) (key, rest) k.2 in
    let P : Key → Type 0 = IsIdentifier f.0.0 in
    (f.0.0, subst P same (key_of_takes numbers f.0.0 k.0 k.1), field.0 ∙ ap (λ (r : List ℕ). f.0.0 ++ (codes "#" ++ r)) behind)
  where
    first : (x y : Key × List ℕ) → Some x ≡ Some y → x.0 ≡ y.0
    first x y e = let same : x ≡ y = cc in ap (λ (p : Key × List ℕ). p.0) same

    second : (x y : Key × List ℕ) → Some x ≡ Some y → x.1 ≡ y.1
    second x y e = let same : x ≡ y = cc in ap (λ (p : Key × List ℕ). p.1) same

pub key_prefix-append : (pieces : PieceLaw) (numbers : NumberLaw) (id rest : List ℕ) (key : Key) → IsIdentifier id key → key_prefix (id ++ (codes "#" ++ rest)) ≡ Some (key, rest)
unfolding key_prefix
key_prefix-append pieces numbers id rest key is =
    let all : list_all (is_in classes.HexadecimalDigit) id ≡ true = (and_parts _ (list_all (is_in classes.HexadecimalDigit) id) is.numeral).1 in
    rw (pieces.there classes.HexadecimalDigit (codes "#") id rest all refl, key_of-is numbers id key is) refl

-- ---- what may be behind the data

after_code_takes : (text : List ℕ) → (code : List ℕ) × IsLengthCode code × (text ≡ code ++ after_code text)
after_code_takes [] = ([], inl refl, refl)
after_code_takes (b ∷ []) = ([], inl refl, refl)
after_code_takes (b ∷ digit ∷ bs) =
    elim (cases_Bool ((b == 95) && is_ascii_hexdigit digit)) [
      | inl both ↦
          let parts = and_parts (b == 95) (is_ascii_hexdigit digit) both in
          (95 ∷ digit ∷ [], inr (digit, parts.1, refl), rw both (ap (λ (x : ℕ). x ∷ digit ∷ bs) (eqb-true b 95 parts.0)))
      | inr other ↦ ([], inl refl, rw other refl)
    ]

after_code-other : (b : ℕ) (bs : List ℕ) → (b == 95) ≡ false → after_code (b ∷ bs) ≡ b ∷ bs
after_code-other b [] other = refl
after_code-other b (digit ∷ bs) other = rw other refl

after_code-tail : (tail : List ℕ) → IsTail tail → after_code tail ≡ tail
after_code-tail [] is = refl
after_code-tail (b ∷ bs) is = after_code-other b bs (blank_fails (λ c. c == 95) refl refl refl b is)

after_code-append : (code tail : List ℕ) → IsLengthCode code → IsTail tail → after_code (code ++ tail) ≡ tail
after_code-append code tail (inl none) is = rw none (after_code-tail tail is)
after_code-append code tail (inr some) is = let hex = some.1 in let e = some.2 in rw (e, hex) refl

-- a length code and the tail begin with no byte
code_stops : (code tail : List ℕ) → IsLengthCode code → IsTail tail → StopsData (code ++ tail)
code_stops code tail (inl none) is = rw none (tail_stops tail is)
code_stops code tail (inr some) is = rw some.2 (refl, refl)

after_length_takes : (text : List ℕ) → (digits : List ℕ) × IsLength digits × (text ≡ digits ++ after_length text)
after_length_takes [] = ([], inl refl, refl)
after_length_takes (b ∷ bs) =
    elim (cases_Bool (leb 48 b && leb b 56)) [
      | inl both ↦
          let parts = and_parts (leb 48 b) (leb b 56) both in
          (b ∷ [], inr (b, leb-true 48 b parts.0, leb-true b 56 parts.1, refl), rw both refl)
      | inr other ↦ ([], inl refl, rw other refl)
    ]

after_length-blank : (tail : List ℕ) → IsTail tail → after_length tail ≡ tail
after_length-blank [] is = refl
after_length-blank (b ∷ bs) is = let other : (leb 48 b && leb b 56) ≡ false = blank_fails (λ c. leb 48 c && leb c 56) refl refl refl b is in rw other refl

after_length-code : (code tail : List ℕ) → IsLengthCode code → IsTail tail → after_length (code ++ tail) ≡ code ++ tail
after_length-code code tail (inl none) is = rw none (after_length-blank tail is)
after_length-code code tail (inr some) is = rw some.2 refl

after_length-append : (digits code tail : List ℕ) → IsLength digits → IsLengthCode code → IsTail tail → after_length (digits ++ (code ++ tail)) ≡ code ++ tail
after_length-append digits code tail (inl none) code_is is = rw none (after_length-code code tail code_is is)
after_length-append digits code tail (inr some) code_is is =
    let low : leb 48 some.0 ≡ true = le-leb 48 some.0 some.1 in
    let high : leb some.0 56 ≡ true = le-leb some.0 56 some.2 in
    rw (some.3, low, high) refl

-- ---- the body

abbrev Content : Type 0
Content = Option (List ℕ) × List ℕ

record HasBody (text : List ℕ) (found : Content) : Type 0 where
  body : List ℕ
  parted : text ≡ body ++ found.1
  is : IsBody body found.0

same_body : (text : List ℕ) (x y : Content) → Some x ≡ Some y → HasBody text x → HasBody text y
same_body text x y e h = let P : Content → Type 0 = HasBody text in let same : x ≡ y = cc in subst P same h

classic_takes : (text : List ℕ) → HasBody text (Some (bytes_prefix 8 true text).0, after_code (bytes_prefix 8 true text).1)
classic_takes text =
    let d = data_takes 8 text in
    let c = after_code_takes (bytes_prefix 8 true text).1 in
    record {
      body = d.0 ++ c.0;
      parted = d.1 ∙ ap (λ (r : List ℕ). d.0 ++ r) c.2 ∙ sym (append_assoc d.0 c.0 (after_code (bytes_prefix 8 true text).1));
      is = inl (record { digits = d.0; code = c.0; text = refl; bytes_are = d.2; few = d.3; code_is = c.1 });
    }

fd_takes : (bs : List ℕ) (found : Content) → fd_prefix bs ≡ Some found → HasBody (35 ∷ bs) found
fd_takes [] found e = absurd cc
fd_takes (flags ∷ bs) found e =
    elim (cases_Bool (is_ascii_hexdigit flags)) [
      | inl hex ↦
          let d = data_takes 64 bs in
          same_body (35 ∷ flags ∷ bs) (Some (bytes_prefix 64 true bs).0, (bytes_prefix 64 true bs).1) found (rw hex at e)
          (record {
            body = 35 ∷ flags ∷ d.0;
            parted = ap (λ (r : List ℕ). 35 ∷ flags ∷ r) d.1;
            is = inr (record { flags = flags; digits = d.0; text = refl; flags_are = hex; bytes_are = d.2; few = d.3 });
          })
      | inr other ↦ absurd (cc (rw other at e))
    ]

letter_of : (b : ℕ) → ((b == 82) || (b == 114)) ≡ true → (b ≡ 82) ⊎ (b ≡ 114)
letter_of b h =
    elim (cases_Bool (b == 82)) [
      | inl big ↦ inl (eqb-true b 82 big)
      | inr other ↦ inr (eqb-true b 114 (rw other at h))
    ]

remote_takes : (b : ℕ) (bs : List ℕ) → ((b == 82) || (b == 114)) ≡ true → HasBody (b ∷ bs) (None, after_code (after_length bs))
remote_takes b bs letter =
    let l = after_length_takes bs in
    let c = after_code_takes (after_length bs) in
    record {
      body = b ∷ (l.0 ++ c.0);
      parted = ap (λ (r : List ℕ). b ∷ r) (l.2 ∙ ap (λ (r : List ℕ). l.0 ++ r) c.2 ∙ sym (append_assoc l.0 c.0 (after_code (after_length bs))));
      is = record { letter = b; length_digit = l.0; code = c.0; text = refl; letter_is = letter_of b letter; length_is = l.1; code_is = c.1 };
    }

body_takes : (text : List ℕ) (found : Content) → body_prefix text ≡ Some found → HasBody text found
unfolding body_prefix
body_takes [] found e = same_body [] _ found e (classic_takes [])
body_takes (b ∷ bs) found e =
    elim (cases_Bool (b == 35)) [
      | inl hash ↦
          let P : ℕ → Type 0 = λ x. HasBody (x ∷ bs) found in
          subst P (sym (eqb-true b 35 hash)) (fd_takes bs found (rw hash at e))
      | inr other ↦
          elim (cases_Bool ((b == 82) || (b == 114))) [
            | inl letter ↦ same_body (b ∷ bs) _ found (rw (other, letter) at e) (remote_takes b bs letter)
            | inr neither ↦ same_body (b ∷ bs) _ found (rw (other, neither) at e) (classic_takes (b ∷ bs))
          ]
    ]

pub body_prefix_takes : (text tail : List ℕ) (content : Option (List ℕ)) → body_prefix text ≡ Some (content, tail) → (body : List ℕ) × IsBody body content × (text ≡ body ++ tail)
body_prefix_takes text tail content e = let h = body_takes text (content, tail) e in (h.body, h.is, h.parted)

-- a text whose first byte is neither a `#` nor a letter is read as a classic frame's
abbrev StopsLetters : List ℕ → Type 0
StopsLetters [] = Unit {0}
StopsLetters (b ∷ bs) = ((b == 35) ≡ false) × (((b == 82) || (b == 114)) ≡ false)

body_prefix-classic : (text : List ℕ) → StopsLetters text → body_prefix text ≡ classic_prefix text
unfolding body_prefix
body_prefix-classic [] stop = refl
body_prefix-classic (b ∷ bs) stop = rw (stop.0, stop.1) refl

tail_plain : (tail : List ℕ) → IsTail tail → StopsLetters tail
tail_plain [] is = tt
tail_plain (b ∷ bs) is = (blank_fails (λ c. c == 35) refl refl refl b is, blank_fails (λ c. (c == 82) || (c == 114)) refl refl refl b is)

code_plain : (code tail : List ℕ) → IsLengthCode code → IsTail tail → StopsLetters (code ++ tail)
code_plain code tail (inl none) is = rw none (tail_plain tail is)
code_plain code tail (inr some) is = rw some.2 (refl, refl)

data_plain : (digits bytes rest : List ℕ) → EncodesData digits bytes → StopsLetters rest → StopsLetters (digits ++ rest)
data_plain digits [] rest encodes stop = rw encodes stop
data_plain digits (b ∷ bytes) rest encodes stop =
    let l = encodes.1 in
    let hash : (l.high == 35) ≡ false = differs is_ascii_hexdigit l.high 35 l.high_is refl in
    let big : (l.high == 82) ≡ false = differs is_ascii_hexdigit l.high 82 l.high_is refl in
    let small : (l.high == 114) ≡ false = differs is_ascii_hexdigit l.high 114 l.high_is refl in
    rw l.parted (hash, rw (big, small) refl)

classic-encoded : (body tail bytes : List ℕ) → IsClassic body bytes → IsTail tail → body_prefix (body ++ tail) ≡ Some (Some bytes, tail)
classic-encoded body tail bytes is tail_is =
    let whole : body ++ tail ≡ is.digits ++ (is.code ++ tail) = ap (λ (b : List ℕ). b ++ tail) is.text ∙ append_assoc is.digits is.code tail in
    let plain = data_plain is.digits bytes (is.code ++ tail) is.bytes_are (code_plain is.code tail is.code_is tail_is) in
    let read = data-encoded 8 is.digits bytes (is.code ++ tail) is.bytes_are is.few (code_stops is.code tail is.code_is tail_is) in
    ap body_prefix whole ∙ body_prefix-classic (is.digits ++ (is.code ++ tail)) plain
    ∙ ap (λ (x : List ℕ × List ℕ). Some (Some x.0, after_code x.1)) read ∙ ap (λ (r : List ℕ). Some (Some bytes, r)) (after_code-append is.code tail is.code_is tail_is)

fd-encoded : (body tail bytes : List ℕ) → IsFd body bytes → IsTail tail → body_prefix (body ++ tail) ≡ Some (Some bytes, tail)
unfolding body_prefix
fd-encoded body tail bytes is tail_is =
    let read = data-encoded 64 is.digits bytes tail is.bytes_are is.few (tail_stops tail tail_is) in
    let hex = is.flags_are in
    rw (is.text, hex, read) refl

remote-encoded : (body tail : List ℕ) → IsRemote body → IsTail tail → body_prefix (body ++ tail) ≡ Some (None, tail)
unfolding body_prefix
remote-encoded body tail is tail_is =
    let whole : (is.length_digit ++ is.code) ++ tail ≡ is.length_digit ++ (is.code ++ tail) = append_assoc is.length_digit is.code tail in
    let length_is = after_length-append is.length_digit is.code tail is.length_is is.code_is tail_is in
    let code_is = after_code-append is.code tail is.code_is tail_is in
    let hash : (is.letter == 35) ≡ false = letter_plain is.letter is.letter_is in
    let letter : ((is.letter == 82) || (is.letter == 114)) ≡ true = letter_found is.letter is.letter_is in
    rw (is.text, hash, letter, whole, length_is, code_is) refl
  where
    letter_plain : (b : ℕ) → (b ≡ 82) ⊎ (b ≡ 114) → (b == 35) ≡ false
    letter_plain b (inl e) = rw e refl
    letter_plain b (inr e) = rw e refl

    letter_found : (b : ℕ) → (b ≡ 82) ⊎ (b ≡ 114) → ((b == 82) || (b == 114)) ≡ true
    letter_found b (inl e) = rw e refl
    letter_found b (inr e) = rw e refl

pub body_prefix-append : (body tail : List ℕ) (content : Option (List ℕ)) → IsBody body content → IsTail tail → body_prefix (body ++ tail) ≡ Some (content, tail)
body_prefix-append body tail (Some bytes) (inl classic) tail_is = classic-encoded body tail bytes classic tail_is
body_prefix-append body tail (Some bytes) (inr fd) tail_is = fd-encoded body tail bytes fd tail_is
body_prefix-append body tail None is tail_is = remote-encoded body tail is tail_is
