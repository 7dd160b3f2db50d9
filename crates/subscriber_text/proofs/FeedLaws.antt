-- No line feed is in what lines are made of.
use Rattle.std.proofs.Common.{◌≡◌, ℕ, zero, suc, ◌+◌, ◌/◌, ◌%◌, ◌^◌, ◌<◌, true, false, List, [], ◌∷◌, ◌++◌, map, refl, ◌∙◌, arith, inl, inr, ℤ, pos, negsuc}
use Rattle.std.specs.Prelude.{◌==◌, ◌||◌, not, nat_lt, flat_map, unsigned_abs}
use Rattle.std.specs.List.{list_all}
use Rattle.std.specs.Fmt.{digits, digits_onto, digit_glyph, decimal, signed_decimal}
use Rattle.std.specs.Int.Digits.{digits_of}
use Rattle.std.proofs.lemmas.Bool.{cases_Bool}
use Rattle.std.proofs.lemmas.Bool.Decides.{nat_tests}
use Rattle.std.proofs.lemmas.List.Folds.{list_all-append}
use Rattle.byte_forms.specs.Hexadecimal.{hex_digit, hex_digits}
use Rattle.exact_scale.specs.Digits.{decimal_digits, last_digits}
use Rattle.exact_scale.specs.ShortestText.{minus_of, without_last_zeros, point_text, size_text, decimal_text}
use Rattle.text_words.specs.SpacedWords.{behind_blank}
use Rattle.subscriber_text.specs.ItemText.{hex_bytes, quoted_byte, quoted}
use Rattle.subscriber_text.specs.Parts.{no_feed}

-- two pieces
pub plain-append : (xs ys : List ℕ) → no_feed xs ≡ true → no_feed ys ≡ true → no_feed (xs ++ ys) ≡ true
plain-append xs ys p q = list_all-append (λ b. not (b == 10)) xs ys ∙ rw (p, q) refl

pub plain-cons : (x : ℕ) (xs : List ℕ) → (x == 10) ≡ false → no_feed xs ≡ true → no_feed (x ∷ xs) ≡ true
plain-cons x xs p q = rw (p, q) refl

-- a byte above 10
above : (x : ℕ) → 10 < x → (x == 10) ≡ false
above x lt = grind (arith, nat_tests)

glyph-plain : (d : ℕ) → (digit_glyph false d == 10) ≡ false
glyph-plain d = elim (cases_Bool (nat_lt d 10)) [ inl low ↦ rw low (above (48 + d) (omega arith)) | inr high ↦ rw high (above (87 + d) (omega arith)) ]

digits_onto-plain : (k n : ℕ) (acc : List ℕ) → no_feed acc ≡ true → no_feed (digits_onto k 10 false n acc) ≡ true
digits_onto-plain zero n acc p = p
digits_onto-plain (suc k) n acc p =
    let more : no_feed (digit_glyph false (n % 10) ∷ acc) ≡ true = plain-cons (digit_glyph false (n % 10)) acc (glyph-plain (n % 10)) p in
    elim (cases_Bool (n / 10 == 0)) [
      | inl last ↦ rw last more
      | inr further ↦ rw further (digits_onto-plain k (n / 10) (digit_glyph false (n % 10) ∷ acc) more)
    ]

pub decimal-plain : (n : ℕ) → no_feed (decimal n) ≡ true
unfolding digits
decimal-plain n = digits_onto-plain 64 n [] refl

pub signed-plain : (n : ℤ) → no_feed (signed_decimal n) ≡ true
signed-plain (pos n) = decimal-plain n
signed-plain (negsuc n) = decimal-plain (suc n)

hex_digit-plain : (n : ℕ) → (hex_digit n == 10) ≡ false
hex_digit-plain n = elim (cases_Bool (nat_lt n 10)) [ inl low ↦ rw low (above (48 + n) (omega arith)) | inr high ↦ rw high (above (55 + n) (omega arith)) ]

pub hex-plain : (k n : ℕ) → no_feed (hex_digits k n) ≡ true
unfolding hex_digits
hex-plain zero n = refl
hex-plain (suc k) n = plain-append (hex_digits k (n / 16)) (hex_digit (n % 16) ∷ []) (hex-plain k (n / 16)) (plain-cons (hex_digit (n % 16)) [] (hex_digit-plain (n % 16)) refl)

pub flat-plain : {X : Type 0} (f : X → List ℕ) (xs : List X) → ((x : X) → no_feed (f x) ≡ true) → no_feed (flat_map f xs) ≡ true
flat-plain f [] each = refl
flat-plain f (x ∷ xs) each = plain-append (f x) (flat_map f xs) (each x) (flat-plain f xs each)

pub hex_bytes-plain : (bytes : List ℕ) → no_feed (hex_bytes bytes) ≡ true
hex_bytes-plain bytes = flat-plain (hex_digits 2) bytes (λ b. hex-plain 2 b)

quoted_byte-plain : (b : ℕ) → no_feed (quoted_byte b) ≡ true
quoted_byte-plain b =
    elim (cases_Bool (b == 34 || b == 92)) [
      | inl marked ↦ rw marked (plain-cons b [] (above b (grind (arith, nat_tests))) refl)
      | inr unmarked ↦ elim (cases_Bool (nat_lt b 32 || b == 127)) [
        | inl control ↦ rw (unmarked, control) (hex-plain 2 b)
        | inr other ↦ rw (unmarked, other) (plain-cons b [] (above b (grind (arith, nat_tests))) refl)
      ]
    ]

pub quoted-plain : (text : List ℕ) → no_feed (quoted text) ≡ true
quoted-plain text = plain-append (flat_map quoted_byte text) (34 ∷ []) (flat-plain quoted_byte text quoted_byte-plain) refl

digit-map-plain : (ds : List ℕ) → no_feed (map (λ digit. 48 + digit) ds) ≡ true
digit-map-plain [] = refl
digit-map-plain (d ∷ ds) = plain-cons (48 + d) (map (λ digit. 48 + digit) ds) (above (48 + d) (omega arith)) (digit-map-plain ds)

decimal_digits-plain : (n : ℕ) → no_feed (decimal_digits n) ≡ true
decimal_digits-plain n = elim (cases_Bool (n == 0)) [ inl none ↦ rw none refl | inr some ↦ rw some (digit-map-plain (digits_of 10 n)) ]

last_digits-plain : (k n : ℕ) → no_feed (last_digits k n) ≡ true
last_digits-plain zero n = refl
last_digits-plain (suc k) n = plain-append (last_digits k (n / 10)) ((48 + n % 10) ∷ []) (last_digits-plain k (n / 10)) (plain-cons (48 + n % 10) [] (above (48 + n % 10) (omega arith)) refl)

tail-plain : (x : ℕ) (xs : List ℕ) → no_feed (x ∷ xs) ≡ true → ((x == 10) ≡ false) × (no_feed xs ≡ true)
tail-plain x xs p = elim (cases_Bool (x == 10)) [ inl feed ↦ absurd (cc (rw feed at p)) | inr other ↦ (other, rw other at p) ]

without_last_zeros-plain : (ds : List ℕ) → no_feed ds ≡ true → no_feed (without_last_zeros ds) ≡ true
without_last_zeros-plain [] p = refl
without_last_zeros-plain (d ∷ ds) p =
    let parts = tail-plain d ds p in
    elim (cases_Bool (list_all (λ x. x == 48) (d ∷ ds))) [
      | inl zeros ↦ rw zeros refl
      | inr some ↦ rw some (plain-cons d (without_last_zeros ds) parts.0 (without_last_zeros-plain ds parts.1))
    ]

point_text-plain : (k rest : ℕ) → no_feed (point_text k rest) ≡ true
point_text-plain k rest = elim (cases_Bool (rest == 0)) [ inl none ↦ rw none refl | inr some ↦ rw some (without_last_zeros-plain (last_digits k rest) (last_digits-plain k rest)) ]

minus_of-plain : (n : ℤ) → no_feed (minus_of n) ≡ true
minus_of-plain (pos n) = refl
minus_of-plain (negsuc n) = refl

pub decimal_text-plain : (n : ℤ) (k : ℕ) → no_feed (decimal_text n k) ≡ true
decimal_text-plain n k =
    plain-append (minus_of n) (size_text (unsigned_abs n) k) (minus_of-plain n)
    (plain-append (decimal_digits (unsigned_abs n / 10 ^ k)) (point_text k (unsigned_abs n % 10 ^ k)) (decimal_digits-plain (unsigned_abs n / 10 ^ k)) (point_text-plain k (unsigned_abs n % 10 ^ k)))

-- words behind blanks
pub words-plain : (words : List (List ℕ)) → list_all no_feed words ≡ true → no_feed (flat_map behind_blank words) ≡ true
words-plain [] p = refl
words-plain (w ∷ ws) p =
    elim (cases_Bool (no_feed w)) [
      | inl plain ↦ plain-append w (flat_map behind_blank ws) plain (words-plain ws (rw plain at p))
      | inr feed ↦ absurd (cc (rw feed at p))
    ]
