-- Bytes that denote a token, and with which next byte no longer one.
use Rattle.std.proofs.Common.{◌≡◌, ℕ, zero, suc, ◌+◌, ◌<◌, ◌≤◌, Bool, true, false, ◌||◌, ◌&&◌, List, [], ◌∷◌, ◌++◌, length, get_or, sym, refl, ap, ◌∙◌, subst, ◌⊎◌, inl, inr, arith, append_assoc, length-append}
use Rattle.std.specs.Prelude.{IsTrue, All, ◌==◌, not, nat_lt}
use Rattle.std.specs.List.{AllByRecursion, list_all}
use Rattle.std.specs.Str.{bytes_eq}
use Rattle.std.specs.Char.{is_ascii_digit, is_ascii_hexdigit}
use Rattle.std.proofs.lemmas.Bool.{both_ways, or_cases, or_left, or_right, and_parts, and_from, and_left, and_right, not-true, not_from_false, cases_Bool, eqb-true, eq-eqb, ltb-true}
use Rattle.std.proofs.lemmas.List.{append-nil}
use Rattle.std.proofs.lemmas.List.Elements.{recursion_from_All, All-from_recursion}
use Rattle.sig_text.specs.Bytes.{quote, backslash, is_space, is_word_start, is_word_byte, is_point, is_nought, is_hexadecimal_mark, is_exponent_mark, is_plus_or_minus, is_sign}
use Rattle.sig_text.specs.Lexemes.{IsWord, AreDigits, AreDecimalDigits, IsAfter, IsHexadecimal, IsFraction, IsBareFraction, IsPower, IsExponent, IsWithOption, IsMantissa, IsDecimal, IsNumber, ClosesString, IsString, IsSign, IsLexeme}
use Rattle.sig_text.specs.declared.token.TokenKind.{TokenKind}
use Rattle.sig_text.specs.declared.token.TokenKind.TheVariants.{Word, Number, Str, Sign}
use Rattle.mill_database.proofs.PieceLaws.{Piece, render, Stops, AreSpaces, IsPiece, ArePieces}

-- ---- the bytes of a number

-- a byte that may be anywhere in a number: all but a sign of its exponent
unfoldable pub is_plain : ℕ → Bool
is_plain b = is_ascii_digit b || (is_ascii_hexdigit b || (is_hexadecimal_mark b || (is_exponent_mark b || is_point b)))

-- a byte that may be behind another in a number
unfoldable pub goes_on : ℕ → ℕ → Bool
goes_on before b = is_plain b || (is_plus_or_minus b && is_exponent_mark before)

unfoldable pub may_be : ℕ → List ℕ → Bool
may_be before [] = true
may_be before (b ∷ bs) = goes_on before b && may_be b bs

abbrev Plain : List ℕ → Type 0
Plain bytes = AllByRecursion (λ b. is_plain b ≡ true) bytes

plain_append : (xs ys : List ℕ) → Plain xs → Plain ys → Plain (xs ++ ys)
plain_append [] ys p q = q
plain_append (x ∷ xs) ys p q = (p.0, plain_append xs ys p.1 q)

plain_weaker : (test : ℕ → Bool) → ((b : ℕ) → test b ≡ true → is_plain b ≡ true) → (xs : List ℕ) → AllByRecursion (λ b. IsTrue (test b)) xs → Plain xs
plain_weaker test weaker [] all = tt
plain_weaker test weaker (x ∷ xs) all = (weaker x all.0, plain_weaker test weaker xs all.1)

plain_digit : (b : ℕ) → is_ascii_digit b ≡ true → is_plain b ≡ true
unfolding is_plain
plain_digit b h = or_left _ _ h

plain_hexdigit : (b : ℕ) → is_ascii_hexdigit b ≡ true → is_plain b ≡ true
unfolding is_plain
plain_hexdigit b h = or_right _ _ (or_left _ _ h)

plain_mark : (b : ℕ) → is_hexadecimal_mark b ≡ true → is_plain b ≡ true
unfolding is_plain
plain_mark b h = or_right _ _ (or_right _ _ (or_left _ _ h))

plain_exponent : (b : ℕ) → is_exponent_mark b ≡ true → is_plain b ≡ true
unfolding is_plain
plain_exponent b h = or_right (is_ascii_digit b) _ (or_right (is_ascii_hexdigit b) _ (or_right (is_hexadecimal_mark b) _ (or_left (is_exponent_mark b) (is_point b) h)))

plain_point : (b : ℕ) → is_point b ≡ true → is_plain b ≡ true
unfolding is_plain
plain_point b h = or_right (is_ascii_digit b) _ (or_right (is_ascii_hexdigit b) _ (or_right (is_hexadecimal_mark b) _ (or_right (is_exponent_mark b) (is_point b) h)))

plain_nought : (b : ℕ) → is_nought b ≡ true → is_plain b ≡ true
plain_nought b h = plain_digit b (rw (eqb-true b 48 h) refl)

plain_all : (xs : List ℕ) → All (λ b. IsTrue (is_ascii_digit b)) xs → Plain xs
plain_all xs all = plain_weaker is_ascii_digit plain_digit xs (recursion_from_All (λ b. IsTrue (is_ascii_digit b)) xs all)

plain_digits : (xs : List ℕ) → AreDecimalDigits xs → Plain xs
plain_digits xs digits = plain_all xs digits.each

plain_hexadecimal : (xs : List ℕ) → IsHexadecimal xs → Plain xs
plain_hexadecimal [] h = absurd h
plain_hexadecimal (a ∷ []) h = absurd h.1
plain_hexadecimal (a ∷ b ∷ xs) h =
    (plain_nought a h.0, (plain_mark b h.1.0, plain_weaker is_ascii_hexdigit plain_hexdigit xs (recursion_from_All (λ b. IsTrue (is_ascii_hexdigit b)) xs h.1.1.each)))

plain_fraction : (xs : List ℕ) → IsFraction xs → Plain xs
plain_fraction [] h = absurd h
plain_fraction (a ∷ xs) h = (plain_point a h.0, plain_all xs h.1)

plain_bare : (xs : List ℕ) → IsBareFraction xs → Plain xs
plain_bare [] h = absurd h
plain_bare (a ∷ xs) h = (plain_point a h.0, plain_digits xs h.1)

plain_mantissa : (xs : List ℕ) → IsMantissa xs → Plain xs
plain_mantissa xs h = elim h [
  | inl whole ↦ subst Plain (sym whole.joined) (plain_append whole.prefix whole.rest (plain_digits whole.prefix whole.first)
      (elim whole.second [
        | inl none ↦ subst Plain (sym none) tt
        | inr fraction ↦ plain_fraction whole.rest fraction
      ]))
  | inr bare ↦ plain_bare xs bare
]

goes_plain : (before b : ℕ) → is_plain b ≡ true → goes_on before b ≡ true
unfolding goes_on
goes_plain before b h = or_left _ _ h

may_prefix : (before : ℕ) (xs ys : List ℕ) → Plain xs → ((q : ℕ) → may_be q ys ≡ true) → may_be before (xs ++ ys) ≡ true
unfolding may_be
may_prefix before [] ys plain rest = rest before
may_prefix before (x ∷ xs) ys plain rest = and_from _ _ (goes_plain before x plain.0) (may_prefix x xs ys plain.1 rest)

may_plain : (before : ℕ) (xs : List ℕ) → Plain xs → may_be before xs ≡ true
unfolding may_be
may_plain before [] plain = refl
may_plain before (x ∷ xs) plain = and_from _ _ (goes_plain before x plain.0) (may_plain x xs plain.1)

may_signed : (before : ℕ) (xs : List ℕ) → is_exponent_mark before ≡ true → IsAfter is_plus_or_minus AreDecimalDigits xs → may_be before xs ≡ true
unfolding may_be goes_on
may_signed before [] mark h = absurd h
may_signed before (a ∷ xs) mark h = and_from _ _ (or_right _ _ (and_from _ _ h.0 mark)) (may_plain a xs (plain_digits xs h.1))

may_exponent : (before : ℕ) (xs : List ℕ) → IsExponent xs → may_be before xs ≡ true
unfolding may_be
may_exponent before [] h = absurd h
may_exponent before (a ∷ xs) h = and_from _ _ (goes_plain before a (plain_exponent a h.0)) (elim h.1 [
  | inl digits ↦ may_plain a xs (plain_digits xs digits)
  | inr signed ↦ may_signed a xs h.0 signed
])

may_none : (before : ℕ) (xs : List ℕ) → xs ≡ [] → may_be before xs ≡ true
unfolding may_be
may_none before xs e = rw e refl

pub may_number : (before : ℕ) (xs : List ℕ) → IsNumber xs → may_be before xs ≡ true
may_number before xs h = elim h [
  | inl hexadecimal ↦ may_plain before xs (plain_hexadecimal xs hexadecimal)
  | inr decimal ↦ ap (may_be before) decimal.joined ∙ may_prefix before decimal.prefix decimal.rest (plain_mantissa decimal.prefix decimal.first)
      (λ q. elim decimal.second [
        | inl none ↦ may_none q decimal.rest none
        | inr exponent ↦ may_exponent q decimal.rest exponent
      ])
]

-- the last of some bytes behind another
abbrev pub last_of : ℕ → List ℕ → ℕ
last_of before [] = before
last_of before (b ∷ bs) = last_of b bs

may_stop : (before : ℕ) (w : List ℕ) (c : ℕ) (rest : List ℕ) → goes_on (last_of before w) c ≡ false → may_be before (w ++ c ∷ rest) ≡ false
unfolding may_be
may_stop before [] c rest stops = and_left _ _ stops
may_stop before (b ∷ w) c rest stops = and_right _ _ (may_stop b w c rest stops)

-- a number begins with a digit or a point
abbrev pub begins_number : ℕ → Bool
begins_number b = is_ascii_digit b || is_point b

digits_begin : (xs : List ℕ) → AreDecimalDigits xs → begins_number (get_or xs 0 0) ≡ true
digits_begin [] digits = absurd (omega (arith, digits.some))
digits_begin (a ∷ xs) digits = or_left _ _ (recursion_from_All (λ b. IsTrue (is_ascii_digit b)) (a ∷ xs) digits.each).0

begin_append : (xs ys : List ℕ) → begins_number (get_or xs 0 0) ≡ true → begins_number (get_or (xs ++ ys) 0 0) ≡ true
begin_append [] ys h = absurd (both_ways _ refl h)
begin_append (a ∷ xs) ys h = h

bare_begins : (xs : List ℕ) → IsBareFraction xs → begins_number (get_or xs 0 0) ≡ true
bare_begins [] h = absurd h
bare_begins (a ∷ xs) h = or_right _ _ h.0

mantissa_begins : (xs : List ℕ) → IsMantissa xs → begins_number (get_or xs 0 0) ≡ true
mantissa_begins xs h = elim h [
  | inl whole ↦ ap (λ s. begins_number (get_or s 0 0)) whole.joined ∙ begin_append whole.prefix whole.rest (digits_begin whole.prefix whole.first)
  | inr bare ↦ bare_begins xs bare
]

hexadecimal_begins : (xs : List ℕ) → IsHexadecimal xs → begins_number (get_or xs 0 0) ≡ true
hexadecimal_begins [] h = absurd h
hexadecimal_begins (a ∷ xs) h = rw (eqb-true a 48 h.0) refl

number_begins : (xs : List ℕ) → IsNumber xs → begins_number (get_or xs 0 0) ≡ true
number_begins xs h = elim h [
  | inl hexadecimal ↦ hexadecimal_begins xs hexadecimal
  | inr decimal ↦ ap (λ s. begins_number (get_or s 0 0)) decimal.joined ∙ begin_append decimal.prefix decimal.rest (mantissa_begins decimal.prefix decimal.first)
]

-- ---- what no longer token begins with

-- a test of the byte behind some bytes
at_middle : (test : ℕ → Bool) (w : List ℕ) (c : ℕ) (rest : List ℕ) → AllByRecursion (λ b. IsTrue (test b)) (w ++ c ∷ rest) → test c ≡ true
at_middle test [] c rest all = all.0
at_middle test (b ∷ w) c rest all = at_middle test w c rest all.1

no_word : (b : ℕ) (w : List ℕ) (c : ℕ) (rest : List ℕ) → (is_word_start b && is_word_byte c) ≡ false → IsWord ((b ∷ w) ++ c ∷ rest) → ⊥
no_word b w c rest none word =
    both_ways _ none (and_from _ _ word.start (at_middle is_word_byte (b ∷ w) c rest (recursion_from_All (λ x. IsTrue (is_word_byte x)) ((b ∷ w) ++ c ∷ rest) word.bytes)))

no_number : (b : ℕ) (w : List ℕ) (c : ℕ) (rest : List ℕ) → (begins_number b && goes_on (last_of b w) c) ≡ false → IsNumber ((b ∷ w) ++ c ∷ rest) → ⊥
unfolding may_be
no_number b w c rest none number =
    let after : may_be 0 ((b ∷ w) ++ c ∷ rest) ≡ true = may_number 0 ((b ∷ w) ++ c ∷ rest) number in
    let begins : begins_number b ≡ true = number_begins ((b ∷ w) ++ c ∷ rest) number in
    elim (cases_Bool (goes_on (last_of b w) c)) [
      | inl goes ↦ both_ways _ none (and_from _ _ begins goes)
      | inr stops ↦ both_ways _ (may_stop 0 (b ∷ w) c rest stops) after
    ]

-- no string begins so: no quote begins it, or two quotes are one already
abbrev pub is_closed : ℕ → List ℕ → Bool
is_closed b [] = false
is_closed b (d ∷ w) = d == 34

no_string : (b : ℕ) (w : List ℕ) (c : ℕ) (rest : List ℕ) → ((b == 34) && not (is_closed b w)) ≡ false → IsString ((b ∷ w) ++ c ∷ rest) → ⊥
no_string b [] c rest none string = both_ways _ none (and_from _ _ (eq-eqb b 34 string.opening) refl)
no_string b (d ∷ w) c rest none string =
    let opens : (b == 34) ≡ true = eq-eqb b 34 string.opening in
    elim (cases_Bool (d == 34)) [
      | inl closes ↦ string.first 1 (omega (arith, length-append w (c ∷ rest))) (record {
        inside = omega arith;
        closing = eqb-true d 34 closes;
        unescaped = λ e. absurd (omega (arith, string.opening));
      })
      | inr other ↦ both_ways _ none (and_from _ _ opens (not_from_false _ other))
    ]

no_sign : (b : ℕ) (w : List ℕ) (c : ℕ) (rest : List ℕ) → IsSign ((b ∷ w) ++ c ∷ rest) → ⊥
no_sign b [] c rest h = h
no_sign b (d ∷ w) c rest h = h

-- whether no token begins with these bytes and this one
abbrev pub stops_at : ℕ → List ℕ → ℕ → Bool
stops_at b w c =
    not (is_word_start b && is_word_byte c) && (not (begins_number b && goes_on (last_of b w) c) && not ((b == 34) && not (is_closed b w)))

pub stops_there : (b : ℕ) (w : List ℕ) (c : ℕ) → stops_at b w c ≡ true → (kind : TokenKind) (rest : List ℕ) → IsLexeme kind ((b ∷ w) ++ c ∷ rest) → ⊥
stops_there b w c ok Word rest lexeme = no_word b w c rest (not-true _ (and_parts _ _ ok).0) lexeme
stops_there b w c ok Number rest lexeme = no_number b w c rest (not-true _ (and_parts _ _ (and_parts _ _ ok).1).0) lexeme
stops_there b w c ok Str rest lexeme = no_string b w c rest (not-true _ (and_parts _ _ (and_parts _ _ ok).1).1) lexeme
stops_there b w c ok Sign rest lexeme = no_sign b w c rest lexeme

-- ---- bytes that denote a token

-- a test of each element, as a fact of each
pub all_pass : (test : ℕ → Bool) (xs : List ℕ) → list_all test xs ≡ true → AllByRecursion (λ b. IsTrue (test b)) xs
all_pass test [] h = tt
all_pass test (x ∷ xs) h = let p = and_parts (test x) (list_all test xs) h in (p.0, all_pass test xs p.1)

all_of : (test : ℕ → Bool) (xs : List ℕ) → list_all test xs ≡ true → All (λ b. IsTrue (test b)) xs
all_of test xs h = All-from_recursion (λ b. IsTrue (test b)) xs (all_pass test xs h)

digits_is_lexeme : (b : ℕ) (w : List ℕ) → list_all is_ascii_digit (b ∷ w) ≡ true → AreDecimalDigits (b ∷ w)
digits_is_lexeme b w h = record { some = omega arith; each = all_of is_ascii_digit (b ∷ w) h }

-- digits alone are a number
pub whole_number : (b : ℕ) (w : List ℕ) → list_all is_ascii_digit (b ∷ w) ≡ true → IsNumber (b ∷ w)
whole_number b w h =
    let whole : IsWithOption AreDecimalDigits IsFraction (b ∷ w) = record {
      prefix = b ∷ w;
      rest = [];
      joined = sym (append-nil (b ∷ w));
      first = digits_is_lexeme b w h;
      second = inl refl;
    } in
    let decimal : IsDecimal (b ∷ w) = record { prefix = b ∷ w; rest = []; joined = sym (append-nil (b ∷ w)); first = inl whole; second = inl refl } in
    inr decimal

-- and so are a digit, a point and digits
pointed_number : (b c : ℕ) (w : List ℕ) → is_ascii_digit b ≡ true → is_point c ≡ true → list_all is_ascii_digit w ≡ true → IsNumber (b ∷ c ∷ w)
pointed_number b c w digit point h =
    let whole : IsWithOption AreDecimalDigits IsFraction (b ∷ c ∷ w) = record {
      prefix = b ∷ [];
      rest = c ∷ w;
      joined = refl;
      first = digits_is_lexeme b [] (and_from (is_ascii_digit b) true digit refl);
      second = inr (point, all_of is_ascii_digit w h);
    } in
    let decimal : IsDecimal (b ∷ c ∷ w) = record { prefix = b ∷ c ∷ w; rest = []; joined = sym (append-nil (b ∷ c ∷ w)); first = inl whole; second = inl refl } in
    inr decimal

abbrev is_pointed : ℕ → List ℕ → Bool
is_pointed b [] = false
is_pointed b (c ∷ w) = is_ascii_digit b && (is_point c && list_all is_ascii_digit w)

pointed_is_lexeme : (b : ℕ) (w : List ℕ) → is_pointed b w ≡ true → IsNumber (b ∷ w)
pointed_is_lexeme b [] h = absurd (both_ways _ refl h)
pointed_is_lexeme b (c ∷ w) h =
    let p = and_parts (is_ascii_digit b) (is_point c && list_all is_ascii_digit w) h in
    let q = and_parts (is_point c) (list_all is_ascii_digit w) p.1 in
    pointed_number b c w p.0 q.0 q.1

-- two quotes are a string
abbrev is_empty_string : ℕ → List ℕ → Bool
is_empty_string b [] = false
is_empty_string b (c ∷ []) = (b == 34) && (c == 34)
is_empty_string b (c ∷ d ∷ w) = false

empty_string_is_lexeme : (b : ℕ) (w : List ℕ) → is_empty_string b w ≡ true → IsString (b ∷ w)
empty_string_is_lexeme b [] h = absurd (both_ways _ refl h)
empty_string_is_lexeme b (c ∷ []) h =
    let p = and_parts (b == 34) (c == 34) h in
    let opens : b ≡ 34 = eqb-true b 34 p.0 in
    record {
      opening = opens;
      closed = record { inside = omega arith; closing = eqb-true c 34 p.1; unescaped = λ e. absurd (omega arith) };
      first = λ place near closes. omega (arith, closes.inside);
    }
empty_string_is_lexeme b (c ∷ d ∷ w) h = absurd (both_ways _ refl h)

abbrev is_mark : ℕ → List ℕ → Bool
is_mark b [] = is_sign b
is_mark b (c ∷ w) = false

mark_is_lexeme : (b : ℕ) (w : List ℕ) → is_mark b w ≡ true → IsSign (b ∷ w)
mark_is_lexeme b [] h = h
mark_is_lexeme b (c ∷ w) h = absurd (both_ways _ refl h)

pub word_is_lexeme : (b : ℕ) (w : List ℕ) → is_word_start b ≡ true → list_all is_word_byte (b ∷ w) ≡ true → IsWord (b ∷ w)
word_is_lexeme b w start all = record { start = start; bytes = all_of is_word_byte (b ∷ w) all }

abbrev is_lexeme : TokenKind → ℕ → List ℕ → Bool
is_lexeme Word b w = is_word_start b && list_all is_word_byte (b ∷ w)
is_lexeme Number b w = list_all is_ascii_digit (b ∷ w) || is_pointed b w
is_lexeme Str b w = is_empty_string b w
is_lexeme Sign b w = is_mark b w

lexeme_by : (kind : TokenKind) (b : ℕ) (w : List ℕ) → is_lexeme kind b w ≡ true → IsLexeme kind (b ∷ w)
lexeme_by Word b w h = let p = and_parts (is_word_start b) (list_all is_word_byte (b ∷ w)) h in word_is_lexeme b w p.0 p.1
lexeme_by Number b w h = elim (or_cases (list_all is_ascii_digit (b ∷ w)) (is_pointed b w) h) [
  | inl whole ↦ whole_number b w whole
  | inr pointed ↦ pointed_is_lexeme b w pointed
]
lexeme_by Str b w h = empty_string_is_lexeme b w h
lexeme_by Sign b w h = mark_is_lexeme b w h

-- ---- a test of pieces

abbrev test_bytes : TokenKind → List ℕ → List ℕ → Bool
test_bytes kind [] next = false
test_bytes kind (b ∷ w) [] = false
test_bytes kind (b ∷ w) (c ∷ next) = is_lexeme kind b w && stops_at b w c

abbrev test_piece : Piece → List ℕ → Bool
test_piece p near = test_bytes p.kind p.bytes (p.gap ++ near) && list_all is_space p.gap

abbrev pub test_pieces : List Piece → Bool
test_pieces [] = true
test_pieces (p ∷ ps) = test_piece p (render ps) && test_pieces ps

spaces_of : (gap : List ℕ) → list_all is_space gap ≡ true → AreSpaces gap
spaces_of [] h = tt
spaces_of (b ∷ gap) h = let p = and_parts (is_space b) (list_all is_space gap) h in (p.0, spaces_of gap p.1)

bytes_pass : (kind : TokenKind) (bytes next after : List ℕ) → test_bytes kind bytes next ≡ true → (0 < length bytes) × IsLexeme kind bytes × Stops bytes (next ++ after)
bytes_pass kind [] next after h = absurd (both_ways _ refl h)
bytes_pass kind (b ∷ w) [] after h = absurd (both_ways _ refl h)
bytes_pass kind (b ∷ w) (c ∷ next) after h =
    let p = and_parts (is_lexeme kind b w) (stops_at b w c) h in
    (omega arith, lexeme_by kind b w p.0, stops_there b w c p.1)

pub piece_passes : (p : Piece) (near after : List ℕ) → test_piece p near ≡ true → IsPiece p (near ++ after)
piece_passes p near after h =
    let q = and_parts (test_bytes p.kind p.bytes (p.gap ++ near)) (list_all is_space p.gap) h in
    let bytes = bytes_pass p.kind p.bytes (p.gap ++ near) after q.0 in
    record {
      some = bytes.0;
      lexeme = bytes.1;
      spaces = spaces_of p.gap q.1;
      stops = subst (λ xs. Stops p.bytes xs) (append_assoc p.gap near after) bytes.2;
    }

pub pieces_pass : (ps : List Piece) (after : List ℕ) → test_pieces ps ≡ true → ArePieces ps after
pieces_pass [] after h = tt
pieces_pass (p ∷ ps) after h =
    let q = and_parts (test_piece p (render ps)) (test_pieces ps) h in
    (piece_passes p (render ps) after q.0, pieces_pass ps after q.1)

-- ---- digits of any number

digit_is_no_quote : (b : ℕ) → is_ascii_digit b ≡ true → (b == 34) ≡ false
digit_is_no_quote b digit = elim (cases_Bool (b == 34)) [
  | inl e ↦ absurd (both_ways (is_ascii_digit b) (rw (eqb-true b 34 e) refl) digit)
  | inr e ↦ e
]

-- digits end before a space
digits_stop : (b : ℕ) (w : List ℕ) → is_ascii_digit b ≡ true → stops_at b w 32 ≡ true
unfolding goes_on is_plain
digits_stop b w digit =
    and_from _ _ (not_from_false (is_word_start b && is_word_byte 32) (and_right (is_word_start b) (is_word_byte 32) refl))
    (and_from _ _ (not_from_false (begins_number b && goes_on (last_of b w) 32) (and_right (begins_number b) (goes_on (last_of b w) 32) refl))
    (not_from_false ((b == 34) && not (is_closed b w)) (and_left (b == 34) (not (is_closed b w)) (digit_is_no_quote b digit))))

pub number_piece : (digits after : List ℕ) → 0 < length digits → list_all is_ascii_digit digits ≡ true → IsPiece (record { kind = Number; bytes = digits; gap = 32 ∷ [] }) after
number_piece [] after some all = absurd (omega arith)
number_piece (b ∷ w) after some all = record {
  some = some;
  lexeme = whole_number b w all;
  spaces = (refl, tt);
  stops = stops_there b w 32 (digits_stop b w (and_parts (is_ascii_digit b) (list_all is_ascii_digit w) all).0);
}

-- a word of `M` and further bytes ends before a colon
pub name_piece : (w after : List ℕ) → list_all is_word_byte w ≡ true → IsPiece (record { kind = Word; bytes = 77 ∷ w; gap = [] }) (58 ∷ after)
unfolding goes_on is_plain
name_piece w after all = record {
  some = omega arith;
  lexeme = word_is_lexeme 77 w refl all;
  spaces = tt;
  stops = stops_there 77 w 58 refl;
}
