-- The kinds of token that a first byte allows.
use Rattle.std.proofs.Common.{◌≡◌, ℕ, ◌<◌, ◌≤◌, Bool, true, false, ◌==◌, List, [], ◌∷◌, length, get_or, take, sym, refl, ap, ◌∙◌, subst, ◌⊎◌, inl, inr, arith, zero, suc, length-take-le, get_or-take}
use Rattle.std.proofs.lemmas.List.{get_or_append_left, nil_from_length}
use Rattle.std.specs.Prelude.{IsTrue, All}
use Rattle.std.specs.List.{prefix_len}
use Rattle.std.proofs.lemmas.Bool.{both_ways, cases_lt, eqb-true, eq-eqb, ne_eqb}
use Rattle.std.proofs.lemmas.Bool.Decides.{nat_tests}
use Rattle.std.proofs.lemmas.List.Sums.{prefix_len-le-length, prefix_len_stops}
use Rattle.sig_text.specs.Bytes.{is_word_start, is_word_byte, is_sign}
use Rattle.sig_text.specs.Prefixes.{IsLongestPrefix, BeginsToken, BeginsNoToken}
use Rattle.sig_text.specs.Lexemes.{IsHexadecimal, IsMantissa, IsDecimal, IsNumber, IsString, IsSign, IsLexeme}
use Rattle.sig_text.specs.declared.token.TokenKind.{TokenKind}
use Rattle.sig_text.specs.declared.token.TokenKind.TheVariants.{Word, Number, Str, Sign}
use Rattle.sig_text.proofs.PrefixLaws.{All-run, run_longest}
use Rattle.sig_text.proofs.NumberLaws.{is_mantissa_byte, mantissa_bytes, no_mantissa, quote_is_no_number}
use Rattle.sig_text.proofs.StringLaws.{string_longest}

-- the first byte of a prefix is that of the text, for a class without the byte 0
first_of_prefix : (c : ℕ → Bool) (n : ℕ) (text : List ℕ) → c 0 ≡ false → c (get_or (take n text) 0 0) ≡ true → c (get_or text 0 0) ≡ true
first_of_prefix c zero text none pass = absurd (both_ways _ none pass)
first_of_prefix c (suc n) [] none pass = pass
first_of_prefix c (suc n) (b ∷ text) none pass = pass

-- what begins a word begins no number
pub word_is_no_number : (b : ℕ) → is_word_start b ≡ true → is_mantissa_byte b ≡ false
unfolding is_mantissa_byte
word_is_no_number b word = grind (arith, nat_tests)

-- what begins a word is no sign
pub word_is_no_sign : (b : ℕ) → is_word_start b ≡ true → is_sign b ≡ false
word_is_no_sign b word = grind (arith, nat_tests)

-- what begins a word is no quote
pub word_is_no_quote : (b : ℕ) → is_word_start b ≡ true → b ≡ 34 → ⊥
word_is_no_quote b word quote = both_ways _ (ap is_word_start quote) word

-- what begins a word may also go on with it
word_start_is_word_byte : (b : ℕ) → is_word_start b ≡ true → is_word_byte b ≡ true
word_start_is_word_byte b word = grind (arith, nat_tests)

-- what a token of the kind begins with
abbrev pub first_class : TokenKind → ℕ → Bool
first_class Word = is_word_start
first_class Number = is_mantissa_byte
first_class Str = λ b. b == 34
first_class Sign = is_sign

-- a hexadecimal number begins with a digit
hexadecimal_first : (s : List ℕ) → IsHexadecimal s → is_mantissa_byte (get_or s 0 0) ≡ true
unfolding is_mantissa_byte
hexadecimal_first [] hexadecimal = absurd hexadecimal
hexadecimal_first (b ∷ rest) hexadecimal = rw (eqb-true b 48 hexadecimal.0) refl

-- a decimal number begins with a digit or a point
decimal_first : (s : List ℕ) → IsDecimal s → is_mantissa_byte (get_or s 0 0) ≡ true
decimal_first s decimal =
    let some : 0 < length decimal.prefix =
    elim (cases_lt 0 (length decimal.prefix)) [
      | inl some ↦ some
      | inr none ↦ absurd (no_mantissa (subst IsMantissa (nil_from_length decimal.prefix (omega arith)) decimal.first))
    ] in
    ap (λ t. is_mantissa_byte (get_or t 0 0)) decimal.joined ∙ ap is_mantissa_byte (get_or_append_left decimal.prefix decimal.rest 0 0 some) ∙ mantissa_bytes decimal.prefix decimal.first 0 0 some

-- so does every number
number_first : (s : List ℕ) → IsNumber s → is_mantissa_byte (get_or s 0 0) ≡ true
number_first s number = elim number [ inl hexadecimal ↦ hexadecimal_first s hexadecimal | inr decimal ↦ decimal_first s decimal ]

-- a sign is one mark of the grammars
pub sign_first : (s : List ℕ) → IsSign s → (is_sign (get_or s 0 0) ≡ true) × (length s ≡ 1)
sign_first [] sign = absurd sign
sign_first (b ∷ []) sign = (sign, refl)
sign_first (b ∷ c ∷ rest) sign = absurd sign

-- no token begins with the byte 0
zero_begins_nothing : (kind : TokenKind) → first_class kind 0 ≡ false
unfolding is_mantissa_byte
zero_begins_nothing Word = refl
zero_begins_nothing Number = refl
zero_begins_nothing Str = refl
zero_begins_nothing Sign = refl

-- the first byte of a token is of its kind
pub lexeme_first : (kind : TokenKind) (s : List ℕ) → IsLexeme kind s → first_class kind (get_or s 0 0) ≡ true
lexeme_first Word s word = word.start
lexeme_first Number s number = number_first s number
lexeme_first Str s string = eq-eqb _ 34 string.opening
lexeme_first Sign s sign = (sign_first s sign).0

-- a prefix that is a token of the kind begins with what that kind begins with
pub token_first : (kind : TokenKind) (n : ℕ) (text : List ℕ) → IsLexeme kind (take n text) → first_class kind (get_or text 0 0) ≡ true
token_first kind n text lexeme = first_of_prefix (first_class kind) n text (zero_begins_nothing kind) (lexeme_first kind (take n text) lexeme)

-- a prefix of no other kind than this
other_kind : (kind : TokenKind) (n : ℕ) (text : List ℕ) → first_class kind (get_or text 0 0) ≡ false → IsLexeme kind (take n text) → ⊥
other_kind kind n text other lexeme = both_ways _ other (token_first kind n text lexeme)

-- how long a prefix of each kind can be where a word begins
word_longest : (text : List ℕ) (n : ℕ) → n ≡ prefix_len is_word_byte text → is_word_start (get_or text 0 0) ≡ true → (other : TokenKind) (m : ℕ) → m ≤ length text → IsLexeme other (take m text) → m ≤ n
word_longest text n run first Word m inside lexeme = omega (arith, run_longest is_word_byte text m inside lexeme.bytes)
word_longest text n run first Number m inside lexeme = absurd (other_kind Number m text (word_is_no_number (get_or text 0 0) first) lexeme)
word_longest text n run first Str m inside lexeme = absurd (other_kind Str m text (ne_eqb _ 34 (word_is_no_quote (get_or text 0 0) first)) lexeme)
word_longest text n run first Sign m inside lexeme = absurd (other_kind Sign m text (word_is_no_sign (get_or text 0 0) first) lexeme)

-- a word is the run of its bytes
pub word_token : (text : List ℕ) (n : ℕ) → 0 < length text → n ≡ prefix_len is_word_byte text → is_word_start (get_or text 0 0) ≡ true → BeginsToken text Word n
word_token text n there run first =
    let within = prefix_len-le-length is_word_byte text in
    let some : 0 < n =
    elim (cases_lt 0 n) [
      | inl some ↦ some
      | inr none ↦
          let stop : prefix_len is_word_byte text ≡ 0 = omega arith in
          absurd (both_ways _ (sym (ap (λ k. is_word_byte (get_or text k 0)) stop) ∙ prefix_len_stops is_word_byte text 0 (omega arith)) (word_start_is_word_byte (get_or text 0 0) first))
    ] in
    record {
      some = some;
      within = omega arith;
      lexeme = record {
        start = ap is_word_start (get_or-take n text 0 0 some) ∙ first;
        bytes = subst (λ k. All (λ b. IsTrue (is_word_byte b)) (take k text)) (sym run) (All-run is_word_byte text);
      };
      longest = word_longest text n run first;
    }

-- how long a prefix of each kind can be where a string begins
string_only : (text : List ℕ) (n : ℕ) → n ≤ length text → IsString (take n text) → get_or text 0 0 ≡ 34 → (other : TokenKind) (m : ℕ) → m ≤ length text → IsLexeme other (take m text) → m ≤ n
string_only text n within string first Word m inside lexeme = absurd (other_kind Word m text (rw first refl) lexeme)
string_only text n within string first Number m inside lexeme = absurd (other_kind Number m text (quote_is_no_number (get_or text 0 0) first) lexeme)
string_only text n within string first Str m inside lexeme = string_longest text n m within string inside lexeme
string_only text n within string first Sign m inside lexeme = absurd (other_kind Sign m text (rw first refl) lexeme)

-- a string with its end
pub string_token : (text : List ℕ) (n : ℕ) → n ≤ length text → IsString (take n text) → get_or text 0 0 ≡ 34 → BeginsToken text Str n
string_token text n within string first = record {
  some = omega (arith, length-take-le n text within, string.closed.inside);
  within = within;
  lexeme = string;
  longest = string_only text n within string first;
}

-- a string without an end
pub no_string_token : (text : List ℕ) → ((n : ℕ) → n ≤ length text → IsString (take n text) → ⊥) → get_or text 0 0 ≡ 34 → BeginsNoToken text
no_string_token text none first Word m inside lexeme = other_kind Word m text (rw first refl) lexeme
no_string_token text none first Number m inside lexeme = other_kind Number m text (quote_is_no_number (get_or text 0 0) first) lexeme
no_string_token text none first Str m inside lexeme = none m inside lexeme
no_string_token text none first Sign m inside lexeme = other_kind Sign m text (rw first refl) lexeme

-- where neither a word nor a string begins, a token is a number or a sign
plain_longest : (text : List ℕ) (n : ℕ) → is_word_start (get_or text 0 0) ≡ false → (get_or text 0 0 ≡ 34 → ⊥) → IsLongestPrefix IsNumber text n → (other : TokenKind) (m : ℕ) → m ≤ length text → IsLexeme other (take m text) → (m ≤ n) ⊎ ((m ≡ 1) × (is_sign (get_or text 0 0) ≡ true))
plain_longest text n no_word no_quote number Word m inside lexeme = absurd (other_kind Word m text no_word lexeme)
plain_longest text n no_word no_quote number Number m inside lexeme = inl (number.longest m inside lexeme)
plain_longest text n no_word no_quote number Str m inside lexeme = absurd (other_kind Str m text (ne_eqb _ 34 no_quote) lexeme)
plain_longest text n no_word no_quote number Sign m inside lexeme = inr (omega (arith, (sign_first _ lexeme).1, length-take-le m text inside), token_first Sign m text lexeme)

-- a number, which may begin with the sign `.`
pub number_token : (text : List ℕ) (n : ℕ) → is_word_start (get_or text 0 0) ≡ false → (get_or text 0 0 ≡ 34 → ⊥) → 0 < n → IsLongestPrefix IsNumber text n → BeginsToken text Number n
number_token text n no_word no_quote some number = record {
  some = some;
  within = number.within;
  lexeme = number.lexeme some;
  longest = λ other m inside lexeme.
      elim (plain_longest text n no_word no_quote number other m inside lexeme) [ inl within ↦ within | inr sign ↦ omega (arith, sign.0) ];
}

-- a mark in front is a sign
sign_prefix : (text : List ℕ) → 0 < length text → is_sign (get_or text 0 0) ≡ true → IsSign (take 1 text)
sign_prefix [] there sign = absurd (omega arith)
sign_prefix (b ∷ text) there sign = sign

-- a sign that begins no number
pub sign_token : (text : List ℕ) → 0 < length text → is_word_start (get_or text 0 0) ≡ false → (get_or text 0 0 ≡ 34 → ⊥) → IsLongestPrefix IsNumber text 0 → is_sign (get_or text 0 0) ≡ true → BeginsToken text Sign 1
sign_token text there no_word no_quote number sign = record {
  some = omega arith;
  within = omega arith;
  lexeme = sign_prefix text there sign;
  longest = λ other m inside lexeme.
      elim (plain_longest text 0 no_word no_quote number other m inside lexeme) [ inl within ↦ omega arith | inr one ↦ omega (arith, one.0) ];
}

-- no token is empty
some_lexeme : (kind : TokenKind) (text : List ℕ) (m : ℕ) → m ≤ 0 → IsLexeme kind (take m text) → ⊥
some_lexeme kind text zero none lexeme = both_ways _ (zero_begins_nothing kind) (lexeme_first kind [] lexeme)
some_lexeme kind text (suc m) none lexeme = absurd (omega arith)

-- no number, no sign, no word and no string
pub no_token : (text : List ℕ) → is_word_start (get_or text 0 0) ≡ false → (get_or text 0 0 ≡ 34 → ⊥) → IsLongestPrefix IsNumber text 0 → is_sign (get_or text 0 0) ≡ false → BeginsNoToken text
no_token text no_word no_quote number no_sign kind m inside lexeme =
    elim (plain_longest text 0 no_word no_quote number kind m inside lexeme) [
      | inl none ↦ some_lexeme kind text m none lexeme
      | inr sign ↦ both_ways _ no_sign sign.1
    ]

-- nothing begins an empty text
pub empty_begins_nothing : (text : List ℕ) → length text ≤ 0 → BeginsNoToken text
empty_begins_nothing text empty kind m inside lexeme = some_lexeme kind text m (omega arith) lexeme
