-- A text is read in one way: at each place at most one blank, token or fault begins.
use Rattle.std.proofs.Common.{◌≡◌, ℕ, ◌+◌, ◌-◌, ◌<◌, ◌≤◌, Bool, true, false, List, [], ◌∷◌, ◌++◌, length, get_or, drop, sym, refl, ap, ◌∙◌, subst, ◌⊎◌, inl, inr, arith, length-append, get_or-drop}
use Rattle.std.specs.Prelude.{All, slice_range, Result, Ok, Err, Vec, IfOk, IfErr, IsOkAnd, IsErrOf}
use Rattle.std.proofs.Common.{Global}
use Rattle.std.proofs.lemmas.Bool.{cases_order, both_ways, eqb-true, cases_lt}
use Rattle.std.proofs.lemmas.Bool.Decides.{nat_tests}
use Rattle.std.proofs.lemmas.List.{nil_from_length, get_or_append_left, get_or_past, append-nil}
use Rattle.std.proofs.lemmas.List.Elements.{All-nil, All-cons}
use Rattle.std.specs.Char.{is_ascii_digit}
use Rattle.sig_text.specs.Bytes.{is_word_start, is_sign}
use Rattle.sig_text.specs.Lexemes.{IsNumber, IsBareFraction, IsMantissa, IsLexeme}
use Rattle.sig_text.specs.Blank.{IsBlank}
use Rattle.sig_text.specs.Tokens.{IsToken, AreBlanks, AreTokens, IsTokens, IsOpenString, IsOpenComment, BeginsFault, place_of, IsLexFault, IsFaultOrMemory}
use Rattle.sig_text.specs.declared.token.TokenKind.{TokenKind}
use Rattle.sig_text.specs.declared.token.TokenKind.TheVariants.{Word, Number, Str, Sign}
use Rattle.sig_text.specs.declared.token.Token.{Token}
use Rattle.sig_text.specs.declared.fault.LexFault.{LexFault}
use Rattle.sig_text.specs.declared.fault.LexFault.TheVariants.{OpenString, OpenComment, Byte, Memory}
use Rattle.sig_text.proofs.NumberLaws.{is_mantissa_byte, no_mantissa, no_digits, quote_is_no_number}
use Rattle.sig_text.proofs.ScanLaws.{first_class, lexeme_first, token_first, word_is_no_number, word_is_no_sign, word_is_no_quote}
use Rattle.sig_text.proofs.BlankLaws.{white, mark, line, block, blank_form, blank_unique, no_blank_from_byte, first_of_rest}

-- one byte that is a number is a digit
digit_mantissa : (b : ℕ) (s : List ℕ) → IsMantissa s → s ≡ b ∷ [] → is_ascii_digit b ≡ true
digit_mantissa b s mantissa single =
    elim mantissa [
      | inl parts ↦
          let read : get_or parts.prefix 0 0 ≡ b = sym (get_or_append_left parts.prefix parts.rest 0 0 parts.first.some) ∙ ap (λ t. get_or t 0 0) (sym parts.joined ∙ single) in
          ap is_ascii_digit (sym read) ∙ parts.first.each 0 0 parts.first.some
      | inr bare ↦ absurd (no_digits (subst IsBareFraction single bare).1)
    ]

-- the same for all numbers
digit_from_number : (b : ℕ) → IsNumber (b ∷ []) → is_ascii_digit b ≡ true
digit_from_number b number =
    elim number [
      | inl hexadecimal ↦ absurd hexadecimal.1
      | inr decimal ↦
          elim (cases_lt 0 (length decimal.prefix)) [
            | inl some ↦
                let sizes : length decimal.rest ≡ 0 = omega (arith, ap length decimal.joined, length-append decimal.prefix decimal.rest) in
                digit_mantissa b decimal.prefix decimal.first (sym (append-nil decimal.prefix) ∙ sym (decimal.joined ∙ ap (λ r. decimal.prefix ++ r) (nil_from_length decimal.rest sizes)))
            | inr none ↦ absurd (no_mantissa (subst IsMantissa (nil_from_length decimal.prefix (omega arith)) decimal.first))
          ]
    ]

-- a digit is no mark of the grammars
digit_is_no_sign : (b : ℕ) → is_ascii_digit b ≡ true → is_sign b ≡ false
digit_is_no_sign b digit = grind (arith, nat_tests)

-- no bytes form a number and a sign
sign_is_no_number : (s : List ℕ) → IsNumber s → IsLexeme Sign s → ⊥
sign_is_no_number [] number sign = sign
sign_is_no_number (b ∷ []) number sign = both_ways _ (digit_is_no_sign b (digit_from_number b number)) sign
sign_is_no_number (b ∷ c ∷ s) number sign = sign

-- bytes form at most one kind
kind_unique : (kind other : TokenKind) (s : List ℕ) → IsLexeme kind s → IsLexeme other s → kind ≡ other
kind_unique Word Word s lexeme lexeme' = refl
kind_unique Word Number s lexeme lexeme' = absurd (both_ways _ (word_is_no_number (get_or s 0 0) lexeme.start) (lexeme_first Number s lexeme'))
kind_unique Word Str s lexeme lexeme' = absurd (word_is_no_quote (get_or s 0 0) lexeme.start lexeme'.opening)
kind_unique Word Sign s lexeme lexeme' = absurd (both_ways _ (word_is_no_sign (get_or s 0 0) lexeme.start) (lexeme_first Sign s lexeme'))
kind_unique Number Word s lexeme lexeme' = absurd (both_ways _ (word_is_no_number (get_or s 0 0) lexeme'.start) (lexeme_first Number s lexeme))
kind_unique Number Number s lexeme lexeme' = refl
kind_unique Number Str s lexeme lexeme' = absurd (both_ways _ (quote_is_no_number (get_or s 0 0) lexeme'.opening) (lexeme_first Number s lexeme))
kind_unique Number Sign s lexeme lexeme' = absurd (sign_is_no_number s lexeme lexeme')
kind_unique Str Word s lexeme lexeme' = absurd (word_is_no_quote (get_or s 0 0) lexeme'.start lexeme.opening)
kind_unique Str Number s lexeme lexeme' = absurd (both_ways _ (quote_is_no_number (get_or s 0 0) lexeme.opening) (lexeme_first Number s lexeme'))
kind_unique Str Str s lexeme lexeme' = refl
kind_unique Str Sign s lexeme lexeme' = absurd (both_ways _ (ap is_sign lexeme.opening) (lexeme_first Sign s lexeme'))
kind_unique Sign Word s lexeme lexeme' = absurd (both_ways _ (word_is_no_sign (get_or s 0 0) lexeme'.start) (lexeme_first Sign s lexeme))
kind_unique Sign Number s lexeme lexeme' = absurd (sign_is_no_number s lexeme' lexeme)
kind_unique Sign Str s lexeme lexeme' = absurd (both_ways _ (ap is_sign lexeme'.opening) (lexeme_first Sign s lexeme))
kind_unique Sign Sign s lexeme lexeme' = refl

-- what begins a token is no white space, no byte of a byte order mark and no slash
pub token_byte : (kind : TokenKind) (b : ℕ) → first_class kind b ≡ true → (32 < b) × (b < 128) × (b ≡ 47 → ⊥)
unfolding is_mantissa_byte
token_byte Word b first = (grind (arith, nat_tests), grind (arith, nat_tests), λ slash. both_ways _ (ap is_word_start slash) first)
token_byte Number b first = (grind (arith, nat_tests), grind (arith, nat_tests), λ slash. both_ways _ (ap is_mantissa_byte slash) first)
token_byte Str b first =
    let quote = eqb-true b 34 first in
    (omega arith, omega arith, λ slash. absurd (omega arith))
token_byte Sign b first = (grind (arith, nat_tests), grind (arith, nat_tests), λ slash. both_ways _ (ap is_sign slash) first)

-- the byte with which a token of the text begins
pub token_begins : (text : List ℕ) (kind : TokenKind) (at end : ℕ) → IsLexeme kind (slice_range text at end) → first_class kind (get_or text at 0) ≡ true
token_begins text kind at end lexeme = ap (first_class kind) (sym (first_of_rest text at)) ∙ token_first kind (end - at) (drop at text) lexeme

-- a token and a blank do not begin at one place
pub token_is_no_blank : (text : List ℕ) (comments : Bool) (kind : TokenKind) (at end to : ℕ) → IsLexeme kind (slice_range text at end) → IsBlank text comments at to → ⊥
token_is_no_blank text comments kind at end to lexeme blank =
    let byte = token_byte kind (get_or text at 0) (token_begins text kind at end lexeme) in
    no_blank_from_byte text comments at to byte.0 (λ mark. absurd (omega (arith, byte.1))) byte.2 blank

-- a token is its kind and its two places
same_token : (first second : Token) → first.kind ≡ second.kind → first.at ≡ second.at → first.end ≡ second.end → first ≡ second
same_token first second kind at end = λ i. record { kind = kind i; at = at i; end = end i }

-- at most one token begins at a place
pub token_unique : (text : List ℕ) (first second : Token) → IsToken text first → IsToken text second → first.at ≡ second.at → first ≡ second
token_unique text first second token other at =
    let lexeme : IsLexeme second.kind (slice_range text first.at second.end) = subst (λ from. IsLexeme second.kind (slice_range text from second.end)) (sym at) other.lexeme in
    let lexeme' : IsLexeme first.kind (slice_range text second.at first.end) = subst (λ from. IsLexeme first.kind (slice_range text from first.end)) at token.lexeme in
    elim (cases_order first.end second.end) [
      | inl same ↦
          same_token first second (kind_unique first.kind second.kind (slice_range text first.at first.end) token.lexeme (subst (λ end. IsLexeme second.kind (slice_range text first.at end)) (sym same) lexeme)) at same
      | inr apart ↦
          elim apart [
            | inl shorter ↦ absurd (token.longest second.kind second.end shorter other.within lexeme)
            | inr longer ↦ absurd (other.longest first.kind first.end longer token.within lexeme')
          ]
    ]

-- no token and no blank begins there
pub record Halts (text : List ℕ) (comments : Bool) (at : ℕ) : Type 0 where
  pub no_blank : (end : ℕ) → IsBlank text comments at end → ⊥
  pub no_token : (token : Token) → token.at ≡ at → IsToken text token → ⊥

-- the reading of a text ends at its end
pub end_halts : (text : List ℕ) (comments : Bool) → Halts text comments (length text)
end_halts text comments = record {
  no_blank = λ end blank. absurd (omega (arith, blank.ordered, blank.within));
  no_token = λ token at is. absurd (omega (arith, is.ordered, is.within));
}

-- no token begins at a quote without an end
no_token_in_string : (text : List ℕ) (at : ℕ) → IsOpenString text at → (kind : TokenKind) (end : ℕ) → end ≤ length text → IsLexeme kind (slice_range text at end) → ⊥
no_token_in_string text at unclosed Word end within lexeme = both_ways _ (ap is_word_start unclosed.opening) (token_begins text Word at end lexeme)
no_token_in_string text at unclosed Number end within lexeme = both_ways _ (quote_is_no_number (get_or text at 0) unclosed.opening) (token_begins text Number at end lexeme)
no_token_in_string text at unclosed Str end within lexeme = unclosed.endless end within lexeme
no_token_in_string text at unclosed Sign end within lexeme = both_ways _ (ap is_sign unclosed.opening) (token_begins text Sign at end lexeme)

-- a byte that is not 0 is in the text
pub inside_from_read : (text : List ℕ) (at b : ℕ) → 0 < b → get_or text at 0 ≡ b → at < length text
inside_from_read text at b some read =
    elim (cases_lt at (length text)) [ inl inside ↦ inside | inr past ↦ absurd (omega (arith, get_or_past text at 0 past)) ]

-- the reading ends at a quote without an end
string_fault_halts : (text : List ℕ) (comments : Bool) (at : ℕ) → IsOpenString text at → Halts text comments at
string_fault_halts text comments at unclosed = record {
  no_blank = λ end blank. no_blank_from_byte text comments at end (omega (arith, unclosed.opening)) (λ mark. absurd (omega (arith, unclosed.opening))) (λ slash. absurd (omega (arith, unclosed.opening))) blank;
  no_token = λ token place is.
      let lexeme : IsLexeme token.kind (slice_range text at token.end) = subst (λ from. IsLexeme token.kind (slice_range text from token.end)) place is.lexeme in
      no_token_in_string text at unclosed token.kind token.end is.within lexeme;
}

-- the reading ends at a `/*` without an end
comment_fault_halts : (text : List ℕ) (comments : Bool) (at : ℕ) → IsOpenComment text at → Halts text comments at
comment_fault_halts text comments at unclosed =
    let first = first_of_rest text at in
    let second : get_or (drop at text) 1 0 ≡ get_or text (at + 1) 0 = get_or-drop at text 1 0 in
    record {
      no_blank = λ end blank.
          elim (blank_form text comments at end blank) [
            | white low one ↦ absurd (omega (arith, unclosed.opening_slash))
            | mark b three ↦ absurd (omega (arith, unclosed.opening_slash))
            | line b c comment ↦ absurd (omega (arith, unclosed.opening_star))
            | block b c comment ↦ unclosed.endless end blank.within comment.lexeme
          ];
      no_token = λ token place is.
          let lexeme : IsLexeme token.kind (slice_range text at token.end) = subst (λ from. IsLexeme token.kind (slice_range text from token.end)) place is.lexeme in
          (token_byte token.kind (get_or text at 0) (token_begins text token.kind at token.end lexeme)).2 unclosed.opening_slash;
    }

-- the reading of a text ends at a fault
pub fault_halts : (text : List ℕ) (comments : Bool) (fault : LexFault) → BeginsFault text comments fault → Halts text comments (place_of fault)
fault_halts text comments (OpenString at) begins = string_fault_halts text comments at begins
fault_halts text comments (OpenComment at) begins = comment_fault_halts text comments at begins.1
fault_halts text comments (Byte at) begins = record {
  no_blank = begins.no_blank.no_blank;
  no_token = λ token place is. begins.no_token token.kind token.end is.within (subst (λ from. IsLexeme token.kind (slice_range text from token.end)) place is.lexeme);
}
fault_halts text comments Memory begins = absurd begins

-- a fault is before the end of the text
pub fault_within : (text : List ℕ) (comments : Bool) (fault : LexFault) → BeginsFault text comments fault → place_of fault < length text
fault_within text comments (OpenString at) begins = inside_from_read text at 34 (omega arith) begins.opening
fault_within text comments (OpenComment at) begins = inside_from_read text at 47 (omega arith) begins.1.opening_slash
fault_within text comments (Byte at) begins = begins.within
fault_within text comments Memory begins = absurd begins

-- at most one fault begins at a place
pub fault_unique : (text : List ℕ) (comments : Bool) (first second : LexFault) → BeginsFault text comments first → BeginsFault text comments second → place_of first ≡ place_of second → first ≡ second
fault_unique text comments (OpenString at) (OpenString place) begins begins' same = ap OpenString same
fault_unique text comments (OpenString at) (OpenComment place) begins begins' same =
    absurd (omega (arith, begins.opening, begins'.1.opening_slash, ap (λ i. get_or text i 0) same))
fault_unique text comments (OpenString at) (Byte place) begins begins' same = absurd (begins'.no_open_string (subst (IsOpenString text) same begins))
fault_unique text comments (OpenString at) Memory begins begins' same = absurd begins'
fault_unique text comments (OpenComment at) (OpenString place) begins begins' same =
    absurd (omega (arith, begins'.opening, begins.1.opening_slash, ap (λ i. get_or text i 0) same))
fault_unique text comments (OpenComment at) (OpenComment place) begins begins' same = ap OpenComment same
fault_unique text comments (OpenComment at) (Byte place) begins begins' same = absurd (begins'.no_blank.no_open_comment begins.0 (subst (IsOpenComment text) same begins.1))
fault_unique text comments (OpenComment at) Memory begins begins' same = absurd begins'
fault_unique text comments (Byte at) (OpenString place) begins begins' same = absurd (begins.no_open_string (subst (IsOpenString text) (sym same) begins'))
fault_unique text comments (Byte at) (OpenComment place) begins begins' same = absurd (begins.no_blank.no_open_comment begins'.0 (subst (IsOpenComment text) (sym same) begins'.1))
fault_unique text comments (Byte at) (Byte place) begins begins' same = ap Byte same
fault_unique text comments (Byte at) Memory begins begins' same = absurd begins'
fault_unique text comments Memory second begins begins' same = absurd begins

-- A step of the reading: over a blank to its end, or over a token.
data Step : Type 0 where
  over_blank : ℕ → Step
  over_token : Token → Step

-- the steps lead from one place to another
abbrev IsPath : List ℕ → Bool → ℕ → List Step → ℕ → Type 0
IsPath text comments from [] to = from ≡ to
IsPath text comments from ((over_blank end) ∷ steps) to = IsBlank text comments from end × IsPath text comments end steps to
IsPath text comments from ((over_token token) ∷ steps) to = (token.at ≡ from) × IsToken text token × IsPath text comments token.end steps to

-- the tokens of the steps
abbrev tokens_of : List Step → List Token
tokens_of [] = []
tokens_of ((over_blank end) ∷ steps) = tokens_of steps
tokens_of ((over_token token) ∷ steps) = token ∷ tokens_of steps

-- steps that form the tokens
record Path (text : List ℕ) (comments : Bool) (from : ℕ) (tokens : List Token) (to : ℕ) : Type 0 where
  pub steps : List Step
  pub is_path : IsPath text comments from steps to
  pub is_lexeme : tokens_of steps ≡ tokens

-- blanks may be before a path
path_behind_gap : (text : List ℕ) (comments : Bool) (from : ℕ) (ends : List ℕ) (place : ℕ) (tokens : List Token) (to : ℕ) → AreBlanks text comments from ends place → Path text comments place tokens to → Path text comments from tokens to
path_behind_gap text comments from [] place tokens to gap path = subst (λ start. Path text comments start tokens to) (sym gap) path
path_behind_gap text comments from (end ∷ ends) place tokens to gap path =
    let rest = path_behind_gap text comments end ends place tokens to gap.1 path in
    record { steps = over_blank end ∷ rest.steps; is_path = (gap.0, rest.is_path); is_lexeme = rest.is_lexeme }

-- the tokens of a text are a path
path_of_tokens : (text : List ℕ) (comments : Bool) (from : ℕ) (tokens : List Token) (to : ℕ) → AreTokens text comments from tokens to → Path text comments from tokens to
path_of_tokens text comments from [] to are =
    path_behind_gap text comments from are.0 to [] to are.1 (record { steps = []; is_path = refl; is_lexeme = refl })
path_of_tokens text comments from (token ∷ tokens) to are =
    let rest = path_of_tokens text comments token.end tokens to are.2 in
    path_behind_gap text comments from are.0.0 token.at (token ∷ tokens) to are.0.1
    (record { steps = over_token token ∷ rest.steps; is_path = (refl, are.1, rest.is_path); is_lexeme = ap (λ others. token ∷ others) rest.is_lexeme })

-- paths from one place to places where the reading halts are one
path_unique : (text : List ℕ) (comments : Bool) (from : ℕ) (steps others : List Step) (to end : ℕ) → IsPath text comments from steps to → IsPath text comments from others end → Halts text comments to → Halts text comments end → (tokens_of steps ≡ tokens_of others) × (to ≡ end)
path_unique text comments from [] [] to end path other halts halts' = (refl, sym path ∙ other)
path_unique text comments from [] ((over_blank next) ∷ others) to end path other halts halts' =
    absurd (halts.no_blank next (subst (λ place. IsBlank text comments place next) path other.0))
path_unique text comments from [] ((over_token token) ∷ others) to end path other halts halts' =
    absurd (halts.no_token token (other.0 ∙ path) other.1)
path_unique text comments from ((over_blank next) ∷ steps) [] to end path other halts halts' =
    absurd (halts'.no_blank next (subst (λ place. IsBlank text comments place next) other path.0))
path_unique text comments from ((over_token token) ∷ steps) [] to end path other halts halts' =
    absurd (halts'.no_token token (path.0 ∙ other) path.1)
path_unique text comments from ((over_blank next) ∷ steps) ((over_blank next') ∷ others) to end path other halts halts' =
    let same = blank_unique text comments from next next' path.0 other.0 in
    path_unique text comments next steps others to end path.1 (subst (λ place. IsPath text comments place others end) (sym same) other.1) halts halts'
path_unique text comments from ((over_blank next) ∷ steps) ((over_token token) ∷ others) to end path other halts halts' =
    absurd (token_is_no_blank text comments token.kind token.at token.end next other.1.lexeme (subst (λ place. IsBlank text comments place next) (sym other.0) path.0))
path_unique text comments from ((over_token token) ∷ steps) ((over_blank next) ∷ others) to end path other halts halts' =
    absurd (token_is_no_blank text comments token.kind token.at token.end next path.1.lexeme (subst (λ place. IsBlank text comments place next) (sym path.0) other.0))
path_unique text comments from ((over_token token) ∷ steps) ((over_token token') ∷ others) to end path other halts halts' =
    let same = token_unique text token token' path.1 other.1 (path.0 ∙ sym other.0) in
    let rest = path_unique text comments token.end steps others to end path.2 (subst (λ place. IsPath text comments place others end) (sym (ap (λ (t : Token). t.end) same)) other.2) halts halts' in
    (λ i. same i ∷ rest.0 i, rest.1)

-- the reading of a text up to where it halts is one
pub reading_unique : (text : List ℕ) (comments : Bool) (first second : List Token) (to end : ℕ) → AreTokens text comments 0 first to → AreTokens text comments 0 second end → Halts text comments to → Halts text comments end → (first ≡ second) × (to ≡ end)
reading_unique text comments first second to end are are' halts halts' =
    let path = path_of_tokens text comments 0 first to are in
    let other = path_of_tokens text comments 0 second end are' in
    let same = path_unique text comments 0 path.steps other.steps to end path.is_path other.is_path halts halts' in
    (sym path.is_lexeme ∙ same.0 ∙ other.is_lexeme, same.1)

-- a text has at most one list of tokens
pub tokens_unique : (text : List ℕ) (comments : Bool) (first second : List Token) → IsTokens text comments first → IsTokens text comments second → first ≡ second
tokens_unique text comments first second are are' =
    (reading_unique text comments first second (length text) (length text) are are' (end_halts text comments) (end_halts text comments)).0

-- a text has at most one first fault
pub lex_fault_unique : (text : List ℕ) (comments : Bool) (first second : LexFault) → IsLexFault text comments first → IsLexFault text comments second → first ≡ second
lex_fault_unique text comments first second fault other =
    fault_unique text comments first second fault.1 other.1
    (reading_unique text comments fault.0.0 other.0.0 (place_of first) (place_of second) fault.0.1 other.0.1 (fault_halts text comments first fault.1) (fault_halts text comments second other.1)).1

-- a text with tokens has no fault
pub tokens_without_fault : (text : List ℕ) (comments : Bool) (tokens : List Token) (fault : LexFault) → IsTokens text comments tokens → IsLexFault text comments fault → ⊥
tokens_without_fault text comments tokens fault are is =
    let place = (reading_unique text comments tokens is.0.0 (length text) (place_of fault) are is.0.1 (end_halts text comments) (fault_halts text comments fault is.1)).1 in
    absurd (omega (arith, place, fault_within text comments fault is.1))

-- a blank may follow a gap
push_gap : (text : List ℕ) (comments : Bool) (from : ℕ) (ends : List ℕ) (to end : ℕ) → AreBlanks text comments from ends to → IsBlank text comments to end → AreBlanks text comments from (ends ++ end ∷ []) end
push_gap text comments from [] to end gap blank = (subst (λ place. IsBlank text comments place end) (sym gap) blank, refl)
push_gap text comments from (next ∷ ends) to end gap blank = (gap.0, push_gap text comments next ends to end gap.1 blank)

-- a blank may follow
pub push_blank : (text : List ℕ) (comments : Bool) (from : ℕ) (tokens : List Token) (to end : ℕ) → AreTokens text comments from tokens to → IsBlank text comments to end → AreTokens text comments from tokens end
push_blank text comments from [] to end are blank = (are.0 ++ end ∷ [], push_gap text comments from are.0 to end are.1 blank)
push_blank text comments from (token ∷ tokens) to end are blank = (are.0, are.1, push_blank text comments token.end tokens to end are.2 blank)

-- a token may follow
pub push_token : (text : List ℕ) (comments : Bool) (from : ℕ) (tokens : List Token) (to : ℕ) (token : Token) → AreTokens text comments from tokens to → token.at ≡ to → IsToken text token → AreTokens text comments from (tokens ++ token ∷ []) token.end
push_token text comments from [] to token are at is = ((are.0, subst (AreBlanks text comments from are.0) (sym at) are.1), is, ([], refl))
push_token text comments from (first ∷ tokens) to token are at is = (are.0, are.1, push_token text comments first.end tokens to token are.2 at is)

-- each of the tokens is in the text
pub All-IsToken : (text : List ℕ) (comments : Bool) (from : ℕ) (tokens : List Token) (to : ℕ) → AreTokens text comments from tokens to → All (IsToken text) tokens
All-IsToken text comments from [] to are = All-nil (IsToken text)
All-IsToken text comments from (token ∷ tokens) to are = All-cons (IsToken text) token tokens are.1 (All-IsToken text comments token.end tokens to are.2)

-- the tokens that were answered are in the text
pub each_token : (text : List ℕ) (comments : Bool) (result : Result (Vec Token Global) LexFault) → IfOk result (λ v. IsTokens text comments v.items) → IfOk result (λ v. All (IsToken text) v.items)
each_token text comments (Ok v) ok = All-IsToken text comments 0 v.items (length text) ok
each_token text comments (Err e) ok = tt

-- the tokens of the text are answered, unless memory runs out
pub every_list : (text : List ℕ) (comments : Bool) (result : Result (Vec Token Global) LexFault) → IfOk result (λ v. IsTokens text comments v.items) → IfErr result (IsFaultOrMemory text comments) → (list : List Token) → IsTokens text comments list → IsOkAnd result (λ v. v.items ≡ list) ⊎ IsErrOf result Memory
every_list text comments (Ok v) ok fault list are = inl (tokens_unique text comments v.items list ok are)
every_list text comments (Err e) ok fault list are =
    elim fault [ inl is ↦ absurd (tokens_without_fault text comments list e are is) | inr memory ↦ inr (ap Err memory) ]

-- the first fault of the text is answered, unless memory runs out
pub every_fault : (text : List ℕ) (comments : Bool) (result : Result (Vec Token Global) LexFault) → IfOk result (λ v. IsTokens text comments v.items) → IfErr result (IsFaultOrMemory text comments) → (first : LexFault) → IsLexFault text comments first → IsErrOf result first ⊎ IsErrOf result Memory
every_fault text comments (Ok v) ok fault first is = absurd (tokens_without_fault text comments v.items first ok is)
every_fault text comments (Err e) ok fault first is =
    elim fault [ inl other ↦ inl (ap Err (lex_fault_unique text comments e first other is)) | inr memory ↦ inr (ap Err memory) ]
