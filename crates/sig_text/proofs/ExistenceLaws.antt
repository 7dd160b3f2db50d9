-- Every text has a list of tokens or a first lexical fault: at each place before its end there is a blank, a token or
-- a fault.
use Rattle.std.proofs.Common.{◌≡◌, ℕ, zero, suc, ◌+◌, ◌-◌, ◌<◌, ◌≤◌, ◌==◌, Bool, true, false, List, [], ◌∷◌, ◌++◌, length, get_or, take, drop, sym, refl, ap, ◌∙◌, subst, ◌⊎◌, inl, inr, arith, length-take, length-take-le, length-drop, get_or-drop}
use Rattle.std.specs.Prelude.{IsTrue}
use Rattle.std.specs.List.{prefix_len}
use Rattle.std.specs.Str.{bytes_eq}
use Rattle.std.proofs.lemmas.Slice.Eq.{bytes_eq-Decides}
use Rattle.std.proofs.lemmas.Bool.{cases_lt, cases_eq, cases_Bool, both_ways}
use Rattle.std.proofs.lemmas.List.{take-take}
use Rattle.sig_text.specs.Bytes.{is_space, is_in_line, is_word_start, is_word_byte, is_sign}
use Rattle.sig_text.specs.Lexemes.{ClosesString, IsNumber, IsLexeme}
use Rattle.sig_text.specs.Prefixes.{BeginsToken, BeginsNoToken, IsLongestPrefix}
use Rattle.sig_text.specs.Blank.{IsSpace, IsByteOrderMark, IsLineComment, IsBlockComment, ClosesComment, line_comment, block_comment, IsBlank}
use Rattle.sig_text.specs.Comments.{BeginsLineComment, BeginsBlockComment, OpensLineComment, OpensBlockComment, BeginsComment, BeginsSpace}
use Rattle.sig_text.specs.Tokens.{IsToken, AreTokens, IsTokens, IsOpenComment, BeginsNoBlank, BeginsFault, place_of, IsLexFault}
use Rattle.sig_text.specs.declared.blank.Comment.{Comment}
use Rattle.sig_text.specs.declared.blank.Comment.TheVariants.{Absent, Closed, Open}
use Rattle.sig_text.specs.declared.token.TokenKind.{TokenKind}
use Rattle.sig_text.specs.declared.token.TokenKind.TheVariants.{Word, Number, Str, Sign}
use Rattle.sig_text.specs.declared.token.Token.{Token}
use Rattle.sig_text.specs.declared.fault.LexFault.{LexFault}
use Rattle.sig_text.specs.declared.fault.LexFault.TheVariants.{OpenString, OpenComment, Byte}
use Rattle.sig_text.proofs.StringLaws.{string_prefix, string_endless, comment_prefix, comment_end, comment_endless, line_comment_prefix}
use Rattle.sig_text.proofs.LongestLaws.{longest_number}
use Rattle.sig_text.proofs.ScanLaws.{word_token, string_token, no_string_token, number_token, sign_token, no_token}
use Rattle.sig_text.proofs.BlankLaws.{read_of_prefix, first_of_rest, slice_prefix, space_is_low, space_at, no_blank_at}
use Rattle.sig_text.proofs.ReadingLaws.{inside_from_read, push_blank, push_token}

-- of the first n places a first one has the property, or none has
first_place : (P : ℕ → Type 0) → ((k : ℕ) → P k ⊎ (P k → ⊥)) → (n : ℕ) → ((k : ℕ) × (k < n) × P k × ((j : ℕ) → j < k → P j → ⊥)) ⊎ ((k : ℕ) → k < n → P k → ⊥)
first_place P decided zero = inr (λ k below has. absurd (omega arith))
first_place P decided (suc n) =
    elim (first_place P decided n) [
      | inl found ↦ inl (found.0, omega (arith, found.1), found.2, found.3)
      | inr none ↦
          elim (decided n) [
            | inl has ↦ inl (n, omega arith, has, none)
            | inr not_here ↦ inr (λ k below has.
                elim (cases_lt k n) [
                  | inl before ↦ none k before has
                  | inr here ↦ let same : k ≡ n = omega arith in not_here (subst P same has)
                ])
          ]
    ]

-- a place closes the string, or it does not
string_closes : (text : List ℕ) (place : ℕ) → ClosesString text place ⊎ (ClosesString text place → ⊥)
string_closes text place =
    elim (cases_lt 0 place) [
      | inl inside ↦
          elim (cases_eq (get_or text place 0) 34) [
            | inl closing ↦
                elim (cases_eq (get_or text (place - 1) 0) 92) [
                  | inl escaped ↦ inr (λ closes. closes.unescaped escaped)
                  | inr unescaped ↦ inl (record { inside = inside; closing = closing; unescaped = unescaped })
                ]
            | inr other ↦ inr (λ closes. other closes.closing)
          ]
      | inr first ↦ inr (λ closes. absurd (omega (arith, closes.inside)))
    ]

-- a place closes the comment, or it does not
comment_closes : (text : List ℕ) (place : ℕ) → ClosesComment text place ⊎ (ClosesComment text place → ⊥)
comment_closes text place =
    elim (cases_lt 1 place) [
      | inl inside ↦
          elim (cases_eq (get_or text place 0) 42) [
            | inl star ↦
                elim (cases_eq (get_or text (place + 1) 0) 47) [
                  | inl slash ↦ inl (record { inside = omega arith; closing_star = star; closing_slash = slash })
                  | inr other ↦ inr (λ closes. other closes.closing_slash)
                ]
            | inr other ↦ inr (λ closes. other closes.closing_star)
          ]
      | inr early ↦ inr (λ closes. absurd (omega (arith, closes.inside)))
    ]

-- a prefix of the text is its token, or no prefix is one
abbrev TokenOrNone : List ℕ → Type 0
TokenOrNone text = ((kind : TokenKind) × (n : ℕ) × BeginsToken text kind n) ⊎ BeginsNoToken text

-- at a quote a string begins, or a string without an end
string_or_none : (text : List ℕ) → get_or text 0 0 ≡ 34 → TokenOrNone text
string_or_none text quote =
    elim (first_place (ClosesString text) (string_closes text) (length text)) [
      | inl found ↦ inl (Str, found.0 + 1, string_token text (found.0 + 1) (omega (arith, found.1)) (string_prefix text found.0 found.1 quote found.3 found.2) quote)
      | inr none ↦ inr (no_string_token text (string_endless text none) quote)
    ]

-- where neither a word nor a string begins, a number does, or a sign, or nothing
plain_or_none : (text : List ℕ) → 0 < length text → is_word_start (get_or text 0 0) ≡ false → (get_or text 0 0 ≡ 34 → ⊥) → TokenOrNone text
plain_or_none text there no_word no_quote =
    let number = longest_number text in
    elim (cases_lt 0 number.0) [
      | inl some ↦ inl (Number, number.0, number_token text number.0 no_word no_quote some number.1)
      | inr nothing ↦
          let is_zero : number.0 ≡ 0 = omega arith in
          let no_number = subst (IsLongestPrefix IsNumber text) is_zero number.1 in
          elim (cases_Bool (is_sign (get_or text 0 0))) [
            | inl sign ↦ inl (Sign, 1, sign_token text there no_word no_quote no_number sign)
            | inr no_sign ↦ inr (no_token text no_word no_quote no_number no_sign)
          ]
    ]

token_or_none : (text : List ℕ) → 0 < length text → TokenOrNone text
token_or_none text there =
    elim (cases_Bool (is_word_start (get_or text 0 0))) [
      | inl word ↦ inl (Word, prefix_len is_word_byte text, word_token text (prefix_len is_word_byte text) there refl word)
      | inr no_word ↦
          elim (cases_eq (get_or text 0 0) 34) [
            | inl quote ↦ string_or_none text quote
            | inr no_quote ↦ plain_or_none text there no_word no_quote
          ]
    ]

-- a `/*` has its end, or none
block_comment_or_open : (text : List ℕ) → OpensBlockComment text → (comment : Comment) × BeginsComment text comment
block_comment_or_open text opened =
    elim (first_place (ClosesComment text) (comment_closes text) (length text - 1)) [
      | inl found ↦ (Closed (found.0 + 2), inr (comment_prefix text found.0 (omega (arith, found.1)) opened found.3 found.2))
      | inr none ↦ (Open, record { opened = opened; endless = comment_endless text (λ k inside. none k (omega arith)) })
    ]

-- a text begins with a comment, with one without an end, or with neither
comment_of : (text : List ℕ) → (comment : Comment) × BeginsComment text comment
comment_of text =
    elim (cases_eq (get_or text 0 0) 47) [
      | inl slash ↦
          elim (cases_eq (get_or text 1 0) 47) [
            | inl second ↦
                let long = inside_from_read text 1 47 (omega arith) second in
                (Closed (prefix_len is_in_line text), inl (line_comment_prefix text (prefix_len is_in_line text) refl (omega arith) (record { first_slash = slash; second_slash = second })))
            | inr no_slash ↦
                elim (cases_eq (get_or text 1 0) 42) [
                  | inl star ↦ block_comment_or_open text (record { opening_slash = slash; opening_star = star })
                  | inr no_star ↦ (Absent, (λ opens. no_slash opens.second_slash, λ opens. no_star opens.opening_star))
                ]
          ]
      | inr other ↦ (Absent, (λ opens. other opens.first_slash, λ opens. other opens.opening_slash))
    ]

-- a byte of white space is the first of the text
space_first : (text : List ℕ) (m : ℕ) → IsSpace (take m text) → is_space (get_or text 0 0) ≡ true
space_first text m lexeme =
    ap is_space (read_of_prefix m text 0 lexeme.0 (space_is_low lexeme.0 lexeme.2).1 (ap (λ s. get_or s 0 0) lexeme.1)) ∙ lexeme.2

-- a byte order mark is the first three bytes of the text
mark_first : (text : List ℕ) (m : ℕ) → IsByteOrderMark (take m text) → IsByteOrderMark (take 3 text)
mark_first text m lexeme =
    let long : 3 ≤ m = omega (arith, ap length lexeme, length-take m text) in
    sym (take-take 3 m text long) ∙ ap (take 3) lexeme

-- the first byte is white space
space_prefix : (text : List ℕ) (is_head : Bool) → is_space (get_or text 0 0) ≡ true → BeginsSpace text is_head 1
space_prefix [] is_head pass = absurd (both_ways (is_space 0) refl pass)
space_prefix (b ∷ rest) is_head pass = record {
  within = omega arith;
  lexeme = λ some. inl (b, refl, pass);
  no_space = λ none. absurd (omega arith);
  no_mark = λ none. absurd (omega arith);
}

-- the first bytes are neither white space nor, at the head, a byte order mark
no_space_prefix : (text : List ℕ) (is_head : Bool) → is_space (get_or text 0 0) ≡ false → (IsTrue is_head → IsByteOrderMark (take 3 text) → ⊥) → BeginsSpace text is_head 0
no_space_prefix text is_head no_space no_mark = record {
  within = omega arith;
  lexeme = λ some. absurd (omega arith);
  no_space = λ none m lexeme. both_ways _ no_space (space_first text m lexeme);
  no_mark = λ none head m lexeme. no_mark head (mark_first text m lexeme);
}

-- a byte order mark at the head
mark_prefix : (text : List ℕ) (is_head : Bool) → IsTrue is_head → IsByteOrderMark (take 3 text) → BeginsSpace text is_head 3
mark_prefix text is_head head mark = record {
  within = omega (arith, ap length mark, length-take 3 text);
  lexeme = λ some. inr (head, mark);
  no_space = λ none. absurd (omega arith);
  no_mark = λ none. absurd (omega arith);
}

-- a text begins with white space or a byte order mark, if only of no byte
space_of : (text : List ℕ) (is_head : Bool) → (n : ℕ) × BeginsSpace text is_head n
space_of text is_head =
    let mark_test = bytes_eq (take 3 text) (0xEF ∷ 0xBB ∷ 0xBF ∷ []) in
    let decides = bytes_eq-Decides (take 3 text) (0xEF ∷ 0xBB ∷ 0xBF ∷ []) in
    elim (cases_Bool (is_space (get_or text 0 0))) [
      | inl pass ↦ (1, space_prefix text is_head pass)
      | inr no_space ↦
          elim (cases_Bool is_head) [
            | inl head ↦
                elim (cases_Bool mark_test) [
                  | inl mark ↦ (3, mark_prefix text is_head head (decides.0 mark))
                  | inr no_mark ↦ (0, no_space_prefix text is_head no_space (λ _ mark. both_ways _ no_mark (decides.1 mark)))
                ]
            | inr no_head ↦ (0, no_space_prefix text is_head no_space (λ head mark. both_ways _ no_head head))
          ]
    ]

-- what is found at a place where blanks are looked for: a blank, a comment without an end, or neither
data BlankOrNone (text : List ℕ) (comments : Bool) (at : ℕ) : Type 0 where
  some_blank : (end : ℕ) → IsBlank text comments at end → BlankOrNone text comments at
  open_comment : IsTrue comments → IsOpenComment text at → BlankOrNone text comments at
  no_blank : BeginsNoBlank text comments at → BlankOrNone text comments at

-- white space, a byte order mark or nothing, where no comment begins
space_or_none : (text : List ℕ) (comments : Bool) (at : ℕ) → at < length text → (comments ≡ true → (OpensLineComment (drop at text) → ⊥) × (OpensBlockComment (drop at text) → ⊥)) → BlankOrNone text comments at
space_or_none text comments at inside absent =
    let found = space_of (drop at text) (at == 0) in
    elim (cases_lt 0 found.0) [
      | inl some ↦ some_blank (at + found.0) (space_at text comments at found.0 inside some found.1)
      | inr none ↦
          let is_zero : found.0 ≡ 0 = omega arith in
          no_blank (no_blank_at text comments at absent (subst (BeginsSpace (drop at text) (at == 0)) is_zero found.1))
    ]

-- a line comment at the front of the text from a place is a blank of the text
line_at : (text : List ℕ) (comments : Bool) (at n : ℕ) → IsTrue comments → at < length text → BeginsLineComment (drop at text) n → IsBlank text comments at (at + n)
line_at text comments at n asked inside begins = record {
  ordered = omega (arith, begins.lexeme.long, length-take-le n (drop at text) begins.within);
  within = omega (arith, begins.within, length-drop at text);
  lexeme = line_comment asked (subst IsLineComment (sym (slice_prefix text at n)) begins.lexeme) (λ more. sym (get_or-drop at text n 0) ∙ begins.ended (omega (arith, length-drop at text)));
}

-- so is a block comment
block_at : (text : List ℕ) (comments : Bool) (at n : ℕ) → IsTrue comments → at < length text → BeginsBlockComment (drop at text) n → IsBlank text comments at (at + n)
block_at text comments at n asked inside begins = record {
  ordered = omega (arith, (comment_end (drop at text) n begins.within begins.lexeme).0);
  within = omega (arith, begins.within, length-drop at text);
  lexeme = block_comment asked (subst IsBlockComment (sym (slice_prefix text at n)) begins.lexeme);
}

-- a comment at the front of the text from a place, or none
comment_or_none : (text : List ℕ) (comments : Bool) (at : ℕ) → at < length text → IsTrue comments → (comment : Comment) → BeginsComment (drop at text) comment → BlankOrNone text comments at
comment_or_none text comments at inside asked Absent absent = space_or_none text comments at inside (λ _. absent)
comment_or_none text comments at inside asked (Closed n) begins =
    some_blank (at + n) (elim begins [ inl line ↦ line_at text comments at n asked inside line | inr block ↦ block_at text comments at n asked inside block ])
comment_or_none text comments at inside asked Open begins =
    open_comment asked (record {
      opening_slash = sym (first_of_rest text at) ∙ begins.opened.opening_slash;
      opening_star = sym (get_or-drop at text 1 0) ∙ begins.opened.opening_star;
      endless = λ end within comment. begins.endless (end - at) (omega (arith, length-drop at text)) comment;
    })

blank_or_none : (text : List ℕ) (comments : Bool) (at : ℕ) → at < length text → BlankOrNone text comments at
blank_or_none text comments at inside =
    elim (cases_Bool comments) [
      | inl asked ↦
          let found = comment_of (drop at text) in
          comment_or_none text comments at inside asked found.0 found.1
      | inr unasked ↦ space_or_none text comments at inside (λ asked. absurd (both_ways _ unasked asked))
    ]

-- what is at a place: a blank, a token or a fault
data Prefix (text : List ℕ) (comments : Bool) (at : ℕ) : Type 0 where
  blank : (end : ℕ) → IsBlank text comments at end → Prefix text comments at
  token : (found : Token) → found.at ≡ at → IsToken text found → Prefix text comments at
  fault : (found : LexFault) → place_of found ≡ at → BeginsFault text comments found → Prefix text comments at

-- a token at the front of the text from a place is a token of the text
token_at : (text : List ℕ) (kind : TokenKind) (at n : ℕ) → at < length text → BeginsToken (drop at text) kind n → IsToken text (record { kind = kind; at = at; end = at + n })
token_at text kind at n inside begins = record {
  ordered = omega (arith, begins.some);
  within = omega (arith, begins.within, length-drop at text);
  lexeme = subst (IsLexeme kind) (sym (slice_prefix text at n)) begins.lexeme;
  longest = λ other end longer within lexeme. absurd (omega (arith, begins.longest other (end - at) (omega (arith, length-drop at text)) lexeme));
}

-- without a blank and a token, a string without an end is there, or a stray byte
fault_at : (text : List ℕ) (comments : Bool) (at : ℕ) → at < length text → BeginsNoBlank text comments at → BeginsNoToken (drop at text) → Prefix text comments at
fault_at text comments at inside blankless tokenless =
    elim (cases_eq (get_or text at 0) 34) [
      | inl quote ↦ fault (OpenString at) refl (record { opening = quote; endless = λ end within string. tokenless Str (end - at) (omega (arith, length-drop at text)) string })
      | inr other ↦ fault (Byte at) refl (record {
        within = inside;
        no_token = λ kind end within lexeme. tokenless kind (end - at) (omega (arith, length-drop at text)) lexeme;
        no_blank = blankless;
        no_open_string = λ string. other string.opening;
      })
    ]

-- at each place before the end of the text something is
prefix_of : (text : List ℕ) (comments : Bool) (at : ℕ) → at < length text → Prefix text comments at
prefix_of text comments at inside =
    elim (blank_or_none text comments at inside) [
      | some_blank end is ↦ blank end is
      | open_comment asked is ↦ fault (OpenComment at) refl (asked, is)
      | no_blank none ↦
          elim (token_or_none (drop at text) (omega (arith, length-drop at text))) [
            | inl found ↦ token (record { kind = found.0; at = at; end = at + found.1 }) refl (token_at text found.0 at found.1 inside found.2)
            | inr tokenless ↦ fault_at text comments at inside none tokenless
          ]
    ]

-- the tokens of the text, or its first fault
abbrev pub TokensOrFault : List ℕ → Bool → Type 0
TokensOrFault text comments = ((list : List Token) × IsTokens text comments list) ⊎ ((fault : LexFault) × IsLexFault text comments fault)

-- tokens that lead up to a place lead on to the end or to a fault, by the length of what is left
read_on : (left : ℕ) (text : List ℕ) (comments : Bool) (at : ℕ) → at ≤ length text → length text - at ≤ left → (tokens : List Token) → AreTokens text comments 0 tokens at → TokensOrFault text comments
read_on zero text comments at within few tokens are =
    let ended : at ≡ length text = omega arith in
    inl (tokens, subst (AreTokens text comments 0 tokens) ended are)
read_on (suc left) text comments at within few tokens are =
    elim (cases_lt at (length text)) [
      | inl inside ↦
          elim (prefix_of text comments at inside) [
            | blank end is ↦ read_on left text comments end is.within (omega (arith, is.ordered)) tokens (push_blank text comments 0 tokens at end are is)
            | token found place is ↦
                read_on left text comments found.end is.within (omega (arith, is.ordered, place)) (tokens ++ found ∷ [])
                (push_token text comments 0 tokens at found are place is)
            | fault found place begins ↦ inr (found, ((tokens, subst (AreTokens text comments 0 tokens) (sym place) are), begins))
          ]
      | inr past ↦
          let ended : at ≡ length text = omega arith in
          inl (tokens, subst (AreTokens text comments 0 tokens) ended are)
    ]

-- every text has a list of tokens or a first fault
pub tokens_or_fault : (text : List ℕ) (comments : Bool) → TokensOrFault text comments
tokens_or_fault text comments = read_on (length text) text comments 0 (omega arith) (omega arith) [] ([], refl)
