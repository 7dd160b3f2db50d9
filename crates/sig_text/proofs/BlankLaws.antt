-- What a blank begins with, and that at most one begins at a place.
use Rattle.std.proofs.Common.{◌≡◌, ℕ, ◌+◌, ◌-◌, ◌<◌, ◌≤◌, ◌==◌, Bool, true, List, length, get_or, take, drop, sym, refl, ap, ◌∙◌, subst, inl, inr, arith, length-take, length-take-le, length-drop, get_or-take, get_or-drop, add-zero}
use Rattle.std.specs.Prelude.{slice_range}
use Rattle.std.proofs.lemmas.Bool.{cases_lt, eqb-true, eq-eqb}
use Rattle.std.proofs.lemmas.Bool.Decides.{nat_tests}
use Rattle.std.proofs.lemmas.List.{get_or_past}
use Rattle.sig_text.specs.Bytes.{is_space}
use Rattle.sig_text.specs.Blank.{IsSpace, IsByteOrderMark, space, byte_order_mark, line_comment, block_comment, IsBlank}
use Rattle.sig_text.specs.Comments.{BeginsLineComment, BeginsBlockComment, OpensLineComment, OpensBlockComment, BeginsSpace}
use Rattle.sig_text.specs.Tokens.{BeginsNoBlank}
use Rattle.sig_text.proofs.StringLaws.{comment_longest}

-- a byte of a prefix is that of the text, if it is not 0
pub read_of_prefix : (n : ℕ) (text : List ℕ) (i b : ℕ) → 0 < b → get_or (take n text) i 0 ≡ b → get_or text i 0 ≡ b
read_of_prefix n text i b some read =
    elim (cases_lt i n) [
      | inl inside ↦ sym (get_or-take n text i 0 inside) ∙ read
      | inr past ↦ absurd (omega (arith, read, get_or_past (take n text) i 0 (omega (arith, length-take n text))))
    ]

-- the byte at a place is the first of the text from there
pub first_of_rest : (text : List ℕ) (at : ℕ) → get_or (drop at text) 0 0 ≡ get_or text at 0
first_of_rest text at = get_or-drop at text 0 0 ∙ ap (λ i. get_or text i 0) (add-zero at)

-- the text from a place to another as a prefix of the text from there
pub slice_prefix : (text : List ℕ) (at n : ℕ) → slice_range text at (at + n) ≡ take n (drop at text)
slice_prefix text at n =
    let size : at + n - at ≡ n = omega arith in
    ap (λ k. take k (drop at text)) size

-- the blank that begins a text, by its first bytes
pub data BlankForm (rest : List ℕ) (n : ℕ) : Type 0 where
  white : get_or rest 0 0 ≤ 32 → n ≡ 1 → BlankForm rest n
  mark : get_or rest 0 0 ≡ 239 → n ≡ 3 → BlankForm rest n
  line : get_or rest 0 0 ≡ 47 → get_or rest 1 0 ≡ 47 → BeginsLineComment rest n → BlankForm rest n
  block : get_or rest 0 0 ≡ 47 → get_or rest 1 0 ≡ 42 → BeginsBlockComment rest n → BlankForm rest n

-- white space is a byte from 1 to 32
pub space_is_low : (b : ℕ) → is_space b ≡ true → (b ≤ 32) × (0 < b)
space_is_low b pass = grind (arith, nat_tests)

-- each blank has a form
pub blank_form : (text : List ℕ) (comments : Bool) (from to : ℕ) → IsBlank text comments from to → BlankForm (drop from text) (to - from)
blank_form text comments from to blank =
    let rest = drop from text in
    let n = to - from in
    let ordered = blank.ordered in
    let within : n ≤ length rest = omega (arith, blank.within, length-drop from text) in
    let size = length-take-le n rest within in
    elim blank.lexeme [
      | space lexeme ↦
          let low = space_is_low lexeme.0 lexeme.2 in
          let first : get_or rest 0 0 ≡ lexeme.0 = read_of_prefix n rest 0 lexeme.0 low.1 (ap (λ s. get_or s 0 0) lexeme.1) in
          white (omega (arith, low.0)) (omega (arith, ap length lexeme.1))
      | byte_order_mark head lexeme ↦
          mark (read_of_prefix n rest 0 239 (omega arith) (ap (λ s. get_or s 0 0) lexeme)) (omega (arith, ap length lexeme))
      | line_comment asked lexeme ended ↦
          line (read_of_prefix n rest 0 47 (omega arith) lexeme.first_slash) (read_of_prefix n rest 1 47 (omega arith) lexeme.second_slash)
          (record {
            within = within;
            lexeme = lexeme;
            ended = λ inside.
                let place : from + n ≡ to = omega arith in
                get_or-drop from text n 0 ∙ ap (λ i. get_or text i 0) place ∙ ended (omega (arith, length-drop from text));
          })
      | block_comment asked lexeme ↦
          block (read_of_prefix n rest 0 47 (omega arith) lexeme.opening_slash) (read_of_prefix n rest 1 42 (omega arith) lexeme.opening_star)
          (record { within = within; lexeme = lexeme })
    ]

-- one line comment begins at one place
line_longest : (rest : List ℕ) (n m : ℕ) → BeginsLineComment rest n → BeginsLineComment rest m → m ≤ n
line_longest rest n m comment other =
    elim (cases_lt n m) [
      | inl longer ↦
          let inside : n < length (take m rest) = omega (arith, length-take-le m rest other.within) in
          absurd (other.lexeme.one_line n 0 inside (get_or-take m rest n 0 longer ∙ comment.ended (omega (arith, other.within))))
      | inr fits ↦ fits
    ]

-- a text begins with at most one blank
form_unique : (rest : List ℕ) (n m : ℕ) → BlankForm rest n → BlankForm rest m → n ≡ m
form_unique rest n m first second =
    elim first [
      | white low one ↦
          elim second [
            | white low' one' ↦ omega arith
            | mark b three ↦ omega arith
            | line b c comment ↦ omega arith
            | block b c comment ↦ omega arith
          ]
      | mark b three ↦
          elim second [
            | white low one ↦ omega arith
            | mark b' three' ↦ omega arith
            | line b' c comment ↦ omega arith
            | block b' c comment ↦ omega arith
          ]
      | line b c comment ↦
          elim second [
            | white low one ↦ omega arith
            | mark b' three ↦ omega arith
            | line b' c' other ↦ omega (arith, line_longest rest n m comment other, line_longest rest m n other comment)
            | block b' c' other ↦ omega arith
          ]
      | block b c comment ↦
          elim second [
            | white low one ↦ omega arith
            | mark b' three ↦ omega arith
            | line b' c' other ↦ omega arith
            | block b' c' other ↦
                omega (arith, comment_longest rest n m comment.within comment.lexeme other.within other.lexeme, comment_longest rest m n other.within other.lexeme comment.within comment.lexeme)
          ]
    ]

-- at most one blank begins at a place
pub blank_unique : (text : List ℕ) (comments : Bool) (from to end : ℕ) → IsBlank text comments from to → IsBlank text comments from end → to ≡ end
blank_unique text comments from to end blank other =
    let ordered = blank.ordered in
    let ordered' = other.ordered in
    omega (arith, form_unique (drop from text) (to - from) (end - from) (blank_form text comments from to blank) (blank_form text comments from end other))

-- a byte that no blank begins with, or a `/` that no comment follows
pub no_blank_from_byte : (text : List ℕ) (comments : Bool) (at end : ℕ) → 32 < get_or text at 0 → (get_or text at 0 ≡ 239 → ⊥) → (get_or text at 0 ≡ 47 → ⊥) → IsBlank text comments at end → ⊥
no_blank_from_byte text comments at end high no_mark no_slash blank =
    let first = first_of_rest text at in
    elim (blank_form text comments at end blank) [
      | white low one ↦ absurd (omega arith)
      | mark b three ↦ no_mark (omega arith)
      | line b c comment ↦ no_slash (omega arith)
      | block b c comment ↦ no_slash (omega arith)
    ]

-- a blank at the front of the text from a place is a blank of the text
pub space_at : (text : List ℕ) (comments : Bool) (at n : ℕ) → at < length text → 0 < n → BeginsSpace (drop at text) (at == 0) n → IsBlank text comments at (at + n)
space_at text comments at n inside some prefix =
    let slice = slice_prefix text at n in
    record {
      ordered = omega arith;
      within = omega (arith, prefix.within, length-drop at text);
      lexeme = elim (prefix.lexeme some) [
        | inl one ↦ space (subst IsSpace (sym slice) one)
        | inr bom ↦ byte_order_mark (eqb-true at 0 bom.0) (subst IsByteOrderMark (sym slice) bom.1)
      ];
    }

-- neither white space nor a comment begins there
pub no_blank_at : (text : List ℕ) (comments : Bool) (at : ℕ) → (comments ≡ true → (OpensLineComment (drop at text) → ⊥) × (OpensBlockComment (drop at text) → ⊥)) → BeginsSpace (drop at text) (at == 0) 0 → BeginsNoBlank text comments at
no_blank_at text comments at absent prefix =
    let rest = drop at text in
    record {
      no_blank = λ end blank.
          elim blank.lexeme [
            | space lexeme ↦ prefix.no_space refl (end - at) lexeme
            | byte_order_mark head lexeme ↦ prefix.no_mark refl (eq-eqb at 0 head) (end - at) lexeme
            | line_comment asked lexeme ended ↦
                (absent asked).0 (record {
                  first_slash = read_of_prefix (end - at) rest 0 47 (omega arith) lexeme.first_slash;
                  second_slash = read_of_prefix (end - at) rest 1 47 (omega arith) lexeme.second_slash;
                })
            | block_comment asked lexeme ↦
                (absent asked).1 (record {
                  opening_slash = read_of_prefix (end - at) rest 0 47 (omega arith) lexeme.opening_slash;
                  opening_star = read_of_prefix (end - at) rest 1 42 (omega arith) lexeme.opening_star;
                })
          ];
      no_open_comment = λ asked unclosed.
          (absent asked).1 (record { opening_slash = first_of_rest text at ∙ unclosed.opening_slash; opening_star = get_or-drop at text 1 0 ∙ unclosed.opening_star });
    }
