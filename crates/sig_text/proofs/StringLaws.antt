-- Strings and comments in brackets: an end in a prefix of the text is one in the text.
use Rattle.std.proofs.Common.{◌≡◌, ℕ, ◌+◌, ◌-◌, ◌<◌, ◌≤◌, false, List, length, get_or, take, sym, ap, ◌∙◌, subst, arith, length-take-le, get_or-take, inl, inr}
use Rattle.std.specs.Prelude.{IsTrue, All}
use Rattle.std.specs.List.{prefix_len}
use Rattle.std.proofs.lemmas.Bool.{cases_lt, both_ways, not-false, eqb-true}
use Rattle.std.proofs.lemmas.List.Elements.{All-weaker}
use Rattle.std.proofs.lemmas.List.Sums.{prefix_len-le-length, prefix_len_stops}
use Rattle.sig_text.specs.Bytes.{is_in_line}
use Rattle.sig_text.specs.Lexemes.{ClosesString, IsString}
use Rattle.sig_text.specs.Blank.{ClosesComment, IsBlockComment}
use Rattle.sig_text.specs.Comments.{BeginsLineComment, BeginsBlockComment, OpensLineComment, OpensBlockComment}
use Rattle.sig_text.proofs.PrefixLaws.{All-run}

-- what closes the string in the text closes it in a prefix
pub closes_in_prefix : (text : List ℕ) (n place : ℕ) → place < n → ClosesString text place → ClosesString (take n text) place
closes_in_prefix text n place short closes = record {
  inside = closes.inside;
  closing = get_or-take n text place 0 short ∙ closes.closing;
  unescaped = λ escaped. closes.unescaped (sym (get_or-take n text (place - 1) 0 (omega arith)) ∙ escaped);
}

-- what closes the string in a prefix closes it in the text
pub closes_in_text : (text : List ℕ) (n place : ℕ) → place < n → ClosesString (take n text) place → ClosesString text place
closes_in_text text n place short closes = record {
  inside = closes.inside;
  closing = sym (get_or-take n text place 0 short) ∙ closes.closing;
  unescaped = λ escaped. closes.unescaped (get_or-take n text (place - 1) 0 (omega arith) ∙ escaped);
}

-- a string is the prefix up to the first quote that closes it
pub string_prefix : (text : List ℕ) (place : ℕ) → place < length text → get_or text 0 0 ≡ 34 → ((k : ℕ) → k < place → ClosesString text k → ⊥) → ClosesString text place → IsString (take (place + 1) text)
string_prefix text place inside opening none closes =
    let size : length (take (place + 1) text) ≡ place + 1 = length-take-le (place + 1) text (omega arith) in
    let last : place ≡ length (take (place + 1) text) - 1 = omega arith in
    record {
      opening = get_or-take (place + 1) text 0 0 (omega arith) ∙ opening;
      closed = subst (ClosesString (take (place + 1) text)) last (closes_in_prefix text (place + 1) place (omega arith) closes);
      first = λ k early closing. none k (omega arith) (closes_in_text text (place + 1) k (omega arith) closing);
    }

-- where the string that a prefix is ends
pub string_end : (text : List ℕ) (n : ℕ) → n ≤ length text → IsString (take n text) → (0 < n - 1) × ClosesString text (n - 1)
string_end text n within string =
    let size = length-take-le n text within in
    let long : 0 < n - 1 = omega (arith, string.closed.inside) in
    (long, closes_in_text text n (n - 1) (omega arith) (subst (λ k. ClosesString (take n text) (k - 1)) size string.closed))

-- without a quote that closes it no prefix is a string
pub string_endless : (text : List ℕ) → ((k : ℕ) → k < length text → ClosesString text k → ⊥) → (n : ℕ) → n ≤ length text → IsString (take n text) → ⊥
string_endless text none n within string =
    let end = string_end text n within string in
    none (n - 1) (omega (arith, end.0)) end.1

-- one string begins at one place
pub string_longest : (text : List ℕ) (n m : ℕ) → n ≤ length text → IsString (take n text) → m ≤ length text → IsString (take m text) → m ≤ n
string_longest text n m within string inside other =
    elim (cases_lt n m) [
      | inl longer ↦
          let end = string_end text n within string in
          let size = length-take-le m text inside in
          absurd (other.first (n - 1) (omega (arith, end.0)) (closes_in_prefix text m (n - 1) (omega arith) end.1))
      | inr fits ↦ fits
    ]

-- the same for the end of a comment
pub comment_closes_in_prefix : (text : List ℕ) (n place : ℕ) → place + 1 < n → ClosesComment text place → ClosesComment (take n text) place
comment_closes_in_prefix text n place short closes = record {
  inside = closes.inside;
  closing_star = get_or-take n text place 0 (omega arith) ∙ closes.closing_star;
  closing_slash = get_or-take n text (place + 1) 0 short ∙ closes.closing_slash;
}

-- what closes the comment in a prefix closes it in the text
pub comment_closes_in_text : (text : List ℕ) (n place : ℕ) → place + 1 < n → ClosesComment (take n text) place → ClosesComment text place
comment_closes_in_text text n place short closes = record {
  inside = closes.inside;
  closing_star = sym (get_or-take n text place 0 (omega arith)) ∙ closes.closing_star;
  closing_slash = sym (get_or-take n text (place + 1) 0 short) ∙ closes.closing_slash;
}

-- a block comment is the prefix up to the first end
pub comment_prefix : (text : List ℕ) (place : ℕ) → place + 1 < length text → OpensBlockComment text → ((k : ℕ) → k < place → ClosesComment text k → ⊥) → ClosesComment text place → BeginsBlockComment text (place + 2)
comment_prefix text place inside opened none closes =
    let size : length (take (place + 2) text) ≡ place + 2 = length-take-le (place + 2) text (omega arith) in
    let last : place ≡ length (take (place + 2) text) - 2 = omega arith in
    record {
      within = omega arith;
      lexeme = record {
        opening_slash = get_or-take (place + 2) text 0 0 (omega arith) ∙ opened.opening_slash;
        opening_star = get_or-take (place + 2) text 1 0 (omega (arith, closes.inside)) ∙ opened.opening_star;
        closed = subst (ClosesComment (take (place + 2) text)) last (comment_closes_in_prefix text (place + 2) place (omega arith) closes);
        first = λ k early closing. none k (omega arith) (comment_closes_in_text text (place + 2) k (omega arith) closing);
      };
    }

-- where the block comment that a prefix is ends
pub comment_end : (text : List ℕ) (n : ℕ) → n ≤ length text → IsBlockComment (take n text) → (2 ≤ n - 2) × ClosesComment text (n - 2)
comment_end text n within comment =
    let size = length-take-le n text within in
    let long : 2 ≤ n - 2 = omega (arith, comment.closed.inside) in
    (long, comment_closes_in_text text n (n - 2) (omega arith) (subst (λ k. ClosesComment (take n text) (k - 2)) size comment.closed))

-- without an end no prefix is a block comment
pub comment_endless : (text : List ℕ) → ((k : ℕ) → k + 1 < length text → ClosesComment text k → ⊥) → (n : ℕ) → n ≤ length text → IsBlockComment (take n text) → ⊥
comment_endless text none n within comment =
    let end = comment_end text n within comment in
    none (n - 2) (omega (arith, end.0)) end.1

-- one block comment begins at one place
pub comment_longest : (text : List ℕ) (n m : ℕ) → n ≤ length text → IsBlockComment (take n text) → m ≤ length text → IsBlockComment (take m text) → m ≤ n
comment_longest text n m within comment inside other =
    elim (cases_lt n m) [
      | inl longer ↦
          let end = comment_end text n within comment in
          let size = length-take-le m text inside in
          absurd (other.first (n - 2) (omega (arith, end.0)) (comment_closes_in_prefix text m (n - 2) (omega (arith, end.0)) end.1))
      | inr fits ↦ fits
    ]

-- a line comment goes to the end of its line
pub line_comment_prefix : (text : List ℕ) (n : ℕ) → n ≡ prefix_len is_in_line text → 2 ≤ length text → OpensLineComment text → BeginsLineComment text n
line_comment_prefix text n run long opened =
    let within : n ≤ length text = omega (arith, prefix_len-le-length is_in_line text) in
    let stops : n < length text → is_in_line (get_or text n 0) ≡ false = λ inside. ap (λ k. is_in_line (get_or text k 0)) run ∙ prefix_len_stops is_in_line text 0 (omega arith) in
    let past_first : 0 < n =
    elim (cases_lt 0 n) [
      | inl some ↦ some
      | inr none ↦
          let first : n ≡ 0 = omega arith in
          absurd (both_ways _ (stops (omega arith)) (ap (λ k. is_in_line (get_or text k 0)) first ∙ ap is_in_line opened.first_slash))
    ] in
    let past_second : 1 < n =
    elim (cases_lt 1 n) [
      | inl some ↦ some
      | inr none ↦
          let second : n ≡ 1 = omega arith in
          absurd (both_ways _ (stops (omega arith)) (ap (λ k. is_in_line (get_or text k 0)) second ∙ ap is_in_line opened.second_slash))
    ] in
    record {
      within = within;
      lexeme = record {
        long = omega (arith, length-take-le n text within);
        first_slash = get_or-take n text 0 0 past_first ∙ opened.first_slash;
        second_slash = get_or-take n text 1 0 past_second ∙ opened.second_slash;
        one_line = All-weaker (λ b. IsTrue (is_in_line b)) (λ b. b ≡ 10 → ⊥) (λ b pass feed. both_ways _ (ap is_in_line feed) pass) (take n text) (subst (λ k. All (λ b. IsTrue (is_in_line b)) (take k text)) (sym run) (All-run is_in_line text));
      };
      ended = λ inside. eqb-true (get_or text n 0) 10 (not-false _ (stops inside));
    }
