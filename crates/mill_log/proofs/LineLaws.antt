-- The lines of a log's pieces, one behind another, are those of the log.
use Rattle.std.proofs.Common.{◌≡◌, ◌∙◌, ℕ, zero, suc, ◌+◌, ◌⊎◌, inl, inr, Bool, true, false, List, [], ◌∷◌, ◌++◌, refl, ap, sym, append_assoc}
use Rattle.std.specs.Prelude.{◌==◌, codes}
use Rattle.std.specs.List.{flat_map}
use Rattle.std.proofs.lemmas.Bool.{cases_Bool, cond-true, cond-false}
use Rattle.byte_forms.specs.Hexadecimal.{hex_digits}
use Rattle.byte_forms.specs.Lines.{onto_first, all_lines}
use Rattle.mill_log.specs.GeneratedLog.{frame_number, identifier_of, low_bytes, line_prefix, line_of_frame, log_from}
use Rattle.mill_log.proofs.LogLaws.{log_append}

-- a text that ends in a line feed has a line
some_line : (x : List ℕ) → (line : List ℕ) × (lines : List (List ℕ)) × (all_lines (x ++ 10 ∷ []) ≡ line ∷ lines)
unfolding all_lines
some_line [] = ([], [], refl)
some_line (b ∷ x) =
    let r = some_line x in
    let later = all_lines (x ++ 10 ∷ []) in
    elim (cases_Bool (b == 10)) [
      | inl e ↦ ([], later, cond-true (b == 10) ([] ∷ later) (onto_first b later) e)
      | inr e ↦ (b ∷ r.0, r.1, cond-false (b == 10) ([] ∷ later) (onto_first b later) e ∙ ap (onto_first b) r.2)
    ]

-- behind a line feed the lines are those of what is there
lines_append : (x ys : List ℕ) → all_lines (x ++ 10 ∷ ys) ≡ all_lines (x ++ 10 ∷ []) ++ all_lines ys
unfolding all_lines
lines_append [] ys = refl
lines_append (b ∷ x) ys =
    let r = some_line x in
    let first = all_lines (x ++ 10 ∷ []) in
    let whole = all_lines (x ++ 10 ∷ ys) in
    let later = all_lines ys in
    elim (cases_Bool (b == 10)) [
      | inl e ↦ cond-true (b == 10) ([] ∷ whole) (onto_first b whole) e ∙ ap (λ ls. [] ∷ ls) (lines_append x ys)
          ∙ ap (λ ls. ls ++ later) (sym (cond-true (b == 10) ([] ∷ first) (onto_first b first) e))
      | inr e ↦ cond-false (b == 10) ([] ∷ whole) (onto_first b whole) e
          ∙ ap (onto_first b) (lines_append x ys ∙ ap (λ ls. ls ++ later) r.2)
          ∙ ap (λ ls. ls ++ later) (sym (cond-false (b == 10) ([] ∷ first) (onto_first b first) e ∙ ap (onto_first b) r.2))
    ]

-- the line of a frame ends in a line feed
before_feed : ℕ → ℕ → List ℕ
before_feed i x = line_prefix i ++ (hex_digits 3 (identifier_of x) ++ (codes "#" ++ flat_map (hex_digits 2) (low_bytes 8 x)))

regroup : (a b c d e : List ℕ) → a ++ (b ++ (c ++ (d ++ e))) ≡ (a ++ (b ++ (c ++ d))) ++ e
regroup a b c d e = sym (simp append_assoc)

line_ends : (i x : ℕ) → line_of_frame i x ≡ before_feed i x ++ 10 ∷ []
unfolding line_of_frame before_feed
line_ends i x = regroup (line_prefix i) (hex_digits 3 (identifier_of x)) (codes "#") (flat_map (hex_digits 2) (low_bytes 8 x)) (10 ∷ [])

behind_line : (i x : ℕ) (ys : List ℕ) → all_lines (line_of_frame i x ++ ys) ≡ all_lines (line_of_frame i x) ++ all_lines ys
behind_line i x ys =
    ap (λ line. all_lines (line ++ ys)) (line_ends i x)
    ∙ ap all_lines (append_assoc (before_feed i x) (10 ∷ []) ys)
    ∙ lines_append (before_feed i x) ys
    ∙ ap (λ line. all_lines line ++ all_lines ys) (sym (line_ends i x))

behind_log : (seed a n : ℕ) (ys : List ℕ) → all_lines (log_from seed a n ++ ys) ≡ all_lines (log_from seed a n) ++ all_lines ys
unfolding log_from all_lines
behind_log seed a zero ys = refl
behind_log seed a (suc n) ys =
    let line = line_of_frame a (frame_number seed a) in
    let rest = log_from seed (a + 1) n in
    ap all_lines (append_assoc line rest ys)
    ∙ behind_line a (frame_number seed a) (rest ++ ys)
    ∙ ap (λ ls. all_lines line ++ ls) (behind_log seed (a + 1) n ys)
    ∙ sym (append_assoc (all_lines line) (all_lines rest) (all_lines ys))
    ∙ ap (λ ls. ls ++ all_lines ys) (sym (behind_line a (frame_number seed a) rest))

pub lines_of_pieces : (seed a n m : ℕ) → all_lines (log_from seed a (n + m)) ≡ all_lines (log_from seed a n) ++ all_lines (log_from seed (a + n) m)
lines_of_pieces seed a n m = ap all_lines (log_append seed a n m) ∙ behind_log seed a n (log_from seed (a + n) m)
