-- The first of all lines, by the longest run without a line feed.
use Rattle.std.proofs.Common.{◌≡◌, ℕ, suc, ◌-◌, ◌<◌, ◌≤◌, eqb, List, [], ◌∷◌, ◌++◌, length, take, drop, refl, sym, ◌∙◌, arith, inl, inr}
use Rattle.std.specs.Prelude.{take_while}
use Rattle.std.proofs.lemmas.Bool.{cases_Bool, eqb-true, not-false}
use Rattle.std.proofs.lemmas.List.{append-nil}
use Rattle.std.proofs.lemmas.List.Sums.{take_while-cons}
use Rattle.std.proofs.lemmas.Grind.{common_steps}
use Rattle.byte_forms.specs.declared.class.Class.TheVariants as classes
use Rattle.byte_forms.specs.Classes.{is_in, drop_while}
use Rattle.byte_forms.specs.Lines.{all_lines, IsCut}
use Rattle.byte_forms.proofs.RunLaws.{drop_while-cons, drop_while-head}

-- a line feed after the run: the run is the first line, and the others are those of the rest
pub all_lines-cut : (bytes : List ℕ) (b : ℕ) (rest : List ℕ) → drop_while (is_in classes.LineByte) bytes ≡ b ∷ rest → all_lines bytes ≡ take_while (is_in classes.LineByte) bytes ∷ all_lines rest
unfolding all_lines
all_lines-cut [] b rest cut = absurd cc
all_lines-cut (x ∷ xs) b rest cut =
    elim (cases_Bool (eqb x 10)) [
      | inl feed ↦
          let here : x ∷ xs ≡ b ∷ rest = rw (drop_while-cons, feed) at cut in
          let tail : xs ≡ rest = cc in
          rw (take_while-cons, feed, tail) refl
      | inr other ↦
          let later : all_lines xs ≡ take_while (is_in classes.LineByte) xs ∷ all_lines rest = all_lines-cut xs b rest (rw (drop_while-cons, other) at cut) in
          rw (take_while-cons, other, later) refl
    ]

-- no line feed: the text is its only line
pub all_lines-last : (b : ℕ) (bytes : List ℕ) → drop_while (is_in classes.LineByte) (b ∷ bytes) ≡ [] → all_lines (b ∷ bytes) ≡ take_while (is_in classes.LineByte) (b ∷ bytes) ∷ []
unfolding all_lines
all_lines-last b [] end =
    elim (cases_Bool (eqb b 10)) [
      | inl feed ↦ absurd (cc (rw (drop_while-cons, feed) at end))
      | inr other ↦ rw (take_while-cons, other) refl
    ]
all_lines-last b (x ∷ xs) end =
    elim (cases_Bool (eqb b 10)) [
      | inl feed ↦ absurd (cc (rw (drop_while-cons, feed) at end))
      | inr other ↦
          let later : all_lines (x ∷ xs) ≡ take_while (is_in classes.LineByte) (x ∷ xs) ∷ [] = all_lines-last x xs (rw (drop_while-cons, other) at end) in
          rw (take_while-cons, other, later) refl
    ]

-- the same, by what a reader knows of the end that follows the run
pub all_lines-at_end : (bytes end : List ℕ) → 0 < length bytes → end ≡ drop_while (is_in classes.LineByte) bytes → length end < 1 → all_lines bytes ≡ take_while (is_in classes.LineByte) bytes ∷ all_lines end
unfolding all_lines
all_lines-at_end [] end some is nothing = absurd (omega arith)
all_lines-at_end (b ∷ bytes) [] some is nothing = all_lines-last b bytes (sym is)
all_lines-at_end (b ∷ bytes) (x ∷ end) some is nothing = absurd (omega arith)

pub all_lines-behind : (bytes end : List ℕ) → end ≡ drop_while (is_in classes.LineByte) bytes → 1 ≤ length end → all_lines bytes ≡ take_while (is_in classes.LineByte) bytes ∷ all_lines (take (length end - 1) (drop 1 end))
all_lines-behind bytes [] is some = absurd (omega arith)
all_lines-behind bytes (x ∷ end) is some =
    let rest : take (suc (length end) - 1) end ≡ end = grind (arith, common_steps) in
    rw rest (all_lines-cut bytes x end (sym is))

pub IsCut-at_end : (bytes line end : List ℕ) → bytes ≡ line ++ end → length end < 1 → IsCut bytes line end
IsCut-at_end bytes line [] whole nothing = inr (whole ∙ append-nil line, refl)
IsCut-at_end bytes line (x ∷ end) whole nothing = absurd (omega arith)

pub IsCut-behind : (bytes line end : List ℕ) → bytes ≡ line ++ end → end ≡ drop_while (is_in classes.LineByte) bytes → 1 ≤ length end → IsCut bytes line (take (length end - 1) (drop 1 end))
IsCut-behind bytes line [] whole is some = absurd (omega arith)
IsCut-behind bytes line (x ∷ end) whole is some =
    let rest : take (suc (length end) - 1) end ≡ end = grind (arith, common_steps) in
    let feed : x ≡ 10 = eqb-true x 10 (not-false (eqb x 10) (drop_while-head (is_in classes.LineByte) bytes x end (sym is))) in
    rw rest (inl (rw feed at whole))

-- an empty text has no lines
pub all_lines-nil : all_lines [] ≡ []
unfolding all_lines
all_lines-nil = refl
