-- The bytes copied are those from the place that reads have come to, and the bytes past them are left.
use Rattle.std.proofs.Common.{◌≡◌, ℕ, ◌+◌, ◌≤◌, List, ◌++◌, length, take, drop, Some, sym, ap, ◌∙◌, arith}
use Rattle.std.proofs.lemmas.List.{take_rest, take-append-drop, take-append-le, drop-drop}
use Rattle.std.proofs.Math.Seq.{take-add, take-append-add}
use Rattle.std.proofs.lemmas.Grind.{common_steps}
use borrow.Rule.Slice.PartMut.{put_mid, post_of}
use Rattle.std.specs.List.{between}

-- the bytes copied, then those that are past them
pub left_parted : (bytes to : List ℕ) (p n : ℕ) → take n to ≡ take n (between p (length bytes) bytes) → Some (drop p bytes) ≡ Some (take n to ++ drop (p + n) bytes)
left_parted bytes to p n copied = ap (λ (l : List ℕ). Some l) (sym parts)
  where
    parts : take n to ++ drop (p + n) bytes ≡ drop p bytes
    parts = ap (λ (l : List ℕ). l ++ drop (p + n) bytes) (copied ∙ ap (λ (l : List ℕ). take n l) (take_rest bytes p))
        ∙ ap (λ (l : List ℕ). take n (drop p bytes) ++ l) (sym (drop-drop n p bytes)) ∙ take-append-drop n (drop p bytes)

-- the bytes given before, then those copied
pub taken_parted : (bytes to : List ℕ) (p n : ℕ) → take n to ≡ take n (between p (length bytes) bytes) → Some (take (p + n) bytes) ≡ Some (take p bytes ++ take n to)
taken_parted bytes to p n copied = ap (λ (l : List ℕ). Some l)
    (take-add p n bytes ∙ ap (λ (l : List ℕ). take p bytes ++ l) (sym (copied ∙ ap (λ (l : List ℕ). take n l) (take_rest bytes p))))

-- the prefix up to the place, then the bytes copied over what was there
pub written_over : (room to piece : List ℕ) (a n k : ℕ) → a ≤ length room → n ≤ length to → take n to ≡ take n piece → take (a + n) (put_mid a k room to) ≡ take a room ++ take n piece
written_over room to piece a n k within copies copied =
    let prefix : length (take a room) ≡ a = grind (arith, common_steps) in
    ap (λ (m : ℕ). take (m + n) (put_mid a k room to)) (sym prefix)
    ∙ take-append-add (take a room) (to ++ post_of a k room) n
    ∙ ap (λ (l : List ℕ). take a room ++ l) (take-append-le n to (post_of a k room) copies ∙ copied)
