-- The bytes of a buffer between two places, after a move to its front, a read behind them or a step over the first.
use Rattle.std.proofs.Common.{◌≡◌, ℕ, ◌+◌, ◌-◌, ◌≤◌, List, ◌++◌, length, take, drop, slice_range, refl, sym, ap, ◌∙◌, arith, length-append}
use Rattle.std.proofs.lemmas.List.{append-nil, take_at, drop_at, take-append-le, drop-append-le, drop-take, drop-drop, length-take-le, length-drop}
use Rattle.std.proofs.lemmas.List.Edits.{length-between}
use Rattle.std.specs.List.{copy_within}
use borrow.Rule.Slice.PartMut.{put_mid, post_of}
use lib.Seq.{take-add}

-- after a read behind them
pub grown : (xs ys : List ℕ) (start end k n : ℕ) → start ≤ end → end ≤ length xs → n ≤ length ys
    → slice_range (put_mid end k xs ys) start (end + n) ≡ slice_range xs start end ++ take n ys
grown xs ys start end k n ordered within fits =
    let prefix = length-take-le end xs within in
    let held = drop start (take end xs) in
    let len : length held ≡ end - start = omega (arith, length-drop start (take end xs)) in
    let sum : end + n - start ≡ (end - start) + n = omega arith in
    let parts : end ≡ start + (end - start) = omega arith in
    let same : held ≡ take (end - start) (drop start xs) = ap (λ j. drop start (take j xs)) parts ∙ drop-take start (end - start) xs in
    let after = ys ++ post_of end k xs in
    ap (take (end + n - start)) (drop-append-le start (take end xs) after (omega arith))
    ∙ ap (λ j. take j (held ++ after)) sum ∙ take-add (end - start) n (held ++ after)
    ∙ (rw (take_at held after _ len, drop_at held after _ len, take-append-le n ys (post_of end k xs) fits, same) refl)

pub kept : (xs ys : List ℕ) (start end k : ℕ) → start ≤ end → end ≤ length xs
    → slice_range (put_mid end k xs ys) start end ≡ slice_range xs start end
kept xs ys start end k ordered within =
    let none : end ≡ end + 0 = omega arith in
    ap (slice_range (put_mid end k xs ys) start) none ∙ grown xs ys start end k 0 ordered within (omega arith) ∙ append-nil _

-- after a step over the first
pub consumed : (xs : List ℕ) (start end count : ℕ) → start + count ≤ end
    → slice_range xs (start + count) end ≡ drop count (slice_range xs start end)
consumed xs start end count inside =
    let parts : end - start ≡ count + (end - (start + count)) = omega arith in
    sym (ap (λ j. drop count (take j (drop start xs))) parts ∙ drop-take count _ (drop start xs)
    ∙ ap (take (end - (start + count))) (drop-drop count start xs))

-- after a move to the front
pub moved : (xs : List ℕ) (start end : ℕ) → start ≤ end → end ≤ length xs → slice_range (copy_within xs start end 0) 0 (end - start) ≡ slice_range xs start end
moved xs start end ordered within =
    let prefix = take (end - start) (drop start xs) in
    let long : length prefix ≡ end - start - 0 = omega (arith, length-between xs start end within) in
    take_at prefix (drop (0 + (end - start)) xs) (end - start - 0) long

-- a buffer keeps its length over a read
pub filled : (xs ys old : List ℕ) (n a k : ℕ) → n ≡ length xs → length ys ≡ k → a + k ≤ length xs → take n (put_mid a k xs ys ++ drop (length (put_mid a k xs ys)) old) ≡ put_mid a k xs ys
filled xs ys old n a k len part fits =
    let whole : length (put_mid a k xs ys) ≡ n =
    omega (arith, length-append (take a xs) (ys ++ drop k (drop a xs)), length-append ys (drop k (drop a xs)), length-take-le a xs (omega arith), length-drop a xs, length-drop k (drop a xs)) in
    take_at (put_mid a k xs ys) (drop (length (put_mid a k xs ys)) old) n whole
