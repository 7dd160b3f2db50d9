-- An element taken out of a list, changed and put back at its place.
use Rattle.std.proofs.Common.{◌≡◌, ℕ, zero, suc, ◌<◌, false, List, [], ◌∷◌, ◌++◌, length, take, drop, get_or, map, Some, refl, sym, ap, ◌∙◌, arith}
use Rattle.std.specs.Prelude.{insert, remove, slice_get}
use Rattle.port_io.specs.OtherSide.{SourceState}
use Rattle.bench_text.specs.BusAt.{HasLog}

pub replaced : {S T : Type 0} (f : S → T) (items : List S) (i : ℕ) (y : S) → i < length items
    → map f (insert (remove items i) i y) ≡ take i (map f items) ++ f y ∷ drop (suc i) (map f items)
replaced f [] i y h = absurd (omega arith)
replaced f (x ∷ xs) zero y h = refl
replaced {T = T} f (x ∷ xs) (suc i) y h = ap (λ (l : List T). f x ∷ l) (replaced f xs i y (omega arith))

-- the list before and after
pub parted_before : {S T : Type 0} (f : S → T) (items : List S) (i : ℕ) (x : S) → x ≡ get_or items i x → i < length items
    → map f items ≡ take i (map f items) ++ f x ∷ drop (suc i) (map f items)
parted_before f [] i x e h = absurd (omega arith)
parted_before {T = T} f (z ∷ xs) zero x e h = ap (λ s. f s ∷ map f xs) (sym e)
parted_before {T = T} f (z ∷ xs) (suc i) x e h = ap (λ (l : List T). f z ∷ l) (parted_before f xs i x e (omega arith))

pub parted_after : {S T : Type 0} (f : S → T) (items removed now : List S) (i : ℕ) (y : S) → removed ≡ remove items i
    → now ≡ insert removed i y → i < length items → map f now ≡ take i (map f items) ++ f y ∷ drop (suc i) (map f items)
parted_after {S} f items removed now i y r n h = ap (map f) (n ∙ ap (λ (l : List S). insert l i y) r) ∙ replaced f items i y h

-- what does not change of the element does not change of the list
pub same_after : {S T : Type 0} (f : S → T) (items removed now : List S) (i : ℕ) (x y : S) → x ≡ get_or items i x
    → removed ≡ remove items i → now ≡ insert removed i y → i < length items → f y ≡ f x → map f now ≡ map f items
same_after {S} {T} f items removed now i x y e r n h same =
    parted_after f items removed now i y r n h ∙ ap (λ t. take i (map f items) ++ t ∷ drop (suc i) (map f items)) same
    ∙ sym (parted_before f items i x e h)

pub length_before : {S T : Type 0} (f : S → T) (items : List S) (i : ℕ) → i < length items → length (take i (map f items)) ≡ i
length_before f [] i h = absurd (omega arith)
length_before f (x ∷ xs) zero h = refl
length_before f (x ∷ xs) (suc i) h = ap suc (length_before f xs i (omega arith))

some_same : {A : Type 0} (x y : A) → Some x ≡ Some y → x ≡ y
some_same x y e = cc

get_here : {S T : Type 0} (f : S → T) (items : List S) (i : ℕ) (x : S) → x ≡ get_or items i x → i < length items
    → slice_get (map f items) i ≡ Some (f x)
get_here f [] i x e h = absurd (omega arith)
get_here f (z ∷ xs) zero x e h = ap (λ s. Some (f s)) (sym e)
get_here f (z ∷ xs) (suc i) x e h = get_here f xs i x e (omega arith)

-- the log that was taken out has not ended
pub not_ended : {S : Type 0} (f : S → SourceState) (items : List S) (i : ℕ) (x : S) → HasLog i (map f items) → x ≡ get_or items i x
    → i < length items → (f x).ended ≡ false
not_ended f items i x l e h =
    let same : f x ≡ l.0 = some_same (f x) l.0 (sym (get_here f items i x e h) ∙ l.1) in
    ap (λ (s : SourceState). s.ended) same ∙ l.2
