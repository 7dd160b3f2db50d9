-- The map of notes has the notes on each signal, in file order.
use Rattle.std.proofs.Common.{◌≡◌, ◌∙◌, sym, ap, ℕ, ◌+◌, ◌<◌, List, [], ◌∷◌, ◌++◌, length, get_or, take, Bool, true, false, ◌&&◌, cond, refl, Option, Some, None}
use Rattle.std.specs.Prelude.{if◌then◌else◌, Vec, filter}
use Rattle.std.specs.Borrow.{Bor}
use Rattle.std.specs.declared.alloc.Global.{Global}
use Rattle.std.specs.declared.cmp.Ordering.{Ordering}
use Rattle.std.specs.declared.cmp.Ordering.TheVariants.{Less, Equal, Greater}
use Rattle.std.specs.BTreeMap.{BTreeMap, get_by}
use Rattle.std.specs.Str.{bytes_eq}
use Rattle.std.specs.Ordering.{ordering_then, nat_cmp, is_eq}
use Rattle.std.specs.Cmp.Lexicographic.{slice_cmp}
use Rattle.std.proofs.lemmas.Bool.{and_parts}
use Rattle.std.proofs.lemmas.List.{take_more, append-nil, map-append}
use Rattle.std.proofs.lemmas.List.Elements.{filter-append}
use Rattle.std.proofs.lemmas.Map.Text.{is_eq-slice_cmp}
use Rattle.std.proofs.lemmas.Slice.Eq.{bytes_eq-Decides}
use Rattle.bench_model.specs.declared.database.Key.{Key}
use Rattle.dbc_grammar.specs.declared.statement.Note.{Note}
use Rattle.dbc_grammar.specs.Naming.{same_key}
use Rattle.dbc_grammar.specs.Places.{key_order}
use Rattle.dbc_grammar.specs.Noted.{seen_notes, listed, notes_seen}
use Rattle.dbc_grammar.proofs.PlaceLaws.{same_order, at_same_key}

is_eq-then : (a b : Ordering) → is_eq (ordering_then a b) ≡ (is_eq a && is_eq b)
is_eq-then Less b = refl
is_eq-then Equal b = refl
is_eq-then Greater b = refl

-- a key and a name compare as equal where they are the same
pub same_signal : (a b : Key) (x y : List ℕ) →
    is_eq (ordering_then (key_order (a.extended, a.id) (b.extended, b.id)) (slice_cmp nat_cmp x y)) ≡ (same_key a b && bytes_eq x y)
same_signal a b x y =
    is_eq-then (key_order (a.extended, a.id) (b.extended, b.id)) (slice_cmp nat_cmp x y)
    ∙ ap (λ e. e && is_eq (slice_cmp nat_cmp x y)) (same_order a.extended b.extended a.id b.id)
    ∙ ap (λ e. same_key a b && e) (is_eq-slice_cmp x y)

-- the notes on the same signal are the same
pub at_same_signal : (m : BTreeMap ((Bool × ℕ) × Bor (List ℕ)) (Vec (Bor Note) Global)) (a b : Key) (x y : List ℕ) →
    (same_key a b && bytes_eq x y) ≡ true → notes_seen m b y ≡ notes_seen m a x
at_same_signal m a b x y e =
    let parts = and_parts (same_key a b) (bytes_eq x y) e in
    ap (λ n. notes_seen m b n) (sym ((bytes_eq-Decides x y).0 parts.1))
    ∙ at_same_key (λ p. listed (get_by (λ k. ordering_then (key_order p k.0) (slice_cmp nat_cmp x k.1.now)) m)) a b parts.0

-- what is left where the notes on one signal were taken out
pub taken_out : (b : Bool) (old new : Option (Vec (Bor Note) Global)) → new ≡ cond b None old →
    listed new ≡ (if b then [] else listed old)
taken_out true old new e = ap listed e
taken_out false old new e = ap listed e

-- one more note on one signal
pub one_added : (b : Bool) (v : Vec (Bor Note) Global) (mid new : Option (Vec (Bor Note) Global)) (before : List (Bor Note)) (note : Bor Note) (old_here old_there : List Note) →
    new ≡ cond b (Some v) mid → v.items ≡ before ++ note ∷ [] → seen_notes before ≡ old_there → (b ≡ true → old_here ≡ old_there) →
    listed mid ≡ (if b then [] else old_here) → listed new ≡ old_here ++ (if b then note.now ∷ [] else [])
one_added true v mid new before note here there e items taken same left =
    ap listed e ∙ ap seen_notes items ∙ map-append (λ (n : Bor Note). n.now) before (note ∷ [])
    ∙ ap (λ l. l ++ note.now ∷ []) (taken ∙ sym (same refl))
one_added false v mid new before note here there e items taken same left = ap listed e ∙ left ∙ sym (append-nil here)

-- one more element of a list that a loop filters
pub filtered_more : {A : Type 0} (p : A → Bool) (xs : List A) (i : ℕ) (d : A) (before after : List A) → i < length xs →
    before ≡ filter p (take i xs) → after ≡ before ++ filter p (get_or xs i d ∷ []) → after ≡ filter p (take (i + 1) xs)
filtered_more p xs i d before after below so_far added =
    added ∙ ap (λ l. l ++ filter p (get_or xs i d ∷ [])) so_far
    ∙ sym (filter-append p (take i xs) (get_or xs i d ∷ []))
    ∙ ap (filter p) (sym (take_more xs i d below))
