-- The values of a message's signals, taken signal by signal.
use Rattle.std.proofs.Common.{◌≡◌, ◌∙◌, sym, ap, ℕ, suc, ◌+◌, ◌<◌, ℤ, List, [], ◌∷◌, ◌++◌, ◌≤◌, length, drop, get_or, drop-cons, add-one, append_assoc, refl, Option, Some, None}
use Rattle.std.proofs.lemmas.List.{drop_all, append-nil}
use Rattle.std.specs.List.{filter_map, enumerate_from, cons_option}
use Rattle.multiplex_tree.specs.declared.mark.Parent.{Parent}
use Rattle.bench_model.specs.declared.database.Signal.{Signal}
use Rattle.bench_model.specs.declared.database.Message.{Message}
use Rattle.bench_model.specs.declared.reading.SignalValue.{SignalValue}
use Rattle.bench_model.specs.Meaning.{active_value, raw_values, active_values}

-- before the first signal all are left
pub none_yet : (bytes : List ℕ) (m : Message) (signals : List Signal) (values : List SignalValue) → signals ≡ m.signals → values ≡ [] →
    values ++ filter_map (active_value bytes m.tree.parents (raw_values bytes m.signals)) (enumerate_from 0 (drop 0 signals)) ≡ active_values bytes m
unfolding active_values
none_yet bytes m signals values same empty = rw (same, empty) refl

drop_first : {X : Type 0} (xs : List X) (i : ℕ) (x : X) → i < length xs → get_or xs i x ≡ x → drop i xs ≡ x ∷ drop (i + 1) xs
drop_first xs i x h e = rw add-one (drop-cons xs i x h ∙ rw e refl)

joined : {X : Type 0} (values rest : List X) (o : Option X) → (values ++ cons_option o []) ++ rest ≡ values ++ cons_option o rest
joined values rest None = rw (append-nil values) refl
joined values rest (Some x) = append_assoc values (x ∷ []) rest

-- one signal more
one_more : {X Y : Type 0} (f : ℕ × X → Option Y) (xs : List X) (values all : List Y) (i : ℕ) (x : X) (o : Option Y) →
    i < length xs → get_or xs i x ≡ x → f (i, x) ≡ o → values ++ filter_map f (enumerate_from i (drop i xs)) ≡ all →
    (values ++ cons_option o []) ++ filter_map f (enumerate_from (i + 1) (drop (i + 1) xs)) ≡ all
one_more f xs values all i x o h e made so_far =
    let first : drop i xs ≡ x ∷ drop (i + 1) xs = drop_first xs i x h e in
    joined values _ o ∙ (rw (first, made) at so_far)

-- with the next signal's value, where it has one
pub next_value : (bytes : List ℕ) (m : Message) (signals : List Signal) (raws : List (Option ℤ)) (values after : List SignalValue) (i : ℕ) (s : Signal) (o : Option SignalValue) →
    i < length signals → s ≡ get_or signals i s → raws ≡ raw_values bytes signals → signals ≡ m.signals → o ≡ active_value bytes m.tree.parents raws (i, s) →
    after ≡ values ++ cons_option o [] →
    values ++ filter_map (active_value bytes m.tree.parents (raw_values bytes m.signals)) (enumerate_from i (drop i signals)) ≡ active_values bytes m →
    after ++ filter_map (active_value bytes m.tree.parents (raw_values bytes m.signals)) (enumerate_from (i + 1) (drop (i + 1) signals)) ≡ active_values bytes m
next_value bytes m signals raws values after i s o h e read same made is so_far =
    rw is (one_more (active_value bytes m.tree.parents (raw_values bytes m.signals)) signals values (active_values bytes m) i s o h (sym e)
    (rw (← same, ← read) (sym made)) so_far)

-- after the last signal none is left
pub none_left : (bytes : List ℕ) (m : Message) (signals : List Signal) (values : List SignalValue) (i : ℕ) → signals ≡ m.signals → length signals ≤ i →
    values ++ filter_map (active_value bytes m.tree.parents (raw_values bytes m.signals)) (enumerate_from i (drop i signals)) ≡ active_values bytes m →
    values ≡ active_values bytes m
none_left bytes m signals values i same past so_far =
    let none : drop i signals ≡ [] = drop_all i signals past in
    sym (append-nil values) ∙ (rw none at so_far)

-- what a value, or none, adds
pub pushed : {X : Type 0} (after values : List X) (o : Option X) (x : X) → o ≡ Some x → after ≡ values ++ x ∷ [] → after ≡ values ++ cons_option o []
pushed after values o x e is = rw e is

pub passed_over : {X : Type 0} (after values : List X) (o : Option X) → o ≡ None → after ≡ values → after ≡ values ++ cons_option o []
passed_over after values o e is = rw e (is ∙ sym (append-nil values))
