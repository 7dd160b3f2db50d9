-- The names in a meaning are those of a message of the database and of its signals.
use Rattle.std.proofs.Common.{◌≡◌, ◌∙◌, sym, ap, ℕ, ◌+◌, ℤ, List, [], ◌∷◌, All, IfSome, Bool, true, false, cond, length, get_or, refl, arith, Option, Some, None}
use Rattle.std.proofs.lemmas.List.{get_or_default}
use Rattle.std.proofs.lemmas.List.Elements.{All-head, All-tail, All-cons}
use Rattle.std.specs.List.{Any, filter_map, enumerate_from, cons_option, slice_get}
use Rattle.std.specs.Option.{option_map}
use Rattle.multiplex_tree.specs.declared.mark.Parent.{Parent}
use Rattle.multiplex_tree.specs.Activity.{is_active}
use Rattle.bench_model.specs.declared.database.Signal.{Signal}
use Rattle.bench_model.specs.declared.database.Message.{Message}
use Rattle.bench_model.specs.declared.database.Bus.{Bus}
use Rattle.bench_model.specs.declared.database.Bench.{Bench}
use Rattle.bench_model.specs.declared.reading.Ask.{Ask}
use Rattle.bench_model.specs.declared.reading.Plain.{Plain}
use Rattle.bench_model.specs.Raw.{raw_value}
use Rattle.bench_model.specs.Meaning.{matching, signal_value, physical, raw_values, active_value, active_values, message_meaning, bus_meaning, bench_meaning}
use Rattle.bench_model.specs.Names.{IsNamedIn, HasNamesOf, HasNamesOnBus, HasNamesAt}
use Rattle.bench_model.proofs.FoundLaws.{IfSome-matching}

-- each element of a list is one of them
pub each_is_one : {X : Type 0} (xs : List X) → All (λ x. Any (λ y. y ≡ x) xs) xs
each_is_one xs = λ k d h. (k, get_or xs k d, h, get_or_default xs k (get_or xs k d) d h, refl)

all_with_places : {X : Type 0} (P : X → Type 0) (n : ℕ) (xs : List X) → All P xs → All (λ (p : ℕ × X). P p.1) (enumerate_from n xs)
all_with_places P n [] h = λ k d past. absurd (omega arith)
all_with_places P n (x ∷ xs) h =
    All-cons (λ (p : ℕ × _). P p.1) (n, x) (enumerate_from (n + 1) xs) (All-head P x xs h) (all_with_places P (n + 1) xs (All-tail P x xs h))

with_option : {Y : Type 0} (P : Y → Type 0) (o : Option Y) (ys : List Y) → IfSome o P → All P ys → All P (cons_option o ys)
with_option P None ys h rest = rest
with_option P (Some y) ys h rest = All-cons P y ys h rest

-- what is kept of a list has what each element's value has
all_kept : {X Y : Type 0} (h : X → Option Y) (P : Y → Type 0) (xs : List X) → All (λ x. IfSome (h x) P) xs → All P (filter_map h xs)
all_kept h P [] all = λ k d past. absurd (omega arith)
all_kept h P (x ∷ xs) all =
    with_option P (h x) (filter_map h xs) (All-head (λ x. IfSome (h x) P) x xs all) (all_kept h P xs (All-tail (λ x. IfSome (h x) P) x xs all))

named_raw : (m : Message) (s : Signal) (o : Option ℤ) → Any (λ (t : Signal). t ≡ s) m.signals → IfSome (option_map (physical s) o) (IsNamedIn m)
named_raw m s None found = tt
named_raw m s (Some raw) found = (found.0, found.1, found.2, found.3, ap (λ (t : Signal). t.name) found.4)

named_if : (m : Message) (active : Bool) (bytes : List ℕ) (s : Signal) → Any (λ (t : Signal). t ≡ s) m.signals → IfSome (cond active (signal_value bytes s) None) (IsNamedIn m)
named_if m true bytes s found = named_raw m s (raw_value s bytes) found
named_if m false bytes s found = tt

named_values : (bytes : List ℕ) (m : Message) → All (IsNamedIn m) (active_values bytes m)
unfolding active_values
named_values bytes m =
    let raws = raw_values bytes m.signals in
    let one : All (λ (x : ℕ × Signal). Any (λ (t : Signal). t ≡ x.1) m.signals) (enumerate_from 0 m.signals) =
    all_with_places (λ (s : Signal). Any (λ (t : Signal). t ≡ s) m.signals) 0 m.signals (each_is_one m.signals) in
    all_kept (active_value bytes m.tree.parents raws) (IsNamedIn m) (enumerate_from 0 m.signals)
    (λ k d h. named_if m (is_active m.tree.parents raws (get_or (enumerate_from 0 m.signals) k d).0) bytes (get_or (enumerate_from 0 m.signals) k d).1 (one k d h))

named_as : (ms : List Message) (bytes : List ℕ) (m : Message) → Any (λ (n : Message). n ≡ m) ms → Any (HasNamesOf (message_meaning bytes m)) ms
named_as ms bytes m found =
    (found.0, found.1, found.2, found.3, rw found.4 (record { message = refl; signals = named_values bytes m }))

named_match : (bytes : List ℕ) (ms : List Message) (o : Option Message) (plain : Plain) → IfSome o (λ m. Any (λ n. n ≡ m) ms) →
    option_map (message_meaning bytes) o ≡ Some plain → Any (HasNamesOf plain) ms
named_match bytes ms None plain found e = cc
named_match bytes ms (Some m) plain found e =
    let is : message_meaning bytes m ≡ plain = cc in
    rw (← is) (named_as ms bytes m found)

named_on : (asked : Ask) (bytes : List ℕ) (o : Option Bus) (plain : Plain) → bus_meaning asked bytes o ≡ Some plain → HasNamesOnBus plain o
named_on asked bytes None plain e = cc
named_on asked bytes (Some bus) plain e =
    let ms = bus.database.messages in
    named_match bytes ms (matching bus.kind asked ms) plain
    (IfSome-matching (λ m. Any (λ n. n ≡ m) ms) bus.kind asked ms (each_is_one ms)) e

pub names_in_a_meaning : (bench : Bench) (place : ℕ) (asked : Ask) (bytes : List ℕ) (plain : Plain) →
    bench_meaning bench place asked bytes ≡ Some plain → HasNamesAt bench place plain
names_in_a_meaning bench place asked bytes plain e = named_on asked bytes (slice_get bench.buses place) plain e
