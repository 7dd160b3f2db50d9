-- A visitor that is given the values of a message's signals one after another was given all of them.
use Rattle.std.proofs.Common.{◌≡◌, ◌∙◌, ℕ, ◌+◌, ◌<◌, ◌≤◌, true, false, Bool, List, [], ◌∷◌, ◌++◌, length, drop, Option, Some, None, refl, ap, sym, subst, append_assoc, append-nil}
use Rattle.std.specs.List.{filter_map, enumerate_from}
use Rattle.std.specs.Option.{option_to_list}
use Rattle.bench_model.specs.declared.database.Message.{Message}
use Rattle.bench_model.specs.declared.reading.SignalValue.{SignalValue}
use Rattle.bench_model.specs.declared.reading.Plain.{Plain}
use Rattle.bench_model.specs.Meaning.{raw_values, active_value, active_values}
use Rattle.image_words.specs.declared.decoding.Collected.{Collected}
use Rattle.image_words.specs.Reading.{SignalsAt, IsValueAt}
use Rattle.image_words.specs.Visits.{Run, IsGivenMatch}
use Rattle.image_words.specs.Buffers.{if_there, collects_name, collects_value}
use Rattle.image_words.proofs.SearchLaws.{drop_past}
use Rattle.image_words.proofs.ActiveLaws.{signal_of}
use Rattle.image_words.proofs.DecodeLaws.{values_more}

pub run_none : {S X : Type 0} (step : S → X → S → Type 0) (a : S) → Run step a [] a
unfolding Run
run_none step a = refl

pub run_one : {S X : Type 0} (step : S → X → S → Type 0) (a b : S) (x : X) → step a x b → Run step a (x ∷ []) b
unfolding Run
run_one step a b x h = (b, h, refl)

pub run_joined : {S X : Type 0} (step : S → X → S → Type 0) (a b c : S) (xs ys : List X) → Run step a xs b → Run step b ys c → Run step a (xs ++ ys) c
unfolding Run
run_joined {S = S} step a b c [] ys h k = let P : S → Type 0 = λ s. Run step s ys c in subst P h k
run_joined step a b c (x ∷ xs) ys h k = (h.0, h.1, run_joined step h.0 b c xs ys h.2 k)

-- where a value is there, the visitor was given it, and else nothing
pub gives_nothing : {S X : Type 0} (step : S → X → S → Type 0) (a : S) (there : Bool) (x : X) → there ≡ false → Run step a (option_to_list (if_there there x)) a
gives_nothing step a there x e = rw e (run_none step a)

pub gives_one : {S X : Type 0} (step : S → X → S → Type 0) (a b : S) (there : Bool) (x : X) → there ≡ true → step a x b → Run step a (option_to_list (if_there there x)) b
gives_one step a b there x e h = rw e (run_one step a b x h)

-- a run over the rest from b makes one over all from a
abbrev pub Leads : {S X : Type 0} → (S → X → S → Type 0) → S → List X → S → List X → Type 0
Leads {S = S} step a all b rest = (end : S) → Run step b rest end → Run step a all end

pub visits_begin : {S : Type 0} (step : S → SignalValue → S → Type 0) (a : S) (bytes : List ℕ) (m : Message) →
    Leads step a (active_values bytes m) a (filter_map (active_value bytes m.tree.parents (raw_values bytes m.signals)) (enumerate_from 0 (drop 0 m.signals)))
unfolding active_values
visits_begin step a bytes m end run = run

pub visits_step : {S : Type 0} (step : S → SignalValue → S → Type 0) (a b c : S) (at count place : ℕ) (bytes image : List ℕ) (m : Message) (v : Option SignalValue) →
    SignalsAt at count image m → place < count → IsValueAt bytes m place v → Run step b (option_to_list v) c →
    Leads step a (active_values bytes m) b (filter_map (active_value bytes m.tree.parents (raw_values bytes m.signals)) (enumerate_from place (drop place m.signals))) →
    Leads step a (active_values bytes m) c (filter_map (active_value bytes m.tree.parents (raw_values bytes m.signals)) (enumerate_from (place + 1) (drop (place + 1) m.signals)))
visits_step step a b c at count place bytes image m v has h is one lead end run =
    let s = signal_of at count place image m has h in
    let rest : List SignalValue = filter_map (active_value bytes m.tree.parents (raw_values bytes m.signals)) (enumerate_from (place + 1) (drop (place + 1) m.signals)) in
    let joined : option_to_list v ++ rest ≡ filter_map (active_value bytes m.tree.parents (raw_values bytes m.signals)) (enumerate_from place (drop place m.signals)) =
    values_more (active_value bytes m.tree.parents (raw_values bytes m.signals)) m.signals place s.0 v [] (option_to_list v)
    (filter_map (active_value bytes m.tree.parents (raw_values bytes m.signals)) (enumerate_from place (drop place m.signals))) s.1 (is s.0 s.1) refl refl in
    let P : List SignalValue → Type 0 = λ values. Run step b values end in
    lead end (subst P joined (run_joined step b c end (option_to_list v) rest one run))

pub visits_end : {S : Type 0} (step : S → SignalValue → S → Type 0) (a b : S) (bytes : List ℕ) (m : Message) (place : ℕ) → length m.signals ≤ place →
    Leads step a (active_values bytes m) b (filter_map (active_value bytes m.tree.parents (raw_values bytes m.signals)) (enumerate_from place (drop place m.signals))) →
    Run step a (active_values bytes m) b
visits_end step a b bytes m place h lead =
    let none : [] ≡ filter_map (active_value bytes m.tree.parents (raw_values bytes m.signals)) (enumerate_from place (drop place m.signals)) =
    ap (λ ys. filter_map (active_value bytes m.tree.parents (raw_values bytes m.signals)) (enumerate_from place ys)) (sym (drop_past m.signals place h)) in
    let P : List SignalValue → Type 0 = λ values. Run step b values b in
    lead b (subst P none (run_none step b))

-- ---- what was collected is the meaning

collected_run : (a b : Collected) (values : List SignalValue) → Run collects_value a values b → (b.name ≡ a.name) × (b.signals.items ≡ a.signals.items ++ values)
unfolding Run
collected_run a b [] h = (ap (λ (c : Collected). c.name) h, ap (λ (c : Collected). c.signals.items) h ∙ sym (append-nil a.signals.items))
collected_run a b (v ∷ values) h =
    let rest = collected_run h.0 b values h.2 in (
      rest.0 ∙ h.1.0,
      rest.1 ∙ ap (λ (items : List SignalValue). items ++ values) h.1.1 ∙ append_assoc a.signals.items (v ∷ []) values,
    )

pub nothing_given : {V : Type 0} (names : V → List ℕ → V → Type 0) (takes : V → SignalValue → V → Type 0) (old new : V) (meaning : Option Plain) (matched : Bool) →
    IsGivenMatch names takes old meaning matched new → matched ≡ false → None ≡ meaning
nothing_given names takes old new None matched h e = refl
nothing_given names takes old new (Some plain) matched h e = let both : true ≡ false = sym h.0 ∙ e in cc

pub collected_is : (old new : Collected) (signals : List SignalValue) (meaning : Option Plain) (matched : Bool) → old.signals.items ≡ [] →
    signals ≡ new.signals.items → IsGivenMatch collects_name collects_value old meaning matched new → matched ≡ true →
    Some (let plain : Plain = record { name = new.name; signals = signals } in plain) ≡ meaning
collected_is old new signals None matched empty same h e = let both : false ≡ true = sym h.0 ∙ e in cc
collected_is old new signals (Some plain) matched empty same h e =
    let run = collected_run h.1.named new plain.signals h.1.signals in
    let name_path : new.name ≡ plain.name = run.0 ∙ h.1.name.0 in
    let signals_path : signals ≡ plain.signals = same ∙ run.1 ∙ ap (λ (items : List SignalValue). items ++ plain.signals) (h.1.name.1 ∙ empty) in
    λ j. Some (record { name = name_path j; signals = signals_path j })
