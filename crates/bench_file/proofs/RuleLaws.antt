-- Lines that keep the rules keep them with one line more exactly where that line is of a form, and its bus and its number are
-- new; and so do the lines before any of them.
use Rattle.std.proofs.Common.{◌≡◌, ◌⊎◌, ℕ, zero, suc, ◌+◌, ◌<◌, ◌≤◌, Bool, true, false, List, [], ◌∷◌, ◌++◌, length, get_or, refl, sym, ap, ◌∙◌, arith, inl, inr}
use Rattle.std.specs.Prelude.{◌≢◌, ◌==◌, ◌&&◌, flat_map, AllPairs}
use Rattle.std.specs.List.{list_all, list_any}
use Rattle.std.specs.Str.{bytes_eq}
use Rattle.std.proofs.lemmas.Bool.{cases_Bool, cases_lt, and_parts}
use Rattle.std.proofs.lemmas.Grind.{flat_map-append}
use Rattle.std.proofs.lemmas.List.{append-nil, length-append}
use Rattle.std.proofs.lemmas.List.Folds.{list_all-append, list_any_at, Any-from_list_any}
use Rattle.std.proofs.lemmas.List.Quantifiers.{all_pairs_push}
use Rattle.std.proofs.lemmas.Slice.Eq.{bytes_eq-Decides}
use Rattle.std.proofs.Math.ListN.{get_or-append}
use Rattle.std.proofs.Math.Seq.{get_or-append_seam}
use Rattle.bench_model.specs.ValidBench.{most_buses}
use Rattle.bench_file.specs.declared.plan.PlannedBus.{PlannedBus}
use Rattle.bench_file.specs.declared.setting.Setting.{Setting}
use Rattle.bench_file.specs.declared.setting.Setting.TheVariants as settings
use Rattle.bench_file.specs.Settings.{is_same}
use Rattle.bench_file.specs.LineMeaning.{LineMeaning, PassedOver, NamesBus, SetsNumber, OtherForm}
use Rattle.bench_file.specs.PlanOf.{has_form, bus_in, buses_of, number_in, numbers_of, KeepRules}

abbrev pub NamesDiffer : PlannedBus → PlannedBus → Type 0
NamesDiffer a b = a.name ≢ b.name

-- a bus of this name is among those
abbrev pub is_named : List ℕ → List PlannedBus → Bool
is_named name buses = list_any (λ (bus : PlannedBus). bytes_eq bus.name name) buses

-- each number is the same as itself alone
pub same_self : (s : Setting) → is_same s s ≡ true
same_self settings.Regions = refl
same_self settings.Words = refl
same_self settings.Ring = refl
same_self settings.Sessions = refl
same_self settings.Desk = refl
same_self settings.Versions = refl

-- two numbers with one place are the same
pub same_setting : (s t : Setting) → is_same s t ≡ true → s ≡ t
same_setting settings.Regions settings.Regions same = refl
same_setting settings.Regions settings.Words same = absurd (cc)
same_setting settings.Regions settings.Ring same = absurd (cc)
same_setting settings.Regions settings.Sessions same = absurd (cc)
same_setting settings.Regions settings.Desk same = absurd (cc)
same_setting settings.Regions settings.Versions same = absurd (cc)
same_setting settings.Words settings.Regions same = absurd (cc)
same_setting settings.Words settings.Words same = refl
same_setting settings.Words settings.Ring same = absurd (cc)
same_setting settings.Words settings.Sessions same = absurd (cc)
same_setting settings.Words settings.Desk same = absurd (cc)
same_setting settings.Words settings.Versions same = absurd (cc)
same_setting settings.Ring settings.Regions same = absurd (cc)
same_setting settings.Ring settings.Words same = absurd (cc)
same_setting settings.Ring settings.Ring same = refl
same_setting settings.Ring settings.Sessions same = absurd (cc)
same_setting settings.Ring settings.Desk same = absurd (cc)
same_setting settings.Ring settings.Versions same = absurd (cc)
same_setting settings.Sessions settings.Regions same = absurd (cc)
same_setting settings.Sessions settings.Words same = absurd (cc)
same_setting settings.Sessions settings.Ring same = absurd (cc)
same_setting settings.Sessions settings.Sessions same = refl
same_setting settings.Sessions settings.Desk same = absurd (cc)
same_setting settings.Sessions settings.Versions same = absurd (cc)
same_setting settings.Desk settings.Regions same = absurd (cc)
same_setting settings.Desk settings.Words same = absurd (cc)
same_setting settings.Desk settings.Ring same = absurd (cc)
same_setting settings.Desk settings.Sessions same = absurd (cc)
same_setting settings.Desk settings.Desk same = refl
same_setting settings.Desk settings.Versions same = absurd (cc)
same_setting settings.Versions settings.Regions same = absurd (cc)
same_setting settings.Versions settings.Words same = absurd (cc)
same_setting settings.Versions settings.Ring same = absurd (cc)
same_setting settings.Versions settings.Sessions same = absurd (cc)
same_setting settings.Versions settings.Desk same = absurd (cc)
same_setting settings.Versions settings.Versions same = refl

empty_list : (xs : List ℕ) → length xs ≤ 0 → xs ≡ []
empty_list [] none = refl
empty_list (x ∷ xs) none = absurd (omega arith)

-- no line at all
pub rules_of_none : KeepRules []
rules_of_none = record {
  forms = refl;
  buses = omega arith;
  names = λ i j d before within. absurd (omega arith);
  once = λ s. omega arith;
}

pub buses-more : (lines : List LineMeaning) (line : LineMeaning) → buses_of (lines ++ line ∷ []) ≡ buses_of lines ++ bus_in line
buses-more lines line = flat_map-append bus_in lines (line ∷ []) ∙ ap (λ bs. buses_of lines ++ bs) (append-nil (bus_in line))

pub numbers-more : (s : Setting) (lines : List LineMeaning) (line : LineMeaning) → numbers_of s (lines ++ line ∷ []) ≡ numbers_of s lines ++ number_in s line
numbers-more s lines line = flat_map-append (number_in s) lines (line ∷ []) ∙ ap (λ ns. numbers_of s lines ++ ns) (append-nil (number_in s line))

forms-more : (lines : List LineMeaning) (line : LineMeaning) → list_all has_form (lines ++ line ∷ []) ≡ (list_all has_form lines && (has_form line && true))
forms-more lines line = list_all-append has_form lines (line ∷ [])

-- a line that is passed over
pub keep_passed : (lines : List LineMeaning) → KeepRules lines → KeepRules (lines ++ PassedOver ∷ [])
keep_passed lines k =
    let same : buses_of (lines ++ PassedOver ∷ []) ≡ buses_of lines = buses-more lines PassedOver ∙ append-nil (buses_of lines) in
    record {
      forms = forms-more lines PassedOver ∙ ap (λ b. b && true) k.forms;
      buses = rw same k.buses;
      names = rw same k.names;
      once = λ s. rw (numbers-more s lines PassedOver, append-nil (numbers_of s lines)) (k.once s);
    }

-- a line of another form
pub breaks_form : (lines : List LineMeaning) → KeepRules (lines ++ OtherForm ∷ []) → ⊥
breaks_form lines k =
    let parts = and_parts (list_all has_form lines) false (sym (forms-more lines OtherForm) ∙ k.forms) in
    absurd (cc (parts.1))

-- a name that no bus has
not_named : (name : List ℕ) (buses : List PlannedBus) (k : ℕ) (d : PlannedBus) → is_named name buses ≡ false → k < length buses → (get_or buses k d).name ≢ name
not_named name buses k d none within same =
    let found : bytes_eq (get_or buses k d).name name ≡ true = (bytes_eq-Decides (get_or buses k d).name name).1 same in
    let named : is_named name buses ≡ true = list_any_at (λ (bus : PlannedBus). bytes_eq bus.name name) buses k d within found in
    absurd (cc)

-- a line of a bus
pub keep_bus : (lines : List LineMeaning) (bus : PlannedBus) → length (buses_of lines) < most_buses → is_named bus.name (buses_of lines) ≡ false → KeepRules lines
    → KeepRules (lines ++ NamesBus bus ∷ [])
keep_bus lines bus room new k =
    let more : buses_of (lines ++ NamesBus bus ∷ []) ≡ buses_of lines ++ bus ∷ [] = buses-more lines (NamesBus bus) in
    record {
      forms = forms-more lines (NamesBus bus) ∙ ap (λ b. b && true) k.forms;
      buses = rw (more, length-append (buses_of lines) (bus ∷ [])) (omega arith);
      names = rw more (all_pairs_push NamesDiffer (buses_of lines) bus k.names (λ i d within. not_named bus.name (buses_of lines) i d new within));
      once = λ s. rw (numbers-more s lines (NamesBus bus), append-nil (numbers_of s lines)) (k.once s);
    }

pub breaks_number_of_buses : (lines : List LineMeaning) (bus : PlannedBus) → most_buses ≤ length (buses_of lines) → KeepRules (lines ++ NamesBus bus ∷ []) → ⊥
breaks_number_of_buses lines bus full k =
    let more : buses_of (lines ++ NamesBus bus ∷ []) ≡ buses_of lines ++ bus ∷ [] = buses-more lines (NamesBus bus) in
    let within : length (buses_of lines ++ bus ∷ []) ≤ most_buses = rw more at k.buses in
    absurd (omega (arith, length-append (buses_of lines) (bus ∷ []), within))

pub breaks_name : (lines : List LineMeaning) (bus : PlannedBus) → is_named bus.name (buses_of lines) ≡ true → KeepRules (lines ++ NamesBus bus ∷ []) → ⊥
breaks_name lines bus named k =
    let more : buses_of (lines ++ NamesBus bus ∷ []) ≡ buses_of lines ++ bus ∷ [] = buses-more lines (NamesBus bus) in
    let differ : AllPairs NamesDiffer (buses_of lines ++ bus ∷ []) = rw more at k.names in
    let found = Any-from_list_any (λ (b : PlannedBus). bytes_eq b.name bus.name) (buses_of lines) named in
    let within : found.0 < length (buses_of lines ++ bus ∷ []) = omega (arith, length-append (buses_of lines) (bus ∷ []), found.2) in
    let last : length (buses_of lines) < length (buses_of lines ++ bus ∷ []) = omega (arith, length-append (buses_of lines) (bus ∷ [])) in
    let first : get_or (buses_of lines ++ bus ∷ []) found.0 found.1 ≡ found.1 = get_or-append (buses_of lines) (bus ∷ []) found.1 found.0 found.2 ∙ found.3 in
    let second : get_or (buses_of lines ++ bus ∷ []) (length (buses_of lines)) found.1 ≡ bus = get_or-append_seam (buses_of lines) bus [] found.1 in
    let same : found.1.name ≡ bus.name = (bytes_eq-Decides found.1.name bus.name).0 found.4 in
    differ found.0 (length (buses_of lines)) found.1 found.2 last (ap (λ (b : PlannedBus). b.name) first ∙ same ∙ sym (ap (λ (b : PlannedBus). b.name) second))

-- a line of a number
pub keep_number : (lines : List LineMeaning) (s : Setting) (n : ℕ) → numbers_of s lines ≡ [] → KeepRules lines → KeepRules (lines ++ SetsNumber s n ∷ [])
keep_number lines s n none k =
    let same : buses_of (lines ++ SetsNumber s n ∷ []) ≡ buses_of lines = buses-more lines (SetsNumber s n) ∙ append-nil (buses_of lines) in
    record {
      forms = forms-more lines (SetsNumber s n) ∙ ap (λ b. b && true) k.forms;
      buses = rw same k.buses;
      names = rw same k.names;
      once = λ t. elim (cases_Bool (is_same t s)) [
        | inl here ↦ rw (numbers-more t lines (SetsNumber s n), same_setting t s here, none, same_self s) (omega arith)
        | inr other ↦ rw (numbers-more t lines (SetsNumber s n), other, append-nil (numbers_of t lines)) (k.once t)
      ];
    }

pub breaks_once : (lines : List LineMeaning) (s : Setting) (n : ℕ) → 1 ≤ length (numbers_of s lines) → KeepRules (lines ++ SetsNumber s n ∷ []) → ⊥
breaks_once lines s n some k =
    let more : numbers_of s (lines ++ SetsNumber s n ∷ []) ≡ numbers_of s lines ++ n ∷ [] = rw (numbers-more s lines (SetsNumber s n), same_self s) refl in
    let within : length (numbers_of s lines ++ n ∷ []) ≤ 1 = rw more at (k.once s) in
    absurd (omega (arith, length-append (numbers_of s lines) (n ∷ []), within))

-- one line more keeps the rules or breaks one
pub keep_or_break : (lines : List LineMeaning) (line : LineMeaning) → KeepRules lines → KeepRules (lines ++ line ∷ []) ⊎ (KeepRules (lines ++ line ∷ []) → ⊥)
keep_or_break lines PassedOver k = inl (keep_passed lines k)
keep_or_break lines OtherForm k = inr (breaks_form lines)
keep_or_break lines (NamesBus bus) k =
    elim (cases_lt (length (buses_of lines)) most_buses) [
      | inr full ↦ inr (breaks_number_of_buses lines bus full)
      | inl room ↦ elim (cases_Bool (is_named bus.name (buses_of lines))) [
        | inl named ↦ inr (breaks_name lines bus named)
        | inr new ↦ inl (keep_bus lines bus room new k)
      ]
    ]
keep_or_break lines (SetsNumber s n) k =
    elim (cases_lt 0 (length (numbers_of s lines))) [
      | inl some ↦ inr (breaks_once lines s n some)
      | inr none ↦ inl (keep_number lines s n (empty_list (numbers_of s lines) none) k)
    ]

-- the lines before any of them keep the rules, too
prefix_pairs : (xs ys : List PlannedBus) → AllPairs NamesDiffer (xs ++ ys) → AllPairs NamesDiffer xs
prefix_pairs xs ys pairs = λ i j d before within.
    let all : j < length (xs ++ ys) = omega (arith, length-append xs ys) in
    rw (← get_or-append xs ys d i (omega arith), ← get_or-append xs ys d j within) (pairs i j d before all)

pub rules_of_prefix : (lines more : List LineMeaning) → KeepRules (lines ++ more) → KeepRules lines
rules_of_prefix lines more k =
    let split : buses_of (lines ++ more) ≡ buses_of lines ++ buses_of more = flat_map-append bus_in lines more in
    let within : length (buses_of lines ++ buses_of more) ≤ most_buses = rw split at k.buses in
    record {
      forms = (and_parts (list_all has_form lines) (list_all has_form more) (sym (list_all-append has_form lines more) ∙ k.forms)).0;
      buses = omega (arith, length-append (buses_of lines) (buses_of more), within);
      names = prefix_pairs (buses_of lines) (buses_of more) (rw split at k.names);
      once = λ s.
          let cut : numbers_of s (lines ++ more) ≡ numbers_of s lines ++ numbers_of s more = flat_map-append (number_in s) lines more in
          let few : length (numbers_of s lines ++ numbers_of s more) ≤ 1 = rw cut at (k.once s) in
          omega (arith, length-append (numbers_of s lines) (numbers_of s more), few);
    }
