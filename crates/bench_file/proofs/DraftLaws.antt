-- A draft stands for the lines that it was made of: one line more is added to both, or breaks a rule.
use Rattle.std.proofs.Common.{◌≡◌, ℕ, zero, suc, ◌+◌, ◌-◌, ◌*◌, ◌^◌, ◌<◌, ◌≤◌, Bool, true, false, List, [], ◌∷◌, ◌++◌, length, min, refl, sym, ap, ◌∙◌, arith, inl, inr, ◌⊎◌}
use Rattle.std.specs.Prelude.{Option, Some, None, is_some, cond}
use Rattle.std.proofs.lemmas.Bool.{cases_Bool}
use Rattle.std.proofs.lemmas.List.{append-nil}
use Rattle.bench_model.specs.ValidBench.{most_buses}
use Rattle.bench_file.specs.declared.draft.Draft.{Draft}
use Rattle.bench_file.specs.declared.draft.Numbers.{Numbers}
use Rattle.bench_file.specs.declared.plan.Plan.{Plan}
use Rattle.bench_file.specs.declared.plan.PlannedBus.{PlannedBus}
use Rattle.bench_file.specs.declared.setting.Setting.{Setting}
use Rattle.bench_file.specs.declared.setting.Setting.TheVariants as settings
use Rattle.bench_file.specs.Settings.{default_of, is_same}
use Rattle.bench_file.specs.LineMeaning.{LineMeaning, PassedOver, NamesBus, SetsNumber, OtherForm}
use Rattle.bench_file.specs.PlanOf.{longest_file, most_items, meanings_of, buses_of, numbers_of, first_or, number_of, planned, KeepRules, IsPlan, IsFault, no_bus, many_items}
use Rattle.bench_file.specs.ReadingView.{set_in, or_default, number_or_default, with_number, first_of, Drafts}
use Rattle.bench_file.proofs.RuleLaws.{is_named, buses-more, numbers-more, same_setting, same_self, keep_passed, keep_bus, keep_number, breaks_number_of_buses, breaks_name, breaks_once}

-- the first of numbers, and none where there is none
none_first : (xs : List ℕ) → is_some (first_of xs) ≡ false → xs ≡ []
none_first [] e = refl
none_first (x ∷ xs) e = absurd (cc)

some_first : (xs : List ℕ) → is_some (first_of xs) ≡ true → 1 ≤ length xs
some_first [] e = absurd (cc)
some_first (x ∷ xs) e = omega arith

-- a number that was set is the one that was set
set_of_with : (numbers : Numbers) (s t : Setting) (n : ℕ) → set_in (with_number numbers s n) t ≡ cond (is_same t s) (Some n) (set_in numbers t)
set_of_with numbers settings.Regions settings.Regions n = refl
set_of_with numbers settings.Regions settings.Words n = refl
set_of_with numbers settings.Regions settings.Ring n = refl
set_of_with numbers settings.Regions settings.Sessions n = refl
set_of_with numbers settings.Regions settings.Desk n = refl
set_of_with numbers settings.Regions settings.Versions n = refl
set_of_with numbers settings.Words settings.Regions n = refl
set_of_with numbers settings.Words settings.Words n = refl
set_of_with numbers settings.Words settings.Ring n = refl
set_of_with numbers settings.Words settings.Sessions n = refl
set_of_with numbers settings.Words settings.Desk n = refl
set_of_with numbers settings.Words settings.Versions n = refl
set_of_with numbers settings.Ring settings.Regions n = refl
set_of_with numbers settings.Ring settings.Words n = refl
set_of_with numbers settings.Ring settings.Ring n = refl
set_of_with numbers settings.Ring settings.Sessions n = refl
set_of_with numbers settings.Ring settings.Desk n = refl
set_of_with numbers settings.Ring settings.Versions n = refl
set_of_with numbers settings.Sessions settings.Regions n = refl
set_of_with numbers settings.Sessions settings.Words n = refl
set_of_with numbers settings.Sessions settings.Ring n = refl
set_of_with numbers settings.Sessions settings.Sessions n = refl
set_of_with numbers settings.Sessions settings.Desk n = refl
set_of_with numbers settings.Sessions settings.Versions n = refl
set_of_with numbers settings.Desk settings.Regions n = refl
set_of_with numbers settings.Desk settings.Words n = refl
set_of_with numbers settings.Desk settings.Ring n = refl
set_of_with numbers settings.Desk settings.Sessions n = refl
set_of_with numbers settings.Desk settings.Desk n = refl
set_of_with numbers settings.Desk settings.Versions n = refl
set_of_with numbers settings.Versions settings.Regions n = refl
set_of_with numbers settings.Versions settings.Words n = refl
set_of_with numbers settings.Versions settings.Ring n = refl
set_of_with numbers settings.Versions settings.Sessions n = refl
set_of_with numbers settings.Versions settings.Desk n = refl
set_of_with numbers settings.Versions settings.Versions n = refl

-- a line that is passed over
pub draft_passed : (draft : Draft) (lines : List LineMeaning) (line : LineMeaning) → PassedOver ≡ line → Drafts draft lines → Drafts draft (lines ++ line ∷ [])
draft_passed draft lines line e d =
    rw (← e) (record {
      rules = keep_passed lines d.rules;
      buses = d.buses ∙ sym (buses-more lines PassedOver ∙ append-nil (buses_of lines));
      numbers = λ s. d.numbers s ∙ sym (ap first_of (numbers-more s lines PassedOver ∙ append-nil (numbers_of s lines)));
    })

-- a line of a number
pub refuse_number : (draft : Draft) (lines : List LineMeaning) (s : Setting) (n : ℕ) (found : Option ℕ) → found ≡ set_in draft.numbers s → is_some found ≡ true → Drafts draft lines
    → KeepRules (lines ++ SetsNumber s n ∷ []) → ⊥
refuse_number draft lines s n found is some d =
    breaks_once lines s n (some_first (numbers_of s lines) (sym (ap is_some (is ∙ d.numbers s)) ∙ some))

first_more : (xs : List ℕ) (n : ℕ) → xs ≡ [] → first_of (xs ++ n ∷ []) ≡ Some n
first_more xs n e = rw e refl

numbers_set : (numbers now : Numbers) (lines : List LineMeaning) (s : Setting) (n : ℕ) → now ≡ with_number numbers s n → numbers_of s lines ≡ []
    → ((t : Setting) → set_in numbers t ≡ first_of (numbers_of t lines)) → (t : Setting) → set_in now t ≡ first_of (numbers_of t (lines ++ SetsNumber s n ∷ []))
numbers_set numbers now lines s n set none are t =
    elim (cases_Bool (is_same t s)) [
      | inl here ↦
          let same : t ≡ s = same_setting t s here in
          rw (set, set_of_with numbers s t n, numbers-more t lines (SetsNumber s n), same, same_self s) (sym (first_more (numbers_of s lines) n none))
      | inr other ↦ rw (set, set_of_with numbers s t n, numbers-more t lines (SetsNumber s n), other, append-nil (numbers_of t lines)) (are t)
    ]

pub draft_number : (draft now : Draft) (lines : List LineMeaning) (s : Setting) (n : ℕ) (found : Option ℕ) → found ≡ set_in draft.numbers s → is_some found ≡ false
    → now.buses.items ≡ draft.buses.items → now.numbers ≡ with_number draft.numbers s n → Drafts draft lines → Drafts now (lines ++ SetsNumber s n ∷ [])
draft_number draft now lines s n found is none kept set d =
    let empty : numbers_of s lines ≡ [] = none_first (numbers_of s lines) (sym (ap is_some (is ∙ d.numbers s)) ∙ none) in
    record {
      rules = keep_number lines s n empty d.rules;
      buses = kept ∙ d.buses ∙ sym (buses-more lines (SetsNumber s n) ∙ append-nil (buses_of lines));
      numbers = numbers_set draft.numbers now.numbers lines s n set empty d.numbers;
    }

-- a line of a bus
pub refuse_full : (draft : Draft) (lines : List LineMeaning) (bus : PlannedBus) → most_buses ≤ length draft.buses.items → Drafts draft lines → KeepRules (lines ++ NamesBus bus ∷ []) → ⊥
refuse_full draft lines bus full d = breaks_number_of_buses lines bus (rw (← d.buses) full)

pub refuse_named : (draft : Draft) (lines : List LineMeaning) (bus : PlannedBus) → is_named bus.name draft.buses.items ≡ true → Drafts draft lines → KeepRules (lines ++ NamesBus bus ∷ []) → ⊥
refuse_named draft lines bus named d = breaks_name lines bus (rw (← d.buses) named)

pub draft_bus : (draft now : Draft) (lines : List LineMeaning) (bus : PlannedBus) → length draft.buses.items < most_buses → is_named bus.name draft.buses.items ≡ false
    → now.buses.items ≡ draft.buses.items ++ bus ∷ [] → now.numbers ≡ draft.numbers → Drafts draft lines → Drafts now (lines ++ NamesBus bus ∷ [])
draft_bus draft now lines bus room new pushed kept d = record {
  rules = keep_bus lines bus (rw (← d.buses) room) (rw (← d.buses) new) d.rules;
  buses = pushed ∙ ap (λ bs. bs ++ bus ∷ []) d.buses ∙ sym (buses-more lines (NamesBus bus));
  numbers = λ s. rw kept (d.numbers s) ∙ sym (ap first_of (numbers-more s lines (NamesBus bus) ∙ append-nil (numbers_of s lines)));
}

-- the numbers of a draft are those of its lines
default_first : (s : Setting) (xs : List ℕ) → or_default s (first_of xs) ≡ first_or (default_of s) xs
default_first s [] = refl
default_first s (x ∷ xs) = refl

pub draft_numbers : (draft : Draft) (lines : List LineMeaning) (s : Setting) → Drafts draft lines → number_or_default draft.numbers s ≡ number_of s lines
draft_numbers draft lines s d = ap (or_default s) (d.numbers s) ∙ default_first s (numbers_of s lines)

-- a draft without a bus, and one whose rings hold too many items
empty_list : (buses : List PlannedBus) → length buses ≡ 0 → buses ≡ []
empty_list [] e = refl
empty_list (b ∷ bs) e = absurd (omega arith)

pub no_bus_planned : (draft : Draft) (bytes : List ℕ) → length bytes ≤ longest_file → Drafts draft (meanings_of bytes) → length draft.buses.items ≡ 0 → IsFault bytes 0
no_bus_planned draft bytes short d none = no_bus refl short d.rules (sym d.buses ∙ empty_list draft.buses.items none)

pub many_planned : (draft : Draft) (bytes : List ℕ) (ring items : ℕ) → length bytes ≤ longest_file → Drafts draft (meanings_of bytes) → ring ≡ number_or_default draft.numbers settings.Ring
    → items ≡ min (ring * length draft.buses.items) (2 ^ 64 - 1) → most_items < items → IsFault bytes 0
many_planned draft bytes ring items short d is product many =
    let same : ring ≡ number_of settings.Ring (meanings_of bytes) = is ∙ draft_numbers draft (meanings_of bytes) settings.Ring d in
    let over : most_items < ring * length draft.buses.items = omega arith in
    many_items refl short d.rules (rw (← d.buses, ← same) over)

pub planned_by : (draft : Draft) (bytes : List ℕ) (plan : Plan) (items : ℕ) → length bytes ≤ longest_file → Drafts draft (meanings_of bytes)
    → ((s : Setting) → planned s plan ≡ number_or_default draft.numbers s) → plan.buses ≡ draft.buses.items
    → items ≡ min (plan.ring * length draft.buses.items) (2 ^ 64 - 1) → items ≤ most_items → 1 ≤ length draft.buses.items → IsPlan bytes plan
planned_by draft bytes plan items short d numbers buses product few some = record {
  short = short;
  rules = d.rules;
  buses = buses ∙ d.buses;
  numbers = λ s. numbers s ∙ draft_numbers draft (meanings_of bytes) s d;
  some_bus = rw buses some;
  items = rw buses (omega arith);
}

-- the numbers of a plan, one by one
pub each_number : (plan : Plan) (numbers : Numbers) → plan.regions ≡ number_or_default numbers settings.Regions → plan.words ≡ number_or_default numbers settings.Words
    → plan.ring ≡ number_or_default numbers settings.Ring → plan.sessions ≡ number_or_default numbers settings.Sessions → plan.desk ≡ number_or_default numbers settings.Desk
    → plan.versions ≡ number_or_default numbers settings.Versions → (s : Setting) → planned s plan ≡ number_or_default numbers s
each_number plan numbers a b c d e f settings.Regions = a
each_number plan numbers a b c d e f settings.Words = b
each_number plan numbers a b c d e f settings.Ring = c
each_number plan numbers a b c d e f settings.Sessions = d
each_number plan numbers a b c d e f settings.Desk = e
each_number plan numbers a b c d e f settings.Versions = f
