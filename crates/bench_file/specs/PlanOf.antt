-- The plan that a bench file makes, or the line at which it is faulty.
use Rattle.std.specs.Prelude.{◌≡◌, ◌≢◌, ℕ, ◌+◌, ◌-◌, ◌*◌, ◌<◌, ◌≤◌, Bool, true, false, List, [], ◌∷◌, length, take, map, flat_map, AllPairs, if◌then◌else◌}
use Rattle.std.specs.List.{list_all}
use Rattle.text_words.specs.TextLines.{text_lines}
use Rattle.bench_model.specs.ValidBench.{most_buses}
use Rattle.bench_file.specs.declared.fault.PlanFault.{PlanFault}
use Rattle.bench_file.specs.declared.fault.PlanFault.TheVariants as faults
use Rattle.bench_file.specs.declared.plan.Plan.{Plan}
use Rattle.bench_file.specs.declared.plan.PlannedBus.{PlannedBus}
use Rattle.bench_file.specs.declared.setting.Setting.{Setting}
use Rattle.bench_file.specs.declared.setting.Setting.TheVariants as settings
use Rattle.bench_file.specs.Settings.{default_of, is_same}
use Rattle.bench_file.specs.LineMeaning.{LineMeaning, PassedOver, NamesBus, SetsNumber, OtherForm, is_bus_name, is_file_name, is_file_name_or_none, meaning_of}

-- how many bytes a bench file may have
abbrev pub longest_file : ℕ
longest_file = 65536

-- how many items the rings of a place may hold over all buses
abbrev pub most_items : ℕ
most_items = 16384

-- what the lines of a file say, in order
abbrev pub meanings_of : List ℕ → List LineMeaning
meanings_of bytes = map meaning_of (text_lines bytes)

abbrev pub has_form : LineMeaning → Bool
has_form OtherForm = false
has_form PassedOver = true
has_form (NamesBus bus) = true
has_form (SetsNumber setting n) = true

-- the buses that lines name, in order
abbrev pub bus_in : LineMeaning → List PlannedBus
bus_in (NamesBus bus) = bus ∷ []
bus_in PassedOver = []
bus_in (SetsNumber setting n) = []
bus_in OtherForm = []

abbrev pub buses_of : List LineMeaning → List PlannedBus
buses_of lines = flat_map bus_in lines

-- the numbers that lines set for this one, in order
abbrev pub number_in : Setting → LineMeaning → List ℕ
number_in setting (SetsNumber other n) = if is_same setting other then n ∷ [] else []
number_in setting PassedOver = []
number_in setting (NamesBus bus) = []
number_in setting OtherForm = []

abbrev pub numbers_of : Setting → List LineMeaning → List ℕ
numbers_of setting lines = flat_map (number_in setting) lines

-- Lines that break no rule: each is of a form of the table, there are at most 16 buses, no two of one name, and each number is
-- set by at most one line.
pub record KeepRules (lines : List LineMeaning) : Type 0 where
  pub forms : list_all has_form lines ≡ true
  pub buses : length (buses_of lines) ≤ most_buses
  pub names : AllPairs (λ (a b : PlannedBus). a.name ≢ b.name) (buses_of lines)
  pub once : (setting : Setting) → length (numbers_of setting lines) ≤ 1

-- the line of this number, from 1, is the first that breaks a rule: those before it keep the rules, and with it they don't
pub record IsFirstFault (lines : List LineMeaning) (n : ℕ) : Type 0 where
  pub from_one : 1 ≤ n
  pub within : n ≤ length lines
  pub before : KeepRules (take (n - 1) lines)
  pub breaks : KeepRules (take n lines) → ⊥

-- the number that lines set, or its default
abbrev pub first_or : ℕ → List ℕ → ℕ
first_or default [] = default
first_or default (n ∷ ns) = n

abbrev pub number_of : Setting → List LineMeaning → ℕ
number_of setting lines = first_or (default_of setting) (numbers_of setting lines)

-- the number of a plan
abbrev pub planned : Setting → Plan → ℕ
planned settings.Regions plan = plan.regions
planned settings.Words plan = plan.words
planned settings.Ring plan = plan.ring
planned settings.Sessions plan = plan.sessions
planned settings.Desk plan = plan.desk
planned settings.Versions plan = plan.versions

-- a bus whose names are of their forms
pub record IsPlannedBus (bus : PlannedBus) : Type 0 where
  pub name : is_bus_name bus.name ≡ true
  pub log : is_file_name bus.log ≡ true
  pub database : is_file_name_or_none bus.database ≡ true

-- the bytes are a bench file of this plan
pub record IsPlan (bytes : List ℕ) (plan : Plan) : Type 0 where
  pub short : length bytes ≤ longest_file
  pub rules : KeepRules (meanings_of bytes)
  pub buses : plan.buses ≡ buses_of (meanings_of bytes)
  pub numbers : (setting : Setting) → planned setting plan ≡ number_of setting (meanings_of bytes)
  pub some_bus : 1 ≤ length plan.buses
  pub items : plan.ring * length plan.buses ≤ most_items

-- The bytes are no bench file, and this is the faulty line, from 1. It is 0 where the file is too long, and where no line
-- breaks a rule but there is no bus or the rings hold too many items.
pub data IsFault (bytes : List ℕ) (n : ℕ) : Type 0 where
  too_long : n ≡ 0 → longest_file < length bytes → IsFault bytes n
  at_line : length bytes ≤ longest_file → IsFirstFault (meanings_of bytes) n → IsFault bytes n
  no_bus : n ≡ 0 → length bytes ≤ longest_file → KeepRules (meanings_of bytes) → buses_of (meanings_of bytes) ≡ [] → IsFault bytes n
  many_items : n ≡ 0 → length bytes ≤ longest_file → KeepRules (meanings_of bytes)
      → most_items < number_of settings.Ring (meanings_of bytes) * length (buses_of (meanings_of bytes)) → IsFault bytes n

-- the fault is that of the file, or out of memory
abbrev pub NamesFault : List ℕ → PlanFault → Type 0
NamesFault bytes (faults.Line n) = IsFault bytes n
NamesFault bytes faults.Memory = Unit {0}
