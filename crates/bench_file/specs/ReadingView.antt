-- Lines and drafts of the code as the definitions see them.
use Rattle.std.specs.Prelude.{◌≡◌, ℕ, List, [], ◌∷◌, ◌++◌, Option, Some, None, Result, Ok, Err, if◌then◌else◌}
use Rattle.std.specs.Option.{option_map}
use Rattle.std.specs.Borrow.{Bor}
use Rattle.bench_file.specs.declared.plan.PlannedBus.{PlannedBus}
use Rattle.bench_file.specs.declared.setting.Setting.{Setting}
use Rattle.bench_file.specs.declared.setting.Setting.TheVariants as settings
use Rattle.bench_file.specs.declared.line.NamedBus.{NamedBus}
use Rattle.bench_file.specs.declared.line.ReadLine.{ReadLine}
use Rattle.bench_file.specs.declared.line.ReadLine.TheVariants as lines
use Rattle.bench_file.specs.declared.draft.Draft.{Draft}
use Rattle.bench_file.specs.declared.draft.Numbers.{Numbers}
use Rattle.bench_file.specs.declared.fault.PlanFault.{PlanFault}
use Rattle.bench_file.specs.declared.fault.PlanFault.TheVariants as faults
use Rattle.bench_file.specs.declared.fault.LineRefused.{LineRefused}
use Rattle.bench_file.specs.declared.fault.LineRefused.TheVariants as refusals
use Rattle.bench_file.specs.Settings.{default_of}
use Rattle.bench_file.specs.LineMeaning.{LineMeaning, PassedOver, NamesBus, SetsNumber, OtherForm, is_file_name}
use Rattle.bench_file.specs.PlanOf.{KeepRules, IsFirstFault, buses_of, numbers_of}

-- a text that is there, or none
abbrev pub text_view : Option (Bor (List ℕ)) → Option (List ℕ)
text_view text = option_map (λ t. t.now) text

-- the name of a file, where it is one
abbrev pub name_view : List ℕ → Option (List ℕ)
name_view name = if is_file_name name then Some name else None

-- a bus with the texts behind its references
abbrev pub bus_view : NamedBus → PlannedBus
bus_view bus = record { name = bus.name.now; kind = bus.kind; log = bus.log.now; database = text_view bus.database }

-- what a line says that was read; none is one of another form
abbrev pub line_view : Option ReadLine → LineMeaning
line_view None = OtherForm
line_view (Some lines.PassedOver) = PassedOver
line_view (Some (lines.Bus bus)) = NamesBus (bus_view bus)
line_view (Some (lines.Number setting n)) = SetsNumber setting n

-- the number that was set, or none yet
abbrev pub set_in : Numbers → Setting → Option ℕ
set_in numbers settings.Regions = numbers.regions
set_in numbers settings.Words = numbers.words
set_in numbers settings.Ring = numbers.ring
set_in numbers settings.Sessions = numbers.sessions
set_in numbers settings.Desk = numbers.desk
set_in numbers settings.Versions = numbers.versions

-- the number that was set, or its default
abbrev pub or_default : Setting → Option ℕ → ℕ
or_default setting None = default_of setting
or_default setting (Some n) = n

abbrev pub number_or_default : Numbers → Setting → ℕ
number_or_default numbers setting = or_default setting (set_in numbers setting)

-- the numbers with this one set
abbrev pub with_number : Numbers → Setting → ℕ → Numbers
with_number numbers settings.Regions n = record numbers { regions = Some n }
with_number numbers settings.Words n = record numbers { words = Some n }
with_number numbers settings.Ring n = record numbers { ring = Some n }
with_number numbers settings.Sessions n = record numbers { sessions = Some n }
with_number numbers settings.Desk n = record numbers { desk = Some n }
with_number numbers settings.Versions n = record numbers { versions = Some n }

-- the first of a list
abbrev pub first_of : List ℕ → Option ℕ
first_of [] = None
first_of (n ∷ ns) = Some n

-- lines that keep the rules, and their buses and numbers
pub record Drafts (draft : Draft) (lines : List LineMeaning) : Type 0 where
  pub rules : KeepRules lines
  pub buses : draft.buses.items ≡ buses_of lines
  pub numbers : (setting : Setting) → set_in draft.numbers setting ≡ first_of (numbers_of setting lines)

-- a line more keeps the rules and is in the draft, or it breaks one
abbrev pub Adds : Draft → List LineMeaning → LineMeaning → Result (Unit {0}) LineRefused → Type 0
Adds draft lines line (Ok u) = Drafts draft (lines ++ line ∷ [])
Adds draft lines line (Err refusals.Rule) = KeepRules (lines ++ line ∷ []) → ⊥
Adds draft lines line (Err refusals.Memory) = Unit {0}

-- the fault is the first faulty line of these lines, or out of memory
abbrev pub NamesFirstFault : List LineMeaning → PlanFault → Type 0
NamesFirstFault lines (faults.Line n) = IsFirstFault lines n
NamesFirstFault lines faults.Memory = Unit {0}
