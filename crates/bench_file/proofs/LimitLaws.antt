-- The buses of a plan have names of their forms, and its numbers are in their ranges.
use Rattle.std.proofs.Common.{◌≡◌, ℕ, zero, suc, ◌<◌, ◌≤◌, Bool, true, false, List, [], ◌∷◌, length, map, get_or, refl, sym, ap, ◌∙◌, arith, inl, inr}
use Rattle.std.specs.Prelude.{◌&&◌, Option, Some, None, All, nat_le, nat_lt, codes}
use Rattle.std.specs.Str.{bytes_eq}
use Rattle.std.proofs.lemmas.Bool.{cases_Bool, and_parts, leb-true}
use Rattle.byte_forms.specs.declared.numerals.Radix.TheVariants as radixes
use Rattle.byte_forms.specs.Numerals.{number_up_to, is_numeral, number_of}
use Rattle.text_words.specs.Words.{words_of}
use Rattle.text_words.specs.TextLines.{text_lines}
use Rattle.bench_model.specs.declared.database.Kind.{Kind}
use Rattle.bench_file.specs.declared.plan.Plan.{Plan}
use Rattle.bench_file.specs.declared.plan.PlannedBus.{PlannedBus}
use Rattle.bench_file.specs.declared.setting.Setting.{Setting}
use Rattle.bench_file.specs.declared.setting.Setting.TheVariants as settings
use Rattle.bench_file.specs.Settings.{setting_of, least, greatest, default_of, is_same}
use Rattle.bench_file.specs.LineMeaning.{LineMeaning, PassedOver, NamesBus, SetsNumber, OtherForm, longest_line, is_bus_name, is_file_name, is_file_name_or_none, kind_of, bus_of, bus_line, has_leading_zero, from_least, number_line, words_meaning, is_comment, meaning_of}
use Rattle.bench_file.specs.PlanOf.{IsPlannedBus, IsPlan, buses_of, numbers_of, first_or, number_of as planned_number, planned, meanings_of}
use Rattle.bench_file.proofs.RuleLaws.{same_setting}

-- a number in its range
abbrev pub InRange : Setting → ℕ → Type 0
InRange s n = (least s ≤ n) × (n ≤ greatest s)

-- what a line says is of its form
abbrev pub WellFormed : LineMeaning → Type 0
WellFormed PassedOver = Unit {0}
WellFormed OtherForm = Unit {0}
WellFormed (NamesBus bus) = IsPlannedBus bus
WellFormed (SetsNumber s n) = InRange s n

bus_formed : (name : List ℕ) (kind : Option Kind) (log : List ℕ) (database : Option (List ℕ)) → WellFormed (bus_of name kind log database)
bus_formed name None log database = tt
bus_formed name (Some kind) log database =
    elim (cases_Bool (is_bus_name name && (is_file_name log && is_file_name_or_none database))) [
      | inl holds ↦
          let first = and_parts (is_bus_name name) (is_file_name log && is_file_name_or_none database) holds in
          let second = and_parts (is_file_name log) (is_file_name_or_none database) first.1 in
          rw holds (record { name = first.0; log = second.0; database = second.1 })
      | inr fails ↦ rw fails tt
    ]

bus_line_formed : (words : List (List ℕ)) → WellFormed (bus_line words)
bus_line_formed [] = tt
bus_line_formed (a ∷ []) = tt
bus_line_formed (a ∷ b ∷ []) = tt
bus_line_formed (name ∷ kind ∷ log ∷ []) = bus_formed name (kind_of kind) log None
bus_line_formed (name ∷ kind ∷ log ∷ database ∷ []) = bus_formed name (kind_of kind) log (Some database)
bus_line_formed (a ∷ b ∷ c ∷ d ∷ e ∷ words) = tt

least_formed : (s : Setting) (n : ℕ) → n ≤ greatest s → WellFormed (from_least s (Some n))
least_formed s n within =
    elim (cases_Bool (nat_le (least s) n)) [
      | inl holds ↦ rw holds (leb-true (least s) n holds, within)
      | inr fails ↦ rw fails tt
    ]

digits_formed : (s : Setting) (digits : List ℕ) → WellFormed (from_least s (number_up_to radixes.Decimal (greatest s) digits))
unfolding number_up_to
digits_formed s digits =
    elim (cases_Bool (is_numeral radixes.Decimal digits && nat_le (number_of radixes.Decimal digits) (greatest s))) [
      | inl holds ↦
          let within = and_parts (is_numeral radixes.Decimal digits) (nat_le (number_of radixes.Decimal digits) (greatest s)) holds in
          rw holds (least_formed s (number_of radixes.Decimal digits) (leb-true (number_of radixes.Decimal digits) (greatest s) within.1))
      | inr fails ↦ rw fails tt
    ]

number_line_formed : (s : Option Setting) (words : List (List ℕ)) → WellFormed (number_line s words)
number_line_formed None words = tt
number_line_formed (Some s) [] = tt
number_line_formed (Some s) (digits ∷ []) = elim (cases_Bool (has_leading_zero digits)) [ inl leading ↦ rw leading tt | inr plain ↦ rw plain (digits_formed s digits) ]
number_line_formed (Some s) (a ∷ b ∷ words) = tt

words_formed : (words : List (List ℕ)) → WellFormed (words_meaning words)
words_formed [] = tt
words_formed (word ∷ words) =
    elim (cases_Bool (bytes_eq word (codes "bus"))) [
      | inl bus ↦ rw bus (bus_line_formed words)
      | inr other ↦ rw other (number_line_formed (setting_of word) words)
    ]

line_formed : (line : List ℕ) → WellFormed (meaning_of line)
line_formed line =
    elim (cases_Bool (nat_lt longest_line (length line))) [
      | inl long ↦ rw long tt
      | inr short ↦ elim (cases_Bool (is_comment line)) [
        | inl comment ↦ rw (short, comment) tt
        | inr plain ↦ rw (short, plain) (words_formed (words_of line))
      ]
    ]

AllFormed : List LineMeaning → Type 0
AllFormed [] = Unit {0}
AllFormed (m ∷ ms) = WellFormed m × AllFormed ms

lines_formed : (lines : List (List ℕ)) → AllFormed (map meaning_of lines)
unfolding AllFormed
lines_formed [] = tt
lines_formed (line ∷ lines) = (line_formed line, lines_formed lines)

buses_formed : (ms : List LineMeaning) → AllFormed ms → (k : ℕ) (d : PlannedBus) → k < length (buses_of ms) → IsPlannedBus (get_or (buses_of ms) k d)
unfolding AllFormed
buses_formed [] formed k d within = absurd (omega arith)
buses_formed (PassedOver ∷ ms) formed k d within = buses_formed ms formed.1 k d within
buses_formed (OtherForm ∷ ms) formed k d within = buses_formed ms formed.1 k d within
buses_formed (SetsNumber s n ∷ ms) formed k d within = buses_formed ms formed.1 k d within
buses_formed (NamesBus bus ∷ ms) formed zero d within = formed.0
buses_formed (NamesBus bus ∷ ms) formed (suc k) d within = buses_formed ms formed.1 k d (omega arith)

default_in_range : (s : Setting) → InRange s (default_of s)
default_in_range settings.Regions = (omega arith, omega arith)
default_in_range settings.Words = (omega arith, omega arith)
default_in_range settings.Ring = (omega arith, omega arith)
default_in_range settings.Sessions = (omega arith, omega arith)
default_in_range settings.Desk = (omega arith, omega arith)
default_in_range settings.Versions = (omega arith, omega arith)

number_formed : (s : Setting) (ms : List LineMeaning) → AllFormed ms → InRange s (planned_number s ms)
unfolding AllFormed
number_formed s [] formed = default_in_range s
number_formed s (PassedOver ∷ ms) formed = number_formed s ms formed.1
number_formed s (OtherForm ∷ ms) formed = number_formed s ms formed.1
number_formed s (NamesBus bus ∷ ms) formed = number_formed s ms formed.1
number_formed s (SetsNumber t n ∷ ms) formed =
    elim (cases_Bool (is_same s t)) [
      | inl same ↦ rw (same, same_setting s t same) formed.0
      | inr other ↦ rw other (number_formed s ms formed.1)
    ]

pub buses_of_a_plan : (bytes : List ℕ) (plan : Plan) → IsPlan bytes plan → All IsPlannedBus plan.buses
buses_of_a_plan bytes plan p = rw p.buses (buses_formed (meanings_of bytes) (lines_formed (text_lines bytes)))

pub number_of_a_plan : (bytes : List ℕ) (plan : Plan) (s : Setting) → IsPlan bytes plan → InRange s (planned s plan)
number_of_a_plan bytes plan s p = rw (p.numbers s) (number_formed s (meanings_of bytes) (lines_formed (text_lines bytes)))
