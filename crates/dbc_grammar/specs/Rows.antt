-- What the makers of signals answer, and what a message's signals and links are together.
use Rattle.std.specs.Prelude.{◌≡◌, ℕ, Bool, List}
use Rattle.std.specs.List.{enumerate_from, AllZip}
use Rattle.dbc_grammar.specs.declared.fault.DbcFault.{DbcFault}
use Rattle.dbc_grammar.specs.declared.fault.DbcFault.TheVariants as faults
use Rattle.dbc_grammar.specs.declared.row.Row.{Row}
use Rattle.dbc_grammar.specs.declared.statement.SignalForm.{SignalForm}
use Rattle.dbc_grammar.specs.declared.statement.MessageForm.{MessageForm}
use Rattle.dbc_grammar.specs.Naming.{Noted, is_first_message}
use Rattle.dbc_grammar.specs.Gather.{AreSignalsOf, message_marks, message_links}
use Rattle.dbc_grammar.specs.Contract.{IsTooWideAt, IsFirstWide}

-- the signal is too wide, and the fault names its place; memory may run out
abbrev pub IsWideAt : List ℕ → SignalForm → DbcFault → Type 0
IsWideAt text form (faults.Scale at) = IsTooWideAt text form at
IsWideAt text form faults.Memory = Unit {0}
IsWideAt text form (faults.Lex fault) = ⊥
IsWideAt text form (faults.Statement at) = ⊥
IsWideAt text form (faults.Mux id signal why) = ⊥
IsWideAt text form (faults.Check fault) = ⊥

-- the first of these signals that is too wide; memory may run out
abbrev pub IsWideFault : List ℕ → List SignalForm → DbcFault → Type 0
IsWideFault text signals (faults.Scale at) = IsFirstWide text signals at
IsWideFault text signals faults.Memory = Unit {0}
IsWideFault text signals (faults.Lex fault) = ⊥
IsWideFault text signals (faults.Statement at) = ⊥
IsWideFault text signals (faults.Mux id signal why) = ⊥
IsWideFault text signals (faults.Check fault) = ⊥

-- the signals, the marks and the links of a message
pub record IsRowOf (text : List ℕ) (utf8 : Bool) (noted : Noted) (named : Bool) (m : MessageForm) (row : Row) : Type 0 where
  pub signals : AreSignalsOf text utf8 noted named m row.signals.items
  pub marks : row.marks.items ≡ message_marks m
  pub links : row.links.items ≡ message_links text noted named m

-- those of the message at its place
abbrev pub IsRowAt : List ℕ → Bool → Noted → List MessageForm → ℕ × MessageForm → Row → Type 0
IsRowAt text utf8 noted messages x row = IsRowOf text utf8 noted (is_first_message messages x.0 x.1) x.1 row

abbrev pub AreRowsOf : List ℕ → Bool → Noted → List MessageForm → List Row → Type 0
AreRowsOf text utf8 noted messages rows = AllZip (IsRowAt text utf8 noted messages) (enumerate_from 0 messages) rows
