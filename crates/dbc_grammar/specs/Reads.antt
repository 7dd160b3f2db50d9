-- What the steps of reading answer.
use Rattle.std.specs.Prelude.{◌≡◌, ℕ, Bool, false, List, Some, slice_get}
use Rattle.std.specs.List.{enumerate_from, AllZip}
use Rattle.multiplex_tree.specs.declared.fault.MuxWhy.{MuxWhy}
use Rattle.multiplex_tree.specs.declared.fault.MuxFault.TheVariants as mux
use Rattle.multiplex_tree.specs.declared.mark.Mark.{Mark}
use Rattle.multiplex_tree.specs.declared.mark.Link.{Link}
use Rattle.multiplex_tree.specs.Fault.{IsTree, IsFault}
use Rattle.sig_text.specs.Tokens.{IsLexFault}
use Rattle.bench_model.specs.declared.database.Message.{Message}
use Rattle.bench_model.specs.declared.database.Database.{Database}
use Rattle.bench_model.specs.Check.{IsFirstFault}
use Rattle.token_forms.specs.Pieces.{token_text}
use Rattle.dbc_grammar.specs.declared.fault.DbcFault.{DbcFault}
use Rattle.dbc_grammar.specs.declared.fault.DbcFault.TheVariants as faults
use Rattle.dbc_grammar.specs.declared.row.Row.{Row}
use Rattle.dbc_grammar.specs.declared.statement.SignalForm.{SignalForm}
use Rattle.dbc_grammar.specs.declared.statement.MessageForm.{MessageForm}
use Rattle.dbc_grammar.specs.Naming.{Noted, message_key}
use Rattle.dbc_grammar.specs.Contract.{fault_id, IsMessageAt, IsFirstTreeless}

-- the first lexical fault; memory may run out
abbrev pub IsLexOrMemory : List ℕ → DbcFault → Type 0
IsLexOrMemory text (faults.Lex fault) = IsLexFault text false fault
IsLexOrMemory text faults.Memory = Unit {0}
IsLexOrMemory text (faults.Statement at) = ⊥
IsLexOrMemory text (faults.Scale at) = ⊥
IsLexOrMemory text (faults.Mux id signal why) = ⊥
IsLexOrMemory text (faults.Check fault) = ⊥

-- a message's marks and links have a fault at a signal, and this names both
pub record NamesSignal (text : List ℕ) (m : MessageForm) (marks : List Mark) (links : List Link)
    (id : ℕ) (name : List ℕ) (why : MuxWhy) : Type 0 where
  pub signal : ℕ
  pub form : SignalForm
  pub form_is : slice_get m.signals signal ≡ Some form
  pub fault : IsFault marks links (mux.At signal why)
  pub id_is : id ≡ fault_id (message_key m)
  pub name_is : name ≡ token_text text form.name

-- the fault of a message's marks and links; memory may run out
abbrev pub IsTreeFault : List ℕ → MessageForm → List Mark → List Link → DbcFault → Type 0
IsTreeFault text m marks links (faults.Mux id signal why) = NamesSignal text m marks links id signal why
IsTreeFault text m marks links faults.Memory = Unit {0}
IsTreeFault text m marks links (faults.Lex fault) = ⊥
IsTreeFault text m marks links (faults.Statement at) = ⊥
IsTreeFault text m marks links (faults.Scale at) = ⊥
IsTreeFault text m marks links (faults.Check fault) = ⊥

-- the message of a statement and its row
pub record IsMessageOf (text : List ℕ) (form : MessageForm) (row : Row) (m : Message) : Type 0 where
  pub name : m.name ≡ token_text text form.heading.name
  pub key : m.key ≡ message_key form
  pub byte_count : m.length ≡ form.heading.byte_count
  pub signals : m.signals ≡ row.signals.items
  pub tree : IsTree row.marks.items row.links.items m.tree.parents

-- the first message without a tree; memory may run out
abbrev pub IsTreelessFault : List ℕ → Noted → List MessageForm → DbcFault → Type 0
IsTreelessFault text noted messages (faults.Mux id signal why) = IsFirstTreeless text noted messages id signal why
IsTreelessFault text noted messages faults.Memory = Unit {0}
IsTreelessFault text noted messages (faults.Lex fault) = ⊥
IsTreelessFault text noted messages (faults.Statement at) = ⊥
IsTreelessFault text noted messages (faults.Scale at) = ⊥
IsTreelessFault text noted messages (faults.Check fault) = ⊥

-- the messages of all statements
abbrev pub AreMessagesOf : List ℕ → Bool → Noted → List MessageForm → List Message → Type 0
AreMessagesOf text utf8 noted forms messages = AllZip (IsMessageAt text utf8 noted forms) (enumerate_from 0 forms) messages

-- the first broken rule; memory may run out
abbrev pub IsCheckOrMemory : Database → DbcFault → Type 0
IsCheckOrMemory d (faults.Check fault) = IsFirstFault d fault
IsCheckOrMemory d faults.Memory = Unit {0}
IsCheckOrMemory d (faults.Lex fault) = ⊥
IsCheckOrMemory d (faults.Statement at) = ⊥
IsCheckOrMemory d (faults.Scale at) = ⊥
IsCheckOrMemory d (faults.Mux id signal why) = ⊥
