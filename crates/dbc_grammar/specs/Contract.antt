-- The database of a text, and the fault of any other.
use Rattle.std.specs.Prelude.{◌≡◌, ℕ, ◌+◌, ◌↔◌, ◌⊎◌, Bool, false, IsTrue, IsUtf8, List, [], ◌∷◌, ◌++◌, length, slice_get, Option, Some, if◌then◌else◌}
use Rattle.std.specs.List.{flat_map, enumerate_from, AllByRecursion, AllZip}
use Rattle.decisions.specs.ListDecisions.{FirstFailsFor}
use Rattle.exact_scale.specs.declared.scaling.Scale.{Scale}
use Rattle.multiplex_tree.specs.declared.fault.MuxWhy.{MuxWhy}
use Rattle.multiplex_tree.specs.declared.fault.MuxFault.TheVariants as mux
use Rattle.multiplex_tree.specs.declared.mark.Parent.{Parent}
use Rattle.multiplex_tree.specs.Fault.{IsTree, IsFault}
use Rattle.bench_model.specs.declared.database.Key.{Key}
use Rattle.bench_model.specs.declared.database.Message.{Message}
use Rattle.bench_model.specs.declared.database.Database.{Database}
use Rattle.bench_model.specs.Check.{IsValid, IsFirstFault}
use Rattle.sig_text.specs.declared.token.Token.{Token}
use Rattle.sig_text.specs.Tokens.{IsTokens, IsLexFault}
use Rattle.token_forms.specs.Pieces.{token_text}
use Rattle.token_forms.specs.Grammar.{Each, BreaksAt}
use Rattle.dbc_grammar.specs.declared.fault.DbcFault.{DbcFault}
use Rattle.dbc_grammar.specs.declared.fault.DbcFault.TheVariants as faults
use Rattle.dbc_grammar.specs.declared.statement.Statement.{Statement}
use Rattle.dbc_grammar.specs.declared.statement.SignalForm.{SignalForm}
use Rattle.dbc_grammar.specs.declared.statement.MessageForm.{MessageForm}
use Rattle.dbc_grammar.specs.Limits.{first_long_id}
use Rattle.dbc_grammar.specs.Statements.{Parses}
use Rattle.dbc_grammar.specs.Naming.{Noted, noted_in, message_key, is_first_message}
use Rattle.dbc_grammar.specs.Gather.{messages_of, notes_of, IsScaleOf, IsTooWide, AreSignalsOf, message_links, message_marks}

-- the text is a list of whole statements
pub record AreStatements (text : List ℕ) (statements : List Statement) : Type 0 where
  pub tokens : List Token
  pub are_tokens : IsTokens text false tokens
  pub all : Each (Parses text) statements tokens []

-- the text has tokens, and this is the first token after its longest run of whole statements
pub record EndsEarly (text : List ℕ) (at : ℕ) : Type 0 where
  pub tokens : List Token
  pub are_tokens : IsTokens text false tokens
  pub broken : BreaksAt (Parses text) tokens at

-- the signals of all messages, in file order
abbrev pub all_signals : List MessageForm → List SignalForm
all_signals messages = flat_map (λ (m : MessageForm). m.signals) messages

-- the scale of a signal, or its place where its factor and offset are too wide
abbrev pub HasScale : List ℕ → SignalForm → Scale → Type 0
HasScale text s scale = IsScaleOf text s.scaling scale

abbrev pub IsTooWideAt : List ℕ → SignalForm → ℕ → Type 0
IsTooWideAt text s at = (at ≡ s.at) × IsTooWide text s.scaling

abbrev pub HasSomeScale : List ℕ → SignalForm → Type 0
HasSomeScale text s = (scale : Scale) × HasScale text s scale

-- the first signal whose factor and offset are too wide
abbrev pub IsFirstWide : List ℕ → List SignalForm → ℕ → Type 0
IsFirstWide text signals at = FirstFailsFor (HasScale text) (IsTooWideAt text) signals at

-- the marks and the links of the message at its place have this tree, or this fault
abbrev pub HasTree : List ℕ → Noted → List MessageForm → ℕ × MessageForm → List (Option Parent) → Type 0
HasTree text noted messages x parents =
    IsTree (message_marks x.1) (message_links text noted (is_first_message messages x.0 x.1) x.1) parents

-- the message that a statement, the notes and the marks make
pub record IsMessageAt (text : List ℕ) (utf8 : Bool) (noted : Noted) (messages : List MessageForm)
    (x : ℕ × MessageForm) (m : Message) : Type 0 where
  pub name : m.name ≡ token_text text x.1.heading.name
  pub key : m.key ≡ message_key x.1
  pub byte_count : m.length ≡ x.1.heading.byte_count
  pub signals : AreSignalsOf text utf8 noted (is_first_message messages x.0 x.1) x.1 m.signals
  pub tree : HasTree text noted messages x m.tree.parents

-- the database that statements make, where they make one
pub record Gathers (text : List ℕ) (statements : List Statement) (d : Database) : Type 0 where
  pub utf8 : Bool
  pub is_utf8 : IsTrue utf8 ↔ IsUtf8 text
  pub messages : AllZip (IsMessageAt text utf8 (noted_in text (notes_of statements)) (messages_of statements))
      (enumerate_from 0 (messages_of statements)) d.messages

-- the bytes have this database, which is valid
pub record IsDatabaseOf (bytes : List ℕ) (d : Database) : Type 0 where
  pub statements : List Statement
  pub are_statements : AreStatements bytes statements
  pub gathers : Gathers bytes statements d
  pub valid : IsValid d

pub record IsScaleFault (bytes : List ℕ) (at : ℕ) : Type 0 where
  pub statements : List Statement
  pub are_statements : AreStatements bytes statements
  pub wide : IsFirstWide bytes (all_signals (messages_of statements)) at

-- the identifier of a message as faults give it: bits 29 and 30 are left out
abbrev pub fault_id : Key → ℕ
fault_id key = if key.extended then key.id + first_long_id else key.id

-- the message at its place has a tree
abbrev pub HasSomeTree : List ℕ → Noted → List MessageForm → ℕ × MessageForm → Type 0
HasSomeTree text noted messages x = (parents : List (Option Parent)) × HasTree text noted messages x parents

-- the first message whose marks and links have a fault, and the signal at which they have it
pub record IsFirstTreeless (text : List ℕ) (noted : Noted) (messages : List MessageForm)
    (id : ℕ) (name : List ℕ) (why : MuxWhy) : Type 0 where
  pub before : List MessageForm
  pub message : MessageForm
  pub after : List MessageForm
  pub cut : messages ≡ before ++ message ∷ after
  pub place : ℕ
  pub place_is : place ≡ length before
  pub signal : ℕ
  pub form : SignalForm
  pub form_is : slice_get message.signals signal ≡ Some form
  pub fault :
      IsFault (message_marks message) (message_links text noted (is_first_message messages place message) message)
      (mux.At signal why)
  pub first : AllByRecursion (HasSomeTree text noted messages) (enumerate_from 0 before)
  pub id_is : id ≡ fault_id (message_key message)
  pub name_is : name ≡ token_text text form.name

-- the first message without a tree, where each signal has a scale
pub record IsMuxFault (bytes : List ℕ) (id : ℕ) (name : List ℕ) (why : MuxWhy) : Type 0 where
  pub statements : List Statement
  pub are_statements : AreStatements bytes statements
  pub scaled : AllByRecursion (HasSomeScale bytes) (all_signals (messages_of statements))
  pub treeless : IsFirstTreeless bytes (noted_in bytes (notes_of statements)) (messages_of statements) id name why

-- the bytes have this fault, and none of an earlier kind
abbrev pub HasFault : List ℕ → DbcFault → Type 0
HasFault bytes (faults.Lex fault) = IsLexFault bytes false fault
HasFault bytes (faults.Statement at) = EndsEarly bytes at
HasFault bytes (faults.Scale at) = IsScaleFault bytes at
HasFault bytes (faults.Mux id signal why) = IsMuxFault bytes id signal why
HasFault bytes (faults.Check fault) =
    (statements : List Statement) × (d : Database) × AreStatements bytes statements × Gathers bytes statements d
    × IsFirstFault d fault
HasFault bytes faults.Memory = ⊥

-- the fault of the bytes, or out of memory
abbrev pub IsFaultOrMemory : List ℕ → DbcFault → Type 0
IsFaultOrMemory bytes fault = HasFault bytes fault ⊎ (fault ≡ faults.Memory)
