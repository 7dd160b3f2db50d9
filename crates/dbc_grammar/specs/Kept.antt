-- What reading keeps of statements.
use Rattle.std.specs.Prelude.{◌≡◌, ℕ, List, [], ◌++◌}
use Rattle.sig_text.specs.declared.token.Token.{Token}
use Rattle.token_forms.specs.Grammar.{Each, BreaksAt}
use Rattle.dbc_grammar.specs.declared.fault.DbcFault.{DbcFault}
use Rattle.dbc_grammar.specs.declared.fault.DbcFault.TheVariants as faults
use Rattle.dbc_grammar.specs.declared.statement.Statement.{Statement}
use Rattle.dbc_grammar.specs.declared.statements.Kept.{Kept}
use Rattle.dbc_grammar.specs.Statements.{Parses}
use Rattle.dbc_grammar.specs.Gather.{messages_in, notes_in, messages_of, notes_of}

-- one more statement is kept
pub record IsKeptWith (statement : Statement) (old new : Kept) : Type 0 where
  pub messages : new.messages.items ≡ old.messages.items ++ messages_in statement
  pub notes : new.notes.items ≡ old.notes.items ++ notes_in statement

-- this is what is kept of the longest run of whole statements, and these tokens are left
pub record IsKeptBefore (text : List ℕ) (tokens : List Token) (kept : Kept) (rest : List Token) : Type 0 where
  pub statements : List Statement
  pub all : Each (Parses text) statements tokens rest
  pub messages : kept.messages.items ≡ messages_of statements
  pub notes : kept.notes.items ≡ notes_of statements

-- the tokens are a list of whole statements, and this is what is kept of them
abbrev pub IsKeptOf : List ℕ → List Token → Kept → Type 0
IsKeptOf text tokens kept = IsKeptBefore text tokens kept []

-- the fault names the first token after the longest run of whole statements; memory may run out
abbrev pub StopsAt : List ℕ → List Token → DbcFault → Type 0
StopsAt text tokens (faults.Statement at) = BreaksAt (Parses text) tokens at
StopsAt text tokens faults.Memory = Unit {0}
StopsAt text tokens (faults.Lex fault) = ⊥
StopsAt text tokens (faults.Scale at) = ⊥
StopsAt text tokens (faults.Mux id signal why) = ⊥
StopsAt text tokens (faults.Check fault) = ⊥
