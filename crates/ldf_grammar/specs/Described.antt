-- Which texts describe a database, and the one fault of each other text.
use Rattle.std.specs.Prelude.{◌≡◌, ℕ, true, List, Some, None}
use Rattle.decisions.specs.ListDecisions.{FirstFailsFor}
use Rattle.sig_text.specs.Tokens.{IsLexFault}
use Rattle.bench_model.specs.declared.database.Entry.{Entry}
use Rattle.bench_model.specs.declared.database.Database.{Database}
use Rattle.bench_model.specs.Check.{IsValid, IsFirstFault}
use Rattle.ldf_grammar.specs.Run.{HasStatements, IsStatementFault}
use Rattle.ldf_grammar.specs.Scaling.{IsEntryOf, IsTooWide}
use Rattle.ldf_grammar.specs.Gather.{IsCoded, AreCoded, all_encodings, definitions_of, database_of}
use Rattle.ldf_grammar.specs.Unknown.{first_unknown}
use Rattle.ldf_grammar.specs.declared.statement.Encoding.{Encoding}
use Rattle.ldf_grammar.specs.declared.statement.Statement.{Statement}
use Rattle.ldf_grammar.specs.declared.fault.LdfFault.{LdfFault}
use Rattle.ldf_grammar.specs.declared.fault.LdfFault.TheVariants as faults

-- an encoding whose first entry of a too wide scaling is at this place
abbrev pub IsWideEncoding : List ℕ → Encoding → ℕ → Type 0
IsWideEncoding text encoding at = FirstFailsFor (IsEntryOf text) (IsTooWide text) encoding.entries at

-- the first scaling that is too wide
pub record IsScaleFault (text : List ℕ) (at : ℕ) : Type 0 where
  pub statements : List Statement
  pub whole : HasStatements text statements
  pub first : FirstFailsFor (IsCoded text) (IsWideEncoding text) (all_encodings statements) at

-- the statements of a text whose scalings are within the limits, and the entries of its encodings
pub record IsRead (text : List ℕ) (statements : List Statement) (coded : List (List ℕ × List Entry)) : Type 0 where
  pub whole : HasStatements text statements
  pub encodings : AreCoded text statements coded

-- the first name that is not defined
pub record IsNameFault (text : List ℕ) (at : ℕ) : Type 0 where
  pub statements : List Statement
  pub coded : List (List ℕ × List Entry)
  pub read : IsRead text statements coded
  pub first : first_unknown text (definitions_of text statements coded) statements ≡ Some at

-- the text makes this database, which may break the rules of `check`
pub record Makes (text : List ℕ) (database : Database) : Type 0 where
  pub statements : List Statement
  pub coded : List (List ℕ × List Entry)
  pub read : IsRead text statements coded
  pub known : first_unknown text (definitions_of text statements coded) statements ≡ None
  pub gathered : database ≡ database_of text (definitions_of text statements coded) statements

-- the text describes this database
pub record IsDatabaseOf (text : List ℕ) (database : Database) : Type 0 where
  pub made : Makes text database
  pub valid : IsValid database

-- the text has this fault
abbrev pub HasFault : List ℕ → LdfFault → Type 0
HasFault text (faults.Lex fault) = IsLexFault text true fault
HasFault text (faults.Statement at) = IsStatementFault text at
HasFault text (faults.Scale at) = IsScaleFault text at
HasFault text (faults.UnknownName at) = IsNameFault text at
HasFault text (faults.Check fault) = (database : Database) × Makes text database × IsFirstFault database fault
HasFault text faults.Memory = ⊥
