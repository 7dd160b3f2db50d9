-- What the steps of `read_ldf` answer.
use Rattle.std.specs.Prelude.{◌≡◌, ℕ, true, List, Some, None}
use Rattle.decisions.specs.ListDecisions.{FirstFailsFor}
use Rattle.sig_text.specs.declared.token.Token.{Token}
use Rattle.sig_text.specs.Tokens.{IsLexFault}
use Rattle.bench_model.specs.declared.database.Entry.{Entry}
use Rattle.bench_model.specs.declared.database.Database.{Database}
use Rattle.bench_model.specs.Check.{IsFirstFault}
use Rattle.ldf_grammar.specs.Run.{BreaksOff}
use Rattle.ldf_grammar.specs.Gather.{IsCoded, AreCoded, all_encodings, definitions_of, database_of}
use Rattle.ldf_grammar.specs.Unknown.{first_unknown}
use Rattle.ldf_grammar.specs.Described.{IsWideEncoding}
use Rattle.ldf_grammar.specs.declared.statement.Statement.{Statement}
use Rattle.ldf_grammar.specs.declared.fault.LdfFault.{LdfFault}
use Rattle.ldf_grammar.specs.declared.fault.LdfFault.TheVariants as faults

-- the fault is the one at a place where the relation holds, or memory ran out
abbrev pub IsWideOrMemory : (ℕ → Type 0) → LdfFault → Type 0
IsWideOrMemory Fails (faults.Scale at) = Fails at
IsWideOrMemory Fails (faults.Lex fault) = ⊥
IsWideOrMemory Fails (faults.Statement at) = ⊥
IsWideOrMemory Fails (faults.UnknownName at) = ⊥
IsWideOrMemory Fails (faults.Check fault) = ⊥
IsWideOrMemory Fails faults.Memory = Unit {0}

-- the statements break off at this place, or memory ran out
abbrev pub IsBreakOrMemory : List ℕ → List Token → LdfFault → Type 0
IsBreakOrMemory text tokens (faults.Statement at) = BreaksOff text tokens at
IsBreakOrMemory text tokens (faults.Lex fault) = ⊥
IsBreakOrMemory text tokens (faults.Scale at) = ⊥
IsBreakOrMemory text tokens (faults.UnknownName at) = ⊥
IsBreakOrMemory text tokens (faults.Check fault) = ⊥
IsBreakOrMemory text tokens faults.Memory = Unit {0}

-- the statements make this database
pub record Gathers (text : List ℕ) (statements : List Statement) (database : Database) : Type 0 where
  pub coded : List (List ℕ × List Entry)
  pub encodings : AreCoded text statements coded
  pub known : first_unknown text (definitions_of text statements coded) statements ≡ None
  pub gathered : database ≡ database_of text (definitions_of text statements coded) statements

-- a name of the statements is not defined
pub record MeetsUnknown (text : List ℕ) (statements : List Statement) (at : ℕ) : Type 0 where
  pub coded : List (List ℕ × List Entry)
  pub encodings : AreCoded text statements coded
  pub first : first_unknown text (definitions_of text statements coded) statements ≡ Some at

abbrev pub IsFirstWide : List ℕ → List Statement → ℕ → Type 0
IsFirstWide text statements at = FirstFailsFor (IsCoded text) (IsWideEncoding text) (all_encodings statements) at

-- a scaling is too wide, a name is not defined, or memory ran out
abbrev pub FailsToGather : List ℕ → List Statement → LdfFault → Type 0
FailsToGather text statements (faults.Scale at) = IsFirstWide text statements at
FailsToGather text statements (faults.UnknownName at) = MeetsUnknown text statements at
FailsToGather text statements (faults.Lex fault) = ⊥
FailsToGather text statements (faults.Statement at) = ⊥
FailsToGather text statements (faults.Check fault) = ⊥
FailsToGather text statements faults.Memory = Unit {0}

-- a lexical fault, or memory ran out
abbrev pub IsLexOrMemory : List ℕ → LdfFault → Type 0
IsLexOrMemory text (faults.Lex fault) = IsLexFault text true fault
IsLexOrMemory text (faults.Statement at) = ⊥
IsLexOrMemory text (faults.Scale at) = ⊥
IsLexOrMemory text (faults.UnknownName at) = ⊥
IsLexOrMemory text (faults.Check fault) = ⊥
IsLexOrMemory text faults.Memory = Unit {0}

-- a rule of `check` is broken, or memory ran out
abbrev pub IsCheckOrMemory : Database → LdfFault → Type 0
IsCheckOrMemory database (faults.Check fault) = IsFirstFault database fault
IsCheckOrMemory database (faults.Lex fault) = ⊥
IsCheckOrMemory database (faults.Statement at) = ⊥
IsCheckOrMemory database (faults.Scale at) = ⊥
IsCheckOrMemory database (faults.UnknownName at) = ⊥
IsCheckOrMemory database faults.Memory = Unit {0}
