-- The steps of reading put together: what each answers is true of the whole text.
use Rattle.std.proofs.Common.{◌≡◌, ◌∙◌, sym, ap, refl, subst, ℕ, ◌⊎◌, inl, inr, true, List, [], Ok, Err, Result}
use Rattle.std.specs.Prelude.{IsErr, IsErrAnd, IfErr, All}
use Rattle.sig_text.specs.declared.token.Token.{Token}
use Rattle.sig_text.specs.Tokens.{IsTokens}
use Rattle.bench_model.specs.declared.database.Message.{Message}
use Rattle.bench_model.specs.declared.database.Database.{Database}
use Rattle.bench_model.specs.Limits.{IsMade}
use Rattle.ldf_grammar.specs.Run.{AllRows}
use Rattle.ldf_grammar.specs.Described.{Makes, HasFault}
use Rattle.ldf_grammar.specs.Answer.{Gathers, MeetsUnknown, FailsToGather, IsLexOrMemory, IsBreakOrMemory, IsCheckOrMemory}
use Rattle.ldf_grammar.specs.declared.statement.Statement.{Statement}
use Rattle.ldf_grammar.specs.declared.fault.LdfFault.{LdfFault}
use Rattle.ldf_grammar.specs.declared.fault.LdfFault.TheVariants as faults

pub same_database : (a b : List Message) → a ≡ b → ◌≡◌ {A = Database} (record { messages = a }) (record { messages = b })
same_database a b e = ap (λ (ms : List Message). let d : Database = record { messages = ms } in d) e

pub made_too : (a b : List Message) → a ≡ b → All IsMade b → All IsMade a
made_too a b e made = let P : List Message → Type 0 = λ ms. All IsMade ms in subst P (sym e) made

same_fault : {A : Type 0} (r : Result A LdfFault) (e : LdfFault) → IsErr r × IsErrAnd r (λ s. s ≡ e) → r ≡ Err e
same_fault (Ok x) e h = let f = h.0 in absurd cc
same_fault (Err s) e h = ap Err h.1

-- a name that is not defined
pub unknown_passes : {A : Type 0} (r : Result A LdfFault) (e : LdfFault) (text : List ℕ) (statements : List Statement) (at : ℕ) → IsErr r × IsErrAnd r (λ s. s ≡ e) → e ≡ faults.UnknownName at
    → MeetsUnknown text statements at → IfErr r (FailsToGather text statements)
unknown_passes {A} r e text statements at h is meets =
    let P : Result A LdfFault → Type 0 = λ x. IfErr x (FailsToGather text statements) in
    subst P (sym (same_fault r e h ∙ ap Err is)) meets

-- the text makes the database of its statements
pub makes : (text : List ℕ) (tokens : List Token) (statements : List Statement) (database : Database) → IsTokens text true tokens → AllRows text statements tokens []
    → Gathers text statements database → Makes text database
makes text tokens statements database lexed are gathers = record {
  statements = statements;
  coded = gathers.coded;
  read = record {
    whole = record { tokens = tokens; lexed = lexed; parse = are };
    encodings = gathers.encodings;
  };
  known = gathers.known;
  gathered = gathers.gathered;
}

abbrev pub IsAnswered : List ℕ → LdfFault → Type 0
IsAnswered text fault = (fault ≡ faults.Memory) ⊎ HasFault text fault

lex_fault : (text : List ℕ) (e : LdfFault) → IsLexOrMemory text e → IsAnswered text e
lex_fault text (faults.Lex f) h = inr h
lex_fault text (faults.Statement at) h = absurd h
lex_fault text (faults.Scale at) h = absurd h
lex_fault text (faults.UnknownName at) h = absurd h
lex_fault text (faults.Check f) h = absurd h
lex_fault text faults.Memory h = inl refl

break_fault : (text : List ℕ) (tokens : List Token) (e : LdfFault) → IsTokens text true tokens → IsBreakOrMemory text tokens e → IsAnswered text e
break_fault text tokens (faults.Statement at) lexed h = inr (record { tokens = tokens; lexed = lexed; broken = h })
break_fault text tokens (faults.Lex f) lexed h = absurd h
break_fault text tokens (faults.Scale at) lexed h = absurd h
break_fault text tokens (faults.UnknownName at) lexed h = absurd h
break_fault text tokens (faults.Check f) lexed h = absurd h
break_fault text tokens faults.Memory lexed h = inl refl

gather_fault : (text : List ℕ) (tokens : List Token) (statements : List Statement) (e : LdfFault) → IsTokens text true tokens → AllRows text statements tokens []
    → FailsToGather text statements e → IsAnswered text e
gather_fault text tokens statements (faults.Scale at) lexed are h = inr (record {
  statements = statements;
  whole = record { tokens = tokens; lexed = lexed; parse = are };
  first = h;
})
gather_fault text tokens statements (faults.UnknownName at) lexed are h = inr (record {
  statements = statements;
  coded = h.coded;
  read = record { whole = record { tokens = tokens; lexed = lexed; parse = are }; encodings = h.encodings };
  first = h.first;
})
gather_fault text tokens statements (faults.Lex f) lexed are h = absurd h
gather_fault text tokens statements (faults.Statement at) lexed are h = absurd h
gather_fault text tokens statements (faults.Check f) lexed are h = absurd h
gather_fault text tokens statements faults.Memory lexed are h = inl refl

check_fault : (text : List ℕ) (database : Database) (e : LdfFault) → Makes text database → IsCheckOrMemory database e → IsAnswered text e
check_fault text database (faults.Check f) makes h = inr (database, makes, h)
check_fault text database (faults.Lex f) makes h = absurd h
check_fault text database (faults.Statement at) makes h = absurd h
check_fault text database (faults.Scale at) makes h = absurd h
check_fault text database (faults.UnknownName at) makes h = absurd h
check_fault text database faults.Memory makes h = inl refl

answered : {A : Type 0} (r : Result A LdfFault) (e : LdfFault) (text : List ℕ) → IsErr r × IsErrAnd r (λ s. s ≡ e) → IsAnswered text e → IfErr r (IsAnswered text)
answered {A} r e text h a = let P : Result A LdfFault → Type 0 = λ x. IfErr x (IsAnswered text) in subst P (sym (same_fault r e h)) a

pub lex_passes : {A : Type 0} (r : Result A LdfFault) (e : LdfFault) (text : List ℕ) → IsErr r × IsErrAnd r (λ s. s ≡ e) → IsLexOrMemory text e → IfErr r (IsAnswered text)
lex_passes r e text h f = answered r e text h (lex_fault text e f)

pub break_passes : {A : Type 0} (r : Result A LdfFault) (e : LdfFault) (text : List ℕ) (tokens : List Token) → IsErr r × IsErrAnd r (λ s. s ≡ e) → IsTokens text true tokens
    → IsBreakOrMemory text tokens e → IfErr r (IsAnswered text)
break_passes r e text tokens h lexed f = answered r e text h (break_fault text tokens e lexed f)

pub gather_passes : {A : Type 0} (r : Result A LdfFault) (e : LdfFault) (text : List ℕ) (tokens : List Token) (statements : List Statement) → IsErr r × IsErrAnd r (λ s. s ≡ e)
    → IsTokens text true tokens → AllRows text statements tokens [] → FailsToGather text statements e → IfErr r (IsAnswered text)
gather_passes r e text tokens statements h lexed are f = answered r e text h (gather_fault text tokens statements e lexed are f)

check_if : {A : Type 0} (r : Result A LdfFault) (text : List ℕ) (database : Database) → Makes text database → IfErr r (IsCheckOrMemory database) → IfErr r (IsAnswered text)
check_if (Ok x) text database makes f = f
check_if (Err e) text database makes f = check_fault text database e makes f

pub check_passes : {A : Type 0} (r : Result A LdfFault) (text : List ℕ) (database : Database) → Makes text database → IfErr r (IsCheckOrMemory database) → IfErr r (IsAnswered text)
check_passes r text database makes f = check_if r text database makes f
