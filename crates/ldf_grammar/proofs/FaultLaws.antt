-- A text has one fault at most, and none where it describes a database: each kind of fault excludes the others.
use Rattle.std.proofs.Common.{◌≡◌, ap, subst, ℕ, ◌⊎◌, inl, inr, true, List, Ok, Err, Result}
use Rattle.std.specs.Prelude.{IfOk, IfErr, IsOkAnd, IsErrOf}
use Rattle.bench_model.specs.declared.database.Database.{Database}
use Rattle.bench_model.specs.Check.{IsFirstFault}
use Rattle.bench_model.specs.declared.valid.Valid.{Valid}
use Rattle.ldf_grammar.specs.Described.{IsDatabaseOf, HasFault}
use Rattle.ldf_grammar.specs.declared.fault.LdfFault.{LdfFault}
use Rattle.ldf_grammar.specs.declared.fault.LdfFault.TheVariants as faults
use Rattle.ldf_grammar.proofs.OneLaws.{Below, not_broken, one_break, one_scale, not_wide, one_name, not_unknown, one_made, one_check}

pub one_fault : (below : Below) (text : List ℕ) (a b : LdfFault) → HasFault text a → HasFault text b → a ≡ b
one_fault below text (faults.Lex f) (faults.Lex g) p q = ap faults.Lex (below.lexical text true f g p q)
one_fault below text (faults.Lex f) (faults.Statement at) p q = absurd (below.apart text true q.tokens f q.lexed p)
one_fault below text (faults.Lex f) (faults.Scale at) p q = absurd (below.apart text true q.whole.tokens f q.whole.lexed p)
one_fault below text (faults.Lex f) (faults.UnknownName at) p q = absurd (below.apart text true q.read.whole.tokens f q.read.whole.lexed p)
one_fault below text (faults.Lex f) (faults.Check g) p (d, q, v) = absurd (below.apart text true q.read.whole.tokens f q.read.whole.lexed p)
one_fault below text (faults.Lex f) faults.Memory p q = absurd q
one_fault below text (faults.Statement at) (faults.Lex g) p q = absurd (below.apart text true p.tokens g p.lexed q)
one_fault below text (faults.Statement at) (faults.Statement to) p q = ap faults.Statement (one_break below text at to p q)
one_fault below text (faults.Statement at) (faults.Scale to) p q = absurd (not_broken below text q.statements at q.whole p)
one_fault below text (faults.Statement at) (faults.UnknownName to) p q = absurd (not_broken below text q.statements at q.read.whole p)
one_fault below text (faults.Statement at) (faults.Check g) p (d, q, v) = absurd (not_broken below text q.statements at q.read.whole p)
one_fault below text (faults.Statement at) faults.Memory p q = absurd q
one_fault below text (faults.Scale at) (faults.Lex g) p q = absurd (below.apart text true p.whole.tokens g p.whole.lexed q)
one_fault below text (faults.Scale at) (faults.Statement to) p q = absurd (not_broken below text p.statements to p.whole q)
one_fault below text (faults.Scale at) (faults.Scale to) p q = ap faults.Scale (one_scale below text at to p q)
one_fault below text (faults.Scale at) (faults.UnknownName to) p q = absurd (not_wide below text q.statements q.coded at q.read p)
one_fault below text (faults.Scale at) (faults.Check g) p (d, q, v) = absurd (not_wide below text q.statements q.coded at q.read p)
one_fault below text (faults.Scale at) faults.Memory p q = absurd q
one_fault below text (faults.UnknownName at) (faults.Lex g) p q = absurd (below.apart text true p.read.whole.tokens g p.read.whole.lexed q)
one_fault below text (faults.UnknownName at) (faults.Statement to) p q = absurd (not_broken below text p.statements to p.read.whole q)
one_fault below text (faults.UnknownName at) (faults.Scale to) p q = absurd (not_wide below text p.statements p.coded to p.read q)
one_fault below text (faults.UnknownName at) (faults.UnknownName to) p q = ap faults.UnknownName (one_name below text at to p q)
one_fault below text (faults.UnknownName at) (faults.Check g) p (d, q, v) = absurd (not_unknown below text d at q p)
one_fault below text (faults.UnknownName at) faults.Memory p q = absurd q
one_fault below text (faults.Check f) (faults.Lex g) (d, p, v) q = absurd (below.apart text true p.read.whole.tokens g p.read.whole.lexed q)
one_fault below text (faults.Check f) (faults.Statement to) (d, p, v) q = absurd (not_broken below text p.statements to p.read.whole q)
one_fault below text (faults.Check f) (faults.Scale to) (d, p, v) q = absurd (not_wide below text p.statements p.coded to p.read q)
one_fault below text (faults.Check f) (faults.UnknownName to) (d, p, v) q = absurd (not_unknown below text d to p q)
one_fault below text (faults.Check f) (faults.Check g) p q = ap faults.Check (one_check below text f g p q)
one_fault below text (faults.Check f) faults.Memory p q = absurd q
one_fault below text faults.Memory b p q = absurd p

pub no_fault : (below : Below) (text : List ℕ) (d : Database) (f : LdfFault) → IsDatabaseOf text d → ¬ HasFault text f
no_fault below text d (faults.Lex f) p q = below.apart text true p.made.read.whole.tokens f p.made.read.whole.lexed q
no_fault below text d (faults.Statement at) p q = not_broken below text p.made.statements at p.made.read.whole q
no_fault below text d (faults.Scale at) p q = not_wide below text p.made.statements p.made.coded at p.made.read q
no_fault below text d (faults.UnknownName at) p q = not_unknown below text d at p.made q
no_fault below text d (faults.Check f) p (e, q, v) =
    let P : Database → Type 0 = λ z. IsFirstFault z f in
    below.verdicts_apart d f p.valid (subst P (one_made below text e d q p.made) v)
no_fault below text d faults.Memory p q = q

-- what is true of the text is answered
pub database_answered : (text : List ℕ) (r : Result Valid LdfFault) (d : Database) → ((a b : Database) → IsDatabaseOf text a → IsDatabaseOf text b → a ≡ b)
    → ((a : Database) (f : LdfFault) → IsDatabaseOf text a → ¬ HasFault text f) → IfOk r (λ valid. IsDatabaseOf text valid.database)
    → IfErr r (λ fault. (fault ≡ faults.Memory) ⊎ HasFault text fault) → IsDatabaseOf text d → IsOkAnd r (λ valid. valid.database ≡ d) ⊎ IsErrOf r faults.Memory
database_answered text (Ok valid) d one apart ok err is = inl (one valid.database d ok is)
database_answered text (Err fault) d one apart ok err is = elim err [
  | inl e ↦ inr (ap Err e)
  | inr has ↦ absurd (apart d fault is has)
]

pub fault_answered : (text : List ℕ) (r : Result Valid LdfFault) (f : LdfFault) → ((a b : LdfFault) → HasFault text a → HasFault text b → a ≡ b)
    → ((a : Database) (f : LdfFault) → IsDatabaseOf text a → ¬ HasFault text f) → IfOk r (λ valid. IsDatabaseOf text valid.database)
    → IfErr r (λ fault. (fault ≡ faults.Memory) ⊎ HasFault text fault) → HasFault text f → IsErrOf r f ⊎ IsErrOf r faults.Memory
fault_answered text (Ok valid) f one apart ok err has = absurd (apart valid.database f ok has)
fault_answered text (Err fault) f one apart ok err has = elim err [
  | inl e ↦ inr (ap Err e)
  | inr is ↦ inl (ap Err (one fault f is has))
]
