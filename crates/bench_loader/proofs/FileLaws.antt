-- On a bus of a kind a file holds one database or is refused for one fault, and what a judge answers of it is that one.
use Rattle.std.proofs.Common.{◌≡◌, ◌⊎◌, ℕ, List, [], Result, Ok, Err, IsOkAnd, IsErrOf, refl, sym, ap, ◌∙◌, inl, inr}
use Rattle.decisions.specs.Decisions.{Decides}
use Rattle.bench_model.specs.declared.database.Kind.{Kind}
use Rattle.bench_model.specs.declared.database.Kind.TheVariants as kinds
use Rattle.bench_model.specs.declared.database.Database.{Database}
use Rattle.bench_model.specs.declared.database.Message.{Message}
use Rattle.bench_model.specs.declared.valid.Valid.{Valid}
use Rattle.dbc_grammar.specs.Contract as dbc
use Rattle.ldf_grammar.specs.Described as ldf
use Rattle.bench_inputs.specs.declared.database_file.DatabaseFile.{DatabaseFile}
use Rattle.bench_inputs.specs.declared.database_file.DatabaseFile.TheVariants as files
use Rattle.bench_loader.specs.declared.fault.DatabaseFault.{DatabaseFault}
use Rattle.bench_loader.specs.declared.fault.DatabaseFault.TheVariants as faults
use Rattle.bench_loader.specs.declared.fault.JudgeRefused.{JudgeRefused}
use Rattle.bench_loader.specs.declared.fault.JudgeRefused.TheVariants as refused
use Rattle.bench_loader.specs.Judging.{IsDatabaseOn, HasFaultOn, Holds, IsRefused}
use Rattle.bench_loader.specs.JudgeView.{JudgesFile}

database_path : (d e : Database) → d.messages ≡ e.messages → d ≡ e
database_path d e p = ap (λ (x : List Message). let r : Database = record { messages = x } in r) p

module _ (D : Decides dbc.IsDatabaseOf dbc.HasFault) (L : Decides ldf.IsDatabaseOf ldf.HasFault) where
  some_on : (kind : Kind) (bytes : List ℕ)
      → ((d : Database) × IsDatabaseOn kind bytes d) ⊎ ((f : DatabaseFault) × HasFaultOn kind bytes f)
  some_on kinds.Can bytes = elim (D.some bytes) [ inl d ↦ inl (d.0, d.1) | inr f ↦ inr (faults.Dbc f.0, f.1) ]
  some_on kinds.J1939 bytes = elim (D.some bytes) [ inl d ↦ inl (d.0, d.1) | inr f ↦ inr (faults.Dbc f.0, f.1) ]
  some_on kinds.Lin bytes = elim (L.some bytes) [ inl d ↦ inl (d.0, d.1) | inr f ↦ inr (faults.Ldf f.0, f.1) ]

  one_on : (kind : Kind) (bytes : List ℕ) (d e : Database) → IsDatabaseOn kind bytes d → IsDatabaseOn kind bytes e → d ≡ e
  one_on kinds.Can bytes d e h k = D.one bytes d e h k
  one_on kinds.J1939 bytes d e h k = D.one bytes d e h k
  one_on kinds.Lin bytes d e h k = L.one bytes d e h k

  only_on : (kind : Kind) (bytes : List ℕ) (f g : DatabaseFault) → HasFaultOn kind bytes f → HasFaultOn kind bytes g → f ≡ g
  only_on kinds.Can bytes (faults.Dbc f) (faults.Dbc g) h k = ap faults.Dbc (D.only bytes f g h k)
  only_on kinds.Can bytes (faults.Dbc f) (faults.Ldf g) h k = absurd k
  only_on kinds.Can bytes (faults.Dbc f) faults.Long h k = absurd k
  only_on kinds.Can bytes (faults.Ldf f) g h k = absurd h
  only_on kinds.Can bytes faults.Long g h k = absurd h
  only_on kinds.J1939 bytes (faults.Dbc f) (faults.Dbc g) h k = ap faults.Dbc (D.only bytes f g h k)
  only_on kinds.J1939 bytes (faults.Dbc f) (faults.Ldf g) h k = absurd k
  only_on kinds.J1939 bytes (faults.Dbc f) faults.Long h k = absurd k
  only_on kinds.J1939 bytes (faults.Ldf f) g h k = absurd h
  only_on kinds.J1939 bytes faults.Long g h k = absurd h
  only_on kinds.Lin bytes (faults.Ldf f) (faults.Ldf g) h k = ap faults.Ldf (L.only bytes f g h k)
  only_on kinds.Lin bytes (faults.Ldf f) (faults.Dbc g) h k = absurd k
  only_on kinds.Lin bytes (faults.Ldf f) faults.Long h k = absurd k
  only_on kinds.Lin bytes (faults.Dbc f) g h k = absurd h
  only_on kinds.Lin bytes faults.Long g h k = absurd h

  apart_on : (kind : Kind) (bytes : List ℕ) (d : Database) (f : DatabaseFault) → IsDatabaseOn kind bytes d
      → HasFaultOn kind bytes f → ⊥
  apart_on kinds.Can bytes d (faults.Dbc f) h k = D.apart bytes d f h k
  apart_on kinds.Can bytes d (faults.Ldf f) h k = k
  apart_on kinds.Can bytes d faults.Long h k = k
  apart_on kinds.J1939 bytes d (faults.Dbc f) h k = D.apart bytes d f h k
  apart_on kinds.J1939 bytes d (faults.Ldf f) h k = k
  apart_on kinds.J1939 bytes d faults.Long h k = k
  apart_on kinds.Lin bytes d (faults.Ldf f) h k = L.apart bytes d f h k
  apart_on kinds.Lin bytes d (faults.Dbc f) h k = k
  apart_on kinds.Lin bytes d faults.Long h k = k

  some_of : (kind : Kind) (file : DatabaseFile)
      → ((d : Database) × Holds kind file d) ⊎ ((f : DatabaseFault) × IsRefused kind file f)
  some_of kind files.Absent = let empty : Database = record { messages = [] } in inl (empty, refl)
  some_of kind files.TooLong = inr (faults.Long, refl)
  some_of kind (files.Bytes bytes) = some_on kind bytes

  one_of : (kind : Kind) (file : DatabaseFile) (d e : Database) → Holds kind file d → Holds kind file e → d ≡ e
  one_of kind files.Absent d e h k = database_path d e (h ∙ sym k)
  one_of kind files.TooLong d e h k = absurd h
  one_of kind (files.Bytes bytes) d e h k = one_on kind bytes d e h k

  only_of : (kind : Kind) (file : DatabaseFile) (f g : DatabaseFault) → IsRefused kind file f → IsRefused kind file g → f ≡ g
  only_of kind files.Absent f g h k = absurd h
  only_of kind files.TooLong f g h k = h ∙ sym k
  only_of kind (files.Bytes bytes) f g h k = only_on kind bytes f g h k

  apart_of : (kind : Kind) (file : DatabaseFile) (d : Database) (f : DatabaseFault) → Holds kind file d → IsRefused kind file f → ⊥
  apart_of kind files.Absent d f h k = k
  apart_of kind files.TooLong d f h k = h
  apart_of kind (files.Bytes bytes) d f h k = apart_on kind bytes d f h k

  pub decides_file : Decides (λ (p : Kind × DatabaseFile) (d : Database). Holds p.0 p.1 d) (λ (p : Kind × DatabaseFile) (f : DatabaseFault). IsRefused p.0 p.1 f)
  decides_file = record {
    some = λ p. some_of p.0 p.1;
    one = λ p d e h k. one_of p.0 p.1 d e h k;
    only = λ p f g h k. only_of p.0 p.1 f g h k;
    apart = λ p d f h k. apart_of p.0 p.1 d f h k;
  }

module _ (F : Decides (λ (p : Kind × DatabaseFile) (d : Database). Holds p.0 p.1 d) (λ (p : Kind × DatabaseFile) (f : DatabaseFault). IsRefused p.0 p.1 f))
    (kind : Kind) (file : DatabaseFile) where
  -- the database that the file holds, or out of memory
  pub database_answered : (r : Result Valid JudgeRefused) → JudgesFile kind file r → (d : Database) → Holds kind file d
      → IsOkAnd r (λ valid. valid.database ≡ d) ⊎ IsErrOf r refused.Memory
  database_answered (Ok valid) judges d h = inl (F.one (kind, file) valid.database d judges h)
  database_answered (Err (refused.Fault f)) judges d h = absurd (F.apart (kind, file) d f h judges)
  database_answered (Err refused.Memory) judges d h = inr refl

  -- the fault for which it is refused, or out of memory
  pub fault_answered : (r : Result Valid JudgeRefused) → JudgesFile kind file r → (f : DatabaseFault) → IsRefused kind file f
      → IsErrOf r (refused.Fault f) ⊎ IsErrOf r refused.Memory
  fault_answered (Ok valid) judges f h = absurd (F.apart (kind, file) valid.database f judges h)
  fault_answered (Err (refused.Fault g)) judges f h = inl (ap (λ x. Err (refused.Fault x)) (F.only (kind, file) g f judges h))
  fault_answered (Err refused.Memory) judges f h = inr refl
