-- A file that is checked has one verdict, and its check is read and judged with its cause.
use Rattle.std.proofs.Common.{◌≡◌, ℕ, List, [], ◌∷◌, Option, Some, None, Result, Ok, Err, refl, ap, subst, inl, inr}
use Rattle.std.specs.Prelude.{IfSome, IsSome, IsErrAnd}
use Rattle.port_io.specs.Library.{named}
use Rattle.decisions.specs.Decisions.{Decides}
use Rattle.bench_model.specs.Check.{IsValid}
use Rattle.bench_model.specs.declared.database.Kind.{Kind}
use Rattle.bench_model.specs.declared.database.Database.{Database}
use Rattle.bench_model.specs.declared.valid.Valid.{Valid}
use Rattle.bench_inputs.specs.declared.database_file.DatabaseFile.{DatabaseFile}
use Rattle.bench_inputs.specs.declared.refused.FileRefused.{FileRefused}
use Rattle.bench_inputs.specs.declared.refused.FileRefused.TheVariants as unread
use Rattle.bench_inputs.specs.Asking.{Files, LibraryState, strays_over, Asks}
use Rattle.bench_inputs.specs.BenchFiles.{HasDatabase}
use Rattle.bench_inputs.specs.Reading.{Caused}
use Rattle.bench_loader.specs.declared.fault.DatabaseFault.{DatabaseFault}
use Rattle.bench_loader.specs.declared.fault.JudgeRefused.{JudgeRefused}
use Rattle.bench_loader.specs.declared.fault.JudgeRefused.TheVariants as judges
use Rattle.bench_loader.specs.declared.check.CheckRefused.{CheckRefused}
use Rattle.bench_loader.specs.Judging.{Holds, IsRefused}
use Rattle.bench_loader.specs.JudgeView.{JudgesFile}
use Rattle.bench_loader.specs.CheckRefusals.{of_file, of_judge}
use Rattle.bench_loader.specs.Checking.{kind_of_name, HoldsNamed, IsRefusedNamed, CheckVerdict, not_there, has_fault, has_database, IsCheckVerdict, AnswersCheck, ChecksFile}

module _ (F : (files : Files) → Decides (HasDatabase files) (λ (name : List ℕ) (why : Unit {0}). named files name ≡ None))
    (J : Decides (λ (p : Kind × DatabaseFile) (d : Database). Holds p.0 p.1 d) (λ (p : Kind × DatabaseFile) (f : DatabaseFault). IsRefused p.0 p.1 f))
    (files : Files) (name : List ℕ) where
  with_file : (file : DatabaseFile) → HasDatabase files name file → (v : CheckVerdict) × IsCheckVerdict files name v
  with_file file has =
      elim (J.some (kind_of_name name, file)) [
        | inl d ↦ let is : HoldsNamed files name d.0 = record { file = file; is_there = has; holds = d.1 } in (has_database d.0, is)
        | inr f ↦ let is : IsRefusedNamed files name f.0 = record { file = file; is_there = has; refused = f.1 } in (has_fault f.0, is)
      ]

  pub some_check : (v : CheckVerdict) × IsCheckVerdict files name v
  some_check = elim ((F files).some name) [ inl read ↦ with_file read.0 read.1 | inr gone ↦ (not_there, gone.1) ]

  same_file : (a b : DatabaseFile) → HasDatabase files name a → HasDatabase files name b → a ≡ b
  same_file a b h k = (F files).one name a b h k

  same_database : (d e : Database) → HoldsNamed files name d → HoldsNamed files name e → d ≡ e
  same_database d e h k =
      let P : DatabaseFile → Type 0 = λ f. Holds (kind_of_name name) f d in
      J.one (kind_of_name name, k.file) d e (subst P (same_file h.file k.file h.is_there k.is_there) h.holds) k.holds

  same_fault : (f g : DatabaseFault) → IsRefusedNamed files name f → IsRefusedNamed files name g → f ≡ g
  same_fault f g h k =
      let P : DatabaseFile → Type 0 = λ x. IsRefused (kind_of_name name) x f in
      J.only (kind_of_name name, k.file) f g (subst P (same_file h.file k.file h.is_there k.is_there) h.refused) k.refused

  held_or_refused : (d : Database) (f : DatabaseFault) → HoldsNamed files name d → IsRefusedNamed files name f → ⊥
  held_or_refused d f h k =
      let P : DatabaseFile → Type 0 = λ x. Holds (kind_of_name name) x d in
      J.apart (kind_of_name name, k.file) d f (subst P (same_file h.file k.file h.is_there k.is_there) h.holds) k.refused

  there_or_gone : (file : DatabaseFile) → HasDatabase files name file → named files name ≡ None → ⊥
  there_or_gone file has gone = (F files).apart name file tt has gone

  pub one_check : (v w : CheckVerdict) → IsCheckVerdict files name v → IsCheckVerdict files name w → v ≡ w
  one_check not_there not_there h k = refl
  one_check not_there (has_fault f) h k = absurd (there_or_gone k.file k.is_there h)
  one_check not_there (has_database d) h k = absurd (there_or_gone k.file k.is_there h)
  one_check (has_fault f) not_there h k = absurd (there_or_gone h.file h.is_there k)
  one_check (has_fault f) (has_fault g) h k = ap has_fault (same_fault f g h k)
  one_check (has_fault f) (has_database d) h k = absurd (held_or_refused d f k h)
  one_check (has_database d) not_there h k = absurd (there_or_gone h.file h.is_there k)
  one_check (has_database d) (has_fault f) h k = absurd (held_or_refused d f h k)
  one_check (has_database d) (has_database e) h k = ap has_database (same_database d e h k)

-- the same answer by another equation
pub checks_as : (before now : LibraryState) (name : List ℕ) (r : Result Valid CheckRefused) (why : CheckRefused)
    → IsErrAnd r (λ f. f ≡ why) → ChecksFile before name (Err why) now → ChecksFile before name r now
checks_as before now name (Ok valid) why h checks = absurd h
checks_as before now name (Err f) why h checks = rw h checks

module _ (before now : LibraryState) (name : List ℕ) (asks : Asks before (name ∷ []) now) where
  kept_strays : IfSome before.files (λ files. IsSome (named files name) → now.strays ≡ before.strays)
  kept_strays = go before.files asks.strays where
    go : (known : Option Files) → now.strays ≡ strays_over known (name ∷ []) before.strays
        → IfSome known (λ files. IsSome (named files name) → now.strays ≡ before.strays)
    go None e = tt
    go (Some files) e = λ there. rw there at e

  file_cause : (why : FileRefused) → Caused before now why → AnswersCheck before name now (Err (of_file why))
  file_cause unread.Open c = c
  file_cause unread.Read c = c
  file_cause unread.Memory c = tt

  pub stops_at_file : (why : FileRefused) → Caused before now why → ChecksFile before name (Err (of_file why)) now
  stops_at_file why c = record {
    answer = file_cause why c;
    valid = tt;
    files = asks.files;
    opens = asks.opens;
    reads = asks.reads;
    strays = kept_strays;
  }

  held_of : (known : Option Files) (file : DatabaseFile) (d : Database) → IfSome known (λ files. HasDatabase files name file)
      → Holds (kind_of_name name) file d → IfSome known (λ files. HoldsNamed files name d)
  held_of None file d has holds = tt
  held_of (Some files) file d has holds = record { file = file; is_there = has; holds = holds }

  refusal_of : (known : Option Files) (file : DatabaseFile) (f : DatabaseFault)
      → IfSome known (λ files. HasDatabase files name file) → IsRefused (kind_of_name name) file f
      → IfSome known (λ files. IsRefusedNamed files name f)
  refusal_of None file f has fails = tt
  refusal_of (Some files) file f has fails = record { file = file; is_there = has; refused = fails }

  judge_cause : (file : DatabaseFile) (why : JudgeRefused) → IfSome before.files (λ files. HasDatabase files name file)
      → JudgesFile (kind_of_name name) file (Err why)
      → AnswersCheck before name now (Err (of_judge why))
  judge_cause file (judges.Fault f) has h = refusal_of before.files file f has h
  judge_cause file judges.Memory has h = tt

  pub stops_at_judge : (file : DatabaseFile) (why : JudgeRefused)
      → IfSome before.files (λ files. HasDatabase files name file) → JudgesFile (kind_of_name name) file (Err why)
      → ChecksFile before name (Err (of_judge why)) now
  stops_at_judge file why has h = record {
    answer = judge_cause file why has h;
    valid = tt;
    files = asks.files;
    opens = asks.opens;
    reads = asks.reads;
    strays = kept_strays;
  }

  pub checks : (file : DatabaseFile) (valid : Valid) → IfSome before.files (λ files. HasDatabase files name file)
      → JudgesFile (kind_of_name name) file (Ok valid) → IsValid valid.database
      → ChecksFile before name (Ok valid) now
  checks file valid has h is_valid = record {
    answer = held_of before.files file valid.database has h;
    valid = is_valid;
    files = asks.files;
    opens = asks.opens;
    reads = asks.reads;
    strays = kept_strays;
  }
