-- The databases of buses, read and then judged.
use Rattle.std.proofs.Common.{◌≡◌, ◌⊎◌, ℕ, List, ◌++◌, length, Option, sym, ap, subst, ◌∙◌, inl, inr, arith}
use Rattle.std.specs.Prelude.{Result, Ok, Err, zip, min, IsErr, IsErrAnd}
use Rattle.std.specs.List.{AllZip}
use Rattle.std.proofs.lemmas.Option.{IfSome_then}
use Rattle.std.proofs.lemmas.Slice.Zip.{length-zip}
use Rattle.decisions.specs.Decisions.{Decides}
use Rattle.decisions.specs.ListDecisions.{FirstFailsAt}
use Rattle.bench_model.specs.declared.database.Bus.{Bus}
use Rattle.bench_model.specs.declared.database.Bench.{Bench}
use Rattle.bench_file.specs.declared.plan.PlannedBus.{PlannedBus}
use Rattle.bench_inputs.specs.declared.database_file.DatabaseFile.{DatabaseFile}
use Rattle.bench_inputs.specs.declared.refused.FileRefused.{FileRefused}
use Rattle.bench_inputs.specs.declared.refused.FileRefused.TheVariants as file
use Rattle.bench_inputs.specs.Asking.{Files, LibraryState, strays_over}
use Rattle.bench_inputs.specs.BenchFiles.{IsDatabaseOfBus, LacksDatabase, database_names}
use Rattle.bench_inputs.specs.Reading.{Caused, StopsReading, ReadsAll}
use Rattle.bench_loader.specs.declared.fault.BenchRefused.{BenchRefused}
use Rattle.bench_loader.specs.declared.fault.BenchRefused.TheVariants as bench
use Rattle.bench_loader.specs.Judging.{IsBusOf, AreBuses}
use Rattle.bench_loader.specs.JudgeView.{JudgesBench}
use Rattle.bench_server.specs.declared.refused.DecodeRefused.{DecodeRefused}
use Rattle.bench_server.specs.EndView.{of_file, of_bench}
use Rattle.bench_server.specs.Loading.{ArePlannedBuses, LacksFile, AnswersLoad, LoadsDatabases}
use Rattle.bench_server.proofs.OptionLaws.{if_some, of_some}
use Rattle.bench_server.proofs.LogLaws.{zip_length}
use Rattle.bench_server.proofs.ValidLaws.{valid_bench}
use Rattle.bench_server.proofs.StrayLaws.{AreThere, none_astray, first_there, databases_there}

-- an error that `?` passes on
pub same_error : {T E : Type 0} (r : Result T E) (e : E) → IsErr r × IsErrAnd r (λ x. x ≡ e) → r ≡ Err e
same_error (Ok x) e h = absurd h.1
same_error (Err y) e h = ap Err h.1

same_length : (a b : ℕ) → b ≡ a → min a b ≡ a
same_length a b e = omega arith

unread_answer : (before now : LibraryState) (buses : List PlannedBus) (why : FileRefused) → Caused before now why → AnswersLoad before buses now (Err (of_file why))
unread_answer before now buses file.Open c = c
unread_answer before now buses file.Read c = c
unread_answer before now buses file.Memory c = tt

-- the databases were not all read
pub load_unread : (before now : LibraryState) (buses : List PlannedBus) (why : FileRefused)
    → ((files : Files) → Decides (AllZip (IsDatabaseOfBus files)) (FirstFailsAt (IsDatabaseOfBus files) (LacksDatabase files)))
    → StopsReading before buses why now → LoadsDatabases before buses (Err (of_file why)) now
load_unread before now buses why decides s =
    let calls = s.asks.calls in
    record {
      answer = unread_answer before now buses why s.cause;
      files = calls.files;
      opens = calls.opens;
      reads = calls.reads;
      strays = if_some before.files (λ files. (now.strays ≡ before.strays) ⊎ LacksFile files buses) (λ files e.
          elim ((decides files).some buses) [
            | inl read ↦
                let there : AreThere files (s.asks.asked ++ s.asks.unasked) = subst (λ (names : List (List ℕ)). AreThere files names) (sym s.asks.parted) (databases_there files buses read.0 read.1) in
                inl (calls.strays ∙ ap (λ (fs : Option Files). strays_over fs s.asks.asked before.strays) e
                ∙ none_astray files s.asks.asked before.strays (first_there files s.asks.asked s.asks.unasked there))
            | inr lacks ↦ inr lacks
          ]);
    }

-- what the judges answered
abbrev pub loaded : Result Bench BenchRefused → Result Bench DecodeRefused
loaded (Ok made) = Ok made
loaded (Err why) = Err (of_bench why)

judged_count : (buses : List PlannedBus) (read : List DatabaseFile) (made : List Bus) → length read ≡ length buses → AreBuses (zip buses read) made → length made ≡ length buses
judged_count buses read made n are = zip_length IsBusOf (zip buses read) made are ∙ length-zip buses read ∙ same_length (length buses) (length read) n

judged_answer : (before now : LibraryState) (buses : List PlannedBus) (planned : ArePlannedBuses buses) (read : List DatabaseFile) (r : ReadsAll before buses read now) (result : Result Bench BenchRefused)
    → JudgesBench (zip buses read) result → AnswersLoad before buses now (loaded result)
judged_answer before now buses planned read r (Ok made) j = record {
  count = judged_count buses read made.buses r.count j.are_buses;
  valid = valid_bench buses read made planned (judged_count buses read made.buses r.count j.are_buses) j.are_buses j.valid;
  made = IfSome_then before.files r.databases (λ files all. record { databases = read; databases_are = all; are_buses = j.are_buses });
}
judged_answer before now buses planned read r (Err (bench.Refused bus fault)) j =
    IfSome_then before.files r.databases (λ files all. record { databases = read; databases_are = all; is_first = j })
judged_answer before now buses planned read r (Err bench.Memory) j = tt

-- they were read, and judged
pub load_judged : (before now : LibraryState) (buses : List PlannedBus) → ArePlannedBuses buses → (read : List DatabaseFile) → ReadsAll before buses read now → (result : Result Bench BenchRefused)
    → JudgesBench (zip buses read) result → LoadsDatabases before buses (loaded result) now
load_judged before now buses planned read r result j = record {
  answer = judged_answer before now buses planned read r result j;
  files = r.asks.files;
  opens = r.asks.opens;
  reads = r.asks.reads;
  strays = if_some before.files (λ files. (now.strays ≡ before.strays) ⊎ LacksFile files buses) (λ files e.
      inl (r.asks.strays ∙ ap (λ (fs : Option Files). strays_over fs (database_names buses) before.strays) e
      ∙ none_astray files (database_names buses) before.strays (databases_there files buses read (of_some before.files (λ files. AllZip (IsDatabaseOfBus files) buses read) files e r.databases))));
}
