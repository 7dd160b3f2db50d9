-- Databases read so far and one more are read, and a refusal of one is a refusal of all.
use Rattle.std.proofs.Common.{◌≡◌, ℕ, ◌+◌, ◌<◌, ◌≤◌, List, [], ◌∷◌, ◌++◌, length, get_or, take, drop, Result, Ok, Err, refl, sym, ap, subst, ◌∙◌, arith}
use Rattle.std.specs.Prelude.{Option, IfSome, IsErrAnd, Vec}
use Rattle.std.specs.declared.alloc.Global.{Global}
use Rattle.port_io.specs.Causes.{Rose}
use Rattle.bench_file.specs.declared.plan.PlannedBus.{PlannedBus}
use Rattle.bench_inputs.specs.declared.database_file.DatabaseFile.{DatabaseFile}
use Rattle.bench_inputs.specs.declared.refused.FileRefused.{FileRefused}
use Rattle.bench_inputs.specs.declared.refused.FileRefused.TheVariants as file
use Rattle.bench_inputs.specs.Asking.{Files, LibraryState, Asks, AsksFirst}
use Rattle.bench_inputs.specs.BenchFiles.{name_list, database_names, IsDatabaseOfBus}
use Rattle.bench_inputs.specs.Reading.{Caused, ReadsDatabaseOf, AreDatabases, ReadsAll, StopsReading, ReadsDatabases}
use Rattle.bench_inputs.proofs.AskingLaws.{asks_more, names-more, names_left, databases-more}

caused_later : (before was now : LibraryState) (why : FileRefused) → before.open_faults ≤ was.open_faults → before.more_faults ≤ was.more_faults → Caused was now why → Caused before now why
caused_later before was now file.Open opens reads c = omega (arith, c)
caused_later before was now file.Read opens reads c = omega (arith, c)
caused_later before was now file.Memory opens reads c = tt

stops : (before now : LibraryState) (buses : List PlannedBus) (r : Result (Vec DatabaseFile Global) FileRefused) (why : FileRefused) → IsErrAnd r (λ f. f ≡ why) → StopsReading before buses why now
    → ReadsDatabases before buses r now
stops before now buses (Ok read) why h s = absurd h
stops before now buses (Err f) why h s = rw h s

pub reads_stop : (before was now : LibraryState) (buses : List PlannedBus) (i : ℕ) (d bus : PlannedBus) (r : Result (Vec DatabaseFile Global) FileRefused) (why : FileRefused)
    → IsErrAnd r (λ f. f ≡ why) → i < length buses → bus ≡ get_or buses i d → Asks before (database_names (take i buses)) was → Asks was (name_list bus.database) now → Caused was now why
    → ReadsDatabases before buses r now
reads_stop before was now buses i d bus r why h within is asked more cause =
    stops before now buses r why h (record {
      asks = record {
        asked = database_names (take i buses) ++ name_list bus.database;
        unasked = database_names (drop (i + 1) buses);
        parted = names_left buses i d bus within is;
        calls = asks_more before was now (database_names (take i buses)) (name_list bus.database) asked more;
      };
      cause = caused_later before was now why asked.opens asked.reads cause;
    })

pub reads_more : (before was now : LibraryState) (buses : List PlannedBus) (i : ℕ) (d bus : PlannedBus) (read after : List DatabaseFile) (database : DatabaseFile)
    → i < length buses → bus ≡ get_or buses i d → Asks before (database_names (take i buses)) was → AreDatabases before.files (take i buses) read → ReadsDatabaseOf was bus (Ok database) now
    → after ≡ read ++ database ∷ [] → Asks before (database_names (take (i + 1) buses)) now × AreDatabases before.files (take (i + 1) buses) after
reads_more before was now buses i d bus read after database within is asked are one pushed =
    let P : Option Files → Type 0 = λ files. IfSome files (λ fs. IsDatabaseOfBus fs bus database) in (
      rw (names-more buses i d bus within is) (asks_more before was now (database_names (take i buses)) (name_list bus.database) asked one.asks),
      rw pushed (databases-more before.files buses i d bus read database within is are (subst P asked.files one.answer)),
    )
