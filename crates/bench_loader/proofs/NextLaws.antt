-- What each stage of a command answers is an answer to the command.
use Rattle.std.proofs.Common.{◌≡◌, ℕ, zero, suc, ◌<◌, List, [], ◌∷◌, ◌++◌, length, get_or, Result, Ok, Err, refl, sym, subst, ◌∙◌, arith}
use Rattle.std.specs.Prelude.{Option, Some, None, All, IsSome, IfSome, IsErrAnd, zip, Vec}
use Rattle.std.specs.declared.alloc.Global.{Global}
use Rattle.std.specs.List.{AllZip}
use Rattle.std.proofs.lemmas.List.{append-nil}
use Rattle.port_io.specs.Library.{named}
use Rattle.bench_model.specs.declared.database.Bus.{Bus}
use Rattle.bench_model.specs.declared.database.Bench.{Bench}
use Rattle.bench_model.specs.declared.replace.Change.{Change}
use Rattle.bench_model.specs.Replaced.{bench_after}
use Rattle.bench_inputs.specs.declared.database_file.DatabaseFile.{DatabaseFile}
use Rattle.bench_inputs.specs.Asking.{Files, LibraryState, strays_over, Asks, AsksFirst}
use Rattle.bench_loader.specs.declared.fault.BenchRefused.{BenchRefused}
use Rattle.bench_loader.specs.declared.fault.BenchRefused.TheVariants as benches
use Rattle.bench_loader.specs.declared.load_line.Pair.{Pair}
use Rattle.bench_loader.specs.declared.load_line.LineRefused.{LineRefused}
use Rattle.bench_loader.specs.declared.load_line.LineRefused.TheVariants as lines
use Rattle.bench_loader.specs.declared.targets.Target.{Target}
use Rattle.bench_loader.specs.declared.targets.BusRefused.{BusRefused}
use Rattle.bench_loader.specs.declared.targets.BusRefused.TheVariants as buses
use Rattle.bench_loader.specs.declared.load_files.Unread.{Unread}
use Rattle.bench_loader.specs.declared.load_files.Unread.TheVariants as unread
use Rattle.bench_loader.specs.declared.reply.Reply.{Reply}
use Rattle.bench_loader.specs.declared.reply.Reply.TheVariants as replies
use Rattle.bench_loader.specs.LoadLine.{IsLoad}
use Rattle.bench_loader.specs.Targets.{NamesBuses, NamesNoBus}
use Rattle.bench_loader.specs.NextBench.{file_names, AreFiles, IsChange, NamesFiles, IsRefusedLoad, IsNextBench}
use Rattle.bench_loader.specs.Commands.{HasAllFiles, KeepsLibrary, NamesBus}
use Rattle.bench_loader.specs.LineView.{ReadsLoad}
use Rattle.bench_loader.specs.LoadView.{FindsTargets, StopsAtFile, ReadsFiles, JudgesFiles}
use Rattle.bench_loader.specs.ReplyView.{reply_of_line, reply_of_bus, reply_of_file, reply_of_bench}
use Rattle.bench_loader.specs.CommandView.{IsEarlyReply, FindsNext}
use Rattle.bench_loader.proofs.AskLaws.{prefix_there, strays_rise}

-- calls for names that are all there count no strays, as the law of the inputs says
abbrev pub CountsNone : Type 0
CountsNone = (files : Files) (names : List (List ℕ)) (strays : ℕ) → All (λ name. IsSome (named files name)) names
    → strays_over (Some files) names strays ≡ strays

all_named : (P : List ℕ → Type 0) (pairs : List Pair) → ((k : ℕ) (d : Pair) → k < length pairs → P (get_or pairs k d).file)
    → (k : ℕ) (d : List ℕ) → k < length (file_names pairs) → P (get_or (file_names pairs) k d)
all_named P [] h k d within = absurd (omega arith)
all_named P (p ∷ ps) h zero d within = h 0 p (omega arith)
all_named P (p ∷ ps) h (suc k) d within = all_named P ps (λ i e inside. h (suc i) e (omega arith)) k d (omega arith)

strays_kept : (L : CountsNone) (files : Option Files) (asked names unasked : List (List ℕ)) (n m : ℕ) → asked ++ unasked ≡ names → m ≡ strays_over files asked n
    → IfSome files (λ fs. All (λ name. IsSome (named fs name)) names → m ≡ n)
strays_kept L None asked names unasked n m parted is = tt
strays_kept L (Some fs) asked names unasked n m parted is = λ there. is ∙ L fs asked n (prefix_there fs asked unasked names parted there)

weaker : (files : Option Files) (bench : Bench) (line : List ℕ) (pairs : List Pair) (targets : List Target) (n m : ℕ) → NamesBuses bench.buses line pairs targets
    → IfSome files (λ fs. All (λ name. IsSome (named fs name)) (file_names pairs) → m ≡ n) → IfSome files (λ fs. HasAllFiles fs bench line → m ≡ n)
weaker None bench line pairs targets n m names h = tt
weaker (Some fs) bench line pairs targets n m names h = λ all.
    h (all_named (λ name. IsSome (named fs name)) pairs (all pairs targets names))

-- the library where nothing was asked for
some_same : (files : Option Files) (bench : Bench) (line : List ℕ) (n : ℕ) → IfSome files (λ fs. HasAllFiles fs bench line → n ≡ n)
some_same None bench line n = tt
some_same (Some fs) bench line n = λ all. refl

pub keeps_same : (s : LibraryState) (bench : Bench) (line : List ℕ) → KeepsLibrary bench line s s
keeps_same s bench line = record { files = refl; opens = omega arith; reads = omega arith; rises = omega arith; strays = some_same s.files bench line s.strays }

-- and where the first files of the line were asked for
pub keeps_asked : (L : CountsNone) (before now : LibraryState) (bench : Bench) (line : List ℕ) (pairs : List Pair) (targets : List Target) → NamesBuses bench.buses line pairs targets
    → AsksFirst before (file_names pairs) now → KeepsLibrary bench line before now
keeps_asked L before now bench line pairs targets names asks = record {
  files = asks.calls.files;
  opens = asks.calls.opens;
  reads = asks.calls.reads;
  rises = omega (arith, asks.calls.strays, strays_rise before.files asks.asked before.strays);
  strays = weaker before.files bench line pairs targets before.strays now.strays names
      (strays_kept L before.files asks.asked (file_names pairs) asks.unasked before.strays now.strays asks.parted asks.calls.strays);
}

pub asks_all : (before now : LibraryState) (names : List (List ℕ)) → Asks before names now → AsksFirst before names now
asks_all before now names asks = record { asked = names; unasked = []; parted = append-nil names; calls = asks }

-- a refusal, as the answer
pub finds_as : (before now : LibraryState) (bench : Bench) (line : List ℕ) (r : Result Bench Reply) (reply : Reply) → IsErrAnd r (λ e. e ≡ reply)
    → KeepsLibrary bench line before now → IsEarlyReply before now bench line reply → FindsNext before bench line r now
finds_as before now bench line (Ok next) reply is keeps early = absurd is
finds_as before now bench line (Err e) reply is keeps early =
    let P : Reply → Type 0 = λ x. IsEarlyReply before now bench line x in
    record { asks = keeps; answer = subst P (sym is) early }

pub memory_early : (before now : LibraryState) (bench : Bench) (line : List ℕ) → IsEarlyReply before now bench line replies.Memory
memory_early before now bench line = record { early = tt; cause = λ limits version. tt }

-- the line is no command
pub line_early : (before now : LibraryState) (bench : Bench) (line : List ℕ) (why : LineRefused) → ReadsLoad line (Err why) → IsEarlyReply before now bench line (reply_of_line why)
line_early before now bench line lines.Form other = record { early = tt; cause = λ limits version. other }
line_early before now bench line lines.Memory other = memory_early before now bench line

-- a bus is unknown
pub bus_early : (before now : LibraryState) (bench : Bench) (line : List ℕ) (pairs : List Pair) (why : BusRefused) → IsLoad line pairs → FindsTargets bench.buses pairs (Err why)
    → IsEarlyReply before now bench line (reply_of_bus why)
bus_early before now bench line pairs (buses.Unknown place name) load first =
    let unknown : NamesNoBus bench.buses line place name = record { pairs = pairs; load = load; first = first } in
    record { early = tt; cause = λ limits version. unknown }
bus_early before now bench line pairs buses.Memory load first = memory_early before now bench line

-- a file was not read
pub file_early : (before now : LibraryState) (bench : Bench) (line : List ℕ) (pairs : List Pair) (targets : List Target) (why : Unread) → NamesBuses bench.buses line pairs targets
    → StopsAtFile before pairs targets why now → IsEarlyReply before now bench line (reply_of_file why)
file_early before now bench line pairs targets (unread.Open bus) names stops =
    let named : NamesBus bench line bus = record { pairs = pairs; targets = targets; names = names; among = stops.cause.0 } in
    record { early = tt; cause = λ limits version. (named, stops.cause.1) }
file_early before now bench line pairs targets (unread.Read bus) names stops =
    let named : NamesBus bench line bus = record { pairs = pairs; targets = targets; names = names; among = stops.cause.0 } in
    record { early = tt; cause = λ limits version. (named, stops.cause.1) }
file_early before now bench line pairs targets unread.Memory names stops = memory_early before now bench line

-- a file is refused
pub fault_early : (before now : LibraryState) (bench : Bench) (line : List ℕ) (pairs : List Pair) (targets : List Target) (read : List DatabaseFile) (why : BenchRefused)
    → NamesBuses bench.buses line pairs targets → length read ≡ length pairs → AreFiles before.files pairs read → JudgesFiles (zip targets read) (Err why)
    → IsEarlyReply before now bench line (reply_of_bench why)
fault_early before now bench line pairs targets read (benches.Refused bus fault) names count are first =
    let named : NamesFiles before.files bench line targets read = record { pairs = pairs; names = names; count = count; are_files = are } in
    let refused : IsRefusedLoad before.files bench line (bus, fault) = record { targets = targets; read = read; names = named; first = first } in
    record { early = tt; cause = λ limits version. refused }
fault_early before now bench line pairs targets read benches.Memory names count are first = memory_early before now bench line

-- the next bench
pub is_next : (files : Option Files) (bench : Bench) (line : List ℕ) (pairs : List Pair) (targets : List Target) (read : List DatabaseFile) (changes : List Change) (next : Bench)
    → NamesBuses bench.buses line pairs targets → length read ≡ length pairs → AreFiles files pairs read → AllZip IsChange (zip targets read) changes → next ≡ bench_after bench changes
    → IsNextBench files bench line next
is_next files bench line pairs targets read changes next names count are each after = record {
  targets = targets;
  read = read;
  names = record { pairs = pairs; names = names; count = count; are_files = are };
  changes = changes;
  each = each;
  after = after;
}

-- the stages read the same lists through references
pub targets_at : (b bs : List Bus) (p ps : List Pair) (r : Result (Vec Target Global) BusRefused) → b ≡ bs → p ≡ ps → FindsTargets b p r → FindsTargets bs ps r
targets_at b bs p ps r e f h =
    let P : List Bus → Type 0 = λ x. FindsTargets x p r in
    let Q : List Pair → Type 0 = λ x. FindsTargets bs x r in
    subst Q f (subst P e h)

pub files_at : (before now : LibraryState) (p ps : List Pair) (t ts : List Target) (r : Result (Vec DatabaseFile Global) Unread) → p ≡ ps → t ≡ ts → ReadsFiles before p t r now → ReadsFiles before ps ts r now
files_at before now p ps t ts r e f h =
    let P : List Pair → Type 0 = λ x. ReadsFiles before x t r now in
    let Q : List Target → Type 0 = λ x. ReadsFiles before ps x r now in
    subst Q f (subst P e h)

pub changes_at : (t ts : List Target) (f fs : List DatabaseFile) (r : Result (Vec Change Global) BenchRefused) → t ≡ ts → f ≡ fs → JudgesFiles (zip t f) r → JudgesFiles (zip ts fs) r
changes_at t ts f fs r e g h =
    let P : List Target → Type 0 = λ x. JudgesFiles (zip x f) r in
    let Q : List DatabaseFile → Type 0 = λ x. JudgesFiles (zip ts x) r in
    subst Q g (subst P e h)
