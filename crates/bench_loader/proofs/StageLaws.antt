-- The loops of a command's stages: what is found, read and judged so far and one more, and what stops a stage.
use Rattle.std.proofs.Common.{◌≡◌, ℕ, ◌+◌, ◌<◌, ◌≤◌, List, [], ◌∷◌, ◌++◌, length, get_or, take, Result, Ok, Err, Option, None, refl, sym, ap, subst, ◌∙◌, arith}
use Rattle.std.specs.Prelude.{zip, IfSome, IsErrAnd, Vec}
use Rattle.std.specs.declared.alloc.Global.{Global}
use Rattle.std.specs.List.{AllZip}
use Rattle.std.proofs.lemmas.List.{take_all, length-append, length-map, get_or-map}
use Rattle.bench_model.specs.declared.database.Bus.{Bus}
use Rattle.bench_model.specs.declared.valid.Valid.{Valid}
use Rattle.bench_model.specs.declared.replace.Change.{Change}
use Rattle.bench_inputs.specs.declared.database_file.DatabaseFile.{DatabaseFile}
use Rattle.bench_inputs.specs.declared.refused.FileRefused.{FileRefused}
use Rattle.bench_inputs.specs.declared.refused.FileRefused.TheVariants as file
use Rattle.bench_inputs.specs.Asking.{Files, LibraryState, Asks}
use Rattle.bench_inputs.specs.BenchFiles.{HasDatabase}
use Rattle.bench_inputs.specs.Reading.{ReadsDatabase, Caused}
use Rattle.bench_loader.specs.declared.fault.DatabaseFault.{DatabaseFault}
use Rattle.bench_loader.specs.declared.fault.JudgeRefused.{JudgeRefused}
use Rattle.bench_loader.specs.declared.fault.JudgeRefused.TheVariants as refused
use Rattle.bench_loader.specs.declared.load_files.Unread.{Unread}
use Rattle.bench_loader.specs.declared.load_files.Unread.TheVariants as unread
use Rattle.bench_loader.specs.declared.load_line.Pair.{Pair}
use Rattle.bench_loader.specs.declared.targets.Target.{Target}
use Rattle.bench_loader.specs.JudgeView.{JudgesFile, refusal_of_bus}
use Rattle.bench_loader.specs.Targets.{place_of_bus, places_of, IsTarget, IsUnknown}
use Rattle.bench_loader.specs.NextBench.{file_names, AreFiles, IsChange, IsRefusedChange}
use Rattle.bench_loader.specs.LoadView.{IsUnreadCause, ReadsAllFiles, StopsAtFile, ReadsFiles, JudgesFiles, unread_of}
use Rattle.bench_loader.proofs.ZipLaws.{length-zip, pair_at, first_fails, zip_more}
use Rattle.bench_loader.proofs.AskLaws.{asks_next, files_next, asks_first}
use Rattle.decisions.specs.ListDecisions.{FirstFails}

-- a pair that names no bus is the first one
pub no_bus : (buses : List Bus) (pairs : List Pair) (targets : List Target) (i : ℕ) (pair : Pair) (name : List ℕ) → i < length pairs → pair ≡ get_or pairs i pair
    → AllZip (IsTarget buses) (take i pairs) targets → place_of_bus buses pair.bus ≡ None → name ≡ pair.bus → FirstFails (IsTarget buses) (IsUnknown buses) pairs i name
no_bus buses pairs targets i pair name within is made none same =
    let unknown : IsUnknown buses pair name = record { none = none; name_is = same } in
    let P : Pair → Type 0 = λ p. IsUnknown buses p name in
    first_fails (IsTarget buses) (IsUnknown buses) pairs targets i pair name within made (subst P is unknown)

-- files that were read so far
pub record ReadSo (before : LibraryState) (pairs : List Pair) (i : ℕ) (read : List DatabaseFile) (now : LibraryState) : Type 0 where
  pub asks : Asks before (file_names (take i pairs)) now
  pub are_files : AreFiles before.files (take i pairs) read
  pub count : length read ≡ i

asked_for : (was now : LibraryState) (name other : List ℕ) → name ≡ other → Asks was (name ∷ []) now → Asks was (other ∷ []) now
asked_for was now name other same asks = let P : List ℕ → Type 0 = λ n. Asks was (n ∷ []) now in subst P same asks

held_as : (files : Option Files) (name other : List ℕ) (file : DatabaseFile) → name ≡ other → IfSome files (λ fs. HasDatabase fs name file) → IfSome files (λ fs. HasDatabase fs other file)
held_as files name other file same h = let P : List ℕ → Type 0 = λ n. IfSome files (λ fs. HasDatabase fs n file) in subst P same h

pub read_more : (before was now : LibraryState) (pairs : List Pair) (i : ℕ) (pair : Pair) (name : List ℕ) (read after : List DatabaseFile) (file : DatabaseFile) → i < length pairs → pair ≡ get_or pairs i pair
    → name ≡ pair.file → ReadSo before pairs i read was → ReadsDatabase was name (Ok file) now → after ≡ read ++ file ∷ [] → ReadSo before pairs (i + 1) after now
read_more before was now pairs i pair name read after file within is same so one pushed =
    let P : Option Files → Type 0 = λ files. IfSome files (λ fs. HasDatabase fs pair.file file) in
    record {
      asks = asks_next before was now pairs i pair within is so.asks (asked_for was now name pair.file same one.asks);
      are_files = files_next before.files pairs i pair read after file within is so.are_files (subst P so.asks.files (held_as was.files name pair.file file same one.answer)) pushed;
      count = ap length pushed ∙ length-append read (file ∷ []) ∙ ap (λ n. n + 1) so.count;
    }

pub read_all : (before now : LibraryState) (pairs : List Pair) (i : ℕ) (read : List DatabaseFile) → i ≡ length pairs → ReadSo before pairs i read now → ReadsAllFiles before pairs read now
read_all before now pairs i read end so =
    let all : take i pairs ≡ pairs = take_all i pairs (omega (arith, end)) in
    let P : List Pair → Type 0 = λ ps. Asks before (file_names ps) now in
    let Q : List Pair → Type 0 = λ ps. AreFiles before.files ps read in
    record { asks = subst P all so.asks; are_files = subst Q all so.are_files; count = so.count ∙ end }

-- a file that was not read
pub read_stops : (before was now : LibraryState) (pairs : List Pair) (targets : List Target) (i : ℕ) (pair : Pair) (target : Target) (name : List ℕ) (read : List DatabaseFile) (why : FileRefused)
    → length targets ≡ length pairs → i < length pairs → pair ≡ get_or pairs i pair → target ≡ get_or targets i target → name ≡ pair.file → ReadSo before pairs i read was
    → ReadsDatabase was name (Err why) now → StopsAtFile before pairs targets (unread_of target.bus why) now
read_stops before was now pairs targets i pair target name read why count within is is' same so one =
    let inside : i < length (places_of targets) = omega (arith, length-map targets (λ (t : Target). t.bus)) in
    let here : target.bus ≡ get_or (places_of targets) i target.bus =
    ap (λ (t : Target). t.bus) is' ∙ sym (get_or-map (λ (t : Target). t.bus) targets i target target.bus (omega arith)) in
    record {
      asks = asks_first before was now pairs i pair within is so.asks (asked_for was now name pair.file same one.asks);
      cause = go why one.answer inside here;
    } where
      go : (why : FileRefused) → Caused was now why → i < length (places_of targets) → target.bus ≡ get_or (places_of targets) i target.bus → IsUnreadCause before targets now (unread_of target.bus why)
      go file.Open c inside here = ((i, (inside, here)), omega (arith, c, so.asks.opens))
      go file.Read c inside here = ((i, (inside, here)), omega (arith, c, so.asks.reads))
      go file.Memory c inside here = tt

-- there is no memory for a file that was read
pub read_memory : (before was now : LibraryState) (pairs : List Pair) (targets : List Target) (i : ℕ) (pair : Pair) (name : List ℕ) (read : List DatabaseFile) (file : DatabaseFile)
    (r : Result (Vec DatabaseFile Global) Unread) → IsErrAnd r (λ f. f ≡ unread.Memory) → i < length pairs → pair ≡ get_or pairs i pair → name ≡ pair.file → ReadSo before pairs i read was
    → ReadsDatabase was name (Ok file) now → ReadsFiles before pairs targets r now
read_memory before was now pairs targets i pair name read file (Ok done) is within here same so one = absurd is
read_memory before was now pairs targets i pair name read file (Err found) is within here same so one =
    let stops : StopsAtFile before pairs targets unread.Memory now = record {
      asks = asks_first before was now pairs i pair within here so.asks (asked_for was now name pair.file same one.asks);
      cause = tt;
    } in
    let P : Unread → Type 0 = λ x. StopsAtFile before pairs targets x now in
    subst P (sym is) stops

-- changes that were judged so far
pub change_more : (targets : List Target) (files : List DatabaseFile) (i : ℕ) (target : Target) (file : DatabaseFile) (changes after : List Change) (valid : Valid) → length targets ≡ length files
    → i < length targets → target ≡ get_or targets i target → file ≡ get_or files i file → AllZip IsChange (take i (zip targets files)) changes → JudgesFile target.kind file (Ok valid)
    → (let c : Change = record { bus = target.bus; database = valid } in after ≡ changes ++ c ∷ []) → AllZip IsChange (take (i + 1) (zip targets files)) after
change_more targets files i target file changes after valid same within is is' made holds pushed =
    let c : Change = record { bus = target.bus; database = valid } in
    zip_more IsChange targets files changes after i target file c same within is is' made (record { bus = refl; database = holds }) pushed

pub change_all : (targets : List Target) (files : List DatabaseFile) (i : ℕ) (changes : List Change) → length targets ≡ length files → length targets ≤ i
    → AllZip IsChange (take i (zip targets files)) changes → AllZip IsChange (zip targets files) changes
change_all targets files i changes same end made = rw (take_all i (zip targets files) (omega (arith, length-zip targets files same))) at made

pub change_stops : (targets : List Target) (files : List DatabaseFile) (i : ℕ) (target : Target) (file : DatabaseFile) (changes : List Change) (why : JudgeRefused) → length targets ≡ length files
    → i < length targets → target ≡ get_or targets i target → file ≡ get_or files i file → AllZip IsChange (take i (zip targets files)) changes → JudgesFile target.kind file (Err why)
    → JudgesFiles (zip targets files) (Err (refusal_of_bus target.bus why))
change_stops targets files i target file changes (refused.Fault fault) same within is is' made h =
    let here : Target × DatabaseFile = (target, file) in
    let why : ℕ × DatabaseFault = (target.bus, fault) in
    let inside : i < length (zip targets files) = omega (arith, length-zip targets files same) in
    let one : IsRefusedChange here why = record { bus = refl; fault = h } in
    let P : Target × DatabaseFile → Type 0 = λ p. IsRefusedChange p why in
    (i, first_fails IsChange IsRefusedChange (zip targets files) changes i here why inside made (subst P (sym (pair_at targets files i target file same within is is')) one))
change_stops targets files i target file changes refused.Memory same within is is' made h = tt
