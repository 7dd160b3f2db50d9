-- What commands do to a loader: one command, many in a row, and the benches that are published.
use Rattle.std.specs.Prelude.{◌≡◌, ℕ, ◌+◌, ◌≤◌, List, length, IsSome, IfSome, All}
use Rattle.std.specs.List.{IsAmong}
use Rattle.port_io.specs.Causes.{Rose}
use Rattle.port_io.specs.Library.{named}
use Rattle.bench_model.specs.declared.database.Bench.{Bench}
use Rattle.image_words.specs.Image.{Encodes}
use Rattle.image_compiler.specs.Size.{image_size}
use Rattle.region_store.specs.declared.view.Did.{Did}
use Rattle.region_store.specs.declared.view.View.{View}
use Rattle.region_store.specs.Publishing.{IsPublished, IsBusy}
use Rattle.bench_inputs.specs.Asking.{Files, LibraryState}
use Rattle.bench_loader.specs.declared.load_line.Pair.{Pair}
use Rattle.bench_loader.specs.declared.targets.Target.{Target}
use Rattle.bench_loader.specs.declared.reply.Reply.{Reply}
use Rattle.bench_loader.specs.declared.reply.Reply.TheVariants as replies
use Rattle.bench_loader.specs.Targets.{NamesBuses, places_of}
use Rattle.bench_loader.specs.NextBench.{IsNextBench}
use Rattle.bench_loader.specs.Due.{Limits, Due}

-- the bench of a loader, and what its seat knows of the store: the published images, the version, and its loads and stores
pub record LoaderState : Type 0 where
  pub bench : Bench
  pub view : View

abbrev pub images_in : LoaderState → List (List ℕ)
images_in s = s.view.loader.images

abbrev pub version_in : LoaderState → ℕ
version_in s = s.view.loader.version

abbrev pub steps_in : LoaderState → List Did
steps_in s = s.view.loader.steps

-- the line is a command that names this bus among others
pub record NamesBus (bench : Bench) (line : List ℕ) (bus : ℕ) : Type 0 where
  pub pairs : List Pair
  pub targets : List Target
  pub names : NamesBuses bench.buses line pairs targets
  pub among : IsAmong (places_of targets) bus

-- all files are there that the line names, where it is a command whose buses are known
abbrev pub HasAllFiles : Files → Bench → List ℕ → Type 0
HasAllFiles files bench line = (pairs : List Pair) (targets : List Target) → NamesBuses bench.buses line pairs targets
    → All (λ (p : Pair). IsSome (named files p.file)) pairs

-- What a command leaves of the library: its files stay, no count falls, and where all files that the line names are there,
-- nothing was asked for in vain (`strays` counts the calls for files that are not there).
pub record KeepsLibrary (bench : Bench) (line : List ℕ) (before now : LibraryState) : Type 0 where
  pub files : now.files ≡ before.files
  pub opens : before.open_faults ≤ now.open_faults
  pub reads : before.more_faults ≤ now.more_faults
  pub rises : before.strays ≤ now.strays
  pub strays : IfSome before.files (λ files. HasAllFiles files bench line → now.strays ≡ before.strays)

-- Why a command is answered so: the answer is due; or a file of the line was not opened or not read, and that count of the
-- library rose; or the command was due to be accepted, but each region may be held; or memory ran out.
abbrev pub HasCause : Limits → LibraryState → LibraryState → Bench → ℕ → List ℕ → Reply → Type 0
HasCause limits before now bench version line (replies.OpenFault bus) =
    NamesBus bench line bus × Rose before.open_faults now.open_faults
HasCause limits before now bench version line (replies.ReadFault bus) =
    NamesBus bench line bus × Rose before.more_faults now.more_faults
HasCause limits before now bench version line (replies.Busy holders) =
    Due limits before.files bench version line (replies.Ok (version + 1))
HasCause limits before now bench version line replies.Memory = Unit {0}
HasCause limits before now bench version line reply = Due limits before.files bench version line reply

-- a reply that the line and the files alone do not decide
abbrev pub IsFromOutside : Reply → Type 0
IsFromOutside (replies.OpenFault bus) = Unit {0}
IsFromOutside (replies.ReadFault bus) = Unit {0}
IsFromOutside (replies.Busy holders) = Unit {0}
IsFromOutside replies.Memory = Unit {0}
IsFromOutside reply = ⊥

-- an accepted command: the loader's bench is the next one, and its image, of just the words that it takes, was published
pub record IsAccepted (library : LibraryState) (before : LoaderState) (line : List ℕ) (version : ℕ)
    (now : LoaderState) : Type 0 where
  pub next : IsNextBench library.files before.bench line now.bench
  pub image : List ℕ
  pub encodes : Encodes image now.bench
  pub size : length image ≡ image_size now.bench
  pub published : IsPublished image version before.view now.view

-- what the answer leaves: after all but an accepted command the bench and the published images are what they were, and at most
-- loads of pins were made
abbrev pub Leaves : LibraryState → LoaderState → List ℕ → Reply → LoaderState → Type 0
Leaves library before line (replies.Ok version) now = IsAccepted library before line version now
Leaves library before line (replies.Busy holders) now =
    (now.bench ≡ before.bench) × IsBusy holders.each.items before.view now.view
Leaves library before line reply now = now ≡ before

-- a command was answered
pub record Answers (limits : Limits) (library : LibraryState) (before : LoaderState) (line : List ℕ) (reply : Reply)
    (library' : LibraryState) (now : LoaderState) : Type 0 where
  pub asks : KeepsLibrary before.bench line library library'
  pub cause : HasCause limits library library' before.bench (version_in before) line reply
  pub leaves : Leaves library before line reply now
