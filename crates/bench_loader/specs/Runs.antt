-- Many commands, one after another, over one connection or over several; and the benches that they publish.
use Rattle.std.specs.Prelude.{◌≡◌, ℕ, ◌+◌, ◌≤◌, Bool, true, false, List, [], ◌∷◌, ◌++◌, length, filter, Option, IfSome, All}
use Rattle.bench_model.specs.declared.database.Bench.{Bench}
use Rattle.region_store.specs.declared.view.Did.{Did}
use Rattle.bench_inputs.specs.Asking.{Files, LibraryState}
use Rattle.bench_loader.specs.declared.reply.Reply.{Reply}
use Rattle.bench_loader.specs.declared.reply.Reply.TheVariants as replies
use Rattle.bench_loader.specs.NextBench.{IsNextBench}
use Rattle.bench_loader.specs.Due.{Limits}
use Rattle.bench_loader.specs.Commands.{LoaderState, steps_in, HasAllFiles, Answers}

-- a command that was answered: its line, its reply, and the loads and stores that the loader made for it
pub record Answered : Type 0 where
  pub line : List ℕ
  pub reply : Reply
  pub steps : List Did

-- what is seen of a library and what a loader knows, between two commands
pub record Moment : Type 0 where
  pub library : LibraryState
  pub loader : LoaderState

pub record IsAnswered (limits : Limits) (before : Moment) (entry : Answered) (now : Moment) : Type 0 where
  pub answers : Answers limits before.library before.loader entry.line entry.reply now.library now.loader
  pub steps : steps_in now.loader ≡ steps_in before.loader ++ entry.steps

-- the commands were answered one after another; the steps of each follow those of the one before
abbrev pub Runs : Limits → Moment → List Answered → Moment → Type 0
Runs limits before [] now = now ≡ before
Runs limits before (entry ∷ log) now = (next : Moment) × (IsAnswered limits before entry next × Runs limits next log now)

-- What commands leave of the library, where this is the bench before them: its files stay, no count falls, and where all files
-- that their lines name are there, nothing was asked for in vain.
pub record KeepsLibraryOver (bench : Bench) (log : List Answered) (before now : LibraryState) : Type 0 where
  pub files : now.files ≡ before.files
  pub opens : before.open_faults ≤ now.open_faults
  pub reads : before.more_faults ≤ now.more_faults
  pub rises : before.strays ≤ now.strays
  pub strays : IfSome before.files (λ files.
      All (λ (entry : Answered). HasAllFiles files bench entry.line) log → now.strays ≡ before.strays)

-- the bench that a command adds to so many published ones, where it was accepted: its reply is the bench's place
abbrev pub AddsBench : Option Files → ℕ → Bench → List ℕ → Reply → List Bench → Bench → Type 0
AddsBench files count bench line (replies.Ok version) added next =
    IsNextBench files bench line next × (version ≡ count) × (added ≡ next ∷ [])
AddsBench files count bench line reply added next = (next ≡ bench) × (added ≡ [])

-- a command adds these benches, and the rest are added behind them
pub record Adds (files : Option Files) (count : ℕ) (bench : Bench) (entry : Answered) (Rest : ℕ → Bench → List Bench → Type 0)
    (benches : List Bench) : Type 0 where
  pub next : Bench
  pub added : List Bench
  pub rest : List Bench
  pub adds : AddsBench files count bench entry.line entry.reply added next
  pub others : Rest (count + length added) next rest
  pub all : benches ≡ added ++ rest

-- The benches that commands publish behind so many, of which this one is the last: each accepted command adds the one before with
-- the named buses replaced by the databases of the named files.
abbrev pub PublishedAfter : Option Files → List Answered → ℕ → Bench → List Bench → Type 0
PublishedAfter files [] count bench benches = benches ≡ []
PublishedAfter files (entry ∷ log) count bench benches = Adds files count bench entry (PublishedAfter files log) benches

-- all published benches, by version, where this one is version 0
pub record Published (start : Bench) (files : Option Files) (log : List Answered) (benches : List Bench) : Type 0 where
  pub more : List Bench
  pub added : PublishedAfter files log 1 start more
  pub all : benches ≡ start ∷ more

-- replies that a file was not opened, and that one was not read
abbrev pub is_open : Reply → Bool
is_open (replies.OpenFault bus) = true
is_open reply = false

abbrev pub is_read : Reply → Bool
is_read (replies.ReadFault bus) = true
is_read reply = false

abbrev pub open_replies : List Answered → ℕ
open_replies log = length (filter (λ (entry : Answered). is_open entry.reply) log)

abbrev pub read_replies : List Answered → ℕ
read_replies log = length (filter (λ (entry : Answered). is_read entry.reply) log)
