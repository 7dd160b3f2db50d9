-- What the two halves of a command answer: the next bench is made of the files, and then it is published.
use Rattle.std.specs.Prelude.{◌≡◌, ◌≢◌, ◌<◌, ◌≤◌, ℕ, ◌+◌, List, length, Result, Ok, Err}
use Rattle.bench_model.specs.declared.database.Bench.{Bench}
use Rattle.bench_model.specs.ValidBench.{IsValidBench}
use Rattle.image_words.specs.Image.{Encodes}
use Rattle.image_compiler.specs.Size.{image_size}
use Rattle.region_store.specs.Publishing.{IsPublished, IsBusy}
use Rattle.bench_inputs.specs.Asking.{LibraryState}
use Rattle.bench_loader.specs.declared.reply.Reply.{Reply}
use Rattle.bench_loader.specs.declared.reply.Reply.TheVariants as replies
use Rattle.bench_loader.specs.NextBench.{IsNextBench}
use Rattle.bench_loader.specs.Due.{Limits}
use Rattle.bench_loader.specs.Commands.{LoaderState, version_in, KeepsLibrary, HasCause}

-- a reply that is given before anything is published
abbrev pub IsEarly : Reply → Type 0
IsEarly (replies.Ok version) = ⊥
IsEarly (replies.Busy holders) = ⊥
IsEarly reply = Unit {0}

pub record IsEarlyReply (before now : LibraryState) (bench : Bench) (line : List ℕ) (reply : Reply) : Type 0 where
  pub early : IsEarly reply
  pub cause : (limits : Limits) (version : ℕ) → HasCause limits before now bench version line reply

-- the next bench, or why there is none
abbrev pub AnswersNext : LibraryState → Bench → List ℕ → Result Bench Reply → LibraryState → Type 0
AnswersNext before bench line (Ok next) now = IsNextBench before.files bench line next × IsValidBench next
AnswersNext before bench line (Err reply) now = IsEarlyReply before now bench line reply

pub record FindsNext (before : LibraryState) (bench : Bench) (line : List ℕ) (result : Result Bench Reply)
    (now : LibraryState) : Type 0 where
  pub asks : KeepsLibrary bench line before now
  pub answer : AnswersNext before bench line result now

-- the bench is the next version, or why it is not
pub record IsPut (before : LoaderState) (next : Bench) (version : ℕ) (now : LoaderState) : Type 0 where
  pub bench : now.bench ≡ next
  pub image : List ℕ
  pub encodes : Encodes image next
  pub size : length image ≡ image_size next
  pub published : IsPublished image version before.view now.view

abbrev pub PutsBench : Limits → LoaderState → Bench → Result ℕ Reply → LoaderState → Type 0
PutsBench limits before next (Ok version) now =
    (image_size next ≤ limits.room) × (version_in before ≢ limits.last) × (version ≡ version_in before + 1) × IsPut before next version now
PutsBench limits before next (Err (replies.TooLarge need room)) now =
    (limits.room < need) × (need ≡ image_size next) × (room ≡ limits.room) × (now ≡ before)
PutsBench limits before next (Err replies.VersionsSpent) now =
    (image_size next ≤ limits.room) × (version_in before ≡ limits.last) × (now ≡ before)
PutsBench limits before next (Err (replies.Busy holders)) now =
    (image_size next ≤ limits.room) × (version_in before ≢ limits.last) × (now.bench ≡ before.bench)
    × IsBusy holders.each.items before.view now.view
PutsBench limits before next (Err replies.Memory) now = now ≡ before
PutsBench limits before next (Err reply) now = ⊥

-- the version, or a refusal, as the reply to a command
abbrev pub reply_of : Result ℕ Reply → Reply
reply_of (Ok version) = replies.Ok version
reply_of (Err reply) = reply
