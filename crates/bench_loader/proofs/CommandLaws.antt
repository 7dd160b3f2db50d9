-- A command is answered by what its two halves answer.
use Rattle.std.proofs.Common.{◌≡◌, ℕ, ◌≤◌, List, Result, Ok, Err, refl, sym, ap, subst, ◌∙◌}
use Rattle.std.specs.Prelude.{IsErrAnd}
use Rattle.bench_model.specs.declared.database.Bench.{Bench}
use Rattle.image_words.specs.Image.{Encodes}
use Rattle.image_compiler.specs.Size.{image_size}
use Rattle.bench_inputs.specs.Asking.{LibraryState}
use Rattle.bench_loader.specs.declared.reply.Reply.{Reply}
use Rattle.bench_loader.specs.declared.reply.Reply.TheVariants as replies
use Rattle.bench_loader.specs.NextBench.{IsNextBench, IsFitting}
use Rattle.bench_loader.specs.Due.{Limits}
use Rattle.bench_loader.specs.Commands.{LoaderState, version_in, HasCause, IsAccepted, Leaves, Answers}
use Rattle.bench_loader.specs.CommandView.{IsEarly, FindsNext, IsPut, PutsBench, reply_of}

leaves_same : (library : LibraryState) (before : LoaderState) (line : List ℕ) (reply : Reply) → IsEarly reply → Leaves library before line reply before
leaves_same library before line (replies.Ok version) early = absurd early
leaves_same library before line (replies.Busy holders) early = absurd early
leaves_same library before line replies.Words early = refl
leaves_same library before line (replies.UnknownBus place name) early = refl
leaves_same library before line (replies.OpenFault bus) early = refl
leaves_same library before line (replies.ReadFault bus) early = refl
leaves_same library before line (replies.Refused bus fault) early = refl
leaves_same library before line (replies.TooLarge need room) early = refl
leaves_same library before line replies.VersionsSpent early = refl
leaves_same library before line replies.Memory early = refl

-- there is no next bench
pub answers_early : (limits : Limits) (library now : LibraryState) (before : LoaderState) (line : List ℕ) (reply : Reply) → FindsNext library before.bench line (Err reply) now
    → Answers limits library before line reply now before
answers_early limits library now before line reply finds = record {
  asks = finds.asks;
  cause = finds.answer.cause limits (version_in before);
  leaves = leaves_same library before line reply finds.answer.early;
}

module _ (limits : Limits) (library now : LibraryState) (before : LoaderState) (line : List ℕ) (next : Bench) (is_next : IsNextBench library.files before.bench line next) where
  fitting : image_size next ≤ limits.room → IsFitting library.files before.bench line limits.room
  fitting fits = record { next = next; is_next = is_next; fits = fits }

  accepted : (version : ℕ) (after : LoaderState) → IsPut before next version after → IsAccepted library before line version after
  accepted version after put =
      let P : Bench → Type 0 = λ b. IsNextBench library.files before.bench line b in
      let Q : Bench → Type 0 = λ b. Encodes put.image b in
      record {
        next = subst P (sym put.bench) is_next;
        image = put.image;
        encodes = subst Q (sym put.bench) put.encodes;
        size = put.size ∙ ap image_size (sym put.bench);
        published = put.published;
      }

  cause_of : (r : Result ℕ Reply) (after : LoaderState) → PutsBench limits before next r after → HasCause limits library now before.bench (version_in before) line (reply_of r)
  cause_of (Ok version) after puts = (fitting puts.0, puts.1, puts.2)
  cause_of (Err (replies.TooLarge need room)) after puts = (record { next = next; is_next = is_next; need_is = puts.1; large = puts.0 }, puts.2)
  cause_of (Err replies.VersionsSpent) after puts = (fitting puts.0, puts.1)
  cause_of (Err (replies.Busy holders)) after puts = (fitting puts.0, puts.1, refl)
  cause_of (Err replies.Memory) after puts = tt
  cause_of (Err (replies.Ok version)) after puts = absurd puts
  cause_of (Err replies.Words) after puts = absurd puts
  cause_of (Err (replies.UnknownBus place name)) after puts = absurd puts
  cause_of (Err (replies.OpenFault bus)) after puts = absurd puts
  cause_of (Err (replies.ReadFault bus)) after puts = absurd puts
  cause_of (Err (replies.Refused bus fault)) after puts = absurd puts

  leaves_of : (r : Result ℕ Reply) (after : LoaderState) → PutsBench limits before next r after → Leaves library before line (reply_of r) after
  leaves_of (Ok version) after puts = accepted version after puts.3
  leaves_of (Err (replies.TooLarge need room)) after puts = puts.3
  leaves_of (Err replies.VersionsSpent) after puts = puts.2
  leaves_of (Err (replies.Busy holders)) after puts = (puts.2, puts.3)
  leaves_of (Err replies.Memory) after puts = puts
  leaves_of (Err (replies.Ok version)) after puts = absurd puts
  leaves_of (Err replies.Words) after puts = absurd puts
  leaves_of (Err (replies.UnknownBus place name)) after puts = absurd puts
  leaves_of (Err (replies.OpenFault bus)) after puts = absurd puts
  leaves_of (Err (replies.ReadFault bus)) after puts = absurd puts
  leaves_of (Err (replies.Refused bus fault)) after puts = absurd puts

-- there is one
pub answers_put : (limits : Limits) (library now : LibraryState) (before : LoaderState) (line : List ℕ) (next : Bench) (r : Result ℕ Reply) (after : LoaderState)
    → FindsNext library before.bench line (Ok next) now → PutsBench limits before next r after → Answers limits library before line (reply_of r) now after
answers_put limits library now before line next r after finds puts = record {
  asks = finds.asks;
  cause = cause_of limits library now before line next finds.answer.0 r after puts;
  leaves = leaves_of limits library now before line next finds.answer.0 r after puts;
}

-- a refusal that is passed on
pub answers_as : (limits : Limits) (library now : LibraryState) (before : LoaderState) (line : List ℕ) (r : Result ℕ Reply) (reply : Reply) → IsErrAnd r (λ e. e ≡ reply)
    → FindsNext library before.bench line (Err reply) now → Answers limits library before line (reply_of r) now before
answers_as limits library now before line (Ok version) reply is finds = absurd is
answers_as limits library now before line (Err e) reply is finds =
    let P : Reply → Type 0 = λ x. Answers limits library before line x now before in
    subst P (sym is) (answers_early limits library now before line reply finds)
