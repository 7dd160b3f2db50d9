-- Commands one after another: their runs join, what they publish are the benches that they make, and each reply that a file was
-- not opened or not read has its fault.
use Rattle.std.proofs.Common.{◌≡◌, ℕ, ◌+◌, ◌-◌, ◌^◌, ◌<◌, ◌≤◌, Bool, true, false, List, [], ◌∷◌, ◌++◌, length, cond, refl, sym, ap, subst, ◌∙◌, arith}
use Rattle.std.specs.Prelude.{Option, Some, filter, slice_get}
use Rattle.std.specs.List.{AllZip}
use Rattle.std.proofs.lemmas.List.{append-nil, append_assoc, length-append}
use Rattle.port_io.specs.Causes.{Rose}
use Rattle.bench_model.specs.declared.database.Bench.{Bench}
use Rattle.image_words.specs.Image.{Encodes}
use Rattle.region_store.specs.declared.view.View.{View}
use Rattle.bench_inputs.specs.Asking.{Files}
use Rattle.bench_loader.specs.declared.reply.Reply.{Reply}
use Rattle.bench_loader.specs.declared.reply.Reply.TheVariants as replies
use Rattle.bench_loader.specs.Due.{Limits}
use Rattle.bench_loader.specs.Commands.{LoaderState, images_in, version_in, Leaves, HasCause}
use Rattle.bench_loader.specs.Runs.{Answered, Moment, IsAnswered, Runs, AddsBench, PublishedAfter, Published, is_open, is_read, open_replies, read_replies}
use Rattle.bench_loader.proofs.ZipLaws.{length-all_zip}

-- no command, and commands behind others
pub runs_join : (limits : Limits) (a b c : Moment) (log more : List Answered) → Runs limits a log b → Runs limits b more c → Runs limits a (log ++ more) c
runs_join limits a b c [] more h k = let P : Moment → Type 0 = λ m. Runs limits m more c in subst P h k
runs_join limits a b c (entry ∷ log) more h k = (h.0, (h.1.0, runs_join limits h.0 b c log more h.1.1 k))

pub runs_one : (limits : Limits) (a b c : Moment) (log : List Answered) (entry : Answered) → Runs limits a log b → IsAnswered limits b entry c → Runs limits a (log ++ entry ∷ []) c
runs_one limits a b c log entry h one = runs_join limits a b c log (entry ∷ []) h (c, (one, refl))

-- one image for each version
abbrev pub IsCounted : LoaderState → Type 0
IsCounted s = length (images_in s) ≡ version_in s + 1

-- the last of a bench and of those behind it
abbrev pub last_of : Bench → List Bench → Bench
last_of bench [] = bench
last_of bench (b ∷ bs) = last_of b bs

last-join : (bench : Bench) (bs cs : List Bench) → last_of bench (bs ++ cs) ≡ last_of (last_of bench bs) cs
last-join bench [] cs = refl
last-join bench (b ∷ bs) cs = last-join b bs cs

last-at : (bench : Bench) (bs : List Bench) → slice_get (bench ∷ bs) (length bs) ≡ Some (last_of bench bs)
last-at bench [] = refl
last-at bench (b ∷ bs) = last-at b bs

-- what one command adds
record AddsOne (before : Moment) (entry : Answered) (now : Moment) : Type 0 where
  added : List Bench
  images : List (List ℕ)
  adds : AddsBench before.library.files (length (images_in before.loader)) before.loader.bench entry.line entry.reply added now.loader.bench
  last : last_of before.loader.bench added ≡ now.loader.bench
  published : images_in now.loader ≡ images_in before.loader ++ images
  encode : AllZip Encodes images added
  counted : IsCounted now.loader

unchanged : (a b : LoaderState) → b ≡ a → IsCounted a → (images_in b ≡ images_in a ++ []) × (b.bench ≡ a.bench) × IsCounted b
unchanged a b same counted =
    (ap images_in same ∙ sym (append-nil (images_in a)), ap (λ (s : LoaderState). s.bench) same, subst IsCounted (sym same) counted)

module _ (before now : Moment) (line : List ℕ) (steps : _) (counted : IsCounted before.loader) where
  kept : (reply : Reply) → (let entry : Answered = record { line = line; reply = reply; steps = steps } in
      now.loader ≡ before.loader → ((now.loader.bench ≡ before.loader.bench) → AddsBench before.library.files (length (images_in before.loader)) before.loader.bench line reply [] now.loader.bench)
      → AddsOne before entry now)
  kept reply same adds =
      let parts = unchanged before.loader now.loader same counted in
      record { added = []; images = []; adds = adds parts.1; last = sym parts.1; published = parts.0; encode = tt; counted = parts.2 }

  adds_one : (limits : Limits) (reply : Reply) → Leaves before.library before.loader line reply now.loader
      → (let entry : Answered = record { line = line; reply = reply; steps = steps } in AddsOne before entry now)
  adds_one limits (replies.Ok version) leaves =
      let images : images_in now.loader ≡ images_in before.loader ++ leaves.image ∷ [] = ap (λ (v : View). v.loader.images) leaves.published.view in
      let number : version_in now.loader ≡ version_in before.loader + 1 = ap (λ (v : View). v.loader.version) leaves.published.view in
      record {
        added = now.loader.bench ∷ [];
        images = leaves.image ∷ [];
        adds = (leaves.next, leaves.published.next ∙ sym counted, refl);
        last = refl;
        published = images;
        encode = (leaves.encodes, tt);
        counted = ap length images ∙ length-append (images_in before.loader) (leaves.image ∷ []) ∙ ap (λ n. n + 1) (counted ∙ sym number);
      }
  adds_one limits (replies.Busy holders) leaves =
      let images : images_in now.loader ≡ images_in before.loader = ap (λ (v : View). v.loader.images) leaves.1.looked.same in
      let number : version_in now.loader ≡ version_in before.loader = ap (λ (v : View). v.loader.version) leaves.1.looked.same in
      record {
        added = [];
        images = [];
        adds = (leaves.0, refl);
        last = sym leaves.0;
        published = images ∙ sym (append-nil (images_in before.loader));
        encode = tt;
        counted = ap length images ∙ counted ∙ ap (λ n. n + 1) (sym number);
      }
  adds_one limits replies.Words leaves = kept replies.Words leaves (λ e. (e, refl))
  adds_one limits (replies.UnknownBus place name) leaves = kept (replies.UnknownBus place name) leaves (λ e. (e, refl))
  adds_one limits (replies.OpenFault bus) leaves = kept (replies.OpenFault bus) leaves (λ e. (e, refl))
  adds_one limits (replies.ReadFault bus) leaves = kept (replies.ReadFault bus) leaves (λ e. (e, refl))
  adds_one limits (replies.Refused bus fault) leaves = kept (replies.Refused bus fault) leaves (λ e. (e, refl))
  adds_one limits (replies.TooLarge need room) leaves = kept (replies.TooLarge need room) leaves (λ e. (e, refl))
  adds_one limits replies.VersionsSpent leaves = kept replies.VersionsSpent leaves (λ e. (e, refl))
  adds_one limits replies.Memory leaves = kept replies.Memory leaves (λ e. (e, refl))

-- what commands publish
pub record Publishes (before : Moment) (log : List Answered) (now : Moment) : Type 0 where
  pub benches : List Bench
  pub images : List (List ℕ)
  pub added : PublishedAfter before.library.files log (length (images_in before.loader)) before.loader.bench benches
  pub published : images_in now.loader ≡ images_in before.loader ++ images
  pub encode : AllZip Encodes images benches
  pub last : last_of before.loader.bench benches ≡ now.loader.bench
  pub counted : IsCounted now.loader

AllZip-join : {A B : Type 0} (R : A → B → Type 0) (xs zs : List A) (ys ws : List B) → AllZip R xs ys → AllZip R zs ws → AllZip R (xs ++ zs) (ys ++ ws)
AllZip-join R [] zs [] ws h k = k
AllZip-join R [] zs (y ∷ ys) ws h k = absurd h
AllZip-join R (x ∷ xs) zs [] ws h k = absurd h
AllZip-join R (x ∷ xs) zs (y ∷ ys) ws h k = (h.0, AllZip-join R xs zs ys ws h.1 k)

publishes_more : (before next now : Moment) (entry : Answered) (log : List Answered) → next.library.files ≡ before.library.files → AddsOne before entry next → Publishes next log now
    → Publishes before (entry ∷ log) now
publishes_more before next now entry log files one rest =
    let count : length (images_in next.loader) ≡ length (images_in before.loader) + length one.added =
    ap length one.published ∙ length-append (images_in before.loader) one.images ∙ ap (λ n. length (images_in before.loader) + n) (sym (length-all_zip Encodes one.images one.added one.encode)) in
    let P : Option Files → Type 0 = λ fs. PublishedAfter fs log (length (images_in next.loader)) next.loader.bench rest.benches in
    let Q : ℕ → Type 0 = λ n. PublishedAfter before.library.files log n next.loader.bench rest.benches in
    record {
      benches = one.added ++ rest.benches;
      images = one.images ++ rest.images;
      added = record { next = next.loader.bench; added = one.added; rest = rest.benches; adds = one.adds; others = subst Q count (subst P files rest.added); all = refl };
      published = rest.published ∙ ap (λ (xs : List (List ℕ)). xs ++ rest.images) one.published ∙ append_assoc (images_in before.loader) one.images rest.images;
      encode = AllZip-join Encodes one.images rest.images one.added rest.benches one.encode rest.encode;
      last = last-join before.loader.bench one.added rest.benches ∙ ap (λ (b : Bench). last_of b rest.benches) one.last ∙ rest.last;
      counted = rest.counted;
    }

pub publishes : (limits : Limits) (before now : Moment) (log : List Answered) → Runs limits before log now → IsCounted before.loader → Publishes before log now
publishes limits before now [] h counted = record {
  benches = [];
  images = [];
  added = refl;
  published = ap (λ (m : Moment). images_in m.loader) h ∙ sym (append-nil (images_in before.loader));
  encode = tt;
  last = sym (ap (λ (m : Moment). m.loader.bench) h);
  counted = subst (λ (m : Moment). IsCounted m.loader) (sym h) counted;
}
publishes limits before now (entry ∷ log) h counted =
    let one : AddsOne before entry h.0 = adds_one before h.0 entry.line entry.steps counted limits entry.reply h.1.0.answers.leaves in
    publishes_more before h.0 now entry log h.1.0.answers.asks.files one (publishes limits h.0 now log h.1.1 one.counted)

-- from the first version on
pub all_published : (limits : Limits) (before now : Moment) (log : List Answered) (first : List ℕ) → Runs limits before log now → IsCounted before.loader → images_in before.loader ≡ first ∷ []
    → Encodes first before.loader.bench → (benches : List Bench) × (Published before.loader.bench before.library.files log benches × AllZip Encodes (images_in now.loader) benches
    × (length benches ≡ version_in now.loader + 1) × (slice_get benches (version_in now.loader) ≡ Some now.loader.bench))
all_published limits before now log first h counted start encodes =
    let p = publishes limits before now log h counted in
    let one : length (images_in before.loader) ≡ 1 = ap length start in
    let Q : ℕ → Type 0 = λ n. PublishedAfter before.library.files log n before.loader.bench p.benches in
    let images : images_in now.loader ≡ first ∷ p.images = p.published ∙ ap (λ (xs : List (List ℕ)). xs ++ p.images) start in
    let R : List (List ℕ) → Type 0 = λ xs. AllZip Encodes xs (before.loader.bench ∷ p.benches) in
    let benches : List Bench = before.loader.bench ∷ p.benches in
    let all : AllZip Encodes (images_in now.loader) benches = subst R (sym images) (encodes, p.encode) in
    let count : length benches ≡ version_in now.loader + 1 = length-all_zip Encodes (images_in now.loader) benches all ∙ p.counted in
    let place : version_in now.loader ≡ length p.benches = omega (arith, count) in (
      benches,
      (
        record { more = p.benches; added = subst Q one p.added; all = refl },
        all,
        count,
        ap (slice_get benches) place ∙ last-at before.loader.bench p.benches ∙ ap (λ (b : Bench). Some b) p.last,
      ),
    )

-- no count falls
later_opens : (limits : Limits) (before now : Moment) (log : List Answered) → Runs limits before log now → before.library.open_faults ≤ now.library.open_faults
later_opens limits before now [] h = omega (arith, ap (λ (m : Moment). m.library.open_faults) h)
later_opens limits before now (entry ∷ log) h = omega (arith, h.1.0.answers.asks.opens, later_opens limits h.0 now log h.1.1)

later_reads : (limits : Limits) (before now : Moment) (log : List Answered) → Runs limits before log now → before.library.more_faults ≤ now.library.more_faults
later_reads limits before now [] h = omega (arith, ap (λ (m : Moment). m.library.more_faults) h)
later_reads limits before now (entry ∷ log) h = omega (arith, h.1.0.answers.asks.reads, later_reads limits h.0 now log h.1.1)

rose_by_one : (before now : ℕ) → Rose before now → now < 2 ^ 64 - 1 → before + 1 ≤ now
rose_by_one before now rose low = omega (arith, rose)

-- a reply that a file was not opened comes with one fault at least
one_open : (limits : Limits) (before now : Moment) (entry : Answered) (reply : Reply) → before.library.open_faults ≤ now.library.open_faults
    → HasCause limits before.library now.library before.loader.bench (version_in before.loader) entry.line reply → now.library.open_faults < 2 ^ 64 - 1
    → before.library.open_faults + cond (is_open reply) 1 0 ≤ now.library.open_faults
one_open limits before now entry (replies.OpenFault bus) later cause low = rose_by_one before.library.open_faults now.library.open_faults cause.1 low
one_open limits before now entry (replies.Ok version) later cause low = omega (arith, later)
one_open limits before now entry replies.Words later cause low = omega (arith, later)
one_open limits before now entry (replies.UnknownBus place name) later cause low = omega (arith, later)
one_open limits before now entry (replies.ReadFault bus) later cause low = omega (arith, later)
one_open limits before now entry (replies.Refused bus fault) later cause low = omega (arith, later)
one_open limits before now entry (replies.TooLarge need room) later cause low = omega (arith, later)
one_open limits before now entry replies.VersionsSpent later cause low = omega (arith, later)
one_open limits before now entry (replies.Busy holders) later cause low = omega (arith, later)
one_open limits before now entry replies.Memory later cause low = omega (arith, later)

one_read : (limits : Limits) (before now : Moment) (entry : Answered) (reply : Reply) → before.library.more_faults ≤ now.library.more_faults
    → HasCause limits before.library now.library before.loader.bench (version_in before.loader) entry.line reply → now.library.more_faults < 2 ^ 64 - 1
    → before.library.more_faults + cond (is_read reply) 1 0 ≤ now.library.more_faults
one_read limits before now entry (replies.ReadFault bus) later cause low = rose_by_one before.library.more_faults now.library.more_faults cause.1 low
one_read limits before now entry (replies.Ok version) later cause low = omega (arith, later)
one_read limits before now entry replies.Words later cause low = omega (arith, later)
one_read limits before now entry (replies.UnknownBus place name) later cause low = omega (arith, later)
one_read limits before now entry (replies.OpenFault bus) later cause low = omega (arith, later)
one_read limits before now entry (replies.Refused bus fault) later cause low = omega (arith, later)
one_read limits before now entry (replies.TooLarge need room) later cause low = omega (arith, later)
one_read limits before now entry replies.VersionsSpent later cause low = omega (arith, later)
one_read limits before now entry (replies.Busy holders) later cause low = omega (arith, later)
one_read limits before now entry replies.Memory later cause low = omega (arith, later)

length-filter : (p : Answered → Bool) (entry : Answered) (log : List Answered) → length (filter p (entry ∷ log)) ≡ cond (p entry) 1 0 + length (filter p log)
length-filter p entry log =
    elim (p entry) as (λ b. length (cond b (entry ∷ filter p log) (filter p log)) ≡ cond b 1 0 + length (filter p log)) [ true ↦ omega arith | false ↦ omega arith ]

pub opens_counted : (limits : Limits) (before now : Moment) (log : List Answered) → Runs limits before log now → now.library.open_faults < 2 ^ 64 - 1
    → before.library.open_faults + open_replies log ≤ now.library.open_faults
opens_counted limits before now [] h low = omega (arith, ap (λ (m : Moment). m.library.open_faults) h)
opens_counted limits before now (entry ∷ log) h low =
    let later = later_opens limits h.0 now log h.1.1 in
    let one = one_open limits before h.0 entry entry.reply h.1.0.answers.asks.opens h.1.0.answers.cause (omega (arith, later)) in
    let rest = opens_counted limits h.0 now log h.1.1 low in
    let count = length-filter (λ (e : Answered). is_open e.reply) entry log in
    omega (arith, one, rest, count)

pub reads_counted : (limits : Limits) (before now : Moment) (log : List Answered) → Runs limits before log now → now.library.more_faults < 2 ^ 64 - 1
    → before.library.more_faults + read_replies log ≤ now.library.more_faults
reads_counted limits before now [] h low = omega (arith, ap (λ (m : Moment). m.library.more_faults) h)
reads_counted limits before now (entry ∷ log) h low =
    let later = later_reads limits h.0 now log h.1.1 in
    let one = one_read limits before h.0 entry entry.reply h.1.0.answers.asks.reads h.1.0.answers.cause (omega (arith, later)) in
    let rest = reads_counted limits h.0 now log h.1.1 low in
    let count = length-filter (λ (e : Answered). is_read e.reply) entry log in
    omega (arith, one, rest, count)
