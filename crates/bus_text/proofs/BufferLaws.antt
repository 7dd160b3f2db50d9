-- One text given to a buffer after another is one text given.
use Rattle.std.proofs.Common.{◌≡◌, ℕ, ◌+◌, ◌<◌, ◌≤◌, List, [], ◌++◌, length, take, drop, Option, None, Some, Result, Ok, Err, OnOk, IsErr, IsErrAnd, IfErr, refl, sym, ap, ◌∙◌, append_assoc, length-drop, arith}
use Rattle.std.proofs.lemmas.List.{append-nil, take_rest}
use Rattle.std.proofs.Math.Seq.{take-add}
use Rattle.std.specs.List.{between}
use Rattle.std.specs.Io.KnownBytes.{append_known}
use Rattle.subscriber_text.specs.declared.fault.PrintRefused.{PrintRefused}
use Rattle.subscriber_text.specs.declared.fault.PrintRefused.TheVariants as refusal
use Rattle.bus_text.specs.Buffering.{Output, Buffers, Caused, PrintsText}

abbrev pub done : Unit {0}
done = tt

pub append_known-append : (o : Option (List ℕ)) (xs ys : List ℕ) → append_known (append_known o xs) ys ≡ append_known o (xs ++ ys)
append_known-append None xs ys = refl
append_known-append (Some zs) xs ys = ap (λ (l : List ℕ). Some l) (append_assoc zs xs ys)

pub append_known-nil : (o : Option (List ℕ)) → o ≡ append_known o []
append_known-nil None = refl
append_known-nil (Some zs) = ap (λ (l : List ℕ). Some l) (sym (append-nil zs))

-- nothing was given, and nothing happened
pub buffers_nothing : (s : Output) → Buffers s [] s
buffers_nothing s = record { sent = []; kept = sym (append-nil s.pending); written = append_known-nil s.written; later = omega arith }

pub buffers_then : {before mid now : Output} {first second : List ℕ} → Buffers before first mid → Buffers mid second now → Buffers before (first ++ second) now
buffers_then {before} {mid} {now} {first} {second} f s = record {
  sent = f.sent ++ s.sent;
  kept = append_assoc f.sent s.sent now.pending ∙ ap (λ (l : List ℕ). f.sent ++ l) s.kept ∙ sym (append_assoc f.sent mid.pending second) ∙ ap (λ (l : List ℕ). l ++ second) f.kept ∙ append_assoc before.pending first second;
  written = s.written ∙ ap (λ (o : Option (List ℕ)). append_known o s.sent) f.written ∙ append_known-append before.written f.sent s.sent;
  later = omega (arith, f.later, s.later);
}

-- where nothing was pending and nothing is, what was given was written
pub buffers_flushed : {before now : Output} {given : List ℕ} → Buffers before given now → before.pending ≡ [] → now.pending ≡ [] → now.written ≡ append_known before.written given
buffers_flushed {before} {now} {given} b was is =
    let sent : b.sent ≡ given = sym (append-nil b.sent) ∙ ap (λ (l : List ℕ). b.sent ++ l) (sym is) ∙ b.kept ∙ ap (λ (l : List ℕ). l ++ given) was in
    b.written ∙ ap (append_known before.written) sent

-- the same text by another equation
pub buffers_as : {before now : Output} {given text : List ℕ} → given ≡ text → Buffers before given now → Buffers before text now
buffers_as {before} {now} e b = record { sent = b.sent; kept = b.kept ∙ ap (λ (l : List ℕ). before.pending ++ l) e; written = b.written; later = b.later }

caused_since : (why : PrintRefused) (before mid now : Output) → before.write_faults ≤ mid.write_faults → Caused why mid now → Caused why before now
caused_since refusal.WriteFault before mid now l c = omega (arith, l, c)
caused_since refusal.Memory before mid now l c = tt

if_caused : (r : Result (Unit {0}) PrintRefused) (before mid now : Output) → before.write_faults ≤ mid.write_faults → IfErr r (λ why. Caused why mid now) → IfErr r (λ why. Caused why before now)
if_caused (Ok u) before mid now l c = tt
if_caused (Err why) before mid now l c = caused_since why before mid now l c

-- a text was given whole
pub prints_all : {before now : Output} {text : List ℕ} → Buffers before text now → PrintsText text before (Ok done) now
prints_all {text = text} b = record { given = text; rest = []; parted = append-nil text; all = refl; buffers = b; cause = tt }

pub given_all : {before now : Output} {text : List ℕ} {u : Unit {0}} → PrintsText text before (Ok u) now → Buffers before text now
given_all p = buffers_as (sym (append-nil p.given) ∙ sym (ap (λ (l : List ℕ). p.given ++ l) p.all) ∙ p.parted) p.buffers

-- one text after another
pub prints_then : {before mid now : Output} {first second : List ℕ} {r : Result (Unit {0}) PrintRefused} {u : Unit {0}} → PrintsText first before (Ok u) mid → PrintsText second mid r now →
    PrintsText (first ++ second) before r now
prints_then {before} {mid} {now} {first} {second} {r} f s = record {
  given = first ++ s.given;
  rest = s.rest;
  parted = append_assoc first s.given s.rest ∙ ap (λ (l : List ℕ). first ++ l) s.parted;
  all = s.all;
  buffers = buffers_then (given_all f) s.buffers;
  cause = if_caused r before mid now f.buffers.later s.cause;
}

-- a text that was not given whole, before more of it
pub prints_stop : {before now : Output} {first : List ℕ} (second : List ℕ) {why : PrintRefused} → PrintsText first before (Err why) now → PrintsText (first ++ second) before (Err why) now
prints_stop {first = first} second f = record {
  given = f.given;
  rest = f.rest ++ second;
  parted = sym (append_assoc f.given f.rest second) ∙ ap (λ (l : List ℕ). l ++ second) f.parted;
  all = tt;
  buffers = f.buffers;
  cause = f.cause;
}

-- nothing of a text was given, since memory ran out
pub prints_none : (s : Output) (text : List ℕ) → PrintsText text s (Err refusal.Memory) s
prints_none s text = record { given = []; rest = text; parted = refl; all = tt; buffers = buffers_nothing s; cause = tt }

-- the same text by another equation
pub prints_as : {before now : Output} {first second : List ℕ} {r : Result (Unit {0}) PrintRefused} → first ≡ second → PrintsText first before r now → PrintsText second before r now
prints_as e p = record { given = p.given; rest = p.rest; parted = p.parted ∙ e; all = p.all; buffers = p.buffers; cause = p.cause }

-- what holds holds on Ok
pub on_ok : {T E : Type 0} (r : Result T E) (P : Type 0) → P → OnOk r P
on_ok (Ok x) P p = p
on_ok (Err e) P p = tt

-- an error that `?` passes on
pub same_error : {T E : Type 0} (r : Result T E) (e : E) → IsErr r × IsErrAnd r (λ x. x ≡ e) → r ≡ Err e
same_error (Ok x) e h = absurd h.1
same_error (Err y) e h = ap Err h.1

-- one write more of a text
pub prefix_more : (text : List ℕ) (n m : ℕ) (o was now : Option (List ℕ)) → n < length text → m ≤ length (between n (length text) text) → was ≡ append_known o (take n text) → now ≡ append_known was (take m (between n (length text) text)) →
    (n + m ≤ length text) × (now ≡ append_known o (take (n + m) text))
prefix_more text n m o was now some within written wrote = (
  omega (arith, some, within, ap length (take_rest text n), length-drop n text),
  wrote ∙ ap (λ (l : List ℕ). append_known was (take m l)) (take_rest text n) ∙ ap (λ (k : Option (List ℕ)). append_known k (take m (drop n text))) written
      ∙ append_known-append o (take n text) (take m (drop n text)) ∙ ap (append_known o) (sym (take-add n m text)),
)
