-- A frame that begins a message of several packets is one of a J1939 bus, and what was said to a line gives its records.
use Rattle.std.proofs.Common.{◌≡◌, ℕ, true, List, Result, Ok, Err, refl, subst}
use Rattle.std.specs.Prelude.{OnErr, IfOk}
use Rattle.std.specs.declared.alloc.AllocError.{AllocError}
use Rattle.bench_model.specs.declared.database.Key.{Key}
use Rattle.bench_model.specs.declared.database.Kind.{Kind}
use Rattle.bench_model.specs.declared.database.Kind.TheVariants as kind
use Rattle.candump_log.specs.declared.log_line.LogLine.{LogLine}
use Rattle.candump_log.specs.declared.log_line.LogLine.TheVariants as line
use Rattle.j1939_tp.specs.Frames.{frame, role, opens}
use Rattle.decoded_list.specs.declared.decoder.Records.{Records}
use Rattle.decoded_list.specs.Records.{Meaning, records_at}
use Rattle.decoded_list.specs.RecordsView.{record_list, BeginsMessage}

pub on_err : {T E : Type 0} (r : Result T E) (P : Type 0) → P → OnErr r P
on_err (Ok x) P p = tt
on_err (Err e) P p = p

pub begins : (k : Kind) (l : LogLine) (micros : ℕ) (key : Key) (bytes : List ℕ) → k ≡ kind.J1939 → l ≡ line.Frame micros key bytes
    → key.extended ≡ true → role (frame micros key.id bytes) ≡ opens → BeginsMessage k l
begins k l micros key bytes is_j1939 is_frame extended begun =
    rw (is_j1939, is_frame) (frame micros key.id bytes, rw extended refl, begun)

-- the records of a decoder that has heard the line are those of the decoder that had not
pub records_after : (meaning : Meaning) (k k' : Kind) (bus bus' next next' version : ℕ) (before : List LogLine) (l : LogLine)
    (result : Result Records AllocError) → k' ≡ k → bus' ≡ bus → next' ≡ next
    → IfOk result (λ r. record_list r ≡ records_at meaning k' (record { bus = bus'; version = version }) before next' l)
    → IfOk result (λ r. record_list r ≡ records_at meaning k (record { bus = bus; version = version }) before next l)
records_after meaning k k' bus bus' next next' version before l result same_kind same_bus same_next records =
    subst (λ (k : Kind). IfOk result (λ r. record_list r ≡ records_at meaning k (record { bus = bus; version = version }) before next l)) same_kind
    (subst (λ (b : ℕ). IfOk result (λ r. record_list r ≡ records_at meaning k' (record { bus = b; version = version }) before next l)) same_bus
    (subst (λ (n : ℕ). IfOk result (λ r. record_list r ≡ records_at meaning k' (record { bus = bus'; version = version }) before n l)) same_next records))
