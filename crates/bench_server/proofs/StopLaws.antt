-- The log at which a print stopped: it failed or is too long, and its text goes as far as it was taken.
use Rattle.std.proofs.Common.{◌≡◌, ℕ, ◌<◌, ◌≤◌, List, [], ◌++◌, length, take, Option, Some, None, refl, sym, ap, subst, ◌∙◌, false, inl, inr}
use Rattle.std.specs.Option.{IfSome, option_map}
use Rattle.std.specs.List.{AllZip}
use Rattle.std.proofs.lemmas.Option.{IfSome_then}
use Rattle.std.specs.Io.KnownBytes.{append_known}
use Rattle.port_io.specs.Causes.{Rose}
use Rattle.port_io.specs.OtherSide.{SourceState, SinkState}
use Rattle.candump_log.specs.LinesState.{log_limit}
use Rattle.candump_log.specs.Reads.{TakesBytes}
use Rattle.bench_model.specs.declared.database.Bench.{Bench}
use Rattle.bench_inputs.specs.Asking.{Files}
use Rattle.bench_inputs.specs.Reading.{IsFresh}
use Rattle.bench_text.specs.LogsRead.{HaveLeft, IsReadToEnd}
use Rattle.bench_text.specs.LogsRead as read
use Rattle.bench_text.specs.Printing.{PrintsTo}
use Rattle.bench_server.specs.ToolText.{all_wanted, text_of, text_up_to}
use Rattle.bench_server.specs.Outcomes.{IsUnread, HasFailed, IsTooLong, StopsAt, AreHeardInOrder}
use Rattle.bench_server.proofs.OptionLaws.{of_some}
use Rattle.bench_server.proofs.LogLaws.{unread_from, all_heard, zip_length, left_before}

-- where the reader stopped is where the log of this bus is
stop_at : (files : Option Files) (names : List (List ℕ)) (logs logs_now : List SourceState) (bus : ℕ) (st : read.StopsAt bus logs logs_now) → AllZip (IsFresh files) names logs
    → (Holds : SourceState → Type 0) → Holds st.log_now → StopsAt logs_now bus Holds
stop_at files names logs logs_now bus st f Holds h = record {
  heard = st.heard_now;
  log = st.log_now;
  behind = st.behind;
  parted = st.parted_now;
  count = zip_length IsReadToEnd st.heard st.heard_now st.to_end ∙ st.count;
  to_end = all_heard st.heard st.heard_now st.to_end;
  unread = (unread_from files names logs st.heard st.log st.behind f st.parted).1;
  holds = h;
}

-- what was taken of a log of which nothing was taken before
taken_known : (o : Option (List ℕ)) (took : List ℕ) → IfSome (append_known (option_map (λ _. []) o) took) (λ taken. taken ≡ took)
taken_known None took = tt
taken_known (Some left) took = refl

taken_of : (log log_now : SourceState) (took : List ℕ) → IsUnread log → TakesBytes log log_now took → IfSome log_now.taken (λ taken. taken ≡ took)
taken_of log log_now took u r =
    subst (λ (o : Option (List ℕ)). IfSome o (λ taken. taken ≡ took)) (sym (r.taken ∙ ap (λ (o : Option (List ℕ)). append_known o took) u.none_taken)) (taken_known log.left took)

-- a count that rose from none
risen : (before now : ℕ) → before ≡ 0 → Rose before now → 1 ≤ now
risen before now e r = let z : Rose 0 now = subst (λ (n : ℕ). Rose n now) e r in z

module _ (files : Option Files) (names : List (List ℕ)) (logs logs_now : List SourceState) (f : AllZip (IsFresh files) names logs) where
  pub stops_failed : (bus : ℕ) (st : read.StopsAt bus logs logs_now) → st.log_now.ended ≡ false → Rose st.log.read_faults st.log_now.read_faults → length st.took < log_limit
      → StopsAt logs_now bus HasFailed
  stops_failed bus st goes_on rose short =
      let unread = (unread_from files names logs st.heard st.log st.behind f st.parted).0 in
      stop_at files names logs logs_now bus st f HasFailed (record {
        goes_on = goes_on;
        failed = risen st.log.read_faults st.log_now.read_faults unread.no_faults rose;
        short = IfSome_then st.log_now.taken (taken_of st.log st.log_now st.took unread st.takes) (λ taken e. subst (λ (t : List ℕ). length t < log_limit) (sym e) short);
      })

  pub stops_long : (bus : ℕ) (st : read.StopsAt bus logs logs_now) → st.log_now.ended ≡ false → length st.took ≡ log_limit → StopsAt logs_now bus IsTooLong
  stops_long bus st goes_on long =
      let unread = (unread_from files names logs st.heard st.log st.behind f st.parted).0 in
      stop_at files names logs logs_now bus st f IsTooLong (record {
        goes_on = goes_on;
        long = IfSome_then st.log_now.taken (taken_of st.log st.log_now st.took unread st.takes) (λ taken e. ap length e ∙ long);
      })

  -- the logs were read in order
  pub read_in_order : read.ReadsInOrder logs logs_now → AreHeardInOrder logs_now
  read_in_order r =
      elim r [
        | inl all ↦ inl (all_heard logs logs_now all)
        | inr st ↦ inr (st.0, stop_at files names logs logs_now st.0 st.1 f (λ _. Unit {0}) tt)
      ]

  -- where the logs are known, the text goes as far as this one was taken
  pub stops_text : (bench : Bench) (bus : ℕ) (out out_now : SinkState) (bytes : List (List ℕ)) → HaveLeft logs bytes → (p : PrintsTo (all_wanted bench) bench bus logs logs_now out out_now)
      → StopsAt logs_now bus (λ log. (took : List ℕ) × (log.taken ≡ Some took)
      × (out_now.written ≡ append_known out.written (text_of bench (take bus bytes) ++ text_up_to bench bus took)))
  stops_text bench bus out out_now bytes left p =
      let st = p.stops in
      let unread = (unread_from files names logs st.heard st.log st.behind f st.parted).0 in
      let parts = left_before st.heard st.log st.behind bytes (subst (λ (ls : List SourceState). HaveLeft ls bytes) st.parted left) in
      let before : HaveLeft st.heard (take bus bytes) = subst (λ (n : ℕ). HaveLeft st.heard (take n bytes)) st.count parts.0 in
      let taken : st.log_now.taken ≡ Some st.took =
      st.takes.taken ∙ ap (λ (o : Option (List ℕ)). append_known o st.took) (unread.none_taken ∙ ap (λ (o : Option (List ℕ)). option_map (λ _. []) o) parts.1.1) in
      stop_at files names logs logs_now bus st f
      (λ log. (took : List ℕ) × (log.taken ≡ Some took) × (out_now.written ≡ append_known out.written (text_of bench (take bus bytes) ++ text_up_to bench bus took))) (
        st.took,
        taken,
        of_some st.log.left (λ _. out_now.written ≡ append_known out.written (text_of bench (take bus bytes) ++ text_up_to bench bus st.took)) parts.1.0 parts.1.1
            (p.text (take bus bytes) before),
      )
