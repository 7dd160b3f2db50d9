-- Logs that were opened and then read: what was taken of each and what is left are the bytes of its file.
use Rattle.std.proofs.Common.{◌≡◌, ℕ, suc, List, [], ◌∷◌, ◌++◌, length, take, map, Option, Some, None, refl, sym, ap, subst, ◌∙◌, false}
use Rattle.std.specs.Option.{IsSome, option_map}
use Rattle.std.specs.List.{All, AllZip, AllByRecursion}
use Rattle.std.proofs.lemmas.Option.{none-some, same_Some}
use Rattle.std.proofs.lemmas.List.Elements.{All-from_recursion}
use Rattle.std.specs.Io.KnownBytes.{append_known, prepend_known}
use Rattle.port_io.specs.OtherSide.{SourceState}
use Rattle.candump_log.specs.Reads.{TakesBytes}
use Rattle.bench_inputs.specs.Asking.{Files}
use Rattle.bench_inputs.specs.BenchFiles.{HasBytes}
use Rattle.bench_inputs.specs.Reading.{IsFresh}
use Rattle.bench_text.specs.LogsRead.{HaveLeft, HasRead, IsReadToEnd}
use Rattle.bench_server.proofs.OptionLaws.{no_value}
use Rattle.bench_server.specs.Outcomes.{IsHeard, IsUnread, IsLogOf, IsLogNamed}

-- a log that was opened of known files has the named file's bytes left
pub record OpenedOf (files : Files) (name bytes : List ℕ) (log : SourceState) : Type 0 where
  pub is_there : HasBytes files name bytes
  pub left : log.left ≡ Some bytes
  pub taken : log.taken ≡ Some []

opened_with : (files : Files) (name : List ℕ) (log : SourceState) (left : Option (List ℕ)) → log.left ≡ left → IsFresh (Some files) name log
    → (bytes : List ℕ) × OpenedOf files name bytes log
opened_with files name log None e f = absurd (no_value (List ℕ) (subst (λ (o : Option (List ℕ)). IsSome o) e f.bytes.1))
opened_with files name log (Some bytes) e f = (
  bytes,
  record {
    is_there = f.bytes.0 ∙ e;
    left = e;
    taken = f.none_taken ∙ ap (λ (o : Option (List ℕ)). option_map (λ _. []) o) e;
  },
)

pub opened_of : (files : Files) (name : List ℕ) (log : SourceState) → IsFresh (Some files) name log → (bytes : List ℕ) × OpenedOf files name bytes log
opened_of files name log f = opened_with files name log log.left refl f

-- a log of these bytes, of which some were taken
read_with : (bytes : List ℕ) (log log_now : SourceState) (took : List ℕ) (left : Option (List ℕ)) → log_now.left ≡ left → log.left ≡ Some bytes → log.taken ≡ Some []
    → TakesBytes log log_now took → IsLogOf bytes log_now
read_with bytes log log_now took None e l t r =
    absurd (none-some bytes (sym (ap (λ (o : Option (List ℕ)). prepend_known took o) e) ∙ sym r.left ∙ l))
read_with bytes log log_now took (Some rest) e l t r = record {
  took = took;
  rest = rest;
  taken = r.taken ∙ ap (λ (o : Option (List ℕ)). append_known o took) t;
  left = e;
  joined = same_Some (took ++ rest) bytes (sym (ap (λ (o : Option (List ℕ)). prepend_known took o) e) ∙ sym r.left ∙ l);
}

pub read_of : (bytes : List ℕ) (log log_now : SourceState) → log.left ≡ Some bytes → log.taken ≡ Some [] → HasRead log log_now → IsLogOf bytes log_now
read_of bytes log log_now l t r = read_with bytes log log_now r.0 log_now.left refl l t r.1

-- a log that was opened and not read
pub unread_of : (bytes : List ℕ) (log : SourceState) → log.left ≡ Some bytes → log.taken ≡ Some [] → IsLogOf bytes log
unread_of bytes log l t = record { took = []; rest = bytes; taken = t; left = l; joined = refl }

-- all logs of names, opened of known files and then read
pub record ReadOf (files : Files) (names : List (List ℕ)) (logs logs_now : List SourceState) : Type 0 where
  pub bytes : List (List ℕ)
  pub are_there : AllZip (HasBytes files) names bytes
  pub left : HaveLeft logs bytes
  pub are_logs : AllZip IsLogOf bytes logs_now
  pub are_named : AllZip (IsLogNamed files) names logs_now

pub reads_of : (files : Files) (names : List (List ℕ)) (logs logs_now : List SourceState) → AllZip (IsFresh (Some files)) names logs → AllZip HasRead logs logs_now
    → ReadOf files names logs logs_now
reads_of files [] [] [] f r = record { bytes = []; are_there = tt; left = tt; are_logs = tt; are_named = tt }
reads_of files [] [] (now ∷ nows) f r = absurd r
reads_of files [] (log ∷ logs) nows f r = absurd f
reads_of files (name ∷ names) [] nows f r = absurd f
reads_of files (name ∷ names) (log ∷ logs) [] f r = absurd r
reads_of files (name ∷ names) (log ∷ logs) (now ∷ nows) f r =
    let one = opened_of files name log f.0 in
    let more = reads_of files names logs nows f.1 r.1 in
    let is_log = read_of one.0 log now one.1.left one.1.taken r.0 in
    record {
      bytes = one.0 ∷ more.bytes;
      are_there = (one.1.is_there, more.are_there);
      left = (one.1.left, more.left);
      are_logs = (is_log, more.are_logs);
      are_named = ((one.0, one.1.is_there, is_log), more.are_named);
    }

-- logs of names, opened and not read
pub opened_named : (files : Files) (names : List (List ℕ)) (logs : List SourceState) → AllZip (IsFresh (Some files)) names logs → AllZip (IsLogNamed files) names logs
opened_named files [] [] f = tt
opened_named files [] (log ∷ logs) f = absurd f
opened_named files (name ∷ names) [] f = absurd f
opened_named files (name ∷ names) (log ∷ logs) f =
    let one = opened_of files name log f.0 in
    ((one.0, one.1.is_there, unread_of one.0 log one.1.left one.1.taken), opened_named files names logs f.1)

-- logs that were opened are as they were opened
unread_each : (files : Option Files) (names : List (List ℕ)) (logs : List SourceState) → AllZip (IsFresh files) names logs → AllByRecursion IsUnread logs
unread_each files [] [] f = tt
unread_each files [] (log ∷ logs) f = absurd f
unread_each files (name ∷ names) [] f = absurd f
unread_each files (name ∷ names) (log ∷ logs) f =
    (record { none_taken = f.0.none_taken; no_faults = f.0.no_faults; not_ended = f.0.not_ended }, unread_each files names logs f.1)

-- the one behind the first, and those behind it
pub rest_each : {X : Type 0} (P : X → Type 0) (xs : List X) (x : X) (ys : List X) → AllByRecursion P (xs ++ x ∷ ys) → P x × AllByRecursion P ys
rest_each P [] x ys h = h
rest_each P (z ∷ xs) x ys h = rest_each P xs x ys h.1

-- the log at which a reader stopped and those behind it were opened and not read
pub unread_from : (files : Option Files) (names : List (List ℕ)) (logs heard : List SourceState) (log : SourceState) (behind : List SourceState) → AllZip (IsFresh files) names logs
    → logs ≡ heard ++ log ∷ behind → IsUnread log × All IsUnread behind
unread_from files names logs heard log behind f e =
    let each = rest_each IsUnread heard log behind (subst (λ (ls : List SourceState). AllByRecursion IsUnread ls) e (unread_each files names logs f)) in
    (each.0, All-from_recursion IsUnread behind each.1)

-- no log that was opened has ended, by what each shows
ended_each : {L : Type 0} (source_state : L → SourceState) (files : Option Files) (names : List (List ℕ)) (logs : List L) → AllZip (IsFresh files) names (map source_state logs)
    → AllByRecursion (λ log. (source_state log).ended ≡ false) logs
ended_each source_state files [] [] f = tt
ended_each source_state files [] (log ∷ logs) f = absurd f
ended_each source_state files (name ∷ names) [] f = absurd f
ended_each source_state files (name ∷ names) (log ∷ logs) f = (f.0.not_ended, ended_each source_state files names logs f.1)

pub none_ended : {L : Type 0} (source_state : L → SourceState) (files : Option Files) (names : List (List ℕ)) (logs : List L) → AllZip (IsFresh files) names (map source_state logs)
    → All (λ log. (source_state log).ended ≡ false) logs
none_ended source_state files names logs f = All-from_recursion (λ log. (source_state log).ended ≡ false) logs (ended_each source_state files names logs f)

pub all_unread : (files : Option Files) (names : List (List ℕ)) (logs : List SourceState) → AllZip (IsFresh files) names logs → All IsUnread logs
all_unread files names logs f = All-from_recursion IsUnread logs (unread_each files names logs f)

-- logs that were read to their ends
heard_each : (logs logs_now : List SourceState) → AllZip IsReadToEnd logs logs_now → AllByRecursion IsHeard logs_now
heard_each [] [] r = tt
heard_each [] (now ∷ nows) r = absurd r
heard_each (log ∷ logs) [] r = absurd r
heard_each (log ∷ logs) (now ∷ nows) r = (record { ended = r.0.ended; none_left = r.0.none_left }, heard_each logs nows r.1)

pub all_heard : (logs logs_now : List SourceState) → AllZip IsReadToEnd logs logs_now → All IsHeard logs_now
all_heard logs nows r = All-from_recursion IsHeard nows (heard_each logs nows r)

-- lists that go in pairs are as long
pub zip_length : {A B : Type 0} (R : A → B → Type 0) (xs : List A) (ys : List B) → AllZip R xs ys → length ys ≡ length xs
zip_length R [] [] h = refl
zip_length R [] (y ∷ ys) h = absurd h
zip_length R (x ∷ xs) [] h = absurd h
zip_length R (x ∷ xs) (y ∷ ys) h = ap suc (zip_length R xs ys h.1)

-- what the logs before one have left, and what that one has
pub left_before : (heard : List SourceState) (log : SourceState) (behind : List SourceState) (bytes : List (List ℕ)) → HaveLeft (heard ++ log ∷ behind) bytes
    → HaveLeft heard (take (length heard) bytes) × ((left : List ℕ) × (log.left ≡ Some left))
left_before [] log behind [] h = absurd h
left_before [] log behind (b ∷ bs) h = (tt, (b, h.0))
left_before (x ∷ heard) log behind [] h = absurd h
left_before (x ∷ heard) log behind (b ∷ bs) h = let more = left_before heard log behind bs h.1 in ((h.0, more.0), more.1)
