-- From the buses that were printed so far to the next one, to how a print of all buses ends.
use Rattle.std.proofs.Common.{◌≡◌, inl, inr, ℕ, ◌+◌, ◌<◌, ◌≤◌, false, List, [], ◌∷◌, ◌++◌, length, map, Option, None, Some, IfSome, All, Result, Ok, Err, IsErr, IsErrAnd, refl, sym, ap, subst, ◌∙◌, append_assoc, arith}
use Rattle.std.proofs.lemmas.List.{append-nil, length_push, length-append}
use Rattle.std.proofs.lemmas.List.Elements.{All-head, All-tail}
use Rattle.std.specs.Prelude.{slice_get}
use Rattle.std.specs.List.{AllZip}
use Rattle.std.specs.Io.KnownBytes.{append_known}
use Rattle.byte_forms.specs.Lines.{all_lines}
use Rattle.port_io.specs.Causes.{Rose}
use Rattle.port_io.specs.OtherSide.{SourceState, SinkState}
use Rattle.bench_model.specs.declared.database.Bench.{Bench}
use Rattle.candump_log.specs.LineOf.{line_of}
use Rattle.candump_log.specs.LogLines.{whole_lines}
use Rattle.subscriber_text.specs.Wants.{WantList}
use Rattle.bus_text.specs.declared.refused.BusRefused.{BusRefused}
use Rattle.bus_text.specs.declared.refused.BusRefused.TheVariants as bus
use Rattle.bus_text.specs.BusText.{bus_at, bus_text, text_so_far}
use Rattle.bus_text.specs.Buffering.{Output, Buffers}
use Rattle.bus_text.specs.Prefixes.{sink_state}
use Rattle.bus_text.specs.Printing.{PrintsLines, IsWritten as IsBusWritten}
use Rattle.bench_text.specs.declared.refused.BusesRefused.TheVariants as buses
use Rattle.bench_text.specs.BenchText.{whole_text, part_text, texts_from, bench_text}
use Rattle.bench_text.specs.LogsRead.{HaveLeft, IsReadToEnd, StopsAt}
use Rattle.bench_text.specs.Printing.{PrintsTo, PrintsPrefix, PrintsBuses}
use Rattle.bench_text.specs.BusAt.{HasLog, PrintsAt, refused_at}
use Rattle.bench_text.proofs.TextLaws.{texts_none, texts_parted, texts_end}
use Rattle.bench_text.proofs.ListLaws.{zip_more, zip_length, zip_parted, same_prefix, same_rest}
use Rattle.bench_text.proofs.ReadLaws.{all_read, stops_read}

abbrev NotEnded : SourceState → Type 0
NotEnded log = log.ended ≡ false

abbrev HasLeft : SourceState → List ℕ → Type 0
HasLeft log left = log.left ≡ Some left

abbrev pub sink_of : Output → SinkState
sink_of s = sink_state s.written s.write_faults

-- the buses before this place were printed from their logs, and just their texts were given
pub record GoesOn (w : WantList) (bench : Bench) (place : ℕ) (logs logs_now : List SourceState) (before now : Output) : Type 0 where
  pub heard : List SourceState
  pub heard_now : List SourceState
  pub rest : List SourceState
  pub parted : logs ≡ heard ++ rest
  pub parted_now : logs_now ≡ heard_now ++ rest
  pub count : length heard ≡ place
  pub to_end : AllZip IsReadToEnd heard heard_now
  pub fresh : All (λ (log : SourceState). log.ended ≡ false) rest
  pub given : List ℕ
  pub text : (bytes : List (List ℕ)) → HaveLeft heard bytes → given ≡ bench_text w bench bytes
  pub buffers : Buffers before given now

-- what the law of uses of a buffer says
abbrev pub Joined : Type 0
Joined = (before mid now : Output) (first second : List ℕ) → Buffers before first mid → Buffers mid second now → Buffers before (first ++ second) now

abbrev pub Unused : Type 0
Unused = (s : Output) → Buffers s [] s

abbrev pub Written : Type 0
Written = (before now : Output) (given : List ℕ) → Buffers before given now → before.pending ≡ [] → now.pending ≡ [] → now.written ≡ append_known before.written given

-- an error that `?` passes on
pub same_error : {T E : Type 0} (r : Result T E) (e : E) → IsErr r × IsErrAnd r (λ x. x ≡ e) → r ≡ Err e
same_error (Ok x) e h = absurd h.1
same_error (Err y) e h = ap Err h.1

none_left : (bytes : List (List ℕ)) → HaveLeft [] bytes → bytes ≡ []
none_left [] h = refl
none_left (b ∷ bytes) h = absurd h

text_of_none : (w : WantList) (bench : Bench) (bytes : List (List ℕ)) → HaveLeft [] bytes → [] ≡ bench_text w bench bytes
text_of_none w bench bytes h = sym (ap (λ (l : List (List ℕ)). bench_text w bench l) (none_left bytes h) ∙ texts_none w bench)

-- before the first bus
pub goes_on_from : Unused → (w : WantList) (bench : Bench) (logs : List SourceState) (s : Output)
    → All (λ (log : SourceState). log.ended ≡ false) logs → GoesOn w bench 0 logs logs s s
goes_on_from unused w bench logs s fresh = record {
  heard = [];
  heard_now = [];
  rest = logs;
  parted = refl;
  parted_now = refl;
  count = refl;
  to_end = tt;
  fresh = fresh;
  given = [];
  text = text_of_none w bench;
  buffers = unused s;
}

log_here : (n : ℕ) (prefix rest : List SourceState) → length prefix ≡ n → n < length (prefix ++ rest)
    → All (λ (log : SourceState). log.ended ≡ false) rest → HasLog n (prefix ++ rest)
log_here n prefix [] e h fresh = absurd (omega (arith, e, h, length-append prefix []))
log_here n prefix (log ∷ rest) e h fresh =
    let P : ℕ → Type 0 = λ k. slice_get (prefix ++ log ∷ rest) k ≡ Some log in
    (log, subst P e (get_at prefix log rest), All-head NotEnded log rest fresh)
  where
    get_at : (xs : List SourceState) (x : SourceState) (ys : List SourceState) → slice_get (xs ++ x ∷ ys) (length xs) ≡ Some x
    get_at [] x ys = refl
    get_at (z ∷ xs) x ys = get_at xs x ys

-- the log of the next bus is there, and has not ended
pub next_log : {w : WantList} {bench : Bench} {place : ℕ} {logs logs_now : List SourceState} {before now : Output}
    → GoesOn w bench place logs logs_now before now → place < length logs_now → HasLog place logs_now
next_log {place = place} g h =
    let P : List SourceState → Type 0 = λ l. HasLog place l in
    let L : List SourceState → Type 0 = λ l. place < length l in
    let n = sym (zip_length IsReadToEnd g.heard g.heard_now g.to_end) ∙ g.count in
    subst P (sym g.parted_now) (log_here place g.heard_now g.rest n (subst L g.parted_now h) g.fresh)

-- ---- the bus at the next place

module _ {w : WantList} {bench : Bench} {place : ℕ} {logs mid_logs logs_now : List SourceState} {before mid now : Output} {r : Result (Unit {0}) BusRefused}
    (g : GoesOn w bench place logs mid_logs before mid) (p : PrintsAt w bench place mid_logs logs_now mid now r) where
  prefixes : length p.first ≡ length g.heard_now
  prefixes = p.count ∙ sym g.count ∙ zip_length IsReadToEnd g.heard g.heard_now g.to_end

  prefix : p.first ≡ g.heard_now
  prefix = same_prefix p.first (p.log ∷ p.behind) g.heard_now g.rest (sym p.parted ∙ g.parted_now) prefixes

  behind : p.log ∷ p.behind ≡ g.rest
  behind = same_rest p.first (p.log ∷ p.behind) g.heard_now g.rest (sym p.parted ∙ g.parted_now) prefixes

  pub stops_at : StopsAt place logs logs_now
  stops_at = record {
    heard = g.heard;
    heard_now = g.heard_now;
    log = p.log;
    log_now = p.log_now;
    behind = p.behind;
    parted = g.parted ∙ ap (λ (l : List SourceState). g.heard ++ l) (sym behind);
    parted_now = p.parted_now ∙ ap (λ (l : List SourceState). l ++ p.log_now ∷ p.behind) prefix;
    count = g.count;
    to_end = g.to_end;
    took = p.prints.prints.took;
    takes = p.prints.prints.takes;
  }

  still_fresh : All (λ (log : SourceState). log.ended ≡ false) p.behind
  still_fresh =
      let P : List SourceState → Type 0 = λ l. All NotEnded l in
      All-tail NotEnded p.log p.behind (subst P (sym behind) g.fresh)

lines_known : (left : Option (List ℕ)) (lines : List (List ℕ)) (bytes : List ℕ) → left ≡ Some bytes
    → IfSome left (λ b. lines ≡ all_lines b) → lines ≡ all_lines bytes
lines_known left lines bytes e h = let P : Option (List ℕ) → Type 0 = λ o. IfSome o (λ b. lines ≡ all_lines b) in subst P e h

-- what was given of a bus whose log shows its bytes begins its whole text
whole_given : (place : ℕ) (bytes : List ℕ) {w : WantList} {bench : Bench} {log log_now : SourceState} {before now : Output} (q : PrintsLines w bench (bus_at bench place) log log_now before now)
    → log.left ≡ Some bytes → q.given ++ q.ahead ≡ whole_text w bench place bytes
whole_given place bytes {w} {bench} {log} q e = q.prefix ∙ ap (λ lines. bus_text w bench (bus_at bench place) (map line_of lines)) (lines_known log.left q.lines bytes e q.known)

bench_parted : (w : WantList) (bench : Bench) (place : ℕ) (first rest : List (List ℕ)) (one : List ℕ) (bytes : List (List ℕ)) (given part : List ℕ) → bytes ≡ first ++ one ∷ rest → length first ≡ place
    → given ≡ bench_text w bench first → part ≡ whole_text w bench place one
    → given ++ (part ++ texts_from w bench (place + 1) rest) ≡ bench_text w bench bytes
bench_parted w bench place first rest one bytes given part e n f p =
    ap (λ (t : List ℕ). given ++ (t ++ texts_from w bench (place + 1) rest)) p
    ∙ ap (λ k. given ++ (whole_text w bench k one ++ texts_from w bench (k + 1) rest)) (sym n)
    ∙ ap (λ (t : List ℕ). t ++ (whole_text w bench (length first) one ++ texts_from w bench (length first + 1) rest)) f
    ∙ sym (texts_parted w bench first rest one) ∙ ap (λ (l : List (List ℕ)). bench_text w bench l) (sym e)

-- the next bus was printed whole
pub goes_on : Joined
    → {w : WantList} {bench : Bench} {place : ℕ} {logs mid_logs logs_now : List SourceState} {before mid now : Output} {u : Unit {0}} → GoesOn w bench place logs mid_logs before mid
    → PrintsAt w bench place mid_logs logs_now mid now (Ok u) → GoesOn w bench (place + 1) logs logs_now before now
unfolding stops_at
goes_on joined {w} {bench} {place} {logs} {mid_logs} {logs_now} {before} {mid} {now} g p =
    let s = stops_at g p in
    let q = p.prints.prints in
    let ended : IsReadToEnd p.log p.log_now = record { took = q.took; takes = q.takes; ended = p.prints.ends.1; none_left = p.prints.ends.2 } in
    record {
      heard = g.heard ++ p.log ∷ [];
      heard_now = g.heard_now ++ p.log_now ∷ [];
      rest = p.behind;
      parted = s.parted ∙ sym (append_assoc g.heard (p.log ∷ []) p.behind);
      parted_now = s.parted_now ∙ sym (append_assoc g.heard_now (p.log_now ∷ []) p.behind);
      count = length_push g.heard p.log ∙ ap (λ k. k + 1) g.count;
      to_end = zip_more IsReadToEnd g.heard g.heard_now p.log p.log_now g.to_end ended;
      fresh = still_fresh g p;
      given = g.given ++ q.given;
      text = λ bytes h.
          let d = zip_parted HasLeft g.heard p.log [] bytes h in
          let n : length d.first ≡ place = sym (zip_length HasLeft g.heard d.first d.first_zip) ∙ g.count in
          let part : q.given ≡ whole_text w bench place d.one = sym (append-nil q.given) ∙ sym (ap (λ (t : List ℕ). q.given ++ t) p.prints.ends.0) ∙ whole_given place d.one q d.one_zip in
          sym (append-nil (g.given ++ q.given)) ∙ append_assoc g.given q.given []
          ∙ ap (λ (t : List ℕ). g.given ++ (q.given ++ t)) (sym (texts_end w bench (place + 1)))
          ∙ ap (λ (l : List (List ℕ)). g.given ++ (q.given ++ texts_from w bench (place + 1) l)) (sym (none_left d.rest d.rest_zip))
          ∙ bench_parted w bench place d.first d.rest d.one bytes g.given q.given d.parted n (g.text d.first d.first_zip) part;
      buffers = joined before mid now g.given q.given g.buffers q.buffers;
    }

-- ---- the bus at which it stopped

if_known : (o : Option (List ℕ)) (P Q : Type 0) → (P → Q) → IfSome o (λ _. P) → IfSome o (λ _. Q)
if_known None P Q f h = tt
if_known (Some x) P Q f h = f h

-- what was sent and what lies ahead of it are the whole text
sent_ahead : (sent pending given part ahead behind whole : List ℕ) → sent ++ pending ≡ given ++ part
    → given ++ ((part ++ ahead) ++ behind) ≡ whole → sent ++ (pending ++ (ahead ++ behind)) ≡ whole
sent_ahead sent pending given part ahead behind whole e h =
    sym (append_assoc sent pending (ahead ++ behind)) ∙ ap (λ (t : List ℕ). t ++ (ahead ++ behind)) e
    ∙ append_assoc given part (ahead ++ behind)
    ∙ ap (λ (t : List ℕ). given ++ t) (sym (append_assoc part ahead behind)) ∙ h

sent_all : {before now : Output} {given : List ℕ} (b : Buffers before given now) → before.pending ≡ [] → b.sent ++ now.pending ≡ given
sent_all {given = given} b empty = b.kept ∙ ap (λ (t : List ℕ). t ++ given) empty

prefix_there : Joined
    → {w : WantList} {bench : Bench} {place : ℕ} {logs mid_logs logs_now : List SourceState} {before mid now : Output} {r : Result (Unit {0}) BusRefused}
    → GoesOn w bench place logs mid_logs before mid → PrintsAt w bench place mid_logs logs_now mid now r → before.pending ≡ []
    → PrintsPrefix w bench logs logs_now (sink_of before) (sink_of now)
unfolding stops_at
prefix_there joined {w} {bench} {place} {logs} {mid_logs} {logs_now} {before} {mid} {now} g p empty =
    let s = stops_at g p in
    let q = p.prints.prints in
    let b = joined before mid now g.given q.given g.buffers q.buffers in
    record {
      reads = inr (place, s);
      sent = b.sent;
      written = b.written;
      prefix = λ bytes h.
          let P : List SourceState → Type 0 = λ l. HaveLeft l bytes in
          let d = zip_parted HasLeft g.heard p.log p.behind bytes (subst P s.parted h) in
          let n : length d.first ≡ place = sym (zip_length HasLeft g.heard d.first d.first_zip) ∙ g.count in
          let rest = texts_from w bench (place + 1) d.rest in (
            now.pending ++ (q.ahead ++ rest),
            sent_ahead b.sent now.pending g.given q.given q.ahead rest (bench_text w bench bytes) (sent_all b empty)
                (bench_parted w bench place d.first d.rest d.one bytes g.given (q.given ++ q.ahead) d.parted n (g.text d.first d.first_zip) (whole_given place d.one q d.one_zip)),
          );
    }

-- the text as far as the log at which it stopped goes
to_there : Joined → Written
    → {w : WantList} {bench : Bench} {place : ℕ} {logs mid_logs logs_now : List SourceState} {before mid now : Output} {r : Result (Unit {0}) BusRefused}
    → (g : GoesOn w bench place logs mid_logs before mid) (p : PrintsAt w bench place mid_logs logs_now mid now r)
    → before.pending ≡ [] → now.pending ≡ []
    → p.log_now.ended ≡ false → IfSome p.log.left (λ _. p.prints.prints.read ≡ whole_lines p.prints.prints.took)
    → p.prints.prints.given ≡ text_so_far w bench (bus_at bench place) (map line_of p.prints.prints.read)
    → PrintsTo w bench place logs logs_now (sink_of before) (sink_of now)
unfolding stops_at
to_there joined written {w} {bench} {place} {logs} {mid_logs} {logs_now} {before} {mid} {now} g p empty flushed goes_on whole text =
    let q = p.prints.prints in
    let b = joined before mid now g.given q.given g.buffers q.buffers in
    let wrote = written before now (g.given ++ q.given) b empty flushed in
    record {
      stops = stops_at g p;
      goes_on = goes_on;
      text = λ bytes h.
          let all = bench_text w bench bytes in
          if_known p.log.left (q.read ≡ whole_lines q.took) (now.written ≡ append_known before.written (all ++ part_text w bench place q.took))
          (λ e. wrote ∙ ap (append_known before.written) (ap (λ (t : List ℕ). t ++ q.given) (g.text bytes h)
          ∙ ap (λ (t : List ℕ). all ++ t) (text ∙ ap (λ lines. text_so_far w bench (bus_at bench place) (map line_of lines)) e))) whole;
    }

pub stopped : Joined → Written
    → (why : BusRefused) {w : WantList} {bench : Bench} {place : ℕ} {logs mid_logs logs_now : List SourceState} {before mid now : Output} → GoesOn w bench place logs mid_logs before mid
    → PrintsAt w bench place mid_logs logs_now mid now (Err why) → before.pending ≡ [] → IsBusWritten (Err why) now.pending
    → PrintsBuses w bench logs logs_now (sink_of before) (sink_of now) (Err (refused_at place why))
unfolding stops_at to_there
stopped joined written bus.ReadFault g p empty flushed =
    let e = p.prints.ends in
    record {
      read = stops_read (stops_at g p);
      later = omega (arith, g.buffers.later, p.prints.prints.buffers.later);
      ends = (to_there joined written g p empty flushed e.0.goes_on e.0.whole e.0.text, e.1, e.2);
    }
stopped joined written bus.TooLong g p empty flushed =
    let e = p.prints.ends in
    record {
      read = stops_read (stops_at g p);
      later = omega (arith, g.buffers.later, p.prints.prints.buffers.later);
      ends = (to_there joined written g p empty flushed e.0.goes_on e.0.whole e.0.text, e.1);
    }
stopped joined written bus.WriteFault g p empty flushed = record {
  read = stops_read (stops_at g p);
  later = omega (arith, g.buffers.later, p.prints.prints.buffers.later);
  ends = (prefix_there joined g p empty, omega (arith, g.buffers.later, p.prints.ends));
}
stopped joined written bus.Memory g p empty flushed = record {
  read = stops_read (stops_at g p);
  later = omega (arith, g.buffers.later, p.prints.prints.buffers.later);
  ends = prefix_there joined g p empty;
}

-- ---- behind the last bus

nothing_behind : (n : ℕ) (prefix rest : List SourceState) → length prefix ≡ n → length (prefix ++ rest) ≤ n → rest ≡ []
nothing_behind n prefix [] e h = refl
nothing_behind n prefix (log ∷ rest) e h = absurd (omega (arith, e, h, length-append prefix (log ∷ rest)))

module _ {w : WantList} {bench : Bench} {place : ℕ} {logs logs_now : List SourceState} {before now : Output} (g : GoesOn w bench place logs logs_now before now) (all : length logs ≤ place) where
  no_rest : g.rest ≡ []
  no_rest =
      let P : List SourceState → Type 0 = λ l. length l ≤ place in
      nothing_behind place g.heard g.rest g.count (subst P g.parted all)

  all_heard : logs ≡ g.heard
  all_heard = g.parted ∙ ap (λ (l : List SourceState). g.heard ++ l) no_rest ∙ append-nil g.heard

  all_heard_now : logs_now ≡ g.heard_now
  all_heard_now = g.parted_now ∙ ap (λ (l : List SourceState). g.heard_now ++ l) no_rest ∙ append-nil g.heard_now

  to_ends : AllZip IsReadToEnd logs logs_now
  to_ends =
      let P : List SourceState → Type 0 = λ l. AllZip IsReadToEnd l logs_now in
      let Q : List SourceState → Type 0 = λ l. AllZip IsReadToEnd g.heard l in
      subst P (sym all_heard) (subst Q (sym all_heard_now) g.to_end)

  text_of_all : (bytes : List (List ℕ)) → HaveLeft logs bytes → g.given ≡ bench_text w bench bytes
  text_of_all bytes h = let P : List SourceState → Type 0 = λ l. HaveLeft l bytes in g.text bytes (subst P all_heard h)

-- the last text was written
pub printed : Joined → Written
    → {w : WantList} {bench : Bench} {place : ℕ} {logs logs_now : List SourceState} {before mid now : Output} {u : Unit {0}}
    → GoesOn w bench place logs logs_now before mid → length logs ≤ place
    → Buffers mid [] now → before.pending ≡ [] → now.pending ≡ [] → PrintsBuses w bench logs logs_now (sink_of before) (sink_of now) (Ok u)
printed joined written {w} {bench} {place} {logs} {logs_now} {before} {mid} {now} g all b empty flushed =
    let given = g.given ++ [] in
    let wrote = written before now given (joined before mid now g.given [] g.buffers b) empty flushed in
    record {
      read = all_read logs logs_now (to_ends g all);
      later = omega (arith, g.buffers.later, b.later);
      ends = record {
        to_end = to_ends g all;
        text = λ bytes h. wrote ∙ ap (append_known before.written) (append-nil g.given ∙ text_of_all g all bytes h);
      };
    }

-- it was not
pub not_flushed : Joined → {w : WantList} {bench : Bench} {place : ℕ} {logs logs_now : List SourceState} {before mid now : Output}
    → GoesOn w bench place logs logs_now before mid → length logs ≤ place
    → Buffers mid [] now → before.pending ≡ [] → Rose mid.write_faults now.write_faults
    → PrintsBuses w bench logs logs_now (sink_of before) (sink_of now) (Err buses.WriteFault)
not_flushed joined {w} {bench} {place} {logs} {logs_now} {before} {mid} {now} g all b empty rose =
    let j = joined before mid now g.given [] g.buffers b in
    record {
      read = all_read logs logs_now (to_ends g all);
      later = omega (arith, g.buffers.later, b.later);
      ends = (
        record {
          reads = inl (to_ends g all);
          sent = j.sent;
          written = j.written;
          prefix = λ bytes h. (now.pending, sent_all j empty ∙ append-nil g.given ∙ text_of_all g all bytes h);
        },
        omega (arith, g.buffers.later, rose),
      );
    }
