-- From the lines that were read and the text that was given for them to how a print of a bus ends.
use Rattle.std.proofs.Common.{◌≡◌, ◌⊎◌, inl, inr, ℕ, ◌+◌, ◌*◌, ◌≤◌, false, List, [], ◌∷◌, ◌++◌, length, map, Option, None, Some, IfSome, Result, Ok, Err, OnOk, refl, sym, ap, subst, ◌∙◌, append_assoc, lit≤, arith}
use Rattle.std.proofs.lemmas.List.{append-nil, map-append}
use Rattle.std.specs.Io.KnownBytes.{prepend_known}
use Rattle.byte_forms.specs.Lines.{all_lines}
use Rattle.port_io.specs.Causes.{Rose}
use Rattle.port_io.specs.OtherSide.{SourceState}
use Rattle.bench_model.specs.declared.database.Bench.{Bench}
use Rattle.candump_log.specs.declared.log_line.LogLine.{LogLine}
use Rattle.candump_log.specs.declared.place.LinesRefused.{LinesRefused}
use Rattle.candump_log.specs.declared.place.LinesRefused.TheVariants as lines
use Rattle.candump_log.specs.LineOf.{line_of}
use Rattle.candump_log.specs.LogLines.{whole_lines}
use Rattle.candump_log.specs.LinesState.{LinesState, log_of, fresh}
use Rattle.candump_log.specs.NextLine.{NextLine, HasEnded, HasStopped, Why}
use Rattle.candump_log.specs.Reads.{Reads}
use Rattle.decoded_list.specs.declared.decoder.BusDecoder.{BusDecoder}
use Rattle.subscriber_text.specs.Wants.{WantList}
use Rattle.subscriber_text.specs.ItemText.{items_text}
use Rattle.bench_model.specs.declared.reading.Item.TheVariants as item
use Rattle.subscriber_text.specs.declared.fault.PrintRefused.{PrintRefused}
use Rattle.subscriber_text.specs.declared.fault.PrintRefused.TheVariants as print
use Rattle.bus_text.specs.declared.bus.BusPlace.{BusPlace}
use Rattle.bus_text.specs.declared.refused.BusRefused.{BusRefused}
use Rattle.bus_text.specs.declared.refused.BusRefused.TheVariants as refused
use Rattle.bus_text.specs.Refusals.{of_lines, of_print}
use Rattle.bus_text.specs.BusText.{text_so_far, bus_text}
use Rattle.bus_text.specs.LineView.{line_text, end_text, HasDecoded}
use Rattle.bus_text.specs.Buffering.{Output, Buffers, Caused, PrintsText}
use Rattle.bus_text.specs.Printing.{PrintsLines, StopsThere, Ends, PrintsBus}
use Rattle.bus_text.proofs.BufferLaws.{append_known-nil, buffers_nothing, buffers_then, buffers_as, given_all}

-- the text of the lines read so far was given
pub record GoesOn (w : WantList) (bench : Bench) (bus : BusPlace) (l l' : LinesState) (before now : Output) (decoder : BusDecoder) : Type 0 where
  pub read : List (List ℕ)
  pub reads : Reads l l' read
  pub buffers : Buffers before (text_so_far w bench bus (map line_of read)) now
  pub decoded : HasDecoded bench bus decoder (map line_of read)
  pub numbers : decoder.next ≤ 2 * l'.given
  pub unfailed : l'.failed ≡ false

-- what the law of the text says
abbrev pub NoText : Type 0
NoText = (w : WantList) (bench : Bench) (bus : BusPlace) → text_so_far w bench bus [] ≡ []

abbrev pub LineMore : Type 0
LineMore = (w : WantList) (bench : Bench) (bus : BusPlace) (lines : List LogLine) (line : LogLine) → text_so_far w bench bus (lines ++ line ∷ []) ≡ text_so_far w bench bus lines ++ line_text w bench bus lines line

abbrev pub EndBehind : Type 0
EndBehind = (w : WantList) (bench : Bench) (bus : BusPlace) (lines : List LogLine) → bus_text w bench bus lines ≡ text_so_far w bench bus lines ++ end_text w bench bus lines

abbrev pub IsPrefix : Type 0
IsPrefix = (w : WantList) (bench : Bench) (bus : BusPlace) (lines more : List LogLine) → (rest : List ℕ) × (bus_text w bench bus (lines ++ more) ≡ text_so_far w bench bus lines ++ rest)

-- what the law of the lines read says
abbrev pub MadeReads : Type 0
MadeReads = (made : LinesState) → made ≡ fresh made.source made.other → log_of made ≡ made.source.left → Reads made made []

abbrev pub LineReads : Type 0
LineReads = (made before now : LinesState) (read : List (List ℕ)) (line : LogLine) → Reads made before read → NextLine before (Ok (Some line)) now
    → (text : List ℕ) × (line ≡ line_of text) × Reads made now (read ++ text ∷ [])

abbrev pub EndReads : Type 0
EndReads = (made before now : LinesState) (read : List (List ℕ)) → Reads made before read → NextLine before (Ok None) now
    → Reads made now read × HasEnded now × IfSome made.source.left (λ bytes. read ≡ all_lines bytes)

abbrev pub FaultReads : Type 0
FaultReads = (made before now : LinesState) (read : List (List ℕ)) (why : LinesRefused) → Reads made before read → NextLine before (Err why) now
    → (r : Reads made now read) × HasStopped now × IfSome made.source.left (λ _. read ≡ whole_lines r.took)

abbrev pub SomeReads : Type 0
SomeReads = (made now : LinesState) (read : List (List ℕ)) → Reads made now read → (unread : List (List ℕ)) × IfSome made.source.left (λ bytes. read ++ unread ≡ all_lines bytes)

-- before the first line
pub goes_on_from : MadeReads → NoText → (w : WantList) (bench : Bench) (bus : BusPlace) (l : LinesState) (s : Output) (decoder : BusDecoder) → l ≡ fresh l.source l.other → log_of l ≡ l.source.left
    → HasDecoded bench bus decoder [] → decoder.next ≡ 0 → GoesOn w bench bus l l s s decoder
goes_on_from made none w bench bus l s decoder e log d n = record {
  read = [];
  reads = made l e log;
  buffers = buffers_as (sym (none w bench bus)) (buffers_nothing s);
  decoded = d;
  numbers = omega (arith, n);
  unfailed = ap (λ (s : LinesState). s.failed) e;
}

map_one : (read : List (List ℕ)) (text : List ℕ) (line : LogLine) → line ≡ line_of text → map line_of read ++ line ∷ [] ≡ map line_of (read ++ text ∷ [])
map_one read text line e = ap (λ l. map line_of read ++ l ∷ []) e ∙ sym (map-append line_of read (text ∷ []))

-- what is said of a line under a printer's wants and an image's bench is said under those wants and that bench
pub prints_under : (v w : WantList) {bus : BusPlace} {decoder : BusDecoder} (line : LogLine) {mid now : Output} {result : Result (Unit {0}) PrintRefused} (image bench : Bench) → v ≡ w → image ≡ bench
    → ((lines : List LogLine) → HasDecoded image bus decoder lines → PrintsText (line_text v image bus lines line) mid result now)
    → (lines : List LogLine) → HasDecoded bench bus decoder lines → PrintsText (line_text w bench bus lines line) mid result now
prints_under v w {bus} {decoder} line {mid} {now} {result} image bench wants e f =
    let P : WantList → Bench → Type 0 = λ x b. (lines : List LogLine) → HasDecoded b bus decoder lines → PrintsText (line_text x b bus lines line) mid result now in
    subst (λ (b : Bench). P w b) e (subst (λ (x : WantList). P x image) wants f)

pub decoded_under : {bus : BusPlace} {decoder decoder' : BusDecoder} {line : LogLine} (image bench : Bench) → image ≡ bench
    → ((lines : List LogLine) → HasDecoded image bus decoder lines → HasDecoded image bus decoder' (lines ++ line ∷ []))
    → (lines : List LogLine) → HasDecoded bench bus decoder lines → HasDecoded bench bus decoder' (lines ++ line ∷ [])
decoded_under {bus} {decoder} {decoder'} {line} image bench e f =
    subst (λ (b : Bench). (lines : List LogLine) → HasDecoded b bus decoder lines → HasDecoded b bus decoder' (lines ++ line ∷ [])) e f

-- one line more was read and printed
pub goes_on : LineReads → LineMore → {w : WantList} {bench : Bench} {bus : BusPlace} {l m l' : LinesState} {before mid now : Output} {decoder decoder' : BusDecoder} {line : LogLine} {u : Unit {0}} →
    GoesOn w bench bus l m before mid decoder → NextLine m (Ok (Some line)) l'
    → ((lines : List LogLine) → HasDecoded bench bus decoder lines → PrintsText (line_text w bench bus lines line) mid (Ok u) now)
    → ((lines : List LogLine) → HasDecoded bench bus decoder lines → HasDecoded bench bus decoder' (lines ++ line ∷ []))
    → decoder'.next ≤ decoder.next + 2 → GoesOn w bench bus l l' before now decoder'
goes_on reads_line more {w} {bench} {bus} {l} {m} {l'} {before} {mid} {now} {decoder} {decoder'} {line} g n prints decodes next =
    let r = reads_line l m l' g.read line g.reads n in
    let lines = map line_of g.read in
    let same = map_one g.read r.0 line r.1 in
    let D : List LogLine → Type 0 = λ ls. HasDecoded bench bus decoder' ls in
    record {
      read = g.read ++ r.0 ∷ [];
      reads = r.2;
      buffers = buffers_as (sym (more w bench bus lines line) ∙ ap (text_so_far w bench bus) same) (buffers_then g.buffers (given_all (prints lines g.decoded)));
      decoded = subst D same (decodes lines g.decoded);
      numbers = omega (arith, g.numbers, next, n.answer.given);
      unfailed = n.failed;
    }

-- what was given is a prefix of the text of the lines read, and so of that of all lines
pub prints_prefix : SomeReads → IsPrefix → {w : WantList} {bench : Bench} {bus : BusPlace} {l l' : LinesState} {before now : Output} {read : List (List ℕ)} (given rest : List ℕ) → Reads l l' read
    → given ++ rest ≡ text_so_far w bench bus (map line_of read) → Buffers before given now → PrintsLines w bench bus l.source l'.source before now
prints_prefix unread prefix {w} {bench} {bus} {l} {l'} {before} {now} {read} given rest r parted b =
    let u = unread l l' read r in
    let more = prefix w bench bus (map line_of read) (map line_of u.0) in
    record {
      took = r.took;
      takes = r.takes;
      lines = read ++ u.0;
      known = u.1;
      read = read;
      unread = u.0;
      first = refl;
      given = given;
      ahead = rest ++ more.0;
      prefix = sym (append_assoc given rest more.0) ∙ ap (λ (t : List ℕ). t ++ more.0) parted ∙ sym more.1 ∙ ap (bus_text w bench bus) (sym (map-append line_of read u.0));
      buffers = b;
    }

-- the same at the end of the log, where all lines were read
pub prints_ended : {w : WantList} {bench : Bench} {bus : BusPlace} {l l' : LinesState} {before now : Output} {read : List (List ℕ)} (given ahead : List ℕ) → Reads l l' read → IfSome l.source.left (λ bytes. read ≡ all_lines bytes)
    → given ++ ahead ≡ bus_text w bench bus (map line_of read) → Buffers before given now → PrintsLines w bench bus l.source l'.source before now
prints_ended {read = read} given ahead r all parted b = record {
  took = r.took;
  takes = r.takes;
  lines = read;
  known = all;
  read = read;
  unread = [];
  first = sym (append-nil read);
  given = given;
  ahead = ahead;
  prefix = parted;
  buffers = b;
}

ends_print : (why : PrintRefused) {w : WantList} {bench : Bench} {bus : BusPlace} {log log' : SourceState} {before now : Output} (p : PrintsLines w bench bus log log' before now) → Caused why before now → Ends p (Err (of_print why))
ends_print print.WriteFault p c = c
ends_print print.Memory p c = c

caused_since : (why : PrintRefused) (before mid now : Output) → before.write_faults ≤ mid.write_faults → Caused why mid now → Caused why before now
caused_since print.WriteFault before mid now l c = omega (arith, l, c)
caused_since print.Memory before mid now l c = tt

-- a line was not printed whole
pub stops_in_line : LineReads → SomeReads → IsPrefix → LineMore → {w : WantList} {bench : Bench} {bus : BusPlace} {l m l' : LinesState} {before mid now : Output} {decoder : BusDecoder} {line : LogLine} (why : PrintRefused) →
    GoesOn w bench bus l m before mid decoder → NextLine m (Ok (Some line)) l'
    → ((lines : List LogLine) → HasDecoded bench bus decoder lines → PrintsText (line_text w bench bus lines line) mid (Err why) now)
    → PrintsBus w bench bus l.source l'.source before now (Err (of_print why))
stops_in_line reads_line unread prefix more {w} {bench} {bus} {l} {m} {l'} {before} {mid} {now} {decoder} {line} why g n prints =
    let r = reads_line l m l' g.read line g.reads n in
    let lines = map line_of g.read in
    let so_far = text_so_far w bench bus lines in
    let p = prints lines g.decoded in
    let parted : (so_far ++ p.given) ++ p.rest ≡ text_so_far w bench bus (map line_of (g.read ++ r.0 ∷ [])) =
    append_assoc so_far p.given p.rest ∙ ap (λ (t : List ℕ). so_far ++ t) p.parted ∙ sym (more w bench bus lines line) ∙ ap (text_so_far w bench bus) (map_one g.read r.0 line r.1) in
    let all = prints_prefix unread prefix (so_far ++ p.given) p.rest r.2 parted (buffers_then g.buffers p.buffers) in
    record { prints = all; ends = ends_print why all (caused_since why before mid now g.buffers.later p.cause) }

-- the end behind the lines was printed
pub end_printed : EndReads → EndBehind → {w : WantList} {bench : Bench} {bus : BusPlace} {l m l' : LinesState} {before mid now : Output} {decoder : BusDecoder} {u : Unit {0}} → GoesOn w bench bus l m before mid decoder
    → NextLine m (Ok None) l' → PrintsText (items_text w (item.End bus.place decoder.next ∷ [])) mid (Ok u) now → PrintsBus w bench bus l.source l'.source before now (Ok tt)
unfolding end_text prints_ended
end_printed ends end {w} {bench} {bus} {l} {m} {l'} {before} {mid} {now} {decoder} g n p =
    let r = ends l m l' g.read g.reads n in
    let lines = map line_of g.read in
    let so_far = text_so_far w bench bus lines in
    let text = items_text w (item.End bus.place decoder.next ∷ []) in
    let whole : (so_far ++ text) ++ [] ≡ bus_text w bench bus lines =
    append-nil (so_far ++ text) ∙ ap (λ (n : ℕ). so_far ++ items_text w (item.End bus.place n ∷ [])) g.decoded.next ∙ sym (end w bench bus lines) in
    record { prints = prints_ended (so_far ++ text) [] r.0 r.2 whole (buffers_then g.buffers (given_all p)); ends = (refl, r.1.ended, r.1.left) }

pub stops_at_end : EndReads → EndBehind → {w : WantList} {bench : Bench} {bus : BusPlace} {l m l' : LinesState} {before mid now : Output} {decoder : BusDecoder} (why : PrintRefused) → GoesOn w bench bus l m before mid decoder
    → NextLine m (Ok None) l' → PrintsText (items_text w (item.End bus.place decoder.next ∷ [])) mid (Err why) now → PrintsBus w bench bus l.source l'.source before now (Err (of_print why))
unfolding end_text
stops_at_end ends end {w} {bench} {bus} {l} {m} {l'} {before} {mid} {now} {decoder} why g n p =
    let r = ends l m l' g.read g.reads n in
    let lines = map line_of g.read in
    let so_far = text_so_far w bench bus lines in
    let text = items_text w (item.End bus.place decoder.next ∷ []) in
    let parted : (so_far ++ p.given) ++ p.rest ≡ bus_text w bench bus lines =
    append_assoc so_far p.given p.rest ∙ ap (λ (t : List ℕ). so_far ++ t) p.parted ∙ ap (λ (n : ℕ). so_far ++ items_text w (item.End bus.place n ∷ [])) g.decoded.next ∙ sym (end w bench bus lines) in
    let all = prints_ended (so_far ++ p.given) p.rest r.0 r.2 parted (buffers_then g.buffers p.buffers) in
    record { prints = all; ends = ends_print why all (caused_since why before mid now g.buffers.later p.cause) }

-- the cause of a log that failed, or is too long
ends_lines : (why : LinesRefused) {w : WantList} {bench : Bench} {bus : BusPlace} (l m l' : LinesState) {before now : Output} (p : PrintsLines w bench bus l.source l'.source before now) → StopsThere p
    → Why why m l' → l.source.read_faults ≤ m.source.read_faults → l'.taken ≡ length p.took → Ends p (Err (of_lines why))
ends_lines lines.ReadFault l m l' p there c later count = (there, omega (arith, later, c.0), omega (arith, c.1, count))
ends_lines lines.TooLong l m l' p there c later count = (there, omega (arith, c, count))

pub stops_between : FaultReads → SomeReads → IsPrefix → {w : WantList} {bench : Bench} {bus : BusPlace} {l m l' : LinesState} {before now : Output} {decoder : BusDecoder} (why : LinesRefused) → GoesOn w bench bus l m before now decoder
    → NextLine m (Err why) l' → PrintsBus w bench bus l.source l'.source before now (Err (of_lines why))
unfolding prints_prefix
stops_between stops unread prefix {w} {bench} {bus} {l} {m} {l'} {before} {now} {decoder} why g n =
    let r = stops l m l' g.read why g.reads n in
    let all = prints_prefix unread prefix (text_so_far w bench bus (map line_of g.read)) [] r.0 (append-nil _) g.buffers in
    let there : StopsThere all = record { goes_on = r.1.ended; whole = r.2; text = refl } in
    record { prints = all; ends = ends_lines why l m l' all there n.answer.2 g.reads.takes.later r.0.count }

-- ---- what is pending is written before an answer

-- nothing more of the text was given
given_nothing : {before mid now : Output} {given : List ℕ} → Buffers before given mid → Buffers mid [] now → Buffers before given now
given_nothing {given = given} b f = buffers_as (append-nil given) (buffers_then b f)

then_flushed : {w : WantList} {bench : Bench} {bus : BusPlace} {log log' : SourceState} {before mid now : Output} → PrintsLines w bench bus log log' before mid → Buffers mid [] now
    → PrintsLines w bench bus log log' before now
then_flushed p b = record {
  took = p.took;
  takes = p.takes;
  lines = p.lines;
  known = p.known;
  read = p.read;
  unread = p.unread;
  first = p.first;
  given = p.given;
  ahead = p.ahead;
  prefix = p.prefix;
  buffers = given_nothing p.buffers b;
}

there_flushed : {w : WantList} {bench : Bench} {bus : BusPlace} {log log' : SourceState} {before mid now : Output} (p : PrintsLines w bench bus log log' before mid) (b : Buffers mid [] now) → StopsThere p → StopsThere (then_flushed p b)
unfolding then_flushed
there_flushed p b s = record { goes_on = s.goes_on; whole = s.whole; text = s.text }

ends_flushed : {w : WantList} {bench : Bench} {bus : BusPlace} {log log' : SourceState} {before mid now : Output} (p : PrintsLines w bench bus log log' before mid) (b : Buffers mid [] now)
    (r : Result (Unit {0}) BusRefused) → Ends p r → Ends (then_flushed p b) r
unfolding then_flushed
ends_flushed p b (Ok u) e = e
ends_flushed p b (Err refused.ReadFault) e = (there_flushed p b e.0, e.1, e.2)
ends_flushed p b (Err refused.TooLong) e = (there_flushed p b e.0, e.1)
ends_flushed p b (Err refused.WriteFault) e = omega (arith, e, b.later)
ends_flushed p b (Err refused.Memory) e = tt

pub settled : {w : WantList} {bench : Bench} {bus : BusPlace} {log log' : SourceState} {before mid now : Output} {end result : Result (Unit {0}) BusRefused} → PrintsBus w bench bus log log' before mid end
    → Buffers mid [] now → (result ≡ end) ⊎ ((result ≡ Err refused.WriteFault) × Rose mid.write_faults now.write_faults) → PrintsBus w bench bus log log' before now result
settled {w} {bench} {bus} {log} {log'} {before} {mid} {now} {end} {result} p b (inl e) =
    let P : Result (Unit {0}) BusRefused → Type 0 = λ r. PrintsBus w bench bus log log' before now r in
    subst P (sym e) (record { prints = then_flushed p.prints b; ends = ends_flushed p.prints b end p.ends })
settled {w} {bench} {bus} {log} {log'} {before} {mid} {now} {end} {result} p b (inr e) =
    let P : Result (Unit {0}) BusRefused → Type 0 = λ r. PrintsBus w bench bus log log' before now r in
    subst P (sym e.0) (record { prints = then_flushed p.prints b; ends = omega (arith, p.prints.buffers.later, e.1) })

-- there was no memory to read the log
no_lines : (left : Option (List ℕ)) → (lines : List (List ℕ)) × IfSome left (λ bytes. lines ≡ all_lines bytes)
no_lines None = ([], tt)
no_lines (Some bytes) = (all_lines bytes, refl)

nothing_left : (o : Option (List ℕ)) → o ≡ prepend_known [] o
nothing_left None = refl
nothing_left (Some bytes) = refl

pub nothing_read : (w : WantList) (bench : Bench) (bus : BusPlace) (log : SourceState) (s : Output) → PrintsBus w bench bus log log s s (Err refused.Memory)
nothing_read w bench bus log s =
    let ls = no_lines log.left in
    record {
      prints = record {
        took = [];
        takes = record { left = nothing_left log.left; taken = append_known-nil log.taken; limit = lit≤ tt; later = omega arith };
        lines = ls.0;
        known = ls.1;
        read = [];
        unread = ls.0;
        first = refl;
        given = [];
        ahead = bus_text w bench bus (map line_of ls.0);
        prefix = refl;
        buffers = buffers_nothing s;
      };
      ends = tt;
    }

-- on Ok the text of all lines of a log that shows its bytes was given
whole_text : (w : WantList) (bench : Bench) (bus : BusPlace) (left : Option (List ℕ)) (lines : List (List ℕ)) {before now : Output} {given : List ℕ} → IfSome left (λ bytes. lines ≡ all_lines bytes)
    → given ≡ bus_text w bench bus (map line_of lines) → Buffers before given now → IfSome left (λ bytes. Buffers before (bus_text w bench bus (map line_of (all_lines bytes))) now)
whole_text w bench bus None lines known e b = tt
whole_text w bench bus (Some bytes) lines known e b = buffers_as (e ∙ ap (λ ls. bus_text w bench bus (map line_of ls)) known) b

pub whole_on_ok : {w : WantList} {bench : Bench} {bus : BusPlace} {log log' : SourceState} {before now : Output} (result : Result (Unit {0}) BusRefused) → PrintsBus w bench bus log log' before now result →
    OnOk result (IfSome log.left (λ bytes. Buffers before (bus_text w bench bus (map line_of (all_lines bytes))) now))
whole_on_ok {w = w} {bench = bench} {bus = bus} {log = log} (Ok u) p =
    let q = p.prints in
    whole_text w bench bus log.left q.lines q.known (sym (append-nil q.given) ∙ sym (ap (λ (t : List ℕ). q.given ++ t) p.ends.0) ∙ q.prefix) q.buffers
whole_on_ok (Err why) p = tt
