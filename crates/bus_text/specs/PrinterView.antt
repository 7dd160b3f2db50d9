-- What the printer of a line's own record makes of what it is given, and the text that it has then.
use Rattle.std.specs.Prelude.{◌≡◌, ℕ, ◌+◌, Bool, true, false, List, [], ◌++◌, length, Option, None}
use Rattle.bench_model.specs.declared.reading.SignalValue.{SignalValue}
use Rattle.bench_model.specs.declared.reading.Reading.{Reading}
use Rattle.bench_model.specs.declared.reading.Item.TheVariants as item
use Rattle.candump_log.specs.declared.log_line.LogLine.{LogLine}
use Rattle.decoded_list.specs.Asking.{IsSaidOf}
use Rattle.decoded_list.specs.declared.decoder.BusDecoder.{BusDecoder}
use Rattle.decoded_list.specs.Records.{Meaning, own_body, stamp_of}
use Rattle.decoded_list.specs.RecordsView.{one_or_none}
use Rattle.subscriber_text.specs.Wants.{WantList}
use Rattle.subscriber_text.specs.ItemText.{item_text, items_text}
use Rattle.subscriber_text.specs.MessageParts.{record_at, message_record, first_line, signals_wanted, covered_line}
use Rattle.subscriber_text.specs.declared.message_parts.RecordPlace.{RecordPlace}
use Rattle.bus_text.specs.BusText.{reading_items}
use Rattle.bus_text.specs.declared.printer.RecordPrinter.{RecordPrinter}

-- it appends the first line of the message's record where that is wanted, and keeps which signals are
pub record PrintsName (old : RecordPrinter) (name : List ℕ) (new : RecordPrinter) : Type 0 where
  pub wants : new.wants.now ≡ old.wants.now
  pub place : new.place ≡ old.place
  pub message : new.message.items ≡ name
  pub signals : new.signals ≡ signals_wanted old.wants.now old.place.bus name
  pub text : new.text.items ≡ old.text.items ++ first_line old.wants.now (message_record old.place name [])

-- it appends the line of a signal where that is among them
pub record PrintsValue (old : RecordPrinter) (value : SignalValue) (new : RecordPrinter) : Type 0 where
  pub wants : new.wants.now ≡ old.wants.now
  pub place : new.place ≡ old.place
  pub message : new.message.items ≡ old.message.items
  pub signals : new.signals ≡ old.signals
  pub text : new.text.items
      ≡ old.text.items ++ covered_line old.wants.now old.place.bus old.message.items old.signals value

-- where the next line's own record is, which is decoded as version 0
abbrev pub next_place : BusDecoder → LogLine → RecordPlace
next_place decoder line =
    record { bus = decoder.bus; number = decoder.next; version = 0; micros = stamp_of line }

-- the text is that of a line's own record where a message matches it; else it is empty, and the databases say nothing
abbrev pub IsOwnText : WantList → Meaning → RecordPlace → LogLine → Bool → List ℕ → Type 0
IsOwnText w meaning place line true text =
    text ≡ item_text w (item.Reading (record_at place (own_body meaning line)))
IsOwnText w meaning place line false text = (text ≡ []) × IsSaidOf meaning line None

-- a text and another record are what these records print, the first of them as the text
pub record AreRecords (w : WantList) (records : List Reading) (text : List ℕ) (other : Option Reading) : Type 0 where
  pub prints : text ++ items_text w (reading_items (one_or_none other)) ≡ items_text w (reading_items records)
  pub count : 1 + length (one_or_none other) ≡ length records
