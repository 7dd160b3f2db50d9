use Rattle.std.proofs.Common.{◌∙◌, ℕ, sym, ap, subst}
use Rattle.bench_model.specs.declared.database.Bench.{Bench}
use Rattle.bench_model.specs.Meaning.{bench_meaning}
use Rattle.decoded_list.specs.declared.decoder.BusDecoder.{BusDecoder}
use Rattle.decoded_list.specs.Asking.{IsSaidOfMessage}
use Rattle.decoded_list.specs.Records.{brought_on}
use Rattle.bus_text.proofs.PrinterLaws.{place_is, own_text_as, records_as}
use Rattle.bus_text.proofs.records.print_own.Goals as goal

pub returns-clause-text : goal.returns-clause-text
returns-clause-text c before taken =
    let line = c.args.line.now in
    let same = c.hear.ensures.same in
    let here = c.requires.place in
    let meaning = bench_meaning c.args.image.now c.args.decoder.now.bus in
    let wants = c.in_ok-matched.ensures.wants in
    let place = place_is c.args.bus c.next_number.result c.stamp_of.result c.args.decoder.now c.hear.new.self line c.begin.new.self.place
    c.begin.ensures.place here c.next_number.ensures c.stamp_of.ensures same in
    let own = own_text_as c.begin.new.self.wants.now c.print_matched.new.printer.wants.now c.args.image.now c.args.bus c.args.decoder.now.bus c.begin.new.self.place _ line
    c.in_ok-matched.matched c.print_matched.new.printer.text.items (sym wants) here place c.in_ok-matched.ensures.text in
    let brought = c.in_ok-brought.ensures.brought before taken ∙ ap (λ (d : BusDecoder). brought_on d.kind before line) (sym same) in
    let whole = subst (λ (b : ℕ). IsSaidOfMessage (bench_meaning c.args.image.now b) c.in_ok-brought.brought c.in_ok-whole.whole) here
    (subst (λ (i : Bench). IsSaidOfMessage (bench_meaning i c.args.bus) c.in_ok-brought.brought c.in_ok-whole.whole) c.print_matched.ensures.bench c.in_ok-whole.ensures.said) in
    records_as c.print_matched.new.printer.wants.now c.args.printer.now.wants.now meaning c.args.decoder.now c.hear.new.self before line c.take_records.new.printer.text.items c.take_records.result
    (wants ∙ c.begin.ensures.wants) same (c.take_records.ensures.text meaning before own brought whole)
