use Rattle.bus_text.specs.PrinterView.{next_place}
use Rattle.bus_text.proofs.PrinterLaws.{records_matched, said_unmatched, records_unmatched}
use Rattle.bus_text.proofs.records.take_records.Goals as goal

pub returns-then-matched-clause-text : goal.returns-then-matched-clause-text
returns-then-matched-clause-text c meaning before own brought said =
    records_matched c.args.printer.now.wants.now meaning (next_place c.args.decoder.now c.args.line.now) c.args.line.now c.args.matched c.args.printer.now.text.items c.transport_record.result _
    c.if-matched.true own (c.transport_record.ensures.records meaning before brought said)

pub returns-clause-text : goal.returns-clause-text
returns-clause-text c meaning before own brought said =
    let none = said_unmatched c.args.printer.now.wants.now meaning (next_place c.args.decoder.now c.args.line.now) c.args.line.now c.args.matched c.args.printer.now.text.items c.if-matched.false own in
    records_unmatched c.args.printer.now.wants.now c.args.printer.now.text.items c.append.new.self.text.items c.in_ok-records.records.own c.in_ok-records.records.transported _
    none.0 c.in_ok-append.ensures.text (c.in_ok-records.ensures.records meaning before none.1 brought said)
