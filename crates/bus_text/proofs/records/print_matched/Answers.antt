use Rattle.std.proofs.Common.{sym, subst}
use Rattle.bench_model.specs.Meaning.{bench_meaning}
use Rattle.candump_log.specs.declared.log_line.LogLine.{LogLine}
use Rattle.bus_text.specs.PrinterView.{IsOwnText}
use Rattle.bus_text.proofs.PrinterLaws.{frame_prints, asks_nothing}
use Rattle.bus_text.proofs.records.print_matched.Goals as goal

pub returns-in_default-clause-text : goal.returns-in_default-clause-text
returns-in_default-clause-text c =
    (c.requires.begun, asks_nothing (bench_meaning c.args.image.now c.args.bus) c.args.line.now c.in_default.not-Frame)

pub returns-clause-text : goal.returns-clause-text
returns-clause-text c =
    let meaning = bench_meaning c.args.image.now c.args.bus in
    let P : LogLine → Type 0 = λ l. IsOwnText c.args.printer.now.wants.now meaning c.args.printer.now.place l c.in_ok-matched.matched c.walk.new.visitor.text.items in
    subst P (sym c.in-Frame.is)
    (frame_prints c.the_parts_of_a_record_are_its_text.ensures meaning c.in-Frame.micros c.in-Frame.key c.bytes.result.now c.in-Frame.payload c.args.printer.now c.walk.new.visitor c.in_ok-matched.matched
    c.requires.begun c.bytes.ensures.value c.in_ok-matched.ensures.given).1

pub returns-clause-wants : goal.returns-clause-wants
returns-clause-wants c =
    (frame_prints c.the_parts_of_a_record_are_its_text.ensures (bench_meaning c.args.image.now c.args.bus) c.in-Frame.micros c.in-Frame.key c.bytes.result.now c.in-Frame.payload c.args.printer.now
    c.walk.new.visitor c.in_ok-matched.matched c.requires.begun c.bytes.ensures.value c.in_ok-matched.ensures.given).0
