use Rattle.subscriber_text.specs.declared.fault.PrintRefused.TheVariants as refusal
use Rattle.bus_text.proofs.BufferLaws.{same_error, on_ok, prints_none, prints_stop, prints_then, prints_as}
use Rattle.bus_text.proofs.LineLaws.{line_as, decoded_one}
use Rattle.bus_text.proofs.printing.print_line.Goals as goal

pub returns-in_err-other-clause-prints : goal.returns-in_err-other-clause-prints
returns-in_err-other-clause-prints g c bus lines d =
    rw (same_error c.from_residual.result refusal.Memory c.from_residual.ensures) (prints_none _ _)

pub returns-in_err-print_start-clause-prints : goal.returns-in_err-print_start-clause-prints
returns-in_err-print_start-clause-prints g c bus lines d =
    let text = line_as c.print_own.new.printer.wants.now c.args.printer.now.wants.now c.args.image.now bus lines c.args.line.now c.args.decoder.now c.args.place c.next_number-number.result
    c.print_own.new.printer.text.items c.in_ok-other.other d c.in_ok-other.ensures.wants c.requires.place c.next_number-number.ensures (c.in_ok-other.ensures.text lines d.taken) in
    rw (same_error c.from_residual-in_err-print_start.result c.in_err-print_start.field-0.0 c.from_residual-in_err-print_start.ensures)
    (prints_as text (prints_stop _ c.in_err-print_start.ensures.prints))

pub returns-clause-prints : goal.returns-clause-prints
returns-clause-prints g c bus lines d =
    let text = line_as c.print_own.new.printer.wants.now c.args.printer.now.wants.now c.args.image.now bus lines c.args.line.now c.args.decoder.now c.args.place c.next_number-number.result
    c.print_own.new.printer.text.items c.in_ok-other.other d c.in_ok-other.ensures.wants c.requires.place c.next_number-number.ensures (c.in_ok-other.ensures.text lines d.taken) in
    prints_as text (prints_then c.in_ok-print_start.ensures.prints c.print_records.ensures.prints)

pub returns-clause-decoded : goal.returns-clause-decoded
returns-clause-decoded g c bus lines d =
    on_ok c.print_records.result _
    (decoded_one c.the_text_goes_on.ensures.records c.args.printer.now.wants.now c.args.image.now bus lines c.args.line.now c.args.decoder.now c.print_own.new.decoder
    c.print_own.new.printer.text.items c.in_ok-other.other d (c.in_ok-other.ensures.taken lines d.taken) c.print_own.ensures.same c.in_ok-other.ensures.next (c.in_ok-other.ensures.text lines d.taken))
