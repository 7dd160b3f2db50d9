use Rattle.std.proofs.Common.{Option, Ok, refl, sym, [], ap, subst, length, ◌∙◌}
use Rattle.candump_log.specs.declared.log_line.LogLine.{LogLine}
use Rattle.candump_log.specs.NextLine.{NextLine}
use Rattle.bus_text.specs.LineView.{HasDecoded}
use Rattle.bus_text.specs.Refusals.{of_lines, of_print}
use Rattle.bus_text.proofs.TextLaws.{no_records}
use Rattle.bus_text.proofs.BufferLaws.{same_error}
use Rattle.bus_text.proofs.BusLaws.{prints_under, decoded_under, goes_on_from, goes_on, stops_in_line, stops_between, stops_at_end, end_printed}
use Rattle.bus_text.proofs.printing.print_lines.Goals as goal

pub lines-init : goal.lines-init
lines-init g c =
    let new = c.new-decoder.ensures in
    let decoded : HasDecoded c.args.image.now c.args.bus c.new-decoder.result [] = record { taken = new.taken; place = new.bus.0; kind = new.bus.1; next = new.bus.2 ∙ sym (ap length (no_records c.args.image.now c.args.bus)) } in
    record { goes = goes_on_from c.lines_read.ensures.made c.the_text_goes_on.ensures.none _ _ _ _ _ _ c.requires.fresh c.requires.log decoded new.bus.2; wants = c.new-printer.ensures; bench = refl; other = refl }

pub returns-in_err-line-clause-prints : goal.returns-in_err-line-clause-prints
returns-in_err-line-clause-prints g c =
    rw (same_error c.from_residual.result (of_lines c.in_err-line.field-0.0) c.from_residual.ensures)
    (stops_between c.lines_read.ensures.fault c.lines_read.ensures.moment c.the_text_goes_on.ensures.prefix c.in_err-line.field-0.0 c.lines.invariant.goes c.in_err-line.ensures.answers)

pub lines-preserved : goal.lines-preserved
lines-preserved g c =
    let N : Option LogLine → Type 0 = λ o. NextLine c.lines.lines (Ok o) c.next.new.self in
    let e = c.in_ok-print_line.ensures in
    record {
      goes = goes_on c.lines_read.ensures.line c.the_text_goes_on.ensures.line c.lines.invariant.goes (subst N c.in-Some.is c.in_ok-line.ensures.answers) (prints_under c.lines.printer.wants.now c.args.wants.now c.in-Some.line c.lines.image c.args.image.now c.lines.invariant.wants c.lines.invariant.bench (e.prints c.args.bus)) (decoded_under c.lines.image c.args.image.now c.lines.invariant.bench (e.decoded c.args.bus)) e.next;
      wants = e.wants ∙ c.lines.invariant.wants;
      bench = e.bench ∙ c.lines.invariant.bench;
      other = e.other ∙ c.lines.invariant.other;
    }

pub returns-in_err-print_line-clause-prints : goal.returns-in_err-print_line-clause-prints
returns-in_err-print_line-clause-prints g c =
    let N : Option LogLine → Type 0 = λ o. NextLine c.lines.lines (Ok o) c.next.new.self in
    rw (same_error c.from_residual-in_err-print_line.result (of_print c.in_err-print_line.field-0.0) c.from_residual-in_err-print_line.ensures)
    (stops_in_line c.lines_read.ensures.line c.lines_read.ensures.moment c.the_text_goes_on.ensures.prefix c.the_text_goes_on.ensures.line c.in_err-print_line.field-0.0 c.lines.invariant.goes (subst N c.in-Some.is c.in_ok-line.ensures.answers) (prints_under c.lines.printer.wants.now c.args.wants.now c.in-Some.line c.lines.image c.args.image.now c.lines.invariant.wants c.lines.invariant.bench (c.in_err-print_line.ensures.prints c.args.bus)))

pub returns-in_err-print_end-clause-prints : goal.returns-in_err-print_end-clause-prints
returns-in_err-print_end-clause-prints g c =
    let N : Option LogLine → Type 0 = λ o. NextLine c.lines.lines (Ok o) c.next.new.self in
    rw (same_error c.from_residual-in_err-print_end.result (of_print c.in_err-print_end.field-0.0) c.from_residual-in_err-print_end.ensures)
    (stops_at_end c.lines_read.ensures.end c.the_text_goes_on.ensures.end c.in_err-print_end.field-0.0 c.lines.invariant.goes (subst N c.in_default.is c.in_ok-line.ensures.answers) c.in_err-print_end.ensures.prints)

pub returns-clause-prints : goal.returns-clause-prints
returns-clause-prints g c =
    let N : Option LogLine → Type 0 = λ o. NextLine c.lines.lines (Ok o) c.next.new.self in
    end_printed c.lines_read.ensures.end c.the_text_goes_on.ensures.end c.lines.invariant.goes (subst N c.in_default.is c.in_ok-line.ensures.answers) c.in_ok-print_end.ensures.prints
