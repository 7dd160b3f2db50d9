use Rattle.std.proofs.Common.{List, ℕ, ◌++◌, ap}
use Rattle.subscriber_text.specs.ItemText.{items_text}
use Rattle.decoded_list.specs.RecordsView.{one_or_none}
use Rattle.bus_text.specs.BusText.{reading_items}
use Rattle.bus_text.proofs.BufferLaws.{same_error, given_all, buffers_then, prints_all, prints_then, prints_stop, prints_as}
use Rattle.bus_text.proofs.LineLaws.{both_texts}
use Rattle.bus_text.proofs.printing.print_records.Goals as goal

pub returns-in_err-append_text-clause-prints : goal.returns-in_err-append_text-clause-prints
returns-in_err-append_text-clause-prints g c =
    let other = items_text c.args.printer.now.wants.now (reading_items (one_or_none c.args.other)) in
    rw (same_error c.from_residual.result c.in_err-append_text.field-0.0 c.from_residual.ensures)
    (prints_as (ap (λ (t : List ℕ). t ++ other) c.deref.ensures.value) (prints_stop other c.in_err-append_text.ensures.prints))

pub returns-in_err-append-clause-prints : goal.returns-in_err-append-clause-prints
returns-in_err-append-clause-prints g c =
    rw (same_error c.from_residual-in_err-append.result c.in_err-append.field-0.0 c.from_residual-in_err-append.ensures)
    (prints_as (both_texts c.args.printer.now.wants.now c.deref.result.now c.args.printer.now.text.items c.in-Some.reading c.args.other c.deref.ensures.value c.in-Some.is)
    (prints_then c.in_ok-append_text.ensures.prints c.in_err-append.ensures.prints))

pub returns-in_ok-append-clause-prints : goal.returns-in_ok-append-clause-prints
returns-in_ok-append-clause-prints g c =
    prints_as (both_texts c.args.printer.now.wants.now c.deref.result.now c.args.printer.now.text.items c.in-Some.reading c.args.other c.deref.ensures.value c.in-Some.is)
    (prints_all (buffers_then (given_all c.in_ok-append_text.ensures.prints) (given_all c.in_ok-append.ensures.prints)))
