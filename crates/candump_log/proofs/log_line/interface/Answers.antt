use Rattle.std.proofs.Common.{Some, None, sym, ◌∙◌}
use Rattle.candump_log.proofs.LineLaws.{interface-none, interface-within, interface_read}
use Rattle.candump_log.proofs.log_line.interface.Goals as goal

pub returns-in_err-span-clause-none : goal.returns-in_err-span-clause-none
returns-in_err-span-clause-none c =
    let text = c.args.bytes.now in
    interface-none text c.from_residual.result (λ span. c.one_line.ensures.interface text span, c.one_line.ensures.no_interface text)
    (c.from_residual.ensures ∙ interface_read text None c.in_err-span.ensures.value)

pub returns-clause-none : goal.returns-clause-none
returns-clause-none c =
    let text = c.args.bytes.now in
    interface-none text (Some c.in_ok-span.span) (λ span. c.one_line.ensures.interface text span, c.one_line.ensures.no_interface text)
    (interface_read text (Some (c.in_ok-span.span, c.in_ok-span.field-0-1)) c.in_ok-span.ensures.value)

pub returns-clause-place : goal.returns-clause-place
returns-clause-place c =
    let text = c.args.bytes.now in
    (c.one_line.ensures.interface text c.in_ok-span.span).0 (sym (interface_read text (Some (c.in_ok-span.span, c.in_ok-span.field-0-1)) c.in_ok-span.ensures.value))

pub returns-clause-within : goal.returns-clause-within
returns-clause-within c =
    let text = c.args.bytes.now in
    interface-within text c.in_ok-span.span
    ((c.one_line.ensures.interface text c.in_ok-span.span).0 (sym (interface_read text (Some (c.in_ok-span.span, c.in_ok-span.field-0-1)) c.in_ok-span.ensures.value)))
