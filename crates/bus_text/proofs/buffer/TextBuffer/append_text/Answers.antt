use Rattle.std.proofs.Common.{◌≡◌, ◌∙◌}
use Rattle.subscriber_text.specs.declared.fault.PrintRefused.TheVariants as refusal
use Rattle.bus_text.proofs.BufferLaws.{same_error, prints_none}
use Rattle.bus_text.proofs.buffer.TextBuffer.append_text.Goals as goal

pub returns-in_err-extend_from_slice-clause-prints : goal.returns-in_err-extend_from_slice-clause-prints
returns-in_err-extend_from_slice-clause-prints g c =
    let pending : c.extend_from_slice.new.self.items ≡ c.args.self.now = c.in_err-extend_from_slice.ensures.items ∙ c.self.view_is in
    rw (same_error c.from_residual.result refusal.Memory c.from_residual.ensures, pending) (prints_none _ _)
