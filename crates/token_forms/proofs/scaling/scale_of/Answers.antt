use Rattle.std.proofs.Common.{refl}
use Rattle.token_forms.specs.Numbers.{signed_text}
use Rattle.token_forms.proofs.ScaleLaws.{same_error, factor_refuses, offset_refuses, together_refuse}
use Rattle.token_forms.proofs.scaling.scale_of.Goals as goal

pub returns-in_err-factor-clause-wide : goal.returns-in_err-factor-clause-wide
returns-in_err-factor-clause-wide c =
    let fault = c.in_err-factor.field-0.0 in
    rw (same_error c.from_residual.result fault c.from_residual.ensures)
    (factor_refuses (signed_text c.args.bytes.now c.args.factor) (signed_text c.args.bytes.now c.args.offset) fault c.in_err-factor.ensures.wide)

pub returns-in_err-offset-clause-wide : goal.returns-in_err-offset-clause-wide
returns-in_err-offset-clause-wide c =
    let fault = c.in_err-offset.field-0.0 in
    rw (same_error c.from_residual-in_err-offset.result fault c.from_residual-in_err-offset.ensures)
    (offset_refuses (signed_text c.args.bytes.now c.args.factor) (signed_text c.args.bytes.now c.args.offset) fault c.in_err-offset.ensures.wide)

pub returns-in-Err-clause-wide : goal.returns-in-Err-clause-wide
returns-in-Err-clause-wide c =
    together_refuse c.decimal_is_unique.ensures (signed_text c.args.bytes.now c.args.factor) (signed_text c.args.bytes.now c.args.offset)
    _ _ _ _ c.in_ok-factor.ensures.value c.in_ok-offset.ensures.value (c.in-Err.ensures.wide.0 refl)
