use Rattle.std.proofs.Common.{◌+◌, ◌*◌, take, ap, ◌∙◌, sym}
use Rattle.exact_scale.specs.Digits.{number}
use Rattle.exact_scale.specs.Parts.{capped}
use Rattle.exact_scale.proofs.PartsLaws.{capped_more}
use Rattle.exact_scale.proofs.SignificandLaws.{number_more}
use Rattle.exact_scale.proofs.parts.cap_number.Goals as goal

pub loop-byte-preserved : goal.loop-byte-preserved
loop-byte-preserved c =
    let i = c.loop-byte.byte-index in
    let more = number_more c.args.digits.now i c.loop-byte-test.true in
    capped_more (number (take i c.args.digits.now)) c.from.result c.loop-byte.size c.min-size.result c.loop-byte.invariant c.min-size.ensures
    ∙ ap (λ d. capped (number (take i c.args.digits.now) * 10 + d)) c.from.ensures ∙ ap capped (sym more)
