use Rattle.std.proofs.Common.{◌≡◌, ◌-◌, ◌*◌, ◌^◌, ◌/◌, suc, ap, ◌∙◌, arith}
use Rattle.exact_scale.proofs.PowerLaws.{cut_zero}
use Rattle.exact_scale.proofs.printing.small_without_last_zeros.Goals as goal

pub loop-places-preserved : goal.loop-places-preserved
loop-places-preserved c =
    let cut = c.args.places - c.loop-places.places in
    let one_more : suc cut ≡ c.args.places - (c.loop-places.places - 1) = omega arith in
    record {
      shorter = omega arith;
      same = c.loop-places.invariant.same ∙ cut_zero c.loop-places.size cut c.if-size-eq0.true
          ∙ ap (λ e. c.loop-places.size / 10 * 10 ^ e) one_more;
    }
