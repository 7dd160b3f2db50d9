use Rattle.std.proofs.Common.{arith, ◌∙◌, sym, ◌≡◌}
use Rattle.bench_model.proofs.PlaceLaws.{small-step, weight-step, within-step, within-not, none_left}
use Rattle.bench_model.proofs.raw.bits_from.Goals as goal

pub loop-preserved : goal.loop-preserved
loop-preserved c = record {
  place = omega arith;
  small = small-step _ _ _ c.loop.invariant.small c.in-Some.ensures.2;
  within = c.loop.invariant.within ∙ within-step _ _ _ _ _ _ c.loop-test.true c.next_place-place.ensures.place c.in-Some.ensures.0;
  sum = c.loop.invariant.sum ∙ weight-step _ _ _ _ _ _ _ _ c.loop-test.true c.next_place-place.ensures.place c.in-Some.ensures.1;
}

pub returns-in_default : goal.returns-in_default
returns-in_default c = c.loop.invariant.within ∙ within-not _ _ _ _ _ c.loop-test.true c.in_default.ensures

pub returns : goal.returns
returns c =
    let done = none_left c.args.bytes.now c.args.order c.loop.place c.args.size c.loop.counter c.loop.bits c.loop-test.false in
    let all : c.loop.counter ≡ c.args.size = omega arith in
    (c.loop.invariant.within ∙ done.0, sym (c.loop.invariant.sum ∙ done.1), rw all at c.loop.invariant.small)
