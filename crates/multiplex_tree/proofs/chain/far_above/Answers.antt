use Rattle.std.proofs.Common.{ap, ◌∙◌, map, List, Option, ℕ, ◌*◌, arith}
use Rattle.multiplex_tree.specs.Chain.{next_up}
use Rattle.multiplex_tree.proofs.ChainLaws.{ancestors-one, ancestors-twice}
use Rattle.multiplex_tree.proofs.chain.far_above.Goals as goal

pub loop-steps-init : goal.loop-steps-init
loop-steps-init c = record {
  some = omega arith;
  far = rw c.in_ok-far.ensures.items (ancestors-one c.args.parents.now);
}

pub loop-steps-preserved : goal.loop-steps-preserved
loop-steps-preserved c = record {
  some = omega (arith, c.loop-steps.invariant.some);
  far = ancestors-twice c.args.parents.now c.loop-steps.far.items _ c.loop-steps.steps c.loop-steps.invariant.far
      (c.in_ok-far-2.ensures ∙ ap (λ (far : List (Option ℕ)). map (next_up far) far) c.as_slice.ensures.value);
}

pub returns : goal.returns
returns c = record {
  steps = c.loop-steps.steps * 2;
  many = omega arith;
  are_ancestors = ancestors-twice c.args.parents.now c.loop-steps.far.items _ c.loop-steps.steps c.loop-steps.invariant.far
      (c.in_ok-farthest.ensures ∙ ap (λ (far : List (Option ℕ)). map (next_up far) far) c.as_slice-2.ensures.value);
}
