use Rattle.std.proofs.Common.{◌-◌, ◌+◌, ◌∙◌, sym, refl, arith}
use Rattle.multiplex_tree.specs.Chain.{most_parents, ancestor}
use Rattle.multiplex_tree.proofs.ActivityLaws.{top, selected, passed_over, way_up, active_at_end}
use Rattle.multiplex_tree.proofs.tree.is_selected.Goals as goal

pub loop-init : goal.loop-init
unfolding ancestor
loop-init c = record { way = refl; decides = refl }

pub loop-preserved : goal.loop-preserved
loop-preserved c = record {
  way = way_up c.args.parents.now c.loop.counter c.args.signal c.loop.place c.in-Some.parent.now c.loop.invariant.way (sym c.in-Some.ensures);
  decides = c.loop.invariant.decides ∙ selected c.args.parents.now c.args.raws.now (most_parents - (c.loop.counter + 1)) (most_parents - c.loop.counter) c.loop.place c.in-Some.parent.now
      (omega (arith, c.loop-test.true)) (sym c.in-Some.ensures) (sym c.if-not-is_selecting.ensures);
}

pub returns-in_default : goal.returns-in_default
returns-in_default c = sym (c.loop.invariant.decides ∙ top c.args.parents.now c.args.raws.now _ c.loop.place (sym c.in_default.ensures))

pub returns-then-not-is_selecting : goal.returns-then-not-is_selecting
returns-then-not-is_selecting c =
    sym (c.loop.invariant.decides ∙ passed_over c.args.parents.now c.args.raws.now (most_parents - (c.loop.counter + 1)) (most_parents - c.loop.counter) c.loop.place c.in-Some.parent.now
    (omega (arith, c.loop-test.true)) (sym c.in-Some.ensures) (sym c.if-not-is_selecting.ensures))

pub returns : goal.returns
returns c = sym (c.loop.invariant.decides ∙ active_at_end c.args.parents.now c.args.raws.now c.loop.counter _ c.args.signal c.loop.place (omega (arith, c.loop-test.false)) c.requires c.loop.invariant.way)
