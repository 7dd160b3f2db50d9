use Rattle.std.proofs.Common.{◌≢◌, get_or-set_other, refl, sym, subst, ◌∙◌, arith}
use Rattle.multiplex_tree.specs.Claims.{IsWhyOf}
use Rattle.multiplex_tree.proofs.ParentLaws.{rule_here, fault_of_unresolved, parents-more, length-more}
use Rattle.std.proofs.Math.ListN.{length-set}
use Rattle.multiplex_tree.proofs.parents.parents_of.Goals as goal

pub returns-in-Err-Why-clause-fault : goal.returns-in-Err-Why-clause-fault
returns-in-Err-Why-clause-fault c =
    let here = rule_here c.args.marks.now c.args.links.now c.loop-signal.claims.items c.loop-signal.signal _ _ c.replace-claim.result _
    c.loop-signal-test.true (omega arith) (c.replace-claim.ensures.value ∙ c.index_mut.ensures.value) (c.loop-signal.invariant.left _ (omega arith))
    (sym (subst (IsWhyOf _) c.in-Err-Why.field-0-is c.in-Err-Why.ensures.why)) in
    fault_of_unresolved _ _ _ _ (record {
      within = c.loop-signal-test.true;
      unresolved = rw c.in-Err-Why.field-0-is here;
      first = λ i h. rw (c.loop-signal.invariant.each i h) refl;
    })

pub loop-signal-preserved : goal.loop-signal-preserved
loop-signal-preserved c =
    let here = rule_here c.args.marks.now c.args.links.now c.loop-signal.claims.items c.loop-signal.signal _ _ c.replace-claim.result _
    c.loop-signal-test.true (omega arith) (c.replace-claim.ensures.value ∙ c.index_mut.ensures.value) (c.loop-signal.invariant.left _ (omega arith))
    (sym c.in-Ok-parent_of.ensures.parent) in
    record {
      claims = rw length-set c.loop-signal.invariant.claims;
      number = rw c.in-Ok-push.ensures.items (length-more _ _ _ c.loop-signal.invariant.number);
      left = λ i h. let other : i ≢ c.loop-signal.signal = omega arith in rw get_or-set_other (c.loop-signal.invariant.left i (omega arith));
      each = rw c.in-Ok-push.ensures.items (parents-more c.args.marks.now c.args.links.now _ _ _ c.loop-signal.invariant.number c.loop-signal.invariant.each here);
    }
