use Rattle.std.proofs.Common.{◌∙◌, sym, ap, Some, None}
use Rattle.bench_model.proofs.ActiveLaws.{none_yet, next_value, none_left, pushed, passed_over}
use Rattle.bench_model.proofs.plain.values_of.Goals.{in-Some+in_ok-push, in_default}
use Rattle.bench_model.proofs.plain.values_of.Goals as goal

pub loop-place-init : goal.loop-place-init
loop-place-init c = none_yet _ _ _ _ c.items-signals.ensures c.new-values.ensures.items

pub loop-place-preserved : goal.loop-place-preserved
loop-place-preserved c =
    next_value c.args.bytes.now c.args.message.now c.items-signals.result.now c.as_slice.result.now _ _ c.loop-place.place c.index-signals-place.result c.in_ok-value.field-0
    c.loop-place-test.true c.index-signals-place.is (c.as_slice.ensures.value ∙ c.in_ok-raws.ensures) c.items-signals.ensures c.in_ok-value.ensures
    (elim c.match-branch-3.branch [
      | in-Some+in_ok-push w ↦ pushed _ _ _ _ w.in-Some.is (ap (λ v. v.items) w.values-is ∙ w.in_ok-push.ensures.items)
      | in_default w ↦ passed_over _ _ _ w.in_default.is (ap (λ v. v.items) w.values-is)
    ]) c.loop-place.invariant

pub returns : goal.returns
returns c = none_left _ _ _ _ _ c.items-signals.ensures c.loop-place-test.false c.loop-place.invariant
