use Rattle.std.proofs.Common.{◌∙◌, ◌++◌, ap, sym, List, ℕ}
use Rattle.std.specs.Option.{option_to_list}
use Rattle.multiplex_tree.specs.Parents.{only}
use Rattle.multiplex_tree.proofs.ParentLaws.{selectors-here, selectors-past, selectors-end, first_selector, two_selectors, one_selector}
use Rattle.multiplex_tree.proofs.parents.selector_of.Goals as goal
use Rattle.multiplex_tree.proofs.parents.selector_of.Goals.{then-is_top_selector+else-is_some, else-is_top_selector}

pub returns-then-is_some : goal.returns-then-is_some
returns-then-is_some c =
    sym (ap only (c.loop-signal.invariant ∙ ap (λ (xs : List ℕ). option_to_list c.loop-signal.found ++ xs)
    (selectors-here c.args.marks.now c.loop-signal.signal _ c.loop-signal-test.true (sym c.if-is_top_selector.ensures)))
    ∙ two_selectors _ _ _ c.if-is_some.ensures)

pub returns : goal.returns
returns c =
    c.ok_or.ensures.value ∙ one_selector _
    ∙ sym (ap only (c.loop-signal.invariant ∙ ap (λ (xs : List ℕ). option_to_list c.loop-signal.found ++ xs) (selectors-end c.args.marks.now c.loop-signal.signal c.loop-signal-test.false)))

pub loop-signal-preserved : goal.loop-signal-preserved
loop-signal-preserved c =
    elim c.if-is_top_selector.branch [
      | then-is_top_selector+else-is_some w ↦ rw w.found-is
          (c.loop-signal.invariant ∙ ap (λ (xs : List ℕ). option_to_list c.loop-signal.found ++ xs)
          (selectors-here c.args.marks.now c.loop-signal.signal _ c.loop-signal-test.true (sym w.if-is_top_selector.ensures))
          ∙ first_selector _ _ _ w.if-is_some.ensures)
      | else-is_top_selector w ↦ rw w.found-is
          (c.loop-signal.invariant ∙ ap (λ (xs : List ℕ). option_to_list c.loop-signal.found ++ xs)
          (selectors-past c.args.marks.now c.loop-signal.signal _ c.loop-signal-test.true (sym w.if-is_top_selector.ensures)))
    ]
