use Rattle.std.proofs.Common.{◌∙◌, ◌-◌, ◌+◌, arith}
use Rattle.bench_model.specs.Meaning.{raw_values}
use Rattle.image_words.proofs.WordLaws.{learned_none, learned_then, earlier}
use Rattle.image_words.proofs.ActiveLaws.{way_begins, way_goes_on, way_ends}
use Rattle.image_words.proofs.activity.is_active.Goals as goal

pub loop-steps-init : goal.loop-steps-init
loop-steps-init g c = record {
  learned = learned_none _ _ g.met.W.Words.same _;
  within = c.requires.place;
  level_known = c.requires.level;
  way = λ image bench f m has. way_begins c.args.bytes.now m c.args.place (c.activity_by_steps.ensures.begins m.tree.parents c.args.place);
}

pub step_up-requires-clause-some : goal.step_up-requires-clause-some
step_up-requires-clause-some g c = c.loop-steps.invariant.learned.narrows.some c.requires.some

pub step_up-requires-clause-signals : goal.step_up-requires-clause-signals
step_up-requires-clause-signals g c image bench f =
    c.requires.signals image bench (earlier _ _ _ _ image bench c.loop-steps.invariant.learned f)

pub returns-in-Top-clause-learned : goal.returns-in-Top-clause-learned
returns-in-Top-clause-learned g c =
    learned_then _ _ g.met.W.Words.chain _ _ _ c.loop-steps.invariant.learned c.in-Top.ensures.learned

pub returns-in-Top-clause-active : goal.returns-in-Top-clause-active
returns-in-Top-clause-active g c image bench f m has =
    let way = c.loop-steps.invariant.way image bench (earlier _ _ _ _ image bench c.in-Top.ensures.learned f) m has in
    way.same ∙ c.activity_by_steps.ensures.top m.tree.parents (raw_values c.args.bytes.now m.signals) (8 - c.loop-steps.steps) c.loop-steps.here
    (c.in-Top.ensures.leads image bench f m has)

pub returns-in-PassedOver-clause-learned : goal.returns-in-PassedOver-clause-learned
returns-in-PassedOver-clause-learned g c =
    learned_then _ _ g.met.W.Words.chain _ _ _ c.loop-steps.invariant.learned c.in-PassedOver.ensures.learned

pub returns-in-PassedOver-clause-active : goal.returns-in-PassedOver-clause-active
returns-in-PassedOver-clause-active g c image bench f m has =
    let way = c.loop-steps.invariant.way image bench (earlier _ _ _ _ image bench c.in-PassedOver.ensures.learned f) m has in
    let leads = c.in-PassedOver.ensures.leads image bench f m has in
    way.same ∙ c.activity_by_steps.ensures.passed_over m.tree.parents (raw_values c.args.bytes.now m.signals) (8 - c.loop-steps.steps - 1) (8 - c.loop-steps.steps)
    c.loop-steps.here leads.parent (omega (arith, c.loop-steps-test.true)) leads.is_parent leads.selects_not

pub loop-steps-preserved : goal.loop-steps-preserved
loop-steps-preserved g c = record {
  learned = learned_then _ _ g.met.W.Words.chain _ _ _ c.loop-steps.invariant.learned c.in-Selected.ensures.learned;
  within = c.in-Selected.ensures.below;
  level_known = λ image bench f.
      let before = earlier _ _ _ _ image bench c.in-Selected.ensures.learned f in
      let m = c.requires.signals image bench (earlier _ _ _ _ image bench c.loop-steps.invariant.learned before) in
      (c.in-Selected.ensures.leads image bench f m.0 m.1).is_level;
  way = λ image bench f m has.
      let way = c.loop-steps.invariant.way image bench (earlier _ _ _ _ image bench c.in-Selected.ensures.learned f) m has in
      let leads = c.in-Selected.ensures.leads image bench f m has in
      way_goes_on c.args.bytes.now m c.args.place c.loop-steps.steps c.loop-steps.here c.in-Selected.up leads.parent way leads.place_is
      (c.activity_by_steps.ensures.goes_on m.tree.parents c.loop-steps.steps c.args.place c.loop-steps.here leads.parent way.reached leads.is_parent)
      (c.activity_by_steps.ensures.selected m.tree.parents (raw_values c.args.bytes.now m.signals) (8 - (c.loop-steps.steps + 1)) (8 - c.loop-steps.steps)
      c.loop-steps.here leads.parent (omega (arith, c.loop-steps-test.true)) leads.is_parent leads.selects_it);
}

pub returns-clause-active : goal.returns-clause-active
returns-clause-active g c image bench f m has =
    let way = c.loop-steps.invariant.way image bench f m has in
    way.same ∙ c.activity_by_steps.ensures.top m.tree.parents (raw_values c.args.bytes.now m.signals) (8 - c.loop-steps.steps) c.loop-steps.here
    (c.activity_by_steps.ensures.ends m.tree.parents c.args.place c.loop-steps.here has.decodable.tree.shallow
    (way_ends c.args.bytes.now m c.args.place c.loop-steps.steps c.loop-steps.here way (omega arith)))
