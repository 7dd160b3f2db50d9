use Rattle.std.proofs.Common.{◌∙◌, ℤ, refl, sym, ap, arith}
use Rattle.std.specs.Ordering.{int_eq}
use Rattle.std.proofs.Math.Facts.{to_z-of_z}
use Rattle.image_words.proofs.WordLaws.{learned_none, learned_then, earlier}
use Rattle.image_words.proofs.LabelLaws.{label_found, label_missing, label_passed}
use Rattle.image_words.proofs.choices.label_of.Goals as goal

pub loop-i-init : goal.loop-i-init
loop-i-init g c = record { learned = learned_none _ _ g.met.W.Words.same _; rest = λ raw same image bench f labels has. refl }

pub returns-then-has_raw-clause-learned : goal.returns-then-has_raw-clause-learned
returns-then-has_raw-clause-learned g c =
    learned_then _ _ g.met.W.Words.chain _ _ _ c.loop-i.invariant.learned c.label_at-label.ensures.learned

pub returns-then-has_raw-clause-label : goal.returns-then-has_raw-clause-label
returns-then-has_raw-clause-label g c image bench f labels has =
    let same = sym (to_z-of_z c.ranges.raw) in
    label_found image labels c.args.raw c.loop-i.i c.label_at-label.result
    (c.label_at-label.ensures.label image bench f labels has)
    (ap (λ (raw : ℤ). int_eq c.label_at-label.result.raw raw) same ∙ sym c.has_raw.ensures ∙ c.if-has_raw.true)
    (c.loop-i.invariant.rest c.args.raw same image bench (earlier _ _ _ _ image bench c.label_at-label.ensures.learned f) labels has)

pub loop-i-preserved : goal.loop-i-preserved
loop-i-preserved g c = record {
  learned = learned_then _ _ g.met.W.Words.chain _ _ _ c.loop-i.invariant.learned c.label_at-label.ensures.learned;
  rest = λ raw same image bench f labels has.
      c.loop-i.invariant.rest raw same image bench (earlier _ _ _ _ image bench c.label_at-label.ensures.learned f) labels has
      ∙ label_passed image labels raw c.loop-i.i c.label_at-label.result
      (c.label_at-label.ensures.label image bench f labels has)
      (ap (λ (r : ℤ). int_eq c.label_at-label.result.raw r) same ∙ sym c.has_raw.ensures ∙ c.if-has_raw.false);
}

pub returns-clause-label : goal.returns-clause-label
returns-clause-label g c image bench f labels has =
    label_missing image labels c.args.raw c.loop-i.i (omega (arith, has.size))
    (c.loop-i.invariant.rest c.args.raw (sym (to_z-of_z c.ranges.raw)) image bench f labels has)
