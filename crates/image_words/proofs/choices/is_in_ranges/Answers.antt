use Rattle.std.proofs.Common.{◌∙◌, ℤ, refl, sym, ap, arith}
use Rattle.std.proofs.Math.Facts.{to_z-of_z}
use Rattle.multiplex_tree.specs.Activity.{is_in_range}
use Rattle.image_words.proofs.WordLaws.{learned_none, learned_then, earlier}
use Rattle.image_words.proofs.SearchLaws.{any_more, any_here, any_past}
use Rattle.image_words.proofs.choices.is_in_ranges.Goals as goal

pub loop-i-init : goal.loop-i-init
loop-i-init g c = record { learned = learned_none _ _ g.met.W.Words.same _; rest = λ raw same image bench f ranges has. refl }

pub returns-then-is_in-clause-learned : goal.returns-then-is_in-clause-learned
returns-then-is_in-clause-learned g c =
    learned_then _ _ g.met.W.Words.chain _ _ _ c.loop-i.invariant.learned c.range_at-range.ensures.learned

pub returns-then-is_in-clause-value : goal.returns-then-is_in-clause-value
returns-then-is_in-clause-value g c image bench f ranges has =
    let same = sym (to_z-of_z c.ranges.raw) in
    c.loop-i.invariant.rest c.args.raw same image bench (earlier _ _ _ _ image bench c.range_at-range.ensures.learned f) ranges has
    ∙ any_here (is_in_range c.args.raw) ranges c.loop-i.i c.range_at-range.result (c.range_at-range.ensures.range image bench f ranges has)
    (ap (λ (raw : ℤ). is_in_range raw c.range_at-range.result) same ∙ sym c.is_in.ensures ∙ c.if-is_in.true)

pub loop-i-preserved : goal.loop-i-preserved
loop-i-preserved g c = record {
  learned = learned_then _ _ g.met.W.Words.chain _ _ _ c.loop-i.invariant.learned c.range_at-range.ensures.learned;
  rest = λ raw same image bench f ranges has.
      c.loop-i.invariant.rest raw same image bench (earlier _ _ _ _ image bench c.range_at-range.ensures.learned f) ranges has
      ∙ any_more (is_in_range raw) ranges c.loop-i.i c.range_at-range.result (c.range_at-range.ensures.range image bench f ranges has)
      (ap (λ (r : ℤ). is_in_range r c.range_at-range.result) same ∙ sym c.is_in.ensures ∙ c.if-is_in.false);
}

pub returns-clause-value : goal.returns-clause-value
returns-clause-value g c image bench f ranges has =
    c.loop-i.invariant.rest c.args.raw (sym (to_z-of_z c.ranges.raw)) image bench f ranges has
    ∙ any_past (is_in_range c.args.raw) ranges c.loop-i.i (omega (arith, has.size))
