use Rattle.std.proofs.Common.{arith}
use Rattle.image_words.proofs.WordLaws.{learned_none, learned_then, learned_word, earlier, word_read}
use Rattle.image_words.proofs.BetweenLaws.{nothing_between, step_below, step_above}
use Rattle.image_words.proofs.index.lower_bound.Goals as goal

pub loop-low-init : goal.loop-low-init
loop-low-init g c = record {
  order = omega arith;
  within = omega arith;
  learned = learned_none _ _ g.met.W.Words.same _;
  between = λ image bench f. nothing_between image c.args.base c.args.count c.args.target;
}

pub loop-low-preserved-then-word-target : goal.loop-low-preserved-then-word-target
loop-low-preserved-then-word-target g c =
    let one = learned_word _ _ _ _ _ _ c.word-word.ensures.learns c.word-word.ensures.fits c.word-word.ensures.reads in
    record {
      order = omega arith;
      within = c.loop-low.invariant.within;
      learned = learned_then _ _ g.met.W.Words.chain _ _ _ c.loop-low.invariant.learned one;
      between = λ image bench f.
          let before = earlier _ _ _ _ image bench one f in
          let first = earlier _ _ _ _ image bench c.loop-low.invariant.learned before in
          step_below image c.args.base c.args.count c.args.target c.loop-low.low c.loop-low.high c.word-word.result
          (omega (arith, first.size, c.requires.inside, c.loop-low-test.true, c.loop-low.invariant.within))
          c.loop-low-test.true c.loop-low.invariant.within (c.requires.ascending image bench first) (c.loop-low.invariant.between image bench before)
          (word_read _ _ _ _ c.word-word.ensures.learns image bench f) c.if-word-target.true;
    }

pub loop-low-preserved : goal.loop-low-preserved
loop-low-preserved g c =
    let one = learned_word _ _ _ _ _ _ c.word-word.ensures.learns c.word-word.ensures.fits c.word-word.ensures.reads in
    record {
      order = omega arith;
      within = omega (arith, c.loop-low-test.true, c.loop-low.invariant.within);
      learned = learned_then _ _ g.met.W.Words.chain _ _ _ c.loop-low.invariant.learned one;
      between = λ image bench f.
          let before = earlier _ _ _ _ image bench one f in
          let first = earlier _ _ _ _ image bench c.loop-low.invariant.learned before in
          step_above image c.args.base c.args.count c.args.target c.loop-low.low c.loop-low.high c.word-word.result
          c.loop-low-test.true c.loop-low.invariant.within (c.requires.ascending image bench first) (c.loop-low.invariant.between image bench before)
          (word_read _ _ _ _ c.word-word.ensures.learns image bench f) c.if-word-target.false;
    }
