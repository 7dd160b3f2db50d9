use Rattle.std.proofs.Common.{arith}
use Rattle.image_words.proofs.WordLaws.{learned_then, learned_word, narrows_word, fitted, earlier, word_read}
use Rattle.image_words.proofs.BetweenLaws.{none_at_end, none_there, first_there}
use Rattle.image_words.proofs.index.position_of.Goals as goal

pub returns-then-at-count-clause-position : goal.returns-then-at-count-clause-position
returns-then-at-count-clause-position g c image bench f =
    none_at_end image c.args.base c.args.count c.args.number c.lower_bound-at.result (c.lower_bound-at.ensures.between image bench f) c.if-at-count.true

pub returns-then-entry-number-clause-learned : goal.returns-then-entry-number-clause-learned
returns-then-entry-number-clause-learned g c =
    learned_then _ _ g.met.W.Words.chain _ _ _ c.lower_bound-at.ensures.learned
    (learned_word _ _ _ _ _ _ c.word-entry.ensures.learns c.word-entry.ensures.fits c.word-entry.ensures.reads)

pub returns-then-entry-number-clause-position : goal.returns-then-entry-number-clause-position
returns-then-entry-number-clause-position g c image bench f =
    let before = fitted _ _ image bench (narrows_word _ _ _ _ c.word-entry.ensures.learns c.word-entry.ensures.fits) f in
    let first = earlier _ _ _ _ image bench c.lower_bound-at.ensures.learned before in
    none_there image c.args.base c.args.count c.args.number c.lower_bound-at.result c.word-entry.result
    (omega (arith, first.size, c.requires.inside, c.lower_bound-at.ensures.within, c.if-at-count.false)) (c.requires.ascending image bench first)
    (c.lower_bound-at.ensures.between image bench before) (omega (arith, c.lower_bound-at.ensures.within, c.if-at-count.false))
    (word_read _ _ _ _ c.word-entry.ensures.learns image bench f) c.if-entry-number.true

pub returns-clause-learned : goal.returns-clause-learned
returns-clause-learned g c =
    learned_then _ _ g.met.W.Words.chain _ _ _ c.lower_bound-at.ensures.learned
    (learned_word _ _ _ _ _ _ c.word-entry.ensures.learns c.word-entry.ensures.fits c.word-entry.ensures.reads)

pub returns-clause-position : goal.returns-clause-position
returns-clause-position g c image bench f =
    let before = fitted _ _ image bench (narrows_word _ _ _ _ c.word-entry.ensures.learns c.word-entry.ensures.fits) f in
    let first = earlier _ _ _ _ image bench c.lower_bound-at.ensures.learned before in
    first_there image c.args.base c.args.count c.args.number c.lower_bound-at.result c.word-entry.result
    (omega (arith, first.size, c.requires.inside, c.lower_bound-at.ensures.within, c.if-at-count.false)) (c.requires.ascending image bench first)
    (c.lower_bound-at.ensures.between image bench before) (omega (arith, c.lower_bound-at.ensures.within, c.if-at-count.false))
    (word_read _ _ _ _ c.word-entry.ensures.learns image bench f) c.if-entry-number.false
