use Rattle.std.proofs.Common.{arith}
use Rattle.image_words.proofs.WordLaws.{learned_then, learned_word, earlier, word_read, words_more}
use Rattle.image_words.proofs.rows.read_words.Goals as goal

pub loop-i-preserved : goal.loop-i-preserved
loop-i-preserved g c =
    let one = learned_word _ _ _ _ _ _ c.word.ensures.learns c.word.ensures.fits c.word.ensures.reads in
    record {
      learned = learned_then _ _ g.met.W.Words.chain _ _ _ c.loop-i.invariant.learned one;
      words_so_far = λ image bench f.
          words_more image c.args.at c.loop-i.i c.word.result c.loop-i.row (omega arith)
          (c.loop-i.invariant.words_so_far image bench (earlier _ _ _ _ image bench one f))
          (word_read _ _ _ _ c.word.ensures.learns image bench f);
    }
