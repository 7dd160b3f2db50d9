use Rattle.std.proofs.Common.{◌∙◌, ◌++◌, ◌/◌, List, ℕ, ap}
use Rattle.image_words.proofs.WordLaws.{learned_none, learned_then, learned_word, earlier, word_read}
use Rattle.image_words.proofs.TextLaws.{bytes_none, bytes_appended}
use Rattle.image_words.proofs.texts.append_text.Goals as goal

pub loop-i-init : goal.loop-i-init
loop-i-init g c = record {
  learned = learned_none _ _ g.met.W.Words.same _;
  bytes = λ image bench f. bytes_none image (c.args.reference / 65536) c.args.buffer.now.items;
}

pub returns-in_err-extend_from_slice-clause-learned : goal.returns-in_err-extend_from_slice-clause-learned
returns-in_err-extend_from_slice-clause-learned g c =
    learned_then _ _ g.met.W.Words.chain _ _ _ c.loop-i.invariant.learned
    (learned_word _ _ _ _ _ _ c.word-word.ensures.learns c.word-word.ensures.fits c.word-word.ensures.reads)

pub loop-i-preserved : goal.loop-i-preserved
loop-i-preserved g c =
    let one = learned_word _ _ _ _ _ _ c.word-word.ensures.learns c.word-word.ensures.fits c.word-word.ensures.reads in
    record {
      learned = learned_then _ _ g.met.W.Words.chain _ _ _ c.loop-i.invariant.learned one;
      bytes = λ image bench f.
          c.in_ok-extend_from_slice.ensures.items
          ∙ ap (λ (more : List ℕ). c.loop-i.buffer.items ++ more) c.to_le_bytes.ensures
          ∙ bytes_appended image (c.args.reference / 65536) c.loop-i.i c.word-word.result c.args.buffer.now.items c.loop-i.buffer.items
          (c.loop-i.invariant.bytes image bench (earlier _ _ _ _ image bench one f)) (word_read _ _ _ _ c.word-word.ensures.learns image bench f);
    }
