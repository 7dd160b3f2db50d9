use Rattle.std.proofs.Common.{◌∙◌, sym, length, rules, arith}
use Rattle.image_words.specs.Layout.{words_for, padded}
use Rattle.image_compiler.specs.Layout.{text_words}
use Rattle.image_compiler.proofs.WritingLaws.{blocks_more, blocks_none}
use Rattle.image_compiler.proofs.texts.write_bytes.Goals as goal

pub loop-i-init : goal.loop-i-init
unfolding text_words
loop-i-init c = search rules

pub loop-i-preserved : goal.loop-i-preserved
loop-i-preserved c =
    sym (blocks_more (padded c.args.bytes.now) c.loop-i.out.items c.push.new.self.items c.loop-i.i (words_for (length c.args.bytes.now)) c.word_at.result
    (omega (arith, c.loop-i-test.true, c.div_ceil-i-end.ensures)) c.word_at.ensures c.in_ok-push.ensures.items)
    ∙ c.loop-i.invariant

pub returns : goal.returns
returns c = blocks_none (padded c.args.bytes.now) c.loop-i.out.items c.loop-i.i (words_for (length c.args.bytes.now)) (omega (arith, c.loop-i-test.false, c.div_ceil-i-end.ensures)) ∙ c.loop-i.invariant
