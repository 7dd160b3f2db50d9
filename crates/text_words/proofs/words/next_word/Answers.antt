use Rattle.std.proofs.Common.{arith}
use Rattle.text_words.proofs.WordLaws.{words-none, words-next, rest_len}
use Rattle.std.proofs.lemmas.Bool.Decides.{nat_tests}
use Rattle.text_words.proofs.words.next_word.Goals as goal

pub returns-then-is_empty : goal.returns-then-is_empty
returns-then-is_empty c = words-none c.args.line.now c.run_len-blanks.result c.run_len-blanks.ensures.within c.run_len-blanks.ensures.run
    (grind (arith, nat_tests, rest_len c.args.line.now c.run_len-blanks.result, c.if-is_empty.ensures))

pub returns : goal.returns
returns c =
    words-next c.args.line.now c.run_len-blanks.result c.run_len-end.result c.run_len-blanks.ensures.within c.run_len-blanks.ensures.run c.run_len-blanks.ensures.end
    (grind (arith, nat_tests, rest_len c.args.line.now c.run_len-blanks.result, c.if-is_empty.ensures)) c.run_len-end.ensures.within c.run_len-end.ensures.run c.run_len-end.ensures.end
