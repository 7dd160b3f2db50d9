use Rattle.std.proofs.Common.{arith}
use Rattle.std.proofs.lemmas.Bool.Decides.{nat_tests}
use Rattle.text_words.specs.Words.{words_of}
use Rattle.bench_loader.proofs.LineLaws.{no_pairs}
use Rattle.bench_loader.proofs.load_line.read_load.Goals as goal

pub returns-then-is_empty : goal.returns-then-is_empty
returns-then-is_empty c =
    no_pairs c.args.line.now (words_of c.in-Some.words.now) c.in-Some.word.now c.in_ok-pairs.pairs.items c.in-Some.ensures c.in_ok-pairs.ensures
    (grind (arith, nat_tests, c.if-is_empty.ensures, c.in_ok-pairs.pairs.ok.0))
