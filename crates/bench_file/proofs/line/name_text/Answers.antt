use Rattle.std.proofs.Common.{arith, rules}
use Rattle.std.proofs.lemmas.Bool.Decides.{nat_tests}
use Rattle.bench_file.proofs.WordLaws.{name_of_text}
use Rattle.bench_file.proofs.line.name_text.Goals as goal

pub returns : goal.returns
returns c = name_of_text c.args.name.now c.from_utf8.result c.ok.result _ (grind (arith, nat_tests, c.if-is_empty.ensures)) (omega arith) c.from_utf8.ensures.cases c.ok.ensures.value
