use Rattle.std.proofs.Common.{◌≡◌, ◌++◌, replicate}
use Rattle.sharing_tests.specs.declared.stores.TheConstants.{BENCH}
use Rattle.sharing_tests.proofs.stores.image_for.Given as goal

abbrev pub invariant-loop : goal.invariant-loop
invariant-loop l = l.words.items ≡ BENCH ++ replicate l.counter l.version
