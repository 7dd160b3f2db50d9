use Rattle.std.proofs.Common.{◌≡◌, replicate, None}
use Rattle.region_store.proofs.making.none_retired.Given as goal

abbrev pub invariant-loop : goal.invariant-loop
invariant-loop l = l.retired.items ≡ replicate l.counter None
