use Rattle.std.proofs.Common.{arith}
use Rattle.region_store.specs.Layout.{place_of}
use Rattle.region_store.proofs.layout.region_word.Goals as goal

pub returns : goal.returns
unfolding place_of
returns c = omega arith
