use Rattle.std.proofs.Common.{replicate, sym, subst, ap, length, arith, ◌∙◌}
use Rattle.region_store.specs.Images.{IsImage}
use Rattle.sharing_tests.proofs.ImageLaws.{is_image}
use Rattle.sharing_tests.proofs.stores.store_of.Goals as goal

pub new-requires-clause-first : goal.new-requires-clause-first
new-requires-clause-first c =
    let same = c.as_slice.ensures.value ∙ c.in_ok-first.ensures in
    (subst IsImage (sym same) (is_image (replicate 54 0)), omega (arith, ap length same))
