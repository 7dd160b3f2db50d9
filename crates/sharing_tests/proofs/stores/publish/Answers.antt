use Rattle.std.proofs.Common.{List, ℕ, replicate, sym, subst, ap, length, arith, ◌∙◌}
use Rattle.region_store.specs.Images.{IsLike}
use Rattle.sharing_tests.proofs.ImageLaws.{is_like}
use Rattle.sharing_tests.proofs.stores.publish.Goals as goal

pub publish-requires-clause-image : goal.publish-requires-clause-image
publish-requires-clause-image c =
    let same = c.as_slice.ensures.value ∙ c.in_ok-image.ensures in
    subst (λ (p : List ℕ × List ℕ). IsLike p.0 p.1) (λ i. (sym c.requires.store.0 i, sym same i)) (is_like (replicate 54 0) (replicate 54 c.args.version))

pub publish-requires-clause-room : goal.publish-requires-clause-room
publish-requires-clause-room c = omega (arith, ap length (c.as_slice.ensures.value ∙ c.in_ok-image.ensures), c.requires.store.1)
