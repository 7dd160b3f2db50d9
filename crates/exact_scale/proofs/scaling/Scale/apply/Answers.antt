use Rattle.std.proofs.Common.{◌+ℤ◌, ◌*ℤ◌, rules}
use Rattle.std.specs.Prelude.{FitsSigned}
use Rattle.std.specs.Int.{w128}
use Rattle.std.proofs.lemmas.Int.{to_z-of_z}
use Rattle.exact_scale.proofs.FitLaws.{product_fits, sum_fits}
use Rattle.exact_scale.proofs.scaling.Scale.apply.Goals as goal

pub returns-clause-value : goal.returns-clause-value
returns-clause-value c =
    let scale = c.args.self.now in
    let factor : FitsSigned w128 scale.factor = search rules in
    let offset : FitsSigned w128 scale.offset = search rules in
    let r = to_z-of_z w128 c.args.raw c.ranges.raw in
    let f = to_z-of_z w128 scale.factor factor in
    let o = to_z-of_z w128 scale.offset offset in
    let p = to_z-of_z w128 (c.args.raw *ℤ scale.factor) (product_fits c.args.raw scale.factor c.requires.raw c.requires.scale.factor) in
    let s = to_z-of_z w128 ((c.args.raw *ℤ scale.factor) +ℤ scale.offset) (sum_fits c.args.raw scale.factor scale.offset c.requires.raw c.requires.scale.factor c.requires.scale.offset) in
    cc
