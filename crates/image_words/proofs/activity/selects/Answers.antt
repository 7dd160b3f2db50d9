use Rattle.std.proofs.Common.{◌∙◌, ℤ, ap, sym}
use Rattle.std.specs.List.{list_any}
use Rattle.multiplex_tree.specs.Activity.{is_in_range, is_in_ranges}
use Rattle.image_words.proofs.NumberLaws.{raw_kept}
use Rattle.image_words.proofs.activity.selects.Goals as goal

pub returns-in-Some-clause-value : goal.returns-in-Some-clause-value
returns-in-Some-clause-value g c image bench f ranges has s shape =
    ap (is_in_ranges ranges) (sym (c.in-Some.ensures.value s shape))
    ∙ ap (λ (r : ℤ). list_any (is_in_range r) ranges) (sym (raw_kept c.in-Some.raw c.in-Some.ensures.bound))
    ∙ c.is_in_ranges.ensures.value image bench f ranges has
