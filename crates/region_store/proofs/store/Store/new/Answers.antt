use Rattle.std.proofs.Common.{◌≡◌, ℕ, List, [], ◌++◌, refl, sym, ap, ◌∙◌, subst, arith, get_or}
use Rattle.region_store.specs.declared.view.Shape.{Shape}
use Rattle.atomic_table.specs.Table.{opening}
use Rattle.region_store.specs.Rule.{Kept, first_view}
use Rattle.region_store.specs.Store.{AreFirstWords}
use Rattle.region_store.proofs.FirstLaws.{like_itself}
use Rattle.region_store.proofs.StoreLaws.{starts}
use Rattle.region_store.proofs.store.Store.new.Goals as goal

pub of_words-requires : goal.of_words-requires
of_words-requires c =
    let first : List ℕ = c.args.first.now in
    let shape : Shape = record { regions = c.from.result; lanes = c.from-2.result; room = c.args.words; buses = get_or first 1 0 } in
    let same : c.of.result.value.items ≡ first = ap (λ v. v.items) c.of.ensures ∙ (c.in_ok-extend_from_slice.ensures.items ∙ ap (λ (l : List ℕ). l ++ first) c.new-image.ensures.items) in
    subst (λ (l : List ℕ). Kept shape l (opening c.as_slice.result.now [] (first_view shape l))) (sym same)
    (starts shape first c.as_slice.result.now
    record {
      some_regions = omega (arith, c.requires.regions, c.from.ensures);
      few_regions = omega (arith, c.requires.regions, c.from.ensures);
      some_lanes = omega (arith, c.requires.lanes, c.from-2.ensures);
      few_lanes = omega (arith, c.requires.lanes, c.from-2.ensures);
      some_room = omega (arith, c.requires.words);
      small_room = omega (arith, c.requires.words);
    }
    (subst (AreFirstWords shape first) (sym c.as_slice.ensures.value) c.in_ok-content.ensures)
    (omega (arith, c.requires.first.1))
    refl
    (like_itself first c.requires.first.0))
