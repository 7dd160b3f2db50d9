use Rattle.std.proofs.Common.{◌≡◌, ◌∙◌, ◌++◌, List, ℕ, subst}
use Rattle.std.specs.Prelude.{OnOk}
use Rattle.std.proofs.lemmas.List.Sorted.{IsNonDecreasingBy-from_sort}
use Rattle.image_compiler.specs.Layout.{ascending}
use Rattle.image_compiler.proofs.AscendingLaws.{one_index}
use Rattle.image_compiler.proofs.buses.write_ascending.Goals as goal

pub returns : goal.returns
returns c =
    let sorted : c.sort_unstable.new.self.items ≡ ascending c.args.numbers.items =
    one_index c.args.numbers.items c.sort_unstable.new.self.items (IsNonDecreasingBy-from_sort (λ x. x) c.sort_unstable.new.self.items c.sort_unstable.ensures.sorted) c.sort_unstable.ensures.permutation in
    let P : List ℕ → Type 0 = λ words. OnOk c.append.result (c.append.new.out.items ≡ c.args.out.now.items ++ words) in
    subst P (c.as_slice.ensures.value ∙ sorted) c.append.ensures
