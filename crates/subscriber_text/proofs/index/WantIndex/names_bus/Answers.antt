use Rattle.std.proofs.Common.{◌≡◌, length, ap, ◌∙◌, subst, rules}
use Rattle.std.specs.List.{list_any}
use Rattle.std.specs.List.Sorted.{IsSearchInRange, IsBinarySearchResult}
use Rattle.std.proofs.lemmas.Fn.{always_returns_same}
use Rattle.std.specs.Ordering.{nat_cmp}
use Rattle.std.proofs.lemmas.Cmp.{nat_cmp_total}
use Rattle.subscriber_text.specs.Wants.{names_bus}
use Rattle.subscriber_text.specs.WantView.{want_view}
use Rattle.subscriber_text.proofs.IndexLaws.{found_by, sorted_by_bus, nat_cmp-tied}
use Rattle.subscriber_text.proofs.index.WantIndex.names_bus.Goals as goal

pub returns : goal.returns
returns c =
    let found = c.binary_search_by.ensures.position (λ w. nat_cmp w.bus c.args.bus)
    (always_returns_same _ (λ a r. r ≡ nat_cmp a.0.now.bus c.args.bus) _ (λ a r q k. (search rules, search rules))) in
    c.is_ok.ensures.value
    ∙ found_by nat_cmp nat_cmp_total (λ w. w.bus) want_view c.args.bus (names_bus c.args.bus) (λ w. nat_cmp-tied w.bus c.args.bus) c.self.inside.sorted.items c.binary_search_by.result
    (sorted_by_bus c.self.inside.sorted.items c.self.invariant) (subst (λ xs. IsSearchInRange c.binary_search_by.result (length xs)) c.deref.ensures.value c.binary_search_by.ensures.bound) (subst (λ xs. IsBinarySearchResult (λ w. nat_cmp w.bus c.args.bus) xs c.binary_search_by.result) c.deref.ensures.value found)
    ∙ ap (λ wants. list_any (names_bus c.args.bus) wants) c.self.view_is
