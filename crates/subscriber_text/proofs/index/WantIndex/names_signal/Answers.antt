use Rattle.std.proofs.Common.{◌≡◌, length, ap, ◌∙◌, subst, rules}
use Rattle.std.specs.List.{list_any}
use Rattle.std.specs.List.Sorted.{IsSearchInRange, IsBinarySearchResult}
use Rattle.std.proofs.lemmas.Fn.{always_returns_same}
use Rattle.subscriber_text.specs.Wants.{Want, names_signal}
use Rattle.subscriber_text.specs.WantView.{name_of, want_cmp, want_view}
use Rattle.subscriber_text.proofs.IndexLaws.{found_by, sorted_by_want, want_total, want_cmp-tied}
use Rattle.subscriber_text.proofs.index.WantIndex.names_signal.Goals as goal

pub returns : goal.returns
returns c =
    let key : Want = record { bus = c.args.bus; message = name_of c.args.message; signal = name_of c.args.signal } in
    let found = c.binary_search_by.ensures.position (λ w. want_cmp (want_view w) key)
    (always_returns_same _ (λ a r. r ≡ want_cmp (want_view a.0.now) key) _ (λ a r q k. (search rules, search rules))) in
    c.is_ok.ensures.value
    ∙ found_by want_cmp want_total want_view want_view key (names_signal c.args.bus (name_of c.args.message) (name_of c.args.signal))
    (λ w. want_cmp-tied c.args.bus (name_of c.args.message) (name_of c.args.signal) (want_view w)) c.self.inside.sorted.items c.binary_search_by.result
    (sorted_by_want c.self.inside.sorted.items c.self.invariant) (subst (λ xs. IsSearchInRange c.binary_search_by.result (length xs)) c.deref.ensures.value c.binary_search_by.ensures.bound) (subst (λ xs. IsBinarySearchResult (λ w. want_cmp (want_view w) key) xs c.binary_search_by.result) c.deref.ensures.value found)
    ∙ ap (λ wants. list_any (names_signal c.args.bus (name_of c.args.message) (name_of c.args.signal)) wants) c.self.view_is
