use Rattle.std.proofs.Common.{◌≡◌, length, ap, ◌∙◌, subst, rules}
use Rattle.std.specs.List.{list_any}
use Rattle.std.specs.List.Sorted.{IsSearchInRange, IsBinarySearchResult}
use Rattle.std.proofs.lemmas.Fn.{always_returns_same}
use Rattle.subscriber_text.specs.Wants.{names_message}
use Rattle.subscriber_text.specs.WantView.{name_of, message_key, message_cmp, key_cmp, want_view}
use Rattle.subscriber_text.proofs.IndexLaws.{found_by, sorted_by_message, key_total, message_cmp-tied}
use Rattle.subscriber_text.proofs.index.WantIndex.names_message.Goals as goal

pub returns : goal.returns
returns c =
    let found = c.binary_search_by.ensures.position (λ w. message_cmp (want_view w) (c.args.bus, name_of c.args.message))
    (always_returns_same _ (λ a r. r ≡ message_cmp (want_view a.0.now) (c.args.bus, name_of c.args.message)) _ (λ a r q k. (search rules, search rules))) in
    c.is_ok.ensures.value
    ∙ found_by key_cmp key_total (λ w. message_key (want_view w)) want_view (c.args.bus, name_of c.args.message) (names_message c.args.bus (name_of c.args.message))
    (λ w. message_cmp-tied c.args.bus (name_of c.args.message) (want_view w)) c.self.inside.sorted.items c.binary_search_by.result
    (sorted_by_message c.self.inside.sorted.items c.self.invariant) (subst (λ xs. IsSearchInRange c.binary_search_by.result (length xs)) c.deref.ensures.value c.binary_search_by.ensures.bound) (subst (λ xs. IsBinarySearchResult (λ w. message_cmp (want_view w) (c.args.bus, name_of c.args.message)) xs c.binary_search_by.result) c.deref.ensures.value found)
    ∙ ap (λ wants. list_any (names_message c.args.bus (name_of c.args.message)) wants) c.self.view_is
