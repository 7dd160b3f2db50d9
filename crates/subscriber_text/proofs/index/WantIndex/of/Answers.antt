use Rattle.std.proofs.Common.{◌≡◌, take, sym, ap, ◌∙◌, arith}
use Rattle.std.specs.Ordering.{is_lt}
use Rattle.std.proofs.lemmas.List.{take_all}
use Rattle.std.proofs.lemmas.List.Sorted.{IsPermutation-map}
use Rattle.subscriber_text.specs.WantView.{want_view, wants_view, want_cmp}
use Rattle.subscriber_text.proofs.IndexLaws.{sorted_map, derived_cmp, derived_order}
use Rattle.subscriber_text.proofs.index.WantIndex.of.Goals as goal

pub invariant_of-result : goal.invariant_of-result
invariant_of-result c =
    sorted_map want_view (λ a b. is_lt (derived_cmp a b)) (λ a b. is_lt (want_cmp a b)) (λ a b. ap is_lt (derived_order a b)) c.sort.new.self.items c.in_ok-sort.ensures.sorted

pub returns : goal.returns
returns c =
    let all : take c.loop-want.want-index c.args.wants.now ≡ c.args.wants.now = take_all c.loop-want.want-index c.args.wants.now (omega arith) in
    let copied : wants_view c.loop-want.sorted.items ≡ wants_view c.args.wants.now = c.loop-want.invariant ∙ ap wants_view all in
    rw (sym copied) (IsPermutation-map want_view c.loop-want.sorted.items c.sort.new.self.items c.in_ok-sort.ensures.permutation)
