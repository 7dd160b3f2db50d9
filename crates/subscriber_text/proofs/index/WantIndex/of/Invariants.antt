use Rattle.std.proofs.Common.{◌≡◌, take}
use Rattle.subscriber_text.specs.WantView.{wants_view}
use Rattle.subscriber_text.proofs.index.WantIndex.of.Given as goal

-- the wants so far were copied
abbrev pub invariant-loop-want : goal.invariant-loop-want
invariant-loop-want l = wants_view l.sorted.items ≡ wants_view (take l.want-index l.wants)
