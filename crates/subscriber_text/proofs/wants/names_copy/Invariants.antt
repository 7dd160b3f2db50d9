use Rattle.std.proofs.Common.{◌≡◌, take}
use Rattle.subscriber_text.proofs.wants.names_copy.Given as goal

-- the names so far were copied
abbrev pub invariant-loop-name : goal.invariant-loop-name
invariant-loop-name l = l.copy.items ≡ take l.name-index l.names
