use Rattle.std.proofs.Common.{◌≡◌, take}
use Rattle.bench_model.proofs.copies.ListDeepCopy.deep_copy.Given as goal

-- the copies so far are the values so far
abbrev pub invariant-loop-item : goal.invariant-loop-item
invariant-loop-item g l = l.copies.items ≡ take l.item-index l.items
