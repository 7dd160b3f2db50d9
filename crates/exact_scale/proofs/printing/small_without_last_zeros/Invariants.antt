use Rattle.std.proofs.Common.{◌≡◌, ◌*◌, ◌^◌, ◌-◌, ◌≤◌}
use Rattle.exact_scale.proofs.printing.small_without_last_zeros.Given as goal

-- what was cut off is a power of ten
abbrev pub invariant-loop-places : goal.invariant-loop-places
invariant-loop-places l = record {
  shorter : l.places ≤ l.fn.places;
  same : l.fn.size ≡ l.size * 10 ^ (l.fn.places - l.places);
}

abbrev pub decreases-loop-places : goal.decreases-loop-places
decreases-loop-places l = l.places
