use Rattle.std.proofs.Common.{◌≡◌, ◌-◌, ◌++◌, replicate}
use Rattle.exact_scale.proofs.digits.push_fraction.Given as goal

-- so many zeros have been written
abbrev pub invariant-loop-zero : goal.invariant-loop-zero
invariant-loop-zero l = l.out.items ≡ l.fn.out.items ++ replicate (l._zero - l.digits) 48
