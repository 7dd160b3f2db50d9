use Rattle.std.proofs.Common.{take}
use Rattle.exact_scale.specs.Digits.{AllDigits}
use Rattle.exact_scale.proofs.parts.split_digits.Given as goal

-- digits so far
abbrev pub invariant-loop-i : goal.invariant-loop-i
invariant-loop-i l = AllDigits (take l.i l.text)
