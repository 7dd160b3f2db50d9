use Rattle.std.proofs.Common.{◌≡◌, take}
use Rattle.exact_scale.specs.Digits.{number}
use Rattle.exact_scale.specs.Parts.{capped}
use Rattle.exact_scale.proofs.parts.cap_number.Given as goal

-- the number of the digits so far, up to the bound
abbrev pub invariant-loop-byte : goal.invariant-loop-byte
invariant-loop-byte l = l.size ≡ capped (number (take l.byte-index l.digits))
