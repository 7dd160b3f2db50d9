use Rattle.std.proofs.Common.{ℕ, ◌+◌, ◌*◌, ◌^◌, ◌≤◌, take}
use Rattle.exact_scale.specs.Digits.{number}
use Rattle.exact_scale.specs.Parts.{IsSignificand}
use Rattle.exact_scale.proofs.significand.Significand.extend.Given as goal

-- the number of the digits so far
abbrev pub invariant-loop-byte : goal.invariant-loop-byte
invariant-loop-byte l = record {
  number : (n : ℕ) → IsSignificand n l.fn.self.size l.fn.self.zeros
      → IsSignificand (n * 10 ^ l.byte-index + number (take l.byte-index l.digits)) l.significand.size l.significand.zeros;
  zeros : l.significand.zeros ≤ l.fn.self.zeros + l.byte-index;
}
