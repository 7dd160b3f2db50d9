use Rattle.std.proofs.Common.{arith}
use Rattle.image_words.proofs.ByteLaws.{intel_bits, motorola_bits}
use Rattle.image_words.proofs.shape.Shape.bits.Goals as goal
use Rattle.image_words.proofs.shape.Shape.bits.Goals.{in-Intel, in-Motorola}

pub returns-clause-bits : goal.returns-clause-bits
returns-clause-bits c = elim c.match-self.branch [
  | in-Intel w ↦ intel_bits _ _ _ _ _ _ w.in-Intel.is c.requires.shape.size w.little_endian.ensures w.number-is
  | in-Motorola w ↦ motorola_bits _ _ _ _ _ _ _ w.in-Motorola.is c.requires.shape.size w.big_endian.ensures w.number-is (omega arith)
]
