use Rattle.std.proofs.Common.{arith}
use Rattle.image_compiler.proofs.texts.bytes_size.Goals as goal

pub returns-clause-typed : goal.returns-clause-typed
returns-clause-typed c = λ i. omega (arith, c.type_inv.bytes i)
