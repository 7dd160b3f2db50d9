use Rattle.decoded_list.proofs.AskingLaws.{on_err, begins}
use Rattle.std.proofs.Common.{rules}
use Rattle.decoded_list.proofs.decoder.listen.Goals as goal

pub returns-in_err-step-in-Frame-clause-memory : goal.returns-in_err-step-in-Frame-clause-memory
returns-in_err-step-in-Frame-clause-memory c =
    on_err c.from_residual.result _ (begins c.args.kind c.args.line.now c.in-Frame.micros c.in-Frame.key c.in-Frame.payload (search rules) c.in-Frame.is c.if-key.true (rw c.bytes.ensures.value at c.in_err-step-in-Frame.ensures.memory))
