use Rattle.std.proofs.Common.{◌≤◌, length, arith}
use Rattle.std.proofs.lemmas.Grind.{common_steps}
use Rattle.port_io.proofs.CopyLaws.{written_over}
use Rattle.port_io.proofs.memory_calls.write_over.Goals as goal

pub returns-clause-written : goal.returns-clause-written
returns-clause-written c =
    let copies : c.copy_some.result ≤ length c.copy_some.new.to = grind (arith, common_steps, c.copy_some.auto.to, c.copy_some.ensures.count) in
    written_over c.args.room.now c.copy_some.new.to c.args.piece.now c.args.place c.copy_some.result _ c.requires copies c.copy_some.ensures.copied
