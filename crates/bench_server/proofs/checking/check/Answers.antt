use Rattle.std.proofs.Common.{refl}
use Rattle.std.proofs.Math.Nat.{le_refl}
use Rattle.bench_server.proofs.CheckLaws.{refused_end, written_end}
use Rattle.bench_server.proofs.checking.check.Goals as goal

pub returns-in-Ok-clause-ends : goal.returns-in-Ok-clause-ends
returns-in-Ok-clause-ends g c =
    rw c.status_of.ensures
    (written_end c.args.name.now _ c.in-Ok.valid c.database.result.now c.write_counts.result c.database.ensures.same c.in-Ok.ensures c.write_counts.ensures refl)

pub returns-in-Ok-clause-keeps : goal.returns-in-Ok-clause-keeps
returns-in-Ok-clause-keeps g c =
    record { files = c.in-Ok.ensures.files; opens = c.in-Ok.ensures.opens; reads = c.in-Ok.ensures.reads; writes = c.write_counts.ensures.prefix.later }

pub returns-in-Err-clause-ends : goal.returns-in-Err-clause-ends
returns-in-Err-clause-ends g c = rw c.status_of-in-Err.ensures (refused_end c.args.name.now _ c.in-Err.refused c.in-Err.ensures refl refl)

pub returns-in-Err-clause-keeps : goal.returns-in-Err-clause-keeps
returns-in-Err-clause-keeps g c =
    record { files = c.in-Err.ensures.files; opens = c.in-Err.ensures.opens; reads = c.in-Err.ensures.reads; writes = le_refl _ }
