use Rattle.std.proofs.Common.{rules}
use Rattle.bench_file.proofs.ReadLaws.{reads_none, reads_more, reads_fault, reads_all}
use Rattle.bench_file.proofs.read.read_lines.Goals as goal

pub loop-line-preserved : goal.loop-line-preserved
loop-line-preserved c =
    reads_more c.args.bytes.now c.loop-line.rest.now c.in-Some.line.now c.in-Some.behind.now c.loop-line.draft c.add.new.self c.loop-line.number c.loop-line.invariant c.in-Some.ensures.line
    c.in-Some.ensures.shorter c.in-Ok.ensures

pub returns-in-Err-Rule-clause-fault : goal.returns-in-Err-Rule-clause-fault
returns-in-Err-Rule-clause-fault c =
    reads_fault c.args.bytes.now c.loop-line.rest.now c.in-Some.line.now c.in-Some.behind.now c.loop-line.draft c.loop-line.number c.loop-line.invariant c.in-Some.ensures.line
    (rw c.in-Err-Rule.field-0-is at c.in-Err-Rule.ensures)

pub returns-clause-ok : goal.returns-clause-ok
returns-clause-ok c = reads_all c.args.bytes.now c.loop-line.rest.now c.loop-line.draft c.loop-line.number c.loop-line.invariant (c.in_default.ensures.none.0 (search rules))
