use Rattle.bench_loader.proofs.StageLaws.{read_memory, read_stops, read_more}
use Rattle.bench_loader.proofs.load_files.read_files.Goals as goal

pub returns-in_err-push-in-Ok : goal.returns-in_err-push-in-Ok
returns-in_err-push-in-Ok g c =
    read_memory _ _ _ c.args.pairs.now c.args.targets.now c.loop-i.i c.index-pairs-i.result c.as_str.result.now c.loop-i.files.items c.in-Ok.file c.from_residual.result
    c.from_residual.ensures.1 c.loop-i-test.true c.index-pairs-i.is c.as_str.ensures c.loop-i.invariant c.in-Ok.ensures

pub returns-in-Err : goal.returns-in-Err
returns-in-Err g c =
    rw c.unread_of.ensures (read_stops _ _ _ c.args.pairs.now c.args.targets.now c.loop-i.i c.index-pairs-i.result c.target_at.result c.as_str.result.now c.loop-i.files.items c.in-Err.why
    c.requires c.loop-i-test.true c.index-pairs-i.is (c.target_at.ensures c.target_at.result) c.as_str.ensures c.loop-i.invariant c.in-Err.ensures)

pub loop-i-preserved : goal.loop-i-preserved
loop-i-preserved g c =
    read_more _ _ _ c.args.pairs.now c.loop-i.i c.index-pairs-i.result c.as_str.result.now c.loop-i.files.items c.push.new.self.items c.in-Ok.file
    c.loop-i-test.true c.index-pairs-i.is c.as_str.ensures c.loop-i.invariant c.in-Ok.ensures c.in_ok-push-in-Ok.ensures.items
