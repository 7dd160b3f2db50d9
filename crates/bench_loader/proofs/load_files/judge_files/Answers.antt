use Rattle.std.proofs.Common.{arith}
use Rattle.bench_loader.proofs.StageLaws.{change_stops, change_more, change_all}
use Rattle.bench_loader.proofs.load_files.judge_files.Goals as goal

pub returns-in-Err : goal.returns-in-Err
returns-in-Err c =
    rw c.refusal_of_bus.ensures (change_stops c.args.targets.now c.args.files.now c.loop-i.i c.target_at-target.result c.index-files-i.result c.loop-i.changes.items c.in-Err.refused c.requires
    (omega (arith, c.requires, c.loop-i-test.true)) (c.target_at-target.ensures c.target_at-target.result) c.index-files-i.is c.loop-i.invariant c.in-Err.ensures.judges)

pub loop-i-preserved : goal.loop-i-preserved
loop-i-preserved c =
    change_more c.args.targets.now c.args.files.now c.loop-i.i c.target_at-target.result c.index-files-i.result c.loop-i.changes.items c.push.new.self.items c.in-Ok.database c.requires
    (omega (arith, c.requires, c.loop-i-test.true)) (c.target_at-target.ensures c.target_at-target.result) c.index-files-i.is c.loop-i.invariant c.in-Ok.ensures.judges c.in_ok-push-in-Ok.ensures.items

pub returns : goal.returns
returns c = change_all c.args.targets.now c.args.files.now c.loop-i.i c.loop-i.changes.items c.requires (omega (arith, c.requires, c.loop-i-test.false)) c.loop-i.invariant
