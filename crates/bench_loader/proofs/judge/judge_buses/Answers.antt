use Rattle.bench_loader.proofs.JudgeLaws.{judged_refuses, judged_more, judged_all}
use Rattle.bench_loader.proofs.judge.judge_buses.Goals as goal

pub returns-in-Err : goal.returns-in-Err
returns-in-Err c =
    rw c.refusal_of_bus.ensures (judged_refuses c.args.buses.now c.args.files.now c.loop-i.i c.index-buses-i.result c.index-files-i.result c.loop-i.judged.items c.in-Err.refused c.requires.files
    c.loop-i-test.true c.index-buses-i.is c.index-files-i.is c.loop-i.invariant c.in-Err.ensures)

pub loop-i-preserved : goal.loop-i-preserved
loop-i-preserved c =
    judged_more c.args.buses.now c.args.files.now c.loop-i.i c.index-buses-i.result c.index-files-i.result c.loop-i.judged.items c.push.new.self.items c.in-Ok.bus c.requires.files
    c.loop-i-test.true c.index-buses-i.is c.index-files-i.is c.loop-i.invariant c.in-Ok.ensures c.in_ok-push-in-Ok.ensures.items

pub returns : goal.returns
returns c = rw c.of.ensures (judged_all c.args.buses.now c.args.files.now c.loop-i.i c.loop-i.judged.items c.requires.files c.loop-i-test.false c.loop-i.invariant)
