use Rattle.bench_loader.specs.Targets.{IsTarget}
use Rattle.bench_loader.proofs.ZipLaws.{all_more, all_whole}
use Rattle.bench_loader.proofs.StageLaws.{no_bus}
use Rattle.bench_loader.proofs.targets.find_targets.Goals as goal

pub returns-in-None : goal.returns-in-None
returns-in-None c =
    no_bus c.args.buses.now c.args.pairs.now c.loop-place.targets.items c.loop-place.place c.index-pairs-place.result c.in_ok-copy-in-None.field-0 c.loop-place-test.true c.index-pairs-place.is
    c.loop-place.invariant c.in-None.ensures c.in_ok-copy-in-None.ensures.ok

pub loop-place-preserved : goal.loop-place-preserved
loop-place-preserved c =
    all_more (IsTarget c.args.buses.now) c.args.pairs.now c.loop-place.targets.items c.push.new.self.items c.loop-place.place c.index-pairs-place.result c.in-Some.target
    c.loop-place-test.true c.index-pairs-place.is c.loop-place.invariant c.in-Some.ensures c.in_ok-push-in-Some.ensures.items

pub returns : goal.returns
returns c = all_whole (IsTarget c.args.buses.now) c.args.pairs.now c.loop-place.targets.items c.loop-place.place c.loop-place-test.false c.loop-place.invariant
