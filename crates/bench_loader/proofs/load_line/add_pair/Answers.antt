use Rattle.std.proofs.Common.{rules}
use Rattle.bench_loader.specs.declared.load_line.Pair.{Pair}
use Rattle.bench_loader.proofs.LineLaws.{breaks_few, breaks_bus, added}
use Rattle.bench_loader.proofs.load_line.add_pair.Goals as goal
use Rattle.bench_loader.proofs.load_line.add_pair.Goals.{then-len-ge-MOST_PAIRS-via-then-len-ge-MOST_PAIRS, then-len-ge-MOST_PAIRS-via-else-len-ge-MOST_PAIRS+then-names_bus}

pub returns-then-len-ge-MOST_PAIRS : goal.returns-then-len-ge-MOST_PAIRS
returns-then-len-ge-MOST_PAIRS c = λ more.
    let p : Pair = record { bus = c.args.bus.now; file = c.args.file.now } in
    elim c.then-len-ge-MOST_PAIRS.branch [
      | then-len-ge-MOST_PAIRS-via-then-len-ge-MOST_PAIRS w ↦ breaks_few c.args.pairs.now.items more p (search rules)
      | then-len-ge-MOST_PAIRS-via-else-len-ge-MOST_PAIRS+then-names_bus w ↦ breaks_bus c.args.pairs.now.items more p (search rules)
    ]

pub returns : goal.returns
returns c = λ k.
    added c.args.pairs.now.items _ c.args.bus.now c.args.file.now c.in_ok-of.field-0 c.in-Some.file.now c.in_ok-of-2.field-0 (search rules) (search rules)
    c.in-Some.ensures c.in_ok-of.ensures.ok c.in_ok-of-2.ensures c.in_ok-push.ensures.items k
