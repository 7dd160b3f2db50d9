use Rattle.std.proofs.Common.{refl, sym, ◌∙◌, ap, arith, rules}
use Rattle.bench_file.specs.ReadingView.{bus_view}
use Rattle.bench_file.proofs.DraftLaws.{refuse_full, refuse_named, draft_bus}
use Rattle.bench_file.proofs.RuleLaws.{is_named}
use Rattle.bench_file.proofs.draft.Draft.add_bus.Goals as goal
use Rattle.bench_file.proofs.draft.Draft.add_bus.Goals.{then-len-ge-MOST_BUSES-via-then-len-ge-MOST_BUSES, then-len-ge-MOST_BUSES-via-else-len-ge-MOST_BUSES+then-has_name}

pub returns-then-len-ge-MOST_BUSES : goal.returns-then-len-ge-MOST_BUSES
returns-then-len-ge-MOST_BUSES c = λ lines d.
    elim c.then-len-ge-MOST_BUSES.branch [
      | then-len-ge-MOST_BUSES-via-then-len-ge-MOST_BUSES w ↦ refuse_full c.args.self.now lines (bus_view c.args.bus) (search rules) d
      | then-len-ge-MOST_BUSES-via-else-len-ge-MOST_BUSES+then-has_name w ↦ refuse_named c.args.self.now lines (bus_view c.args.bus) (search rules) d
    ]

pub returns : goal.returns
returns c = λ lines. draft_bus c.args.self.now _ lines (bus_view c.args.bus) (search rules) (search rules) (search rules) refl
