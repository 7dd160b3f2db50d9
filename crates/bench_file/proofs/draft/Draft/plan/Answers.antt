use Rattle.std.proofs.Common.{refl, sym, ◌∙◌, ap, arith, rules}
use Rattle.bench_file.proofs.DraftLaws.{no_bus_planned, many_planned, planned_by, each_number}
use Rattle.bench_file.proofs.draft.Draft.plan.Goals as goal
use Rattle.bench_file.proofs.draft.Draft.plan.Goals.{then-is_empty-via-then-is_empty, then-is_empty-via-else-is_empty+then-items-gt-MOST_ITEMS}

pub returns-then-is_empty : goal.returns-then-is_empty
returns-then-is_empty c = λ bytes short d.
    elim c.then-is_empty.branch [
      | then-is_empty-via-then-is_empty w ↦ no_bus_planned c.args.self bytes short d (search rules)
      | then-is_empty-via-else-is_empty+then-items-gt-MOST_ITEMS w ↦ many_planned c.args.self bytes c.number-ring.result c.saturating_mul-items.result short d c.number-ring.ensures (search rules) (search rules)
    ]

pub returns : goal.returns
returns c = λ bytes short d.
    planned_by c.args.self bytes _ c.saturating_mul-items.result short d
    (each_number _ c.args.self.numbers c.number.ensures c.number-2.ensures c.number-ring.ensures c.number-3.ensures c.number-4.ensures c.number-5.ensures) c.of.ensures (search rules) (search rules) (search rules)
