use Rattle.std.proofs.Common.{ℕ, sym, subst, arith}
use mathlib.Core.Option.{none}
use Rattle.atomic_table.specs.Table.{step, Allows}
use Rattle.region_store.specs.Rule.{Kept}
use Rattle.region_store.specs.Layout.{published_word}
use Rattle.region_store.proofs.LaneLaws.{sees_published}
use Rattle.region_store.proofs.PlaceLaws.{count_high}
use Rattle.region_store.specs.Steps.{LaneLoads, saw_published, published_shown}
use Rattle.region_store.proofs.steps.load_published.Goals as goal

pub load-requires : goal.load-requires
load-requires g c =
    let seat = c.args.seat.now in
    let table = c.args.table.now.shared in (
      c.requires.on.own,
      omega (arith, c.requires.on.wide, count_high table.key.shape.regions table.key.shape.room),
      subst (λ (l : ℕ). Allows (Kept table.key.shape table.key.first.value.items) table.table_id.slots seat.id seat.me published_word (λ (n : ℕ). n) (LaneLoads (saw_published l) (published_shown l) (step table.table_id.slots published_word 0 0 none) seat.me))
          (sym c.requires.said) (sees_published c.the_rule_holds_in_every_schedule.ensures.every table.key.shape table.key.first.value.items c.args.lines table.table_id.slots seat.id c.requires.may.0 seat.me c.requires.may.1),
    )
