use Rattle.std.proofs.Common.{ℕ, sym, subst}
use mathlib.Core.Option.{none}
use Rattle.atomic_table.specs.Table.{step, Allows}
use Rattle.region_store.specs.Rule.{Kept}
use Rattle.region_store.proofs.LoaderLaws.{sees_pin}
use Rattle.region_store.specs.Steps.{LoaderLoads, saw_pin, pin_shown}
use Rattle.region_store.proofs.steps.load_pin.Goals as goal

pub load-requires : goal.load-requires
load-requires g c =
    let seat = c.args.seat.now in
    let table = c.args.table.now.shared in (
      c.requires.on.own,
      c.requires.inside,
      subst (λ (r : ℕ). Allows (Kept table.key.shape table.key.first.value.items) table.table_id.slots seat.id seat.me c.args.word (λ (n : ℕ). n) (LoaderLoads (saw_pin r) (pin_shown r) (step table.table_id.slots c.args.word 0 0 none) seat.me))
          (sym c.requires.said) (sees_pin c.the_rule_holds_in_every_schedule.ensures.every table.key.shape table.key.first.value.items table.table_id.slots seat.id c.args.word c.args.region c.requires.may.0 c.requires.may.1.0 seat.me c.requires.may.1.1),
    )
