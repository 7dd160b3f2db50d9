use Rattle.std.proofs.Common.{ℕ, sym, subst}
use mathlib.Core.Option.{none}
use Rattle.atomic_table.specs.Table.{step, Allows}
use Rattle.region_store.specs.Rule.{Kept}
use Rattle.region_store.proofs.LoaderLaws.{stores_word}
use Rattle.region_store.specs.Steps.{LoaderStores, stored_word}
use Rattle.region_store.proofs.steps.store_word.Goals as goal

pub store-requires : goal.store-requires
store-requires g c =
    let seat = c.args.seat.now in
    let table = c.args.table.now.shared in (
      c.requires.on.own,
      c.requires.inside,
      subst (λ (r : ℕ). Allows (Kept table.key.shape table.key.first.value.items) table.table_id.slots seat.id seat.me c.args.word (λ _. c.args.value) (λ _. LoaderStores (stored_word r) (step table.table_id.slots c.args.word c.args.value 0 none) seat.me c.args.value))
          (sym c.requires.said) (stores_word c.the_rule_holds_in_every_schedule.ensures.every table.key.shape table.key.first.value.items table.table_id.slots seat.id c.args.word c.args.value c.args.region seat.me c.requires.may),
    )
