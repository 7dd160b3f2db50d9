use Rattle.std.proofs.Common.{sym, ap, ◌∙◌, subst}
use Rattle.region_store.specs.declared.view.View.{View}
use Rattle.region_store.specs.Store.{Place, IsGathered}
use Rattle.region_store.proofs.StoreLaws.{closes}
use Rattle.region_store.proofs.store.Store.gather.Goals as goal

pub returns-clause-gathered : goal.returns-clause-gathered
returns-clause-gathered c =
    let key = c.args.self.table.shared.key in
    let seat : Place = c.join_lanes.new.seat in
    let loader = ap (λ (v : View). v.is_loader) c.join_lanes.ensures.joined ∙ c.args.loader.rests.is_loader in
    subst (λ (p : Place). IsGathered key.first.value.items p.me.0.loader) (sym c.of-kept.ensures)
    (closes key.shape key.first.value.items c.the_rule_holds_in_every_schedule.ensures.every seat.id seat.me.0 _ _ c.close_with-closed.ensures.values.2 loader)
