use Rattle.std.proofs.Common.{sym, subst}
use Rattle.region_store.specs.declared.view.View.{View}
use Rattle.region_store.specs.May.{MayPublish}
use Rattle.region_store.proofs.PublishLaws.{image_low, may_publish}
use Rattle.region_store.proofs.store.Store.write_out.Goals as goal

pub store_published-requires-clause-may : goal.store_published-requires-clause-may
store_published-requires-clause-may g c =
    let v : View = c.args.seat.now.me.0 in
    let some = image_low _ c.args.image.now c.requires.image in
    let may = may_publish c.args.region c.args.version _ c.args.image.now v c.requires.rests some c.write_image.new.seat.me.0 c.write_image.ensures.written c.requires.more in
    (c.args.region, subst (λ n. MayPublish n c.args.region c.write_image.new.seat.me.0) (sym c.pack.ensures) may)
