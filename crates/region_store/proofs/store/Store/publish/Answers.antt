use Rattle.std.proofs.Common.{ap, arith}
use Rattle.region_store.specs.declared.view.View.{View}
use Rattle.region_store.proofs.PublishLaws.{begins_still}
use Rattle.region_store.proofs.store.Store.publish.Goals as goal

pub returns-in-Ok-clause-own : goal.returns-in-Ok-clause-own
returns-in-Ok-clause-own c =
    let own = c.requires.own in
    let looked = c.in-Ok.ensures.found.1.looked in
    record {
      on = c.write_out.ensures.on;
      low = omega (arith, own.low, c.if-seat-self.false);
      begins = begins_still _ _ _ _ _ (ap (λ (x : View). x.loader.images) looked.same) (ap (λ (x : View). x.loader.images) c.write_out.ensures.written) own.begins;
    }
