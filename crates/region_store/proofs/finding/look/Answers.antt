use Rattle.std.proofs.Common.{[], refl, sym, ◌∙◌, subst, inl, arith}
use Rattle.region_store.specs.declared.view.View.{View}
use Rattle.region_store.specs.Publishing.{Looked}
use Rattle.region_store.proofs.LookLaws.{looked_none, loads_none}
use Rattle.region_store.proofs.finding.look.Goals as goal

pub returns-in-None-clause-found : goal.returns-in-None-clause-found
returns-in-None-clause-found g c =
    let v : View = c.args.seat.now.me.0 in
    let never = sym c.requires.retired ∙ c.in-None.is in
    record {
      pins = [];
      few = omega arith;
      looked = subst (λ l. Looked l v v) (sym loads_none) (looked_none v);
      answer = (inl (never, refl), inl never);
    }
