-- Of two ends that have met: what was put is made of groups, what was given in each turn is a part of that turn's
-- group, and the numbers of the records rise.
use Rattle.std.proofs.Common.{◌≡◌, ℕ, ◌<◌, List, AllPairs, sym, ◌∙◌, subst}
use Rattle.bench_model.specs.declared.reading.Item.{Item}
use Rattle.gap_ring.specs.declared.view.Putting.{Putting}
use Rattle.gap_ring.specs.declared.view.Taking.{Taking}
use Rattle.gap_ring.specs.Offers.{put_of}
use Rattle.gap_ring.specs.Tiles.{numbers_read}
use Rattle.gap_ring.specs.Groups.{AreGroups}
use Rattle.gap_ring.specs.Turns.{AreTurns}
use Rattle.gap_ring.specs.Steps.{HaveMet}
use Rattle.gap_ring.proofs.GroupLaws.{put_in_groups}
use Rattle.gap_ring.proofs.PrefixLaws.{part_given}
use Rattle.gap_ring.proofs.ReadingLaws.{records_rise}

pub met_turns : (bus slots : ℕ) (p : Putting) (t : Taking) → HaveMet bus slots p t → p.put ≡ put_of p.offers
    → AreTurns bus p.offers p.put t.taken
met_turns bus slots p t met put =
    let groups = put_in_groups bus slots p.offers met.offered in
    let rise = records_rise bus slots p.offers met.offered in
    record {
      groups = groups.0;
      grouped = subst (λ (items : List Item). AreGroups bus p.offers items groups.0) (sym put) groups.1;
      given_part = λ turn. part_given bus t.attach turn p.offers t.taken met.waiting groups.0 met.words groups.1 (sym put ∙ met.split);
      numbers_rise = subst (λ (items : List Item). AllPairs (λ a b. a < b) (numbers_read items)) (sym put) rise.0;
    }
