-- A step that may be taken names a lane and a region that are there.
use Rattle.std.proofs.Common.{Some, None, arith}
use Rattle.epoch_core.specs.declared.lane.LaneState.TheVariants.{Idle, Loaded, Pinned, Holding}
use Rattle.epoch_core.specs.declared.step.Step.{Step}
use Rattle.epoch_core.specs.declared.step.Step.TheVariants.{L1, L2, L3, L4, L5, W1, W2, W3, W4, S, J}
use Rattle.epoch_core.specs.Machine.{Machine}
use Rattle.epoch_core.specs.Steps.{May, NamesWhatIsThere}
use Rattle.epoch_core.specs.Rule.{RegionRule}
use Rattle.epoch_core.proofs.ListLaws.{is_within}

pub in_range : (m : Machine) (step : Step) → RegionRule m → May m step → NamesWhatIsThere m step
in_range m (L1 lane) rule may = may.0
in_range m (L2 lane) rule may = is_within m.lanes lane (Loaded may.0) Idle may.1 (λ e. cc e)
in_range m (L3 lane) rule may = is_within m.lanes lane (Pinned may.0) Idle may.1 (λ e. cc e)
in_range m (L4 lane place) rule may = is_within m.lanes lane (Holding may.0 may.1.0 may.1.1.0) Idle may.1.1.1.0 (λ e. cc e)
in_range m (L5 lane) rule may = is_within m.lanes lane (Holding may.0 may.1.0 may.1.1.0) Idle may.1.1.1 (λ e. cc e)
in_range m (W1 region place word) rule may = may.0
in_range m (W2 region size) rule may = may.0
in_range m W3 rule may = tt
in_range m (W4 region lane) rule may =
    let within = is_within m.retired region (Some may.1.0) None may.1.1 (λ e. cc e) in
    (omega (arith, within, rule.well_formed.retired), may.0)
in_range m S rule may = tt
in_range m (J lane) rule may = may.0
