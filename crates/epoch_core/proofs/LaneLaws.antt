-- Each step of a lane keeps the rule.
use Rattle.std.proofs.Common.{◌≡◌, ℕ, ◌+◌, ◌<◌, ◌≤◌, List, length, get_or, set, inl, inr, sym, subst, refl, ap, arith, ◌∙◌}
use Rattle.std.proofs.lemmas.Bool.Decides.{eqb_tells}
use Rattle.std.proofs.lemmas.Grind.{get_or-set_at}
use Rattle.std.proofs.lemmas.List.{get_or-set_other, length-set, set-get_or}
use Rattle.epoch_core.specs.declared.lane.LaneState.{LaneState}
use Rattle.epoch_core.specs.declared.lane.LaneState.TheVariants.{Idle, Loaded, Pinned, Holding}
use Rattle.epoch_core.specs.declared.step.Step.TheVariants.{L1, L2, L3, L5}
use Rattle.epoch_core.specs.Machine.{Machine, lane_state, pin_of, clearings}
use Rattle.epoch_core.specs.Steps.{May, after, loaded_epoch}
use Rattle.epoch_core.specs.Rule.{RegionRule, Announces, IsSafe}
use Rattle.epoch_core.proofs.ListLaws.{read_after_set, is_within, none_reads}

announced_after : (now : ℕ) (lanes : List LaneState) (pins : List ℕ) (lane other : ℕ) (state : LaneState) (pin : ℕ) →
    lane < length lanes → lane < length pins → Announces now state pin → Announces now (get_or lanes other Idle) (get_or pins other 0) →
    Announces now (get_or (set lanes lane state) other Idle) (get_or (set pins lane pin) other 0)
announced_after now lanes pins lane other state pin in_lanes in_pins new old =
    elim (eqb_tells other lane) as (λ _. Announces now (get_or (set lanes lane state) other Idle) (get_or (set pins lane pin) other 0)) [
      | inl e ↦
          let P : LaneState → Type 0 = λ s. Announces now s (get_or (set pins lane pin) other 0) in
          let Q : ℕ → Type 0 = λ p. Announces now state p in
          subst P (sym (get_or-set_at lanes lane other state Idle e.1 in_lanes)) (subst Q (sym (get_or-set_at pins lane other pin 0 e.1 in_pins)) new)
      | inr e ↦
          let P : LaneState → Type 0 = λ s. Announces now s (get_or (set pins lane pin) other 0) in
          let Q : ℕ → Type 0 = λ p. Announces now (get_or lanes other Idle) p in
          subst P (sym (get_or-set_other lanes lane other state Idle e.1)) (subst Q (sym (get_or-set_other pins lane other pin 0 e.1)) old)
    ]

-- a lane's state and pin are replaced by others that the rule allows
lane_kept : (m : Machine) (lane : ℕ) (state : LaneState) (pin : ℕ) → lane < length m.lanes → RegionRule m → Announces m.epoch state pin →
    ((epoch version region : ℕ) → state ≡ Holding epoch version region → IsSafe m lane epoch version region) →
    RegionRule (record m { pins = set m.pins lane pin; lanes = set m.lanes lane state })
lane_kept m lane state pin within rule announces safe = record {
  well_formed = record {
    published = rule.well_formed.published;
    version = rule.well_formed.version;
    pins = length-set m.pins lane pin ∙ rule.well_formed.pins ∙ sym (length-set m.lanes lane state);
    retired = rule.well_formed.retired;
    cleared = rule.well_formed.cleared;
    by_lane = λ region d here. rule.well_formed.by_lane region d here ∙ sym (length-set m.lanes lane state);
  };
  published = rule.published;
  epoch = rule.epoch;
  pins = λ other. announced_after m.epoch m.lanes m.pins lane other state pin within (omega (arith, rule.well_formed.pins)) announces (rule.pins other);
  spare = rule.spare;
  held = λ other epoch version region holds.
      let P : LaneState → Type 0 = λ s. s ≡ Holding epoch version region → IsSafe m other epoch version region in
      let Q : ℕ → Type 0 = λ l. IsSafe m l epoch version region in
      read_after_set P m.lanes lane other state Idle within
      (λ same is. subst Q (sym same) (safe epoch version region is)) (λ _. rule.held other epoch version region) holds;
  written = rule.written;
}

-- the same where the pin stays
state_kept : (m : Machine) (lane : ℕ) (state : LaneState) → lane < length m.lanes → RegionRule m → Announces m.epoch state (pin_of m lane) →
    ((epoch version region : ℕ) → state ≡ Holding epoch version region → IsSafe m lane epoch version region) →
    RegionRule (record m { lanes = set m.lanes lane state })
state_kept m lane state within rule announces safe =
    let P : List ℕ → Type 0 = λ pins. RegionRule (record m { pins = pins; lanes = set m.lanes lane state }) in
    subst P (set-get_or m.pins lane 0) (lane_kept m lane state (pin_of m lane) within rule announces safe)

loaded_before : (now : ℕ) (state : LaneState) (pin : ℕ) → Announces now state pin → loaded_epoch state ≤ now
loaded_before now Idle pin a = omega arith
loaded_before now (Loaded epoch) pin a = a.1
loaded_before now (Pinned epoch) pin a = a.1
loaded_before now (Holding epoch version region) pin a = a.1

-- what a lane announces, where its state is known
pub announces_as : (m : Machine) (lane : ℕ) (state : LaneState) → RegionRule m → lane_state m lane ≡ state → Announces m.epoch state (pin_of m lane)
announces_as m lane state rule is = let P : LaneState → Type 0 = λ s. Announces m.epoch s (pin_of m lane) in subst P is (rule.pins lane)

-- the epoch that a lane has loaded is none that is still to come
pub is_loaded : (m : Machine) (lane : ℕ) → RegionRule m → loaded_epoch (lane_state m lane) ≤ m.epoch
is_loaded m lane rule = loaded_before m.epoch (lane_state m lane) (pin_of m lane) (rule.pins lane)

pub load_epoch_kept : (m : Machine) (lane : ℕ) → May m (L1 lane) → RegionRule m → RegionRule (after m (L1 lane))
load_epoch_kept m lane may rule =
    state_kept m lane (Loaded m.epoch) may.0 rule (announces_as m lane Idle rule may.1, omega arith) (λ epoch version region is. absurd (cc is))

pub store_pin_kept : (m : Machine) (lane : ℕ) → May m (L2 lane) → RegionRule m → RegionRule (after m (L2 lane))
store_pin_kept m lane may rule =
    lane_kept m lane (Pinned (loaded_epoch (lane_state m lane))) (loaded_epoch (lane_state m lane) + 1)
    (is_within m.lanes lane (Loaded may.0) Idle may.1 (λ e. cc e)) rule
    (refl, is_loaded m lane rule) (λ epoch version region is. absurd (cc is))

-- a lane that takes hold of the published region does so safely
holds_published : (m : Machine) (lane seen epoch version region : ℕ) → RegionRule m →
    Holding seen m.version m.region ≡ Holding epoch version region → IsSafe m lane epoch version region
holds_published m lane seen epoch version region rule is =
    let e : m.version ≡ version = cc is in
    let f : m.region ≡ region = cc is in
    let safe : IsSafe m lane epoch m.version m.region =
    (omega arith, rule.well_formed.published, rule.published.1, inl refl, none_reads (clearings m m.region) lane rule.published.3) in
    let P : ℕ → Type 0 = λ v. IsSafe m lane epoch v m.region in
    let Q : ℕ → Type 0 = λ r. IsSafe m lane epoch version r in
    subst Q f (subst P e safe)

pub take_hold_kept : (m : Machine) (lane : ℕ) → May m (L3 lane) → RegionRule m → RegionRule (after m (L3 lane))
take_hold_kept m lane may rule =
    let pinned = announces_as m lane (Pinned may.0) rule may.1 in
    let P : ℕ → Type 0 = λ e. (pin_of m lane ≡ e + 1) × (e ≤ m.epoch) in
    state_kept m lane (Holding (loaded_epoch (lane_state m lane)) m.version m.region)
    (is_within m.lanes lane (Pinned may.0) Idle may.1 (λ e. cc e)) rule
    (subst P (sym (ap loaded_epoch may.1)) pinned)
    (λ epoch version region is. holds_published m lane (loaded_epoch (lane_state m lane)) epoch version region rule is)

pub let_go_kept : (m : Machine) (lane : ℕ) → May m (L5 lane) → RegionRule m → RegionRule (after m (L5 lane))
let_go_kept m lane may rule =
    lane_kept m lane Idle 0 (is_within m.lanes lane (Holding may.0 may.1.0 may.1.1.0) Idle may.1.1.1 (λ e. cc e)) rule
    refl (λ epoch version region is. absurd (cc is))
