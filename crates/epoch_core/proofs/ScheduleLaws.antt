-- After every list of allowed steps the rule holds, versions have not gone down and what a lane holds is whole.
use Rattle.std.proofs.Common.{◌≡◌, ℕ, ◌<◌, ◌≤◌, List, [], ◌∷◌, length, take, get_or, set, sym, subst, refl, arith, ◌∙◌}
use Rattle.std.proofs.lemmas.List.{get_or_append_left, get_or-set_other}
use Rattle.epoch_core.specs.declared.lane.LaneState.{LaneState}
use Rattle.epoch_core.specs.declared.lane.LaneState.TheVariants.{Idle, Loaded, Pinned, Holding}
use Rattle.epoch_core.specs.declared.step.Step.{Step}
use Rattle.epoch_core.specs.declared.step.Step.TheVariants.{L1, L2, L3, L4, L5, W1, W2, W3, W4, S, J}
use Rattle.epoch_core.specs.Machine.{Machine, first, lane_state, words_of, image_of}
use Rattle.epoch_core.specs.Steps.{Holds, HoldsNothing, May, after, stored, loaded_epoch}
use Rattle.epoch_core.specs.Rule.{RegionRule, BeginsWith}
use Rattle.epoch_core.specs.Runs.{run, AreAllowed, IsReached}
use Rattle.epoch_core.proofs.ListLaws.{read_after_set, is_within}
use Rattle.epoch_core.proofs.LaneLaws.{load_epoch_kept, store_pin_kept, take_hold_kept, let_go_kept}
use Rattle.epoch_core.proofs.LoaderLaws.{store_word_kept, publish_kept, store_epoch_kept, load_pin_kept, is_not_held}
use Rattle.epoch_core.proofs.FirstLaws.{first_kept}

-- each step keeps the rule
pub kept : (m : Machine) (step : Step) → May m step → RegionRule m → RegionRule (after m step)
kept m (L1 lane) may rule = load_epoch_kept m lane may rule
kept m (L2 lane) may rule = store_pin_kept m lane may rule
kept m (L3 lane) may rule = take_hold_kept m lane may rule
kept m (L4 lane place) may rule = rule
kept m (L5 lane) may rule = let_go_kept m lane may rule
kept m (W1 region place word) may rule = store_word_kept m region place word may rule
kept m (W2 region size) may rule = publish_kept m region size may rule
kept m W3 may rule = store_epoch_kept m may rule
kept m (W4 region lane) may rule = load_pin_kept m region lane may rule
kept m S may rule = rule
kept m (J lane) may rule = rule

pub all_kept : (m : Machine) (steps : List Step) → AreAllowed m steps → RegionRule m → RegionRule (run m steps)
all_kept m [] allowed rule = rule
all_kept m (step ∷ steps) allowed rule = all_kept (after m step) steps allowed.1 (kept m step allowed.0 rule)

-- a state that a schedule reaches keeps the rule
pub reached_kept : (m : Machine) → IsReached m → RegionRule m
reached_kept m reached =
    subst RegionRule (sym reached.is)
    (all_kept (first reached.region_count reached.lane_count reached.image) reached.steps reached.allowed
    (first_kept reached.region_count reached.lane_count reached.image reached.limits))

-- the version after a step
version_grows : (m : Machine) (step : Step) → m.version ≤ (after m step).version
version_grows m (L1 lane) = omega arith
version_grows m (L2 lane) = omega arith
version_grows m (L3 lane) = omega arith
version_grows m (L4 lane place) = omega arith
version_grows m (L5 lane) = omega arith
version_grows m (W1 region place word) = omega arith
version_grows m (W2 region size) = omega arith
version_grows m W3 = omega arith
version_grows m (W4 region lane) = omega arith
version_grows m S = omega arith
version_grows m (J lane) = omega arith

pub versions_grow : (m : Machine) (steps : List Step) → m.version ≤ (run m steps).version
versions_grow m [] = omega arith
versions_grow m (step ∷ steps) = omega (arith, version_grows m step, versions_grow (after m step) steps)

-- an image that was published stays the same
image_stays : (m : Machine) (step : Step) (version : ℕ) → RegionRule m → version ≤ m.version → image_of (after m step) version ≡ image_of m version
image_stays m (L1 lane) version rule h = refl
image_stays m (L2 lane) version rule h = refl
image_stays m (L3 lane) version rule h = refl
image_stays m (L4 lane place) version rule h = refl
image_stays m (L5 lane) version rule h = refl
image_stays m (W1 region place word) version rule h = refl
image_stays m (W2 region size) version rule h =
    get_or_append_left m.images (take size (words_of m region) ∷ []) [] version (omega (arith, rule.published.0))
image_stays m W3 version rule h = refl
image_stays m (W4 region lane) version rule h = refl
image_stays m S version rule h = refl
image_stays m (J lane) version rule h = refl

pub images_stay : (m : Machine) (steps : List Step) (version : ℕ) → RegionRule m → AreAllowed m steps → version ≤ m.version →
    image_of (run m steps) version ≡ image_of m version
images_stay m [] version rule allowed h = refl
images_stay m (step ∷ steps) version rule allowed h =
    images_stay (after m step) steps version (kept m step allowed.0 rule) allowed.1 (omega (arith, version_grows m step))
    ∙ image_stays m step version rule h

-- a region that is held begins with the image that the version had when the lane held it before
pub held_whole : (m : Machine) (steps : List Step) (lane epoch version region : ℕ) → RegionRule m → AreAllowed m steps →
    Holds m lane epoch version region → Holds (run m steps) lane epoch version region → BeginsWith (words_of (run m steps) region) (image_of m version)
held_whole m steps lane epoch version region rule allowed before holds =
    let later = all_kept m steps allowed rule in
    let safe = later.held lane epoch version region holds in
    let old = rule.held lane epoch version region before in
    let P : List ℕ → Type 0 = λ i. BeginsWith (words_of (run m steps) region) i in
    subst P (images_stay m steps version rule allowed old.0) safe.2

-- no word of a held region may be stored
pub held_not_stored : (m : Machine) (lane epoch version region place word : ℕ) → RegionRule m → Holds m lane epoch version region → ¬ May m (W1 region place word)
held_not_stored m lane epoch version region place word rule holds may =
    is_not_held m region lane epoch version region rule may.0 may.2 holds refl

-- each step leaves the words of a held region as they are
pub held_words_stay : (m : Machine) (step : Step) (lane epoch version region : ℕ) → RegionRule m → Holds m lane epoch version region → May m step →
    words_of (after m step) region ≡ words_of m region
held_words_stay m (L1 other) lane epoch version region rule holds may = refl
held_words_stay m (L2 other) lane epoch version region rule holds may = refl
held_words_stay m (L3 other) lane epoch version region rule holds may = refl
held_words_stay m (L4 other place) lane epoch version region rule holds may = refl
held_words_stay m (L5 other) lane epoch version region rule holds may = refl
held_words_stay m (W1 written place word) lane epoch version region rule holds may =
    get_or-set_other m.regions written region (stored (words_of m written) place word) []
    (is_not_held m written lane epoch version region rule may.0 may.2 holds)
held_words_stay m (W2 other size) lane epoch version region rule holds may = refl
held_words_stay m W3 lane epoch version region rule holds may = refl
held_words_stay m (W4 other cleared) lane epoch version region rule holds may = refl
held_words_stay m S lane epoch version region rule holds may = refl
held_words_stay m (J other) lane epoch version region rule holds may = refl

-- the published version, and the one that the lane may hold, is this one or a later one
abbrev IsFrom : Machine → ℕ → ℕ → Type 0
IsFrom m lane version = (version ≤ m.version) × ((epoch held region : ℕ) → Holds m lane epoch held region → version ≤ held)

-- a lane's state is replaced by one that holds no older version
lanes_from : (lanes : List LaneState) (changed lane version : ℕ) (state : LaneState) → changed < length lanes →
    ((epoch held region : ℕ) → state ≡ Holding epoch held region → version ≤ held) →
    ((epoch held region : ℕ) → get_or lanes lane Idle ≡ Holding epoch held region → version ≤ held) →
    (epoch held region : ℕ) → get_or (set lanes changed state) lane Idle ≡ Holding epoch held region → version ≤ held
lanes_from lanes changed lane version state within new old epoch held region holds =
    let P : LaneState → Type 0 = λ s. s ≡ Holding epoch held region → version ≤ held in
    read_after_set P lanes changed lane state Idle within (λ _. new epoch held region) (λ _. old epoch held region) holds

from_step : (m : Machine) (step : Step) (lane version : ℕ) → May m step → IsFrom m lane version → IsFrom (after m step) lane version
from_step m (L1 changed) lane version may from =
    (from.0, lanes_from m.lanes changed lane version (Loaded m.epoch) may.0 (λ epoch held region is. absurd (cc is)) from.1)
from_step m (L2 changed) lane version may from = (
  from.0,
  lanes_from m.lanes changed lane version (Pinned (loaded_epoch (lane_state m changed)))
      (is_within m.lanes changed (Loaded may.0) Idle may.1 (λ e. cc e)) (λ epoch held region is. absurd (cc is)) from.1,
)
from_step m (L3 changed) lane version may from = (
  from.0,
  lanes_from m.lanes changed lane version (Holding (loaded_epoch (lane_state m changed)) m.version m.region)
      (is_within m.lanes changed (Pinned may.0) Idle may.1 (λ e. cc e))
      (λ epoch held region is. let e : m.version ≡ held = cc is in omega (arith, e, from.0)) from.1,
)
from_step m (L4 changed place) lane version may from = from
from_step m (L5 changed) lane version may from = (
  from.0,
  lanes_from m.lanes changed lane version Idle
      (is_within m.lanes changed (Holding may.0 may.1.0 may.1.1.0) Idle may.1.1.1 (λ e. cc e)) (λ epoch held region is. absurd (cc is)) from.1,
)
from_step m (W1 region place word) lane version may from = from
from_step m (W2 region size) lane version may from = (omega (arith, from.0), from.1)
from_step m W3 lane version may from = from
from_step m (W4 region changed) lane version may from = from
from_step m S lane version may from = from
from_step m (J changed) lane version may from = from

from_steps : (m : Machine) (steps : List Step) (lane version : ℕ) → AreAllowed m steps → IsFrom m lane version → IsFrom (run m steps) lane version
from_steps m [] lane version allowed from = from
from_steps m (step ∷ steps) lane version allowed from = from_steps (after m step) steps lane version allowed.1 (from_step m step lane version allowed.0 from)

-- what a lane holds later is no older version
pub never_back : (m : Machine) (steps : List Step) (lane epoch version region later held place : ℕ) → RegionRule m → AreAllowed m steps →
    Holds m lane epoch version region → Holds (run m steps) lane later held place → version ≤ held
never_back m steps lane epoch version region later held place rule allowed before holds =
    let safe = rule.held lane epoch version region before in
    let from : IsFrom m lane version =
    (safe.0, λ e v r is. let same : version ≡ v = cc (sym before ∙ is) in omega (arith, same)) in
    (from_steps m steps lane version allowed from).1 later held place holds

-- a lane that holds nothing takes hold of no version older than the published one
pub never_behind : (m : Machine) (steps : List Step) (lane epoch version region : ℕ) → AreAllowed m steps → HoldsNothing m lane →
    Holds (run m steps) lane epoch version region → m.version ≤ version
never_behind m steps lane epoch version region allowed nothing holds =
    let from : IsFrom m lane m.version = (omega arith, λ e v r is. absurd (nothing e v r is)) in
    (from_steps m steps lane m.version allowed from).1 epoch version region holds
