-- Words of a store lie apart, and the parts of the published word are read back.
use Rattle.std.proofs.Common.{◌≡◌, ℕ, ◌+◌, ◌-◌, ◌*◌, ◌<◌, ◌≤◌, arith}
use Rattle.std.proofs.lemmas.Nat.{mul-le, same_from_place, mul-add-lt}
use Rattle.region_store.specs.Layout.{pin_place, lane_at, place_of, word_count, first_region}
use Rattle.region_store.specs.Layout.{packed, version_in, region_in, size_in}

-- a word of a region is none of the other words
pub place_high : (room region at : ℕ) → first_region ≤ place_of room region at
unfolding place_of
place_high room region at = omega arith

-- it is one of the store
pub place_low : (regions room region at : ℕ) → region < regions → at < room → place_of room region at < word_count regions room
unfolding place_of word_count
place_low regions room region at there within =
    let e : region * room + at < room * regions = mul-add-lt region room at regions there within in
    let f : room * regions ≡ regions * room = omega arith in
    omega (arith, e, f)

pub count_high : (regions room : ℕ) → first_region ≤ word_count regions room
unfolding word_count
count_high regions room = omega arith

-- words of two regions, or at two places of one, are apart
pub places_apart : (room region at other there : ℕ) → at < room → there < room → place_of room region at ≡ place_of room other there → (region ≡ other) × (at ≡ there)
unfolding place_of
places_apart room region at other there within below same =
    let e : region * room + at ≡ other * room + there = omega (arith, same) in
    same_from_place region at other there room within below e

-- the place in its region is read back
pub place_back : (room region at : ℕ) → place_of room region at - place_of room region 0 ≡ at
unfolding place_of
place_back room region at = omega arith

pub place_more : (room region at : ℕ) → place_of room region 0 + at ≡ place_of room region at
unfolding place_of
place_more room region at = omega arith

-- a pin is none of the words of the regions, and its lane is read back
pub pin_low : (lane : ℕ) → lane < 16 → pin_place lane < first_region
pin_low lane few = omega (arith, few)

pub lane_back : (lane : ℕ) → lane_at (pin_place lane) ≡ lane
lane_back lane = omega arith

module _ (version region size : ℕ) (r : region < 256) (s : size < 16777216) where
  pub version_back : version_in (packed version region size) ≡ version
  version_back = omega (arith, r, s)

  pub region_back : region_in (packed version region size) ≡ region
  region_back = omega (arith, r, s)

  pub size_back : size_in (packed version region size) ≡ size
  size_back = omega (arith, r, s)

-- a store has few words
pub count_low : (regions room : ℕ) → regions ≤ 8 → room ≤ 1048576 → word_count regions room ≤ 8388896
unfolding word_count
count_low regions room few small = omega (arith, mul-le regions room 8 1048576 few small)
