-- Where the words of a store lie. The published word, the epoch and the pins are 128 bytes apart, so that no
-- two share a cache line; the regions are behind them, one after another.
use Rattle.std.specs.Prelude.{ℕ, ◌+◌, ◌-◌, ◌*◌, ◌/◌, ◌%◌}

abbrev pub published_word : ℕ
published_word = 0

abbrev pub epoch_word : ℕ
epoch_word = 16

abbrev pub first_pin : ℕ
first_pin = 32

abbrev pub pin_stride : ℕ
pin_stride = 16

-- the pin of a lane
abbrev pub pin_place : ℕ → ℕ
pin_place lane = first_pin + pin_stride * lane

-- and the lane of a pin
abbrev pub lane_at : ℕ → ℕ
lane_at word = (word - first_pin) / pin_stride

-- the limits: regions, lanes, and words of a region
abbrev pub most_regions : ℕ
most_regions = 8

abbrev pub most_lanes : ℕ
most_lanes = 16

abbrev pub most_room : ℕ
most_room = 1048576

-- and lines of a pin
abbrev pub most_lines : ℕ
most_lines = 64

-- the first word of the first region, behind the pins of the most lanes
abbrev pub first_region : ℕ
first_region = 288

-- the word of a region at a place, where each region has so many words
unfoldable pub place_of : ℕ → ℕ → ℕ → ℕ
place_of room region at = first_region + region * room + at

-- how many words a store has
unfoldable pub word_count : ℕ → ℕ → ℕ
word_count regions room = first_region + regions * room

-- The published word: version, region and length of the image, of 32, 8 and 24 bits.
abbrev pub version_weight : ℕ
version_weight = 4294967296

abbrev pub region_weight : ℕ
region_weight = 16777216

abbrev pub region_span : ℕ
region_span = 256

abbrev pub packed : ℕ → ℕ → ℕ → ℕ
packed version region size = version * version_weight + region * region_weight + size

abbrev pub version_in : ℕ → ℕ
version_in n = n / version_weight

abbrev pub region_in : ℕ → ℕ
region_in n = n / region_weight % region_span

abbrev pub size_in : ℕ → ℕ
size_in n = n % region_weight
