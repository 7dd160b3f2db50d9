-- A search by halves in ascending words, and the position that it finds.
use Rattle.std.proofs.Common.{◌≡◌, ◌≢◌, ◌∙◌, ℕ, ◌+◌, ◌-◌, ◌*◌, ◌/◌, ◌%◌, ◌<◌, ◌≤◌, inl, inr, List, length, take, drop, get_or, ap, arith}
use Rattle.std.specs.Prelude.{slice_index, slice_range}
use Rattle.std.specs.List.Sorted.{IsNonDecreasing}
use Rattle.std.proofs.lemmas.Bool.{cases_lt}
use Rattle.std.proofs.lemmas.List.{get_or-take, get_or-drop, length-take, length-take-le, length-drop}
use Rattle.image_words.specs.Layout.{word}
use Rattle.image_words.specs.Index.{position_span}
use Rattle.image_words.specs.Found.{IsBetween, HasFirst, HasNone}

-- a word as an entry
entry_at : (image : List ℕ) (base count i w : ℕ) → i < count → word image (base + i) ≡ w → slice_index (slice_range image base (base + count)) i ≡ w
entry_at image base count i w h e =
    let long : base + count - base ≡ count = omega arith in
    ap (λ (n : ℕ). get_or (take n (drop base image)) i 0) long ∙ get_or-take count (drop base image) i 0 h ∙ get_or-drop base image i 0 ∙ e

pub entries_long : (image : List ℕ) (base count : ℕ) → base + count ≤ length image → length (slice_range image base (base + count)) ≡ count
entries_long image base count h =
    let long : base + count - base ≡ count = omega arith in
    let room : count ≤ length (drop base image) = omega (arith, h, length-drop base image) in
    ap (λ (n : ℕ). length (take n (drop base image))) long ∙ length-take-le count (drop base image) room

taken_short : (n : ℕ) (xs : List ℕ) → length (take n xs) ≤ n
taken_short n xs = omega (arith, length-take n xs)

pub entries_short : (image : List ℕ) (base count : ℕ) → length (slice_range image base (base + count)) ≤ count
entries_short image base count =
    let long : base + count - base ≡ count = omega arith in
    omega (arith, taken_short (base + count - base) (drop base image))

pub nothing_between : (image : List ℕ) (base count target : ℕ) → IsBetween (slice_range image base (base + count)) target 0 count
nothing_between image base count target = record {
  below = λ i a b. absurd (omega (arith, a));
  above = λ i a b. absurd (omega (arith, a, b, entries_short image base count));
}

more_below : (entries : List ℕ) (target low high middle w : ℕ) → IsNonDecreasing entries → IsBetween entries target low high → middle < length entries →
    slice_index entries middle ≡ w → w < target → IsBetween entries target (middle + 1) high
more_below entries target low high middle w up b h e less = record {
  below = λ i a k.
      let order : i ≤ middle = omega (arith, a) in
      let rises : slice_index entries i ≤ slice_index entries middle = up i middle 0 order h in
      omega (arith, rises, e, less);
  above = b.above;
}

more_above : (entries : List ℕ) (target low high middle w : ℕ) → IsNonDecreasing entries → IsBetween entries target low high →
    slice_index entries middle ≡ w → target ≤ w → IsBetween entries target low middle
more_above entries target low high middle w up b e most = record {
  below = b.below;
  above = λ i a k.
      let rises : slice_index entries middle ≤ slice_index entries i = up middle i 0 a k in
      omega (arith, rises, e, most);
}

pub step_below : (image : List ℕ) (base count target low high w : ℕ) → base + count ≤ length image → low < high → high ≤ count →
    IsNonDecreasing (slice_range image base (base + count)) → IsBetween (slice_range image base (base + count)) target low high →
    word image (base + (low + (high - low) / 2)) ≡ w → w < target → IsBetween (slice_range image base (base + count)) target (low + (high - low) / 2 + 1) high
step_below image base count target low high w room some within up b e less =
    let long = entries_long image base count room in
    let middle : low + (high - low) / 2 < count = omega arith in
    more_below (slice_range image base (base + count)) target low high (low + (high - low) / 2) w up b (omega (arith, long, middle))
    (entry_at image base count (low + (high - low) / 2) w middle e) less

pub step_above : (image : List ℕ) (base count target low high w : ℕ) → low < high → high ≤ count →
    IsNonDecreasing (slice_range image base (base + count)) → IsBetween (slice_range image base (base + count)) target low high →
    word image (base + (low + (high - low) / 2)) ≡ w → target ≤ w → IsBetween (slice_range image base (base + count)) target low (low + (high - low) / 2)
step_above image base count target low high w some within up b e most =
    let middle : low + (high - low) / 2 < count = omega arith in
    more_above (slice_range image base (base + count)) target low high (low + (high - low) / 2) w up b
    (entry_at image base count (low + (high - low) / 2) w middle e) most

-- ---- the position that is found

below_number : (x number : ℕ) → x < number * position_span → x / position_span ≢ number
below_number x number h e = omega (arith, h, e)

-- all entries are below the number
pub none_at_end : (image : List ℕ) (base count number low : ℕ) → IsBetween (slice_range image base (base + count)) (number * position_span) low low →
    low ≡ count → HasNone (slice_range image base (base + count)) number
none_at_end image base count number low b e j h =
    let order : j < low = omega (arith, h, e, entries_short image base count) in
    below_number _ number (b.below j order h)

-- the first entry that is not below is past the number
pub none_there : (image : List ℕ) (base count number low w : ℕ) → base + count ≤ length image → IsNonDecreasing (slice_range image base (base + count)) →
    IsBetween (slice_range image base (base + count)) (number * position_span) low low → low < count → word image (base + low) ≡ w → w / position_span ≢ number →
    HasNone (slice_range image base (base + count)) number
none_there image base count number low w room up b inside e other j h =
    let entries : List ℕ = slice_range image base (base + count) in
    let here : slice_index entries low ≡ w = entry_at image base count low w inside e in
    let there : low < length entries = omega (arith, inside, entries_long image base count room) in
    let same : low ≤ low = omega arith in
    let least : number * position_span ≤ slice_index entries low = b.above low same there in
    elim (cases_lt j low) [
      | inl less ↦ below_number _ number (b.below j less h)
      | inr most ↦ (λ equal.
          let rises : slice_index entries low ≤ slice_index entries j = up low j 0 most h in
          other (omega (arith, here, least, rises, equal)))
    ]

-- it is of the number
pub first_there : (image : List ℕ) (base count number low w : ℕ) → base + count ≤ length image → IsNonDecreasing (slice_range image base (base + count)) →
    IsBetween (slice_range image base (base + count)) (number * position_span) low low → low < count → word image (base + low) ≡ w → w / position_span ≡ number →
    HasFirst (slice_range image base (base + count)) number (w % position_span)
first_there image base count number low w room up b inside e same =
    let entries : List ℕ = slice_range image base (base + count) in
    let here : slice_index entries low ≡ w = entry_at image base count low w inside e in
    let there : low < length entries = omega (arith, inside, entries_long image base count room) in
    record {
      at = low;
      within = there;
      number_is = omega (arith, here, same);
      position_is = omega (arith, here);
      least = λ j h equal. elim (cases_lt j low) [
        | inl less ↦ absurd (below_number _ number (b.below j less h) equal)
        | inr most ↦ (let rises : slice_index entries low ≤ slice_index entries j = up low j 0 most h in
            omega (arith, here, rises, equal, same))
      ];
    }
