-- Which signals are active, by their parents and raw values.
use Rattle.std.specs.Prelude.{◌≡◌, ℕ, zero, suc, ◌&&◌, ℤ, pos, negsuc, Bool, true, false, List, Option, Some, None, is_none, IsTrue, slice_get, nat_le}
use Rattle.std.specs.Option.{option_flatten}
use Rattle.std.specs.List.{list_any}
use Rattle.multiplex_tree.specs.declared.mark.Range.{Range}
use Rattle.multiplex_tree.specs.declared.mark.Parent.{Parent}
use Rattle.multiplex_tree.specs.Chain.{most_parents}

-- whether a raw value lies in a range, its ends included
abbrev pub is_in_range : ℤ → Range → Bool
is_in_range (pos n) range = nat_le range.low n && nat_le n range.high
is_in_range (negsuc n) range = false

-- whether a raw value is there and lies in one of the ranges
abbrev pub is_in_ranges : List Range → Option ℤ → Bool
is_in_ranges ranges (Some raw) = list_any (is_in_range raw) ranges
is_in_ranges ranges None = false

-- whether the parent's raw value selects the signal
abbrev pub selects : List (Option ℤ) → Parent → Bool
selects raws p = is_in_ranges p.ranges (option_flatten (slice_get raws p.signal))

-- the parent of a signal
abbrev pub parent_at : List (Option Parent) → ℕ → Option Parent
parent_at parents i = option_flatten (slice_get parents i)

-- a signal is active where it has no parent, or where its parent is active and selects it
pub data IsActive (parents : List (Option Parent)) (raws : List (Option ℤ)) : ℕ → Type 0 where
  at_top : {i : ℕ} → parent_at parents i ≡ None → IsActive parents raws i
  below : {i : ℕ} (p : Parent) → parent_at parents i ≡ Some p → IsActive parents raws p.signal → IsTrue (selects raws p) →
      IsActive parents raws i

-- a signal with this parent is active, where active tells it of the parent
abbrev pub is_active_below : List (Option ℤ) → (ℕ → Bool) → Option Parent → Bool
is_active_below raws active None = true
is_active_below raws active (Some p) = active p.signal && selects raws p

-- whether a signal with at most n parents above it is active
unfoldable pub is_active_within : ℕ → List (Option Parent) → List (Option ℤ) → ℕ → Bool
is_active_within zero parents raws i = is_none (parent_at parents i)
is_active_within (suc n) parents raws i = is_active_below raws (is_active_within n parents raws) (parent_at parents i)

-- the same as a test, for signals with no more parents above them than there may be
abbrev pub is_active : List (Option Parent) → List (Option ℤ) → ℕ → Bool
is_active parents raws i = is_active_within most_parents parents raws i
