-- The raw value of a signal from its bits.
use Rattle.std.proofs.Common.{◌≡◌, ℕ, zero, suc, ◌-◌, ◌≤◌, ◌^◌, ℤ, List, [], ◌∷◌, map, refl, ap, sym, arith, true, false, Some, None}
use Rattle.bench_model.specs.declared.database.Signal.{Signal}
use Rattle.bench_model.specs.declared.database.Order.{Order}
use Rattle.bench_model.specs.Raw.{bit, first_place, next_place, places_from, weight, is_within, number_of, raw_value}
use Rattle.bench_model.proofs.PlaceLaws.{within-not, length-bits}

-- a bit past the bytes leaves no raw value
pub absent : (s : Signal) (bytes : List ℕ) (first : ℕ) → first ≡ first_place s.order s.start s.size →
    is_within bytes (places_from s.order first s.size) ≡ false → raw_value s bytes ≡ None
unfolding raw_value
absent s bytes first at past = rw (← at) (rw past refl)

-- else its bits are the raw value
pub present : (s : Signal) (bytes : List ℕ) (first bits top : ℕ) (n : ℤ) → first ≡ first_place s.order s.start s.size →
    is_within bytes (places_from s.order first s.size) ≡ true →
    bits ≡ weight (map (bit bytes) (places_from s.order first s.size)) → top ≡ bit bytes first → n ≡ number_of s.signed s.size top bits →
    raw_value s bytes ≡ Some n
unfolding raw_value
present s bytes first bits top n at within is_bits is_top is_n = rw (← at) (rw within (rw (← is_bits) (rw (← is_top) (ap Some (sym is_n)))))

-- the first place is one of them
pub first_within : (bytes : List ℕ) (o : Order) (p n : ℕ) → 1 ≤ n → is_within bytes (p ∷ []) ≡ false → is_within bytes (places_from o p n) ≡ false
first_within bytes o p n h past = let e : n - 0 ≡ n = omega arith in rw e at (within-not bytes o p n 0 h past)

-- where the bit of the greatest weight is set, the number is at least its weight
pub top_weighs : (bytes : List ℕ) (o : Order) (p n : ℕ) → 1 ≤ n → bit bytes p ≡ 1 →
    2 ^ (n - 1) ≤ weight (map (bit bytes) (places_from o p n))
unfolding places_from
top_weighs bytes o p zero h e = absurd (omega arith)
top_weighs bytes o p (suc n) h e =
    let rest : n ≡ suc n - 1 = omega arith in
    rw (length-bits bytes o (next_place o p) n, e) (rw (← rest) (omega arith))
