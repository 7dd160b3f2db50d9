-- The places of a signal's bits, one after another.
use Rattle.std.proofs.Common.{◌≡◌, ℕ, zero, suc, ◌+◌, ◌*◌, ◌-◌, ◌<◌, ◌≤◌, ◌^◌, List, [], ◌∷◌, length, map, refl, ap, arith, ◌&&◌, Bool, true, false}
use Rattle.bench_model.specs.declared.database.Order.{Order}
use Rattle.bench_model.specs.Raw.{bit, next_place, places_from, weight, is_within}

both : (a b : Bool) → (a && true) ≡ true → (a && b) ≡ b
both true b h = refl
both false b h = cc

neither : (a b : Bool) → (a && true) ≡ false → (a && b) ≡ false
neither true b h = cc
neither false b h = refl

-- before the last place there is one more
pub places-step : (o : Order) (p n t : ℕ) → t < n → places_from o p (n - t) ≡ p ∷ places_from o (next_place o p) (n - (t + 1))
unfolding places_from
places-step o p n t h = let e : n - t ≡ suc (n - (t + 1)) = omega arith in rw e refl

pub length-bits : (bytes : List ℕ) (o : Order) (p n : ℕ) → length (map (bit bytes) (places_from o p n)) ≡ n
unfolding places_from
length-bits bytes o p zero = refl
length-bits bytes o p (suc n) = ap suc (length-bits bytes o (next_place o p) n)

twice_next : (t : ℕ) → 2 ^ (t + 1) ≡ 2 * 2 ^ t
twice_next t = let e : t + 1 ≡ suc t = omega arith in rw e (omega arith)

-- twice a power, where the exponent is one more
twice : (n t : ℕ) → t < n → 2 ^ (n - t) ≡ 2 * 2 ^ (n - (t + 1))
twice n t h = let e : n - t ≡ suc (n - (t + 1)) = omega arith in rw e (omega arith)

-- one bit more
pub small-step : (bits b t : ℕ) → bits < 2 ^ t → b < 2 → bits * 2 + b < 2 ^ (t + 1)
small-step bits b t h k = let e : 2 ^ (t + 1) ≡ 2 * 2 ^ t = twice_next t in omega (arith, e)

-- the bits read so far, and the next one
pub weight-step : (bytes : List ℕ) (o : Order) (p q n t bits b : ℕ) → t < n → q ≡ next_place o p → b ≡ bit bytes p →
    bits * 2 ^ (n - t) + weight (map (bit bytes) (places_from o p (n - t)))
    ≡ (bits * 2 + b) * 2 ^ (n - (t + 1)) + weight (map (bit bytes) (places_from o q (n - (t + 1))))
weight-step bytes o p q n t bits b h next e =
    rw (places-step o p n t h) (
    rw (length-bits bytes o (next_place o p) (n - (t + 1))) (
    rw (twice n t h) (rw (e, next) (omega arith))))

-- whether the next place and those after it are within
pub within-step : (bytes : List ℕ) (o : Order) (p q n t : ℕ) → t < n → q ≡ next_place o p → is_within bytes (p ∷ []) ≡ true →
    is_within bytes (places_from o p (n - t)) ≡ is_within bytes (places_from o q (n - (t + 1)))
within-step bytes o p q n t h next here = rw (places-step o p n t h) (rw next (both _ _ here))

-- a place past the bytes decides for all
pub within-not : (bytes : List ℕ) (o : Order) (p n t : ℕ) → t < n → is_within bytes (p ∷ []) ≡ false →
    is_within bytes (places_from o p (n - t)) ≡ false
within-not bytes o p n t h past = rw (places-step o p n t h) (neither _ _ past)

-- after the last place none is left
pub none_left : (bytes : List ℕ) (o : Order) (p n t bits : ℕ) → n ≤ t →
    (is_within bytes (places_from o p (n - t)) ≡ true) × (bits * 2 ^ (n - t) + weight (map (bit bytes) (places_from o p (n - t))) ≡ bits)
unfolding places_from
none_left bytes o p n t bits h = let e : n - t ≡ zero = omega arith in rw e (refl, omega arith)
