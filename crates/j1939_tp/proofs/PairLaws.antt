-- The order of the pairs tells them apart: a query of the map finds a pair exactly where it is the same pair.
use Rattle.std.proofs.Common.{◌≡◌, ℕ, ◌==◌, true, refl, sym, ◌∙◌, arith}
use Rattle.std.specs.Ordering.{nat_cmp, is_eq}
use Rattle.std.specs.Cmp.{tied_then}
use Rattle.std.specs.BTreeMap.{is_at}
use Rattle.std.proofs.lemmas.Bool.{eqb-true, eq-eqb, and_parts}
use Rattle.j1939_tp.specs.OpenSessions.{Pair, same_pair}
use Rattle.j1939_tp.specs.Keeping.{pair_cmp}

is_eq-nat_cmp : (a b : ℕ) → is_eq (nat_cmp a b) ≡ (a == b)
is_eq-nat_cmp a b = grind arith

pub is_at-pair_cmp : (p q : Pair) → is_at (pair_cmp p) q ≡ same_pair p q
is_at-pair_cmp p q =
    sym (tied_then (nat_cmp p.0 q.0) (nat_cmp p.1 q.1)) ∙ rw (is_eq-nat_cmp p.0 q.0, is_eq-nat_cmp p.1 q.1) refl

pub same_pair-eq : (p q : Pair) → same_pair p q ≡ true → p ≡ q
same_pair-eq (a, b) (c, d) h =
    let both = and_parts (a == c) (b == d) h in
    let first : a ≡ c = eqb-true a c both.0 in
    let second : b ≡ d = eqb-true b d both.1 in rw (first, second) refl

pub same_pair-refl : (p : Pair) → same_pair p p ≡ true
same_pair-refl p = rw (eq-eqb p.0 p.0 refl, eq-eqb p.1 p.1 refl) refl
