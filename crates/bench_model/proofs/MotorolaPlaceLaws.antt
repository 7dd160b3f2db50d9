-- A big-endian signal's bits follow one another in the order in which bytes are read, the most significant bit first.
use Rattle.std.proofs.Common.{◌≡◌, ◌∙◌, ap, sym, ℕ, zero, suc, ◌+◌, ◌-◌, ◌%◌, List, [], ◌∷◌, ◌++◌, map, refl, arith, Bool, true, false, eqb, cond, ◌≢◌}
use Rattle.std.proofs.lemmas.Bool.{eqb-true, eqb-false}
use Rattle.bench_model.specs.declared.database.Order.TheVariants.{Motorola}
use Rattle.bench_model.specs.Raw.{next_place, places_from, places}
use Rattle.bench_model.specs.Weights.{upwards, as_read}

twice_read : (p : ℕ) → as_read (as_read p) ≡ p
twice_read p = omega arith

stepped : (p : ℕ) (at_end : Bool) → eqb (p % 8) 0 ≡ at_end → as_read (cond at_end (p + 15) (p - 1)) ≡ as_read p + 1
stepped p true e = let none : p % 8 ≡ 0 = eqb-true (p % 8) 0 e in omega (arith, none)
stepped p false e = let some : p % 8 ≢ 0 = eqb-false (p % 8) 0 e in omega (arith, some)

pub next_read : (p : ℕ) → as_read (next_place Motorola p) ≡ as_read p + 1
next_read p = stepped p (eqb (p % 8) 0) refl

first_of : (a n : ℕ) → upwards a (suc n) ≡ a ∷ upwards (a + 1) n
unfolding upwards
first_of a zero = let e : a + 0 ≡ a = omega arith in rw e refl
first_of a (suc n) =
    let e : a + suc n ≡ a + 1 + n = omega arith in
    ap (λ (ps : List ℕ). ps ++ (a + suc n) ∷ []) (first_of a n) ∙ rw e refl

walk : (p n : ℕ) → places_from Motorola p n ≡ map as_read (upwards (as_read p) n)
unfolding places_from upwards
walk p zero = refl
walk p (suc n) =
    let rest : places_from Motorola (next_place Motorola p) n ≡ map as_read (upwards (as_read p + 1) n) =
    walk (next_place Motorola p) n ∙ ap (λ (q : ℕ). map as_read (upwards q n)) (next_read p) in
    let ahead : map as_read (upwards (as_read p) (suc n)) ≡ as_read (as_read p) ∷ map as_read (upwards (as_read p + 1) n) =
    ap (map as_read) (first_of (as_read p) n) in
    ap (λ (ps : List ℕ). p ∷ ps) rest ∙ ap (λ (q : ℕ). q ∷ map as_read (upwards (as_read p + 1) n)) (sym (twice_read p)) ∙ sym ahead

pub motorola_places : (start n : ℕ) → places Motorola start n ≡ map as_read (upwards (as_read start) n)
motorola_places start n = walk start n
