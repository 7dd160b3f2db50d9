-- The raw value of a signal is the one by shift and mask.
use Rattle.std.proofs.Common.{◌≡◌, ◌∙◌, ℕ, ◌+◌, ◌-◌, ◌*◌, ◌/◌, ◌%◌, ◌<◌, ◌≤◌, pos, negsuc, List, [], ◌∷◌, length, map, refl, ap, sym, arith, Bool, true, false, cond, Some, None, leb}
use Rattle.std.specs.Prelude.{slice_range, IfSome}
use Rattle.std.proofs.lemmas.Bool.{leb-true, le-leb, lt-leb}
use Rattle.exact_scale.specs.Limits.{IsRawValue}
use Rattle.bench_model.specs.declared.database.Order.TheVariants.{Intel, Motorola}
use Rattle.bench_model.specs.declared.database.Signal.{Signal}
use Rattle.bench_model.specs.Raw.{bit, first_place, places_from, places, weight, is_within, raw_value}
use Rattle.bench_model.specs.Shifts.{AreBytes, little_endian, end_of, shifted_bits, signed_number, shifted_value}
use Rattle.bench_model.proofs.ShiftLaws.{bits_by_shift}
use Rattle.bench_model.proofs.WindowLaws.{window}
use Rattle.bench_model.proofs.WithinLaws.{within}
use Rattle.bench_model.proofs.SignLaws.{complement, bits_below, signed_range}

pub by_parts : (s : Signal) (bytes : List ℕ) (there : Bool) → 1 ≤ s.size → AreBytes bytes →
    leb (end_of s.order s.start s.size) (8 * length bytes) ≡ there →
    raw_value s bytes
    ≡ cond there (Some (signed_number s.signed s.size (shifted_bits s.order s.start s.size bytes))) None
unfolding raw_value
by_parts s bytes true some h e =
    rw (within s.order bytes s.start s.size some ∙ e) (
    ap Some (complement s.order bytes s.signed s.start s.size some
    ∙ ap (signed_number s.signed s.size) (bits_by_shift s.order bytes s.start s.size h (leb-true _ _ e))))
by_parts s bytes false some h e = rw (within s.order bytes s.start s.size some ∙ e) refl

pub whole : (s : Signal) (bytes : List ℕ) → 1 ≤ s.size → AreBytes bytes →
    raw_value s bytes ≡ shifted_value s bytes
whole s bytes some h = by_parts s bytes _ some h refl

pub absent : (s : Signal) (bytes : List ℕ) → 1 ≤ s.size → 8 * length bytes < end_of s.order s.start s.size →
    raw_value s bytes ≡ None
unfolding raw_value
absent s bytes some past = rw (within s.order bytes s.start s.size some ∙ lt-leb _ _ past) refl

-- the bytes that a signal touches
abbrev touched : Signal → List ℕ → List ℕ
touched s bytes = slice_range bytes (s.start / 8) ((end_of s.order s.start s.size + 7) / 8)

touched_bits : (s : Signal) (bytes : List ℕ) → AreBytes bytes →
    end_of s.order s.start s.size ≤ 8 * length bytes →
    shifted_bits s.order (s.start % 8) s.size (touched s bytes) ≡ shifted_bits s.order s.start s.size bytes
touched_bits s bytes h inside =
    let e : ℕ = end_of s.order s.start s.size in
    let turn : s.start - 8 * (s.start / 8) ≡ s.start % 8 = omega arith in
    ap (λ (p : ℕ). shifted_bits s.order p s.size (touched s bytes)) (sym turn)
    ∙ window s.order bytes (s.start / 8) ((e + 7) / 8) s.start s.size h
    (omega arith) (omega arith) (omega arith)

-- from the bytes that the signal touches
pub present : (s : Signal) (bytes : List ℕ) → 1 ≤ s.size → AreBytes bytes →
    end_of s.order s.start s.size ≤ 8 * length bytes →
    let bits = shifted_bits s.order (s.start % 8) s.size (touched s bytes) in
    raw_value s bytes ≡ Some (signed_number s.signed s.size bits)
present s bytes some h inside =
    by_parts s bytes true some h (le-leb _ _ inside)
    ∙ ap (λ (bits : ℕ). Some (signed_number s.signed s.size bits)) (sym (touched_bits s bytes h inside))

range_of : (s : Signal) (bytes : List ℕ) (there : Bool) → 1 ≤ s.size → s.size ≤ 64 →
    is_within bytes (places s.order s.start s.size) ≡ there → IfSome (raw_value s bytes) IsRawValue
unfolding raw_value
range_of s bytes true some most e =
    rw (e, complement s.order bytes s.signed s.start s.size some) (
    signed_range s.signed s.size (weight (map (bit bytes) (places s.order s.start s.size))) some most
    (bits_below bytes s.order (first_place s.order s.start s.size) s.size))
range_of s bytes false some most e = rw e tt

pub range : (s : Signal) (bytes : List ℕ) → 1 ≤ s.size → s.size ≤ 64 → IfSome (raw_value s bytes) IsRawValue
range s bytes some most = range_of s bytes _ some most refl

-- ---- worked by hand: 0|16 in Intel order of A0 0F; in Motorola order 7|16 of 12 34, and signed 3|12 of 0F FE
-- and of 0F

unsigned_intel : (s : Signal) →
    raw_value (record s { start = 0; size = 16; order = Intel; signed = false }) (160 ∷ 15 ∷ [])
    ≡ Some (pos 4000)
unfolding raw_value places_from
unsigned_intel s = refl

unsigned_motorola : (s : Signal) →
    raw_value (record s { start = 7; size = 16; order = Motorola; signed = false }) (18 ∷ 52 ∷ [])
    ≡ Some (pos 4660)
unfolding raw_value places_from
unsigned_motorola s = refl

signed_motorola : (s : Signal) →
    raw_value (record s { start = 3; size = 12; order = Motorola; signed = true }) (15 ∷ 254 ∷ [])
    ≡ Some (negsuc 1)
unfolding raw_value places_from
signed_motorola s = refl

signed_by_shift : (s : Signal) →
    shifted_value (record s { start = 3; size = 12; order = Motorola; signed = true }) (15 ∷ 254 ∷ [])
    ≡ Some (negsuc 1)
unfolding little_endian
signed_by_shift s = refl

past_the_bytes : (s : Signal) →
    raw_value (record s { start = 3; size = 12; order = Motorola; signed = true }) (15 ∷ []) ≡ None
unfolding raw_value places_from
past_the_bytes s = refl
