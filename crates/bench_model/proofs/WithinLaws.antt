-- All places of a signal are within the bytes exactly where the last one is.
use Rattle.std.proofs.Common.{◌≡◌, ◌∙◌, ℕ, zero, suc, ◌+◌, ◌-◌, ◌*◌, ◌/◌, ◌<◌, ◌≤◌, List, [], ◌∷◌, length, refl, ap, sym, arith, Bool, true, false, ◌&&◌, ltb, leb}
use Rattle.std.proofs.lemmas.Bool.{ltb-true, leb-true, leb-false, lt-ltb, le-ltb}
use Rattle.bench_model.specs.declared.database.Order.{Order}
use Rattle.bench_model.specs.declared.database.Order.TheVariants.{Intel, Motorola}
use Rattle.bench_model.specs.Raw.{next_place, places_from, places, is_within}
use Rattle.bench_model.specs.Weights.{as_read}
use Rattle.bench_model.specs.Shifts.{end_of}
use Rattle.bench_model.proofs.MotorolaPlaceLaws.{next_read}

-- the byte of the last place, and the place after it
same_test : (e len : ℕ) (b : Bool) → leb (suc e) (8 * len) ≡ b → ltb (e / 8) len ≡ b
same_test e len true h = lt-ltb (e / 8) len (let k = leb-true (suc e) (8 * len) h in omega arith)
same_test e len false h = le-ltb (e / 8) len (let k = leb-false (suc e) (8 * len) h in omega arith)

byte_decides : (e len : ℕ) → ltb (e / 8) len ≡ leb (suc e) (8 * len)
byte_decides e len = same_test e len (leb (suc e) (8 * len)) refl

-- below a place that is within, all are in Intel order
lower : (bytes : List ℕ) (p n : ℕ) → p / 8 < length bytes → is_within bytes (places_from Intel p n) ≡ true
unfolding places_from
lower bytes p zero h = refl
lower bytes p (suc n) h = rw (lt-ltb (p / 8) (length bytes) h) (lower bytes (p - 1) n (omega arith))

highest : (bytes : List ℕ) (p n : ℕ) (b : Bool) → ltb (p / 8) (length bytes) ≡ b →
    is_within bytes (places_from Intel p (suc n)) ≡ b
unfolding places_from
highest bytes p n true h =
    let inside = ltb-true (p / 8) (length bytes) h in
    rw h (lower bytes (p - 1) n (omega arith))
highest bytes p n false h = rw h refl

intel_within : (bytes : List ℕ) (start size : ℕ) → 1 ≤ size →
    is_within bytes (places Intel start size) ≡ leb (start + size) (8 * length bytes)
intel_within bytes start zero h = absurd (omega arith)
intel_within bytes start (suc n) h =
    let first : start + suc n - 1 ≡ start + n = omega arith in
    let after : suc (start + n) ≡ start + suc n = omega arith in
    let byte : ltb ((start + suc n - 1) / 8) (length bytes) ≡ leb (start + suc n) (8 * length bytes) =
    ap (λ (p : ℕ). ltb (p / 8) (length bytes)) first ∙ byte_decides (start + n) (length bytes)
    ∙ ap (λ (e : ℕ). leb e (8 * length bytes)) after in
    highest bytes (start + suc n - 1) n (leb (start + suc n) (8 * length bytes)) byte

never : (b : Bool) → (b && false) ≡ false
never true = refl
never false = refl

alone : (b : Bool) → (b && true) ≡ b
alone true = refl
alone false = refl

-- where the last place is within, the first one is
first_too : (p n len : ℕ) (b : Bool) → leb (as_read p + 1 + suc n) (8 * len) ≡ b → (ltb (p / 8) len && b) ≡ b
first_too p n len true h =
    let k = leb-true (as_read p + 1 + suc n) (8 * len) h in
    rw (lt-ltb (p / 8) len (omega arith)) refl
first_too p n len false h = never (ltb (p / 8) len)

motorola_from : (bytes : List ℕ) (p n : ℕ) →
    is_within bytes (places_from Motorola p (suc n)) ≡ leb (as_read p + suc n) (8 * length bytes)
unfolding places_from
motorola_from bytes p zero =
    let byte : p / 8 ≡ as_read p / 8 = omega arith in
    let after : suc (as_read p) ≡ as_read p + 1 = omega arith in
    alone (ltb (p / 8) (length bytes)) ∙ ap (λ (k : ℕ). ltb k (length bytes)) byte
    ∙ byte_decides (as_read p) (length bytes) ∙ ap (λ (e : ℕ). leb e (8 * length bytes)) after
motorola_from bytes p (suc n) =
    let after : as_read p + 1 + suc n ≡ as_read p + suc (suc n) = omega arith in
    let rest : is_within bytes (places_from Motorola (next_place Motorola p) (suc n))
    ≡ leb (as_read p + 1 + suc n) (8 * length bytes) =
    motorola_from bytes (next_place Motorola p) n
    ∙ ap (λ (r : ℕ). leb (r + suc n) (8 * length bytes)) (next_read p) in
    ap (λ (b : Bool). ltb (p / 8) (length bytes) && b) rest
    ∙ first_too p n (length bytes) _ refl
    ∙ ap (λ (e : ℕ). leb e (8 * length bytes)) after

pub within : (order : Order) (bytes : List ℕ) (start size : ℕ) → 1 ≤ size →
    is_within bytes (places order start size) ≡ leb (end_of order start size) (8 * length bytes)
within Intel bytes start size h = intel_within bytes start size h
within Motorola bytes start zero h = absurd (omega arith)
within Motorola bytes start (suc n) h = motorola_from bytes start n

some_end : (order : Order) (start size : ℕ) → 1 ≤ size →
    suc (end_of order start size - 1) ≡ end_of order start size
some_end Intel start size h = omega arith
some_end Motorola start size h = omega arith

pub last : (order : Order) (bytes : List ℕ) (start size : ℕ) → 1 ≤ size →
    is_within bytes (places order start size) ≡ ltb ((end_of order start size - 1) / 8) (length bytes)
last order bytes start size h =
    let next : suc (end_of order start size - 1) ≡ end_of order start size = some_end order start size h in
    within order bytes start size h ∙ ap (λ (e : ℕ). leb e (8 * length bytes)) (sym next)
    ∙ sym (byte_decides (end_of order start size - 1) (length bytes))

-- ---- worked by hand: 7|16 in Motorola order of two bytes, and 6|16, whose last bit is in the third one

two_bytes : is_within (18 ∷ 52 ∷ []) (places Motorola 7 16) ≡ leb (end_of Motorola 7 16) 16
unfolding places_from
two_bytes = refl

third_byte : is_within (18 ∷ 52 ∷ []) (places Motorola 6 16) ≡ false
unfolding places_from
third_byte = refl
