-- Powers of ten and products with them.
use Rattle.std.proofs.Common.{◌≡◌, ℕ, suc, ◌+◌, ◌*◌, ◌^◌, ◌/◌, ◌%◌, ◌<◌, ◌≤◌, sym, ap, ◌∙◌, subst, arith, pow-suc, mul_assoc, mul_comm, add-mul}
use Rattle.std.proofs.Math.Nat.{one-le-pow, pow-le-pow_right, eq_of_mul-eq-mul_right, mul-mod_left, div-add-mod', mod-mod_of_dvd, dvd-mul_left, mul-div-mul_right, mul-lt-mul_of_pos_right}
use Rattle.std.specs.Int.{◌∣◌}
use Rattle.std.proofs.lemmas.Nat.{pow-add, mod_below, mod-mul-add}

pub ten_pos : (k : ℕ) → 0 < 10 ^ k
ten_pos k = one-le-pow k 10 (omega arith)

-- two powers of ten side by side are one
pub ten_times : (n i j : ℕ) → n * 10 ^ i * 10 ^ j ≡ n * 10 ^ (i + j)
ten_times n i j = mul_assoc n (10 ^ i) (10 ^ j) ∙ ap (λ x. n * x) (sym (pow-add 10 i j))

-- the same power on both sides
pub ten_moved : (n i j k l : ℕ) → i + j ≡ k + l → n * 10 ^ i * 10 ^ j ≡ n * 10 ^ k * 10 ^ l
ten_moved n i j k l e = ten_times n i j ∙ ap (λ x. n * 10 ^ x) e ∙ sym (ten_times n k l)

pub cancel_ten : (m n k : ℕ) → m * 10 ^ k ≡ n * 10 ^ k → m ≡ n
cancel_ten m n k e = eq_of_mul-eq-mul_right (10 ^ k) (ten_pos k) m n e

-- a number times a power of ten above the first ends in 0
pub last_digit : (m i : ℕ) → (m * 10 ^ suc i) % 10 ≡ 0
last_digit m i =
    ap (λ x. (m * x) % 10) (pow-suc 10 i) ∙ ap (λ x. x % 10) (sym (mul_assoc m (10 ^ i) 10)) ∙ mul-mod_left (m * 10 ^ i) 10

pub ten_le : (i j : ℕ) → i ≤ j → 10 ^ i ≤ 10 ^ j
ten_le i j h = let positive : 0 < 10 = omega arith in pow-le-pow_right positive h

pub at_most_30 : (k : ℕ) → k ≤ 30 → 10 ^ k ≤ 10 ^ 30
at_most_30 k h = ten_le k 30 h

-- a number that ends in 0 is a tenth of it, moved up
pub cut_zero : (s e : ℕ) → s % 10 ≡ 0 → s * 10 ^ e ≡ s / 10 * 10 ^ suc e
cut_zero s e zero_end =
    let whole : s ≡ s / 10 * 10 = omega (arith, div-add-mod' s 10) in
    ap (λ x. x * 10 ^ e) whole ∙ mul_assoc (s / 10) 10 (10 ^ e) ∙ ap (λ x. s / 10 * x) (mul_comm 10 (10 ^ e) ∙ sym (pow-suc 10 e))

-- the last digit of the part after the point is the last digit
pub low_digit : (n places : ℕ) → (n % 10 ^ suc places) % 10 ≡ n % 10
low_digit n places = mod-mod_of_dvd 10 n (subst (λ p. 10 ∣ p) (sym (pow-suc 10 places)) (dvd-mul_left 10 (10 ^ places)))

-- moved up alike, the whole part stays, and the rest moves up
pub whole_moved : (n k j : ℕ) → n * 10 ^ j / 10 ^ (k + j) ≡ n / 10 ^ k
whole_moved n k j = ap (λ d. n * 10 ^ j / d) (pow-add 10 k j) ∙ mul-div-mul_right n (10 ^ k) (ten_pos j)

pub rest_moved : (n k j : ℕ) → n * 10 ^ j % 10 ^ (k + j) ≡ n % 10 ^ k * 10 ^ j
rest_moved n k j =
    let q = n / 10 ^ k in
    let r = n % 10 ^ k in
    let moved : n * 10 ^ j ≡ q * 10 ^ (k + j) + r * 10 ^ j =
    ap (λ x. x * 10 ^ j) (sym (div-add-mod' n (10 ^ k))) ∙ add-mul (q * 10 ^ k) r (10 ^ j) ∙ ap (λ x. x + r * 10 ^ j) (ten_times q k j) in
    let below : r * 10 ^ j < 10 ^ (k + j) = subst (λ p. r * 10 ^ j < p) (sym (pow-add 10 k j)) (mul-lt-mul_of_pos_right (mod_below n (10 ^ k) (ten_pos k)) (ten_pos j)) in
    ap (λ x. x % 10 ^ (k + j)) moved ∙ mod-mul-add q (10 ^ (k + j)) (r * 10 ^ j) below

-- a last zero is dropped
pub zero_dropped : (size n e f : ℕ) → size % 10 ≡ 0 → size / 10 ≡ n * 10 ^ e → f ≡ suc e → size ≡ n * 10 ^ f
zero_dropped size n e f zero tenth one_more =
    let whole : size ≡ size / 10 * 10 = omega arith in
    let places : e + 1 ≡ f = omega arith in
    whole ∙ ap (λ q. q * 10) tenth ∙ ten_times n e 1 ∙ ap (λ j. n * 10 ^ j) places
