-- From the parts of a text to the decimal that it denotes.
use Rattle.std.proofs.Common.{◌≡◌, ℕ, ◌+◌, ◌-◌, ◌*◌, ◌^◌, ◌<◌, ◌≤◌, min, ◌⊎◌, inl, inr, Bool, true, false, cond, List, ◌++◌, length, Option, Some, None, sym, ap, ◌∙◌, subst, refl, ⊎_elim, arith, ℤ, pos, neg_ℤ}
use Rattle.std.specs.Prelude.{unsigned_abs}
use Rattle.exact_scale.specs.Digits.{number}
use Rattle.exact_scale.specs.Fraction.{IsLeastDecimal}
use Rattle.exact_scale.specs.Limits.{IsNarrow, DenotesTooWide}
use Rattle.exact_scale.specs.Parts.{HasParts, IsSignificand, IsLeastSize, LeastSizeTooWide, Moves, is_minus, capped}
use Rattle.exact_scale.specs.Numeral.{Sign, NoSign, Plus, Minus, signed, Exponent, fraction_digits, IsDecimalText, Denotes, upward, downward, raised, lowered, value_of}
use Rattle.exact_scale.proofs.LeastLaws.{least_signed, least_once}
use Rattle.exact_scale.proofs.PowerLaws.{ten_pos, ten_times}
use Rattle.exact_scale.proofs.SignLaws.{abs_signed}
use Rattle.exact_scale.proofs.NumeralLaws.{written_so_once}

-- a number under the sign that a flag says
abbrev pub under_flag : Bool → ℕ → ℤ
under_flag negative size = cond negative (neg_ℤ (pos size)) (pos size)

flag_of : (sign : Sign) (negative : Bool) (size : ℕ) → is_minus sign ≡ negative → signed sign size ≡ under_flag negative size
flag_of NoSign negative size e = ap (λ b. under_flag b size) e
flag_of Plus negative size e = ap (λ b. under_flag b size) e
flag_of Minus negative size e = ap (λ b. under_flag b size) e

one_way_by : (sign : Sign) (n : ℕ) → (upward sign n ≡ 0) ⊎ (downward sign n ≡ 0)
one_way_by NoSign n = inr refl
one_way_by Plus n = inr refl
one_way_by Minus n = inl refl

one_way : (exponent : Option Exponent) → (raised exponent ≡ 0) ⊎ (lowered exponent ≡ 0)
one_way None = inl refl
one_way (Some e) = one_way_by e.sign (number e.digits)

-- up to the bound, exponents decide alike
capped_moves : (behind count up down : ℕ) → behind < 2 ^ 66 → count < 2 ^ 64 → (up ≡ 0) ⊎ (down ≡ 0)
    → min ((behind + capped up) - (count + capped down)) 64 ≡ min ((behind + up) - (count + down)) 64
capped_moves behind count up down few short one = ⊎_elim (λ none. omega arith) (λ none. omega arith) one

capped_moves_down : (behind count up down : ℕ) → behind < 2 ^ 66 → count < 2 ^ 64 → (up ≡ 0) ⊎ (down ≡ 0)
    → min ((count + capped down) - (behind + capped up)) 64 ≡ min ((count + down) - (behind + up)) 64
capped_moves_down behind count up down few short one = ⊎_elim (λ none. omega arith) (λ none. omega arith) one

-- what the code passes on
pub parts_move : (text whole after : List ℕ) (negative : Bool) (up down size behind rise fall : ℕ) (p : HasParts text negative whole after up down)
    → (s : IsSignificand (number (whole ++ after)) size behind) → behind < 2 ^ 66 → length after < 2 ^ 64
    → rise ≡ (behind + up) - (length after + down) → fall ≡ (length after + down) - (behind + up)
    → Moves size rise fall s.short (behind + raised p.numeral.exponent) (length after + lowered p.numeral.exponent)
parts_move text whole after negative up down size behind rise fall p s few short r f = record {
  kept = s.kept;
  last = ⊎_elim (λ none. inl none.0) (λ odd. inr odd) s.last;
  upward = ap (λ n. min n 64) (r ∙ ap (λ u. (behind + u) - (length after + down)) p.upward ∙ ap (λ d. (behind + capped (raised p.numeral.exponent)) - (length after + d)) p.downward)
      ∙ capped_moves behind (length after) (raised p.numeral.exponent) (lowered p.numeral.exponent) few short (one_way p.numeral.exponent);
  downward = ap (λ n. min n 64) (f ∙ ap (λ u. (length after + down) - (behind + u)) p.upward ∙ ap (λ d. (length after + d) - (behind + capped (raised p.numeral.exponent))) p.downward)
      ∙ capped_moves_down behind (length after) (raised p.numeral.exponent) (lowered p.numeral.exponent) few short (one_way p.numeral.exponent);
}

-- the value of the parts
parts_value : (text whole after : List ℕ) (negative : Bool) (up down size behind : ℕ) (p : HasParts text negative whole after up down)
    (s : IsSignificand (number (whole ++ after)) size behind)
    → value_of p.numeral ≡ record { numerator = signed p.numeral.sign (s.short * 10 ^ (behind + raised p.numeral.exponent)); denominator = 10 ^ (length after + lowered p.numeral.exponent) }
parts_value text whole after negative up down size behind p s =
    let e = p.numeral.exponent in
    ap (λ w. record { numerator = signed p.numeral.sign (number (w ++ fraction_digits p.numeral.fraction) * 10 ^ raised e); denominator = 10 ^ (length (fraction_digits p.numeral.fraction) + lowered e) }) p.whole
    ∙ ap (λ f. record { numerator = signed p.numeral.sign (number (whole ++ f) * 10 ^ raised e); denominator = 10 ^ (length f + lowered e) }) p.fraction
    ∙ ap (λ n. record { numerator = signed p.numeral.sign (n * 10 ^ raised e); denominator = 10 ^ (length after + lowered e) }) s.same
    ∙ ap (λ n. record { numerator = signed p.numeral.sign n; denominator = 10 ^ (length after + lowered e) }) (ten_times s.short behind (raised e))

pub parts_denote : (text whole after : List ℕ) (negative : Bool) (up down size behind n k : ℕ) (p : HasParts text negative whole after up down)
    (s : IsSignificand (number (whole ++ after)) size behind)
    → IsLeastSize (s.short * 10 ^ (behind + raised p.numeral.exponent)) (10 ^ (length after + lowered p.numeral.exponent)) n k
    → Denotes text (under_flag negative n) k
parts_denote text whole after negative up down size behind n k p s least = record {
  numeral = p.numeral;
  written_so = p.written_so;
  least = subst (λ num. IsLeastDecimal (value_of p.numeral) num k) (flag_of p.numeral.sign negative n p.minus)
      (subst (λ value. IsLeastDecimal value (signed p.numeral.sign n) k) (sym (parts_value text whole after negative up down size behind p s))
      (least_signed p.numeral.sign _ _ n k least.same least.least));
}

flag_size : (negative : Bool) (n : ℕ) → unsigned_abs (under_flag negative n) ≡ n
flag_size true n = abs_signed Minus n
flag_size false n = refl

pub parts_narrow : (negative : Bool) (n : ℕ) → n < 2 ^ 62 → IsNarrow (under_flag negative n)
parts_narrow negative n small = subst (λ s. s < 2 ^ 62) (sym (flag_size negative n)) small

pub parts_wide : (text whole after : List ℕ) (negative : Bool) (up down size behind : ℕ) (p : HasParts text negative whole after up down)
    (s : IsSignificand (number (whole ++ after)) size behind)
    → LeastSizeTooWide (s.short * 10 ^ (behind + raised p.numeral.exponent)) (10 ^ (length after + lowered p.numeral.exponent)) → DenotesTooWide text
parts_wide text whole after negative up down size behind p s w = record {
  num = under_flag negative w.size;
  places = w.places;
  denotes = parts_denote text whole after negative up down size behind w.size w.places p s w.least;
  wide = ⊎_elim (λ low. inl low) (λ large. inr (subst (λ n. 2 ^ 62 ≤ n) (sym (flag_size negative w.size)) large)) w.wide;
}

-- ---- a text denotes one decimal

pub denotes_once : (text : List ℕ) (n m : ℤ) (k j : ℕ) → Denotes text n k → Denotes text m j → (n ≡ m) × (k ≡ j)
denotes_once text n m k j a b =
    let same = written_so_once text b.numeral a.numeral b.written_so a.written_so in
    least_once (value_of a.numeral) n m k j (ten_pos _) a.least (subst (λ s. IsLeastDecimal (value_of s) m j) same b.least)

pub narrow_not_wide : (text : List ℕ) (n : ℤ) (k : ℕ) → Denotes text n k → k ≤ 30 → IsNarrow n → DenotesTooWide text → ⊥
narrow_not_wide text n k denotes few narrow w =
    let same = denotes_once text n w.num k w.places denotes w.denotes in
    let size = ap unsigned_abs same.0 in
    ⊎_elim (λ low. omega (arith, same.1)) (λ large. omega (arith, size)) w.wide

pub denotes_text : (text : List ℕ) (n : ℤ) (k : ℕ) → Denotes text n k → IsDecimalText text
denotes_text text n k d = (d.numeral, d.written_so)
