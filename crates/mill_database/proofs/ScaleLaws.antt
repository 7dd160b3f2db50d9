-- The scales that the generated texts of factors and offsets denote.
use Rattle.std.proofs.Common.{◌≡◌, ℕ, zero, suc, ◌+◌, ◌*◌, ◌^◌, ◌<◌, ◌≤◌, Bool, true, false, List, [], ◌∷◌, ◌++◌, length, sym, refl, ap, ◌∙◌, subst, arith}
use Rattle.std.specs.Prelude.{Some, None, ℤ, pos, negsuc, ◌*ℤ◌, unsigned_abs, codes}
use Rattle.std.proofs.lemmas.Int.{unsigned_abs-mul}
use Rattle.exact_scale.specs.declared.scaling.Scale.{Scale}
use Rattle.exact_scale.specs.Fraction.{Fraction, IsSame, IsLeastDecimal}
use Rattle.exact_scale.specs.Limits.{IsScale}
use Rattle.exact_scale.specs.Numeral.{NoSign, Minus, Numeral, IsValid, Denotes}
use Rattle.token_forms.specs.Scaling.{IsScaling}
use Rattle.mill_database.specs.GeneratedDatabase.{scale}

-- the sizes of a fraction that is the same
sizes : (value : Fraction) (m : ℤ) (j : ℕ) → IsSame (record { numerator = m; denominator = 10 ^ j }) value → unsigned_abs m * value.denominator ≡ unsigned_abs value.numerator * 10 ^ j
sizes value m j same = sym (unsigned_abs-mul m (pos value.denominator)) ∙ ap unsigned_abs same.cross ∙ unsigned_abs-mul value.numerator (pos (10 ^ j))

-- a whole number has no places
whole : (value : Fraction) (n : ℤ) → IsSame (record { numerator = n; denominator = 1 }) value → IsLeastDecimal value n 0
whole value n same = record { same = same; least = λ j m other. omega arith }

-- five tenths need one place
half_places : (j n : ℕ) → n * 10 ≡ 5 * 10 ^ j → 1 ≤ j
half_places zero n e = absurd (omega arith)
half_places (suc j) n e = omega arith

-- and twenty-five hundredths two
quarter_places : (j n : ℕ) → n * 100 ≡ 25 * 10 ^ j → 2 ≤ j
quarter_places zero n e = absurd (omega arith)
quarter_places (suc zero) n e = absurd (omega arith)
quarter_places (suc (suc j)) n e = omega arith

one : Denotes (codes "1") (pos 1) 0
one = record {
  numeral = record { sign = NoSign; whole = codes "1"; fraction = None; exponent = None };
  written_so = record {
    valid = record { whole = ((omega arith, omega arith), tt); fraction = tt; some_digit = omega arith; exponent = tt };
    joined = refl;
  };
  least = whole _ (pos 1) (record { cross = refl });
}

nought : Denotes (codes "0") (pos 0) 0
nought = record {
  numeral = record { sign = NoSign; whole = codes "0"; fraction = None; exponent = None };
  written_so = record {
    valid = record { whole = ((omega arith, omega arith), tt); fraction = tt; some_digit = omega arith; exponent = tt };
    joined = refl;
  };
  least = whole _ (pos 0) (record { cross = refl });
}

minus_forty : Denotes (codes "-40") (negsuc 39) 0
minus_forty = record {
  numeral = record { sign = Minus; whole = codes "40"; fraction = None; exponent = None };
  written_so = record {
    valid = record { whole = ((omega arith, omega arith), ((omega arith, omega arith), tt)); fraction = tt; some_digit = omega arith; exponent = tt };
    joined = refl;
  };
  least = whole _ (negsuc 39) (record { cross = refl });
}

half : Denotes (codes "0.5") (pos 5) 1
half = record {
  numeral = record { sign = NoSign; whole = codes "0"; fraction = Some (codes "5"); exponent = None };
  written_so = record {
    valid = record { whole = ((omega arith, omega arith), tt); fraction = ((omega arith, omega arith), tt); some_digit = omega arith; exponent = tt };
    joined = refl;
  };
  least = record { same = record { cross = refl }; least = λ j m same. half_places j (unsigned_abs m) (sizes _ m j same) };
}

quarter : Denotes (codes "0.25") (pos 25) 2
quarter = record {
  numeral = record { sign = NoSign; whole = codes "0"; fraction = Some (codes "25"); exponent = None };
  written_so = record {
    valid = record { whole = ((omega arith, omega arith), tt); fraction = ((omega arith, omega arith), ((omega arith, omega arith), tt)); some_digit = omega arith; exponent = tt };
    joined = refl;
  };
  least = record { same = record { cross = refl }; least = λ j m same. quarter_places j (unsigned_abs m) (sizes _ m j same) };
}

pub narrow_half : IsScale (scale (pos 5) (pos 0) 1)
narrow_half = record { factor = omega arith; offset = omega arith; places = omega arith }

pub narrow_forty : IsScale (scale (pos 1) (negsuc 39) 0)
narrow_forty = record { factor = omega arith; offset = omega arith; places = omega arith }

pub narrow_quarter : IsScale (scale (pos 25) (pos 0) 2)
narrow_quarter = record { factor = omega arith; offset = omega arith; places = omega arith }

pub narrow_one : IsScale (scale (pos 1) (pos 0) 0)
narrow_one = record { factor = omega arith; offset = omega arith; places = omega arith }

pub half_scale : IsScaling (codes "0.5") (codes "0") (scale (pos 5) (pos 0) 1)
half_scale = record { factor_num = pos 5; factor_places = 1; offset_num = pos 0; offset_places = 0; factor_denoted = half; offset_denoted = nought; scale_is = refl; within = narrow_half }

pub forty_scale : IsScaling (codes "1") (codes "-40") (scale (pos 1) (negsuc 39) 0)
forty_scale = record { factor_num = pos 1; factor_places = 0; offset_num = negsuc 39; offset_places = 0; factor_denoted = one; offset_denoted = minus_forty; scale_is = refl; within = narrow_forty }

pub quarter_scale : IsScaling (codes "0.25") (codes "0") (scale (pos 25) (pos 0) 2)
quarter_scale = record { factor_num = pos 25; factor_places = 2; offset_num = pos 0; offset_places = 0; factor_denoted = quarter; offset_denoted = nought; scale_is = refl; within = narrow_quarter }

pub one_scale : IsScaling (codes "1") (codes "0") (scale (pos 1) (pos 0) 0)
one_scale = record { factor_num = pos 1; factor_places = 0; offset_num = pos 0; offset_places = 0; factor_denoted = one; offset_denoted = nought; scale_is = refl; within = narrow_one }
