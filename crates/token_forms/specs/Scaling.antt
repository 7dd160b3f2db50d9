-- The scale of a factor and an offset that a text writes as decimals.
use Rattle.std.specs.Prelude.{◌≡◌, ℕ, ℤ, max, List}
use Rattle.exact_scale.specs.declared.scaling.Scale.{Scale}
use Rattle.exact_scale.specs.Numeral.{Denotes}
use Rattle.exact_scale.specs.Limits.{IsScale, numerator_over}

-- a factor and an offset over the greater of their powers of ten
abbrev pub scale_over : ℤ → ℕ → ℤ → ℕ → Scale
scale_over factor factor_places offset offset_places = record {
  factor = numerator_over (max factor_places offset_places) factor factor_places;
  offset = numerator_over (max factor_places offset_places) offset offset_places;
  k = max factor_places offset_places;
}

-- the scale of what two texts denote, within the limits
pub record IsScaling (factor offset : List ℕ) (scale : Scale) : Type 0 where
  pub factor_num : ℤ
  pub factor_places : ℕ
  pub offset_num : ℤ
  pub offset_places : ℕ
  pub factor_denoted : Denotes factor factor_num factor_places
  pub offset_denoted : Denotes offset offset_num offset_places
  pub scale_is : scale ≡ scale_over factor_num factor_places offset_num offset_places
  pub within : IsScale scale

-- the factor and the offset are too wide: no scale within the limits is theirs
abbrev pub HasNoScaling : List ℕ → List ℕ → Type 0
HasNoScaling factor offset = (scale : Scale) → ¬ IsScaling factor offset scale
