-- Physical values as exact fractions (DBC: a signal's factor and offset; LIN 2.x description files: physical_value).
use Rattle.std.specs.Prelude.{ℤ, ◌+ℤ◌, ◌*ℤ◌}
use Rattle.exact_scale.specs.declared.scaling.Scale.{Scale}
use Rattle.exact_scale.specs.declared.printing.Exact.{Exact}

-- the value of a raw value: raw * factor + offset over 10 ^ k
abbrev pub scaled_value : Scale → ℤ → Exact
scaled_value scale raw = record { num = (raw *ℤ scale.factor) +ℤ scale.offset; k = scale.k }

-- a whole number as a fraction
abbrev pub whole : ℤ → Exact
whole raw = record { num = raw; k = 0 }
