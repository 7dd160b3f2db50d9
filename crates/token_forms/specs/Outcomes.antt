-- What reading a decimal or a scale answers where it gives none.
use Rattle.std.specs.Prelude.{ℕ, List}
use Rattle.token_forms.specs.Numbers.{HasNoDecimal}
use Rattle.token_forms.specs.Scaling.{HasNoScaling}
use Rattle.token_forms.specs.declared.fault.NumberFault.{NumberFault}
use Rattle.token_forms.specs.declared.fault.NumberFault.TheVariants.{Wide, Memory}

-- the text denotes no decimal within the limits; memory may run out
abbrev pub IsNoDecimal : List ℕ → NumberFault → Type 0
IsNoDecimal text Wide = HasNoDecimal text
IsNoDecimal text Memory = Unit {0}

-- the factor and the offset are too wide; memory may run out
abbrev pub IsNoScale : List ℕ → List ℕ → NumberFault → Type 0
IsNoScale factor offset Wide = HasNoScaling factor offset
IsNoScale factor offset Memory = Unit {0}
