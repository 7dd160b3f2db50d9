-- When a bench is refused for its size.
use Rattle.std.specs.Prelude.{◌≡◌, ℕ, ◌<◌}
use Rattle.image_compiler.specs.declared.refused.CompileRefused.{CompileRefused}
use Rattle.image_compiler.specs.declared.refused.CompileRefused.TheVariants.{TooLarge, Memory}

-- the size is above the room, and is what is needed; memory may run out at any time
abbrev pub IsRefusal : ℕ → ℕ → CompileRefused → Type 0
IsRefusal room size (TooLarge need) = (need ≡ size) × (room < size)
IsRefusal room size Memory = Unit {0}
