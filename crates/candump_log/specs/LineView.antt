-- What the readers of a line give, with the texts behind their references.
use Rattle.std.specs.Prelude.{ℕ, List}
use Rattle.std.specs.Borrow.{Bor}

abbrev pub pair_view : {A : Type 0} → A × Bor (List ℕ) → A × List ℕ
pair_view pair = (pair.0, pair.1.now)
