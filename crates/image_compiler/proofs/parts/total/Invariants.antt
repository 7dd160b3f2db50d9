use Rattle.std.proofs.Common.{◌≡◌, ◌+◌, drop}
use Rattle.std.specs.Prelude.{All}
use Rattle.image_compiler.specs.Size.{total}
use Rattle.image_compiler.proofs.parts.total.Given as goal

abbrev pub invariant-loop-row : goal.invariant-loop-row
invariant-loop-row g l = record {
  size : l.size + total g.T.Parts.behind (drop l.row-index l.rows) ≡ total g.T.Parts.behind l.rows;
  typed : All g.T.Parts.is_typed (drop l.row-index l.rows) → All g.T.Parts.is_typed l.rows;
}
