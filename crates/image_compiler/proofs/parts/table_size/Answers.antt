use Rattle.std.proofs.Common.{◌≡◌, ℕ, arith, subst}
use Rattle.std.specs.Prelude.{IfOk}
use Rattle.image_compiler.proofs.ListLaws.{table_total}
use Rattle.image_compiler.proofs.parts.table_size.Goals as goal

pub returns-clause-size : goal.returns-clause-size
returns-clause-size g c =
    let sum = table_total c.args.width g.T.Parts.behind c.args.rows.now in
    let P : ℕ → Type 0 = λ m. IfOk c.place_behind.result (λ n. n ≡ m) in
    subst P (omega (arith, sum, c.in_ok-behind.ensures.size)) c.place_behind.ensures
