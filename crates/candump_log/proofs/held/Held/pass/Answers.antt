use Rattle.std.proofs.Common.{List, ℕ, drop, length, ap, ◌∙◌, arith}
use Rattle.std.proofs.lemmas.List.Edits.{length-between}
use Rattle.candump_log.proofs.HeldLaws.{consumed}
use Rattle.candump_log.proofs.held.Held.pass.Goals as goal

pub returns : goal.returns
returns c =
    let h = c.self.inside in
    consumed h.buffer.items h.low h.high c.args.count (omega (arith, ap length c.self.view_is, length-between h.buffer.items h.low h.high, c.self.invariant))
    ∙ ap (λ (l : List ℕ). drop c.args.count l) c.self.view_is
