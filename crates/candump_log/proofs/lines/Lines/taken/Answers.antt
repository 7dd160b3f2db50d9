use Rattle.candump_log.proofs.LineRuleLaws.{shown_prefix}
use Rattle.candump_log.proofs.lines.Lines.taken.Goals as goal

pub returns-clause-prefix : goal.returns-clause-prefix
returns-clause-prefix g c = shown_prefix _ _ _ _ _ _ c.self.view_is c.self.invariant.0
