use Rattle.candump_log.proofs.LineRuleLaws.{shown_fresh}
use Rattle.candump_log.proofs.lines.Lines.new.Goals as goal

pub returns-clause-lines : goal.returns-clause-lines
returns-clause-lines g c = shown_fresh _ _ _ _ _ c.in-Ok.held c.in-Ok.ensures c.requires
