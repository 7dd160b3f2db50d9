use Rattle.std.proofs.Common.{◌≡◌, false}
use Rattle.candump_log.specs.LinesState.{source_state}
use Rattle.candump_log.specs.Steps.{work}
use Rattle.candump_log.proofs.LineRuleLaws.{Goes}
use Rattle.candump_log.proofs.lines.Lines.next_on.Given as goal

-- the rule holds, and no line was given yet
abbrev pub invariant-lines : goal.invariant-lines
invariant-lines g l =
    let s = l.self-inside.source in
    record {
      goes : Goes l.fn.self (source_state (g.S.Source.left s) (g.S.Source.taken s) (g.S.Source.read_faults s) (g.S.Source.ended s)) (g.S.Source.other s) l.self-inside.held l.self-inside.place;
      ended : l.self-inside.ended ≡ g.S.Source.ended s;
      failed : l.self-inside.failed ≡ false;
    }

abbrev pub decreases-lines : goal.decreases-lines
decreases-lines g l = work l.self-inside.place l.self-inside.ended
