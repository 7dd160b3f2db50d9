use Rattle.std.proofs.Common.{◌≡◌, ◌+◌, ◌≤◌, length}
use Rattle.byte_forms.specs.Lines.{all_lines}
use Rattle.subscriber_text.specs.WantLines.{lines_wants}
use Rattle.subscriber_text.specs.WantView.{wants_view}
use Rattle.subscriber_text.proofs.ReadLaws.{onto_all}
use Rattle.subscriber_text.proofs.read.read_lines.Given as goal

-- the wants so far and those of the lines that are left are all the wants
abbrev pub invariant-loop-line : goal.invariant-loop-line
invariant-loop-line l =
    (lines_wants l.names (l.fn.lines + 1) (all_lines l.text) ≡ onto_all (wants_view l.wants.items) (lines_wants l.names (l.lines + 1) (all_lines l.rest)))
    × (l.lines + length l.rest ≤ l.fn.lines + length l.text)

abbrev pub decreases-loop-line : goal.decreases-loop-line
decreases-loop-line l = length l.rest
