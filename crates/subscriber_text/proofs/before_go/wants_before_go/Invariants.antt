use Rattle.std.proofs.Common.{length}
use Rattle.subscriber_text.proofs.GoLaws.{ReadTo}
use Rattle.subscriber_text.proofs.before_go.wants_before_go.Given as goal

-- the lines so far are none that is `GO`
abbrev pub invariant-lines : goal.invariant-lines
invariant-lines l = ReadTo l.last l.bytes l.rest l.lines

abbrev pub decreases-lines : goal.decreases-lines
decreases-lines l = length l.rest
