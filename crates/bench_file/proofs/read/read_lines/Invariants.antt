use Rattle.std.proofs.Common.{length}
use Rattle.bench_file.proofs.ReadLaws.{Reads}
use Rattle.bench_file.proofs.read.read_lines.Given as goal

-- the lines so far keep the rules and are in the draft
abbrev pub invariant-loop-line : goal.invariant-loop-line
invariant-loop-line l = Reads l.bytes l.rest l.draft l.number

abbrev pub decreases-loop-line : goal.decreases-loop-line
decreases-loop-line l = length l.rest
