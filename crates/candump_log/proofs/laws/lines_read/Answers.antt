use Rattle.candump_log.proofs.ReadLaws.{reads_nothing, reads_line, ends, stops, unread}
use Rattle.candump_log.proofs.laws.lines_read.Goals as goal

pub returns-clause-made : goal.returns-clause-made
returns-clause-made c = reads_nothing

pub returns-clause-line : goal.returns-clause-line
returns-clause-line c = reads_line

pub returns-clause-end : goal.returns-clause-end
returns-clause-end c = ends

pub returns-clause-fault : goal.returns-clause-fault
returns-clause-fault c = stops

pub returns-clause-moment : goal.returns-clause-moment
returns-clause-moment c = unread
