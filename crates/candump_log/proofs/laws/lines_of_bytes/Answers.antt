use Rattle.candump_log.proofs.CutLaws.{whole_lines-parted, whole_lines-plain_each}
use Rattle.candump_log.proofs.laws.lines_of_bytes.Goals as goal

pub returns-clause-parted : goal.returns-clause-parted
returns-clause-parted c = whole_lines-parted

pub returns-clause-plain : goal.returns-clause-plain
returns-clause-plain c = whole_lines-plain_each
