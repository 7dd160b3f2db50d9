use Rattle.port_io.proofs.CopyLaws.{left_parted, taken_parted}
use Rattle.port_io.proofs.progress.Progress.read.Goals as goal

pub returns-clause-left : goal.returns-clause-left
returns-clause-left c = left_parted c.args.bytes.now c.copy_some-count.new.to c.args.self.now.place c.copy_some-count.result c.copy_some-count.ensures.copied

pub returns-clause-taken : goal.returns-clause-taken
returns-clause-taken c = taken_parted c.args.bytes.now c.copy_some-count.new.to c.args.self.now.place c.copy_some-count.result c.copy_some-count.ensures.copied
