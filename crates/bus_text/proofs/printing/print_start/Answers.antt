use Rattle.bus_text.proofs.BufferLaws.{buffers_nothing, prints_all}
use Rattle.bus_text.proofs.LineLaws.{no_start}
use Rattle.bus_text.proofs.printing.print_start.Goals as goal

pub returns-clause-prints : goal.returns-clause-prints
returns-clause-prints g c = rw (no_start c.args.bus c.args.number c.if-number-eq0.false) (prints_all (buffers_nothing _))
