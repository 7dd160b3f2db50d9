use Rattle.std.proofs.Common.{arith}
use Rattle.image_words.proofs.RowLaws.{bus_row_read}
use Rattle.image_words.proofs.rows.bus_row.Goals as goal

pub returns-clause-row : goal.returns-clause-row
returns-clause-row g c image bench f =
    bus_row_read image c.args.at c.read_words.new.row (omega arith) (c.read_words.ensures.words image bench f)
