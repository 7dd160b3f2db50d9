use Rattle.std.proofs.Common.{arith}
use Rattle.image_words.proofs.RowLaws.{signal_within, shape_small, shape_decodable, signal_row_read}
use Rattle.image_words.proofs.rows.signal_row.Goals as goal

pub read_words-requires : goal.read_words-requires
read_words-requires g c = let within = signal_within _ _ c.requires.some c.requires.signal in omega (arith, within)

pub of-requires : goal.of-requires
of-requires g c = shape_small _ _ c.args.at _ c.read_words.ensures.learned.narrows c.requires.some c.requires.signal
    (λ image bench f. c.read_words.ensures.words image bench f 1 (omega arith))

pub returns-clause-row : goal.returns-clause-row
returns-clause-row g c image bench f =
    rw c.of.ensures (signal_row_read image c.args.at c.read_words.new.row (omega arith) (c.read_words.ensures.words image bench f))

pub returns-clause-shape : goal.returns-clause-shape
returns-clause-shape g c = rw c.of.ensures (shape_decodable _ _ c.args.at _ c.read_words.ensures.learned.narrows c.requires.some c.requires.signal
    (λ image bench f. c.read_words.ensures.words image bench f 1 (omega arith)))
