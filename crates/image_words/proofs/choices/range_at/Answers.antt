use Rattle.std.proofs.Common.{arith}
use Rattle.image_words.proofs.RowLaws.{range_within, range_read}
use Rattle.image_words.proofs.choices.range_at.Goals as goal

pub overflow_mul-i : goal.overflow_mul-i
overflow_mul-i g c =
    let within = range_within _ _ _ _ c.requires.some c.requires.ranges c.requires.within in
    record { fits = omega (arith, within, c.len-size.ensures) }

pub overflow_add-at : goal.overflow_add-at
overflow_add-at g c =
    let within = range_within _ _ _ _ c.requires.some c.requires.ranges c.requires.within in
    record { fits = omega (arith, within, c.len-size.ensures) }

pub read_words-requires : goal.read_words-requires
read_words-requires g c =
    let within = range_within _ _ _ _ c.requires.some c.requires.ranges c.requires.within in
    omega (arith, within)

pub returns-clause-range : goal.returns-clause-range
returns-clause-range g c image bench f ranges has =
    range_read image c.args.at c.args.count c.args.i c.read_words.new.row ranges (omega arith) (c.read_words.ensures.words image bench f) has c.requires.within
