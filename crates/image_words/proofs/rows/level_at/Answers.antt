use Rattle.std.proofs.Common.{◌+◌, arith}
use Rattle.image_words.proofs.RowLaws.{first_word, signal_within, shape_small, shape_decodable, level_read}
use Rattle.image_words.proofs.rows.level_at.Goals as goal

pub overflow_add-at : goal.overflow_add-at
overflow_add-at g c =
    let within = signal_within _ _ c.requires.some c.requires.signal in
    record { fits = omega (arith, within, c.len-size.ensures) }

pub read_words-requires : goal.read_words-requires
read_words-requires g c = let within = signal_within _ _ c.requires.some c.requires.signal in omega (arith, within)

pub of-requires : goal.of-requires
of-requires g c = shape_small _ _ c.args.at _ c.read_words.ensures.learned.narrows c.requires.some c.requires.signal
    (λ image bench f. first_word image (c.args.at + 1) c.read_words.new.row (omega arith) (c.read_words.ensures.words image bench f))

pub returns-clause-level : goal.returns-clause-level
returns-clause-level g c image bench f =
    rw c.of.ensures (level_read image c.args.at c.read_words.new.row (omega arith) (c.read_words.ensures.words image bench f))

pub returns-clause-shape : goal.returns-clause-shape
returns-clause-shape g c = rw c.of.ensures (shape_decodable _ _ c.args.at _ c.read_words.ensures.learned.narrows c.requires.some c.requires.signal
    (λ image bench f. first_word image (c.args.at + 1) c.read_words.new.row (omega arith) (c.read_words.ensures.words image bench f)))
