use Rattle.std.proofs.Common.{◌∙◌, refl, arith}
use Rattle.std.proofs.lemmas.Int.{ints}
use Rattle.image_words.proofs.RowLaws.{label_within, label_read}
use Rattle.image_words.proofs.choices.label_at.Goals as goal

pub overflow_mul-i : goal.overflow_mul-i
overflow_mul-i g c =
    let within = label_within _ _ _ _ c.requires.some c.requires.labels c.requires.within in
    record { fits = omega (arith, within, c.len-size.ensures) }

pub overflow_add-at : goal.overflow_add-at
overflow_add-at g c =
    let within = label_within _ _ _ _ c.requires.some c.requires.labels c.requires.within in
    record { fits = omega (arith, within, c.len-size.ensures) }

pub read_words-requires : goal.read_words-requires
read_words-requires g c =
    let within = label_within _ _ _ _ c.requires.some c.requires.labels c.requires.within in
    omega (arith, within)

pub returns-clause-label : goal.returns-clause-label
returns-clause-label g c image bench f labels has =
    label_read image c.args.at c.args.count c.args.i c.read_words.new.row labels _ (omega arith) (c.read_words.ensures.words image bench f) has
    c.requires.within (omega (arith, ints, c.label_raw.ensures.bound.0, c.label_raw.ensures.bound.1) ∙ c.label_raw.ensures.value) refl
