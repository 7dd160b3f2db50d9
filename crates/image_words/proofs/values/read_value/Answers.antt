use Rattle.std.proofs.Common.{arith}
use Rattle.std.proofs.lemmas.Int.{ints}
use Rattle.image_words.proofs.NumberLaws.{raw_kept}
use Rattle.image_words.proofs.WordLaws.{learned_then, earlier}
use Rattle.image_words.proofs.ValueLaws.{value_is}
use Rattle.image_words.proofs.values.read_value.Goals as goal

pub read_text-requires-clause-text : goal.read_text-requires-clause-text
read_text-requires-clause-text g c image bench f =
    let s = c.requires.signal image bench (earlier _ _ _ _ image bench c.coded_value-coded.ensures.learned f) in
    (s.0.name, s.1.name)

pub returns-in_err-read_text-clause-learned : goal.returns-in_err-read_text-clause-learned
returns-in_err-read_text-clause-learned g c =
    learned_then _ _ g.met.W.Words.chain _ _ _ c.coded_value-coded.ensures.learned c.read_text.ensures.learned

pub read_unit-requires-clause-text : goal.read_unit-requires-clause-text
read_unit-requires-clause-text g c image bench f =
    let before = earlier _ _ _ _ image bench c.read_text.ensures.learned f in
    let s = c.requires.signal image bench (earlier _ _ _ _ image bench c.coded_value-coded.ensures.learned before) in
    let coded = c.coded_value-coded.ensures.coded image bench before s.0.coding s.1.coding in
    (_, coded.unit_text)

pub returns-in_err-read_unit-clause-learned : goal.returns-in_err-read_unit-clause-learned
returns-in_err-read_unit-clause-learned g c =
    learned_then _ _ g.met.W.Words.chain _ _ _
    (learned_then _ _ g.met.W.Words.chain _ _ _ c.coded_value-coded.ensures.learned c.read_text.ensures.learned) c.read_unit.ensures.learned

pub read_label-requires-clause-text : goal.read_label-requires-clause-text
read_label-requires-clause-text g c image bench f =
    let middle = earlier _ _ _ _ image bench c.read_unit.ensures.learned f in
    let before = earlier _ _ _ _ image bench c.read_text.ensures.learned middle in
    let s = c.requires.signal image bench (earlier _ _ _ _ image bench c.coded_value-coded.ensures.learned before) in
    let coded = c.coded_value-coded.ensures.coded image bench before s.0.coding s.1.coding in
    (_, coded.label_text)

pub returns-in_err-labelled-clause-learned : goal.returns-in_err-labelled-clause-learned
returns-in_err-labelled-clause-learned g c =
    learned_then _ _ g.met.W.Words.chain _ _ _
    (learned_then _ _ g.met.W.Words.chain _ _ _
    (learned_then _ _ g.met.W.Words.chain _ _ _ c.coded_value-coded.ensures.learned c.read_text.ensures.learned) c.read_unit.ensures.learned)
    c.read_label.ensures.learned

pub returns-clause-learned : goal.returns-clause-learned
returns-clause-learned g c =
    learned_then _ _ g.met.W.Words.chain _ _ _
    (learned_then _ _ g.met.W.Words.chain _ _ _
    (learned_then _ _ g.met.W.Words.chain _ _ _ c.coded_value-coded.ensures.learned c.read_text.ensures.learned) c.read_unit.ensures.learned)
    c.read_label.ensures.learned

pub returns-clause-value : goal.returns-clause-value
returns-clause-value g c image bench f s has =
    let third = earlier _ _ _ _ image bench c.read_label.ensures.learned f in
    let second = earlier _ _ _ _ image bench c.read_unit.ensures.learned third in
    let first = earlier _ _ _ _ image bench c.read_text.ensures.learned second in
    let coded = c.coded_value-coded.ensures.coded image bench first s.coding has.coding in
    value_is s c.args.raw _ _ _ _ _ _ (raw_kept c.args.raw c.requires.raw) (omega (arith, ints, c.requires.raw.0, c.requires.raw.1))
    (c.in_ok-read_text.ensures.text image bench second s.name has.name) coded.number
    (c.in_ok-read_unit.ensures.text image bench third _ coded.unit_text) (c.in_ok-labelled.ensures.text image bench f _ coded.label_text)
