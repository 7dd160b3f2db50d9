use Rattle.std.proofs.Common.{◌∙◌, sym}
use Rattle.image_words.proofs.ValueLaws.{no_unit, some_unit, each_unit}
use Rattle.image_words.proofs.values.read_unit.Goals as goal

pub returns-then-reference-eq0-clause-text : goal.returns-then-reference-eq0-clause-text
returns-then-reference-eq0-clause-text g c image bench f own has =
    c.clear.ensures.items ∙ sym (no_unit image c.args.reference own has c.if-reference-eq0.true)

pub read_text-requires-clause-text : goal.read_text-requires-clause-text
read_text-requires-clause-text g c = each_unit _ c.args.reference c.requires.text c.if-reference-eq0.false

pub returns-clause-text : goal.returns-clause-text
returns-clause-text g c image bench f own has =
    c.in_ok-read_text.ensures.text image bench f own (some_unit image c.args.reference own has c.if-reference-eq0.false)
