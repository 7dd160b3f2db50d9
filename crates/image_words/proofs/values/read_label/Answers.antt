use Rattle.std.proofs.Common.{◌∙◌, Some, ap, sym}
use Rattle.image_words.proofs.ValueLaws.{no_text, some_text, each_text}
use Rattle.image_words.proofs.values.read_label.Goals as goal

pub returns-then-reference-eq0-clause-text : goal.returns-then-reference-eq0-clause-text
returns-then-reference-eq0-clause-text g c image bench f own has = sym (no_text image c.args.reference own has c.if-reference-eq0.true)

pub read_text-requires-clause-text : goal.read_text-requires-clause-text
read_text-requires-clause-text g c = each_text _ c.args.reference c.requires.text c.if-reference-eq0.false

pub returns-clause-text : goal.returns-clause-text
returns-clause-text g c image bench f own has =
    let text = some_text image c.args.reference own has c.if-reference-eq0.false in
    ap Some (c.in_ok-read_text.ensures.text image bench f text.0 text.2) ∙ sym text.1
