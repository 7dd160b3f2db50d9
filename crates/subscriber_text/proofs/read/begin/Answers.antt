use Rattle.std.proofs.Common.{◌∙◌, ap, rules}
use Rattle.byte_forms.specs.Lines.{all_lines}
use Rattle.text_words.specs.Words.{words_of}
use Rattle.subscriber_text.specs.WantLines.{format_of}
use Rattle.subscriber_text.proofs.ReadLaws.{asked-named, asked-unnamed, asked-empty}
use Rattle.subscriber_text.proofs.read.begin.Goals as goal

pub returns-in_default-clause-asked : goal.returns-in_default-clause-asked
returns-in_default-clause-asked c = λ names. asked-empty names c.args.text.now (c.in_default.ensures.none.0 (search rules))

pub returns-in-None-clause-asked : goal.returns-in-None-clause-asked
returns-in-None-clause-asked c = λ names. asked-unnamed names c.args.text.now c.in-Some.line.now (all_lines c.in-Some.rest.now) c.in-Some.ensures.line
    (c.in-None.ensures ∙ ap (λ line. format_of (words_of line)) c.without_return.ensures)

pub returns-in-Some-format_of-clause-asked : goal.returns-in-Some-format_of-clause-asked
returns-in-Some-format_of-clause-asked c =
    λ names. asked-named names c.args.text.now c.in-Some.line.now (all_lines c.in-Some.rest.now) c.in-Some-format_of.format c.in-Some.ensures.line
    (c.in-Some-format_of.ensures ∙ ap (λ line. format_of (words_of line)) c.without_return.ensures)
