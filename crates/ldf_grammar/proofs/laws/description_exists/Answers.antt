use Rattle.ldf_grammar.proofs.ExistLaws.{some_description}
use Rattle.ldf_grammar.proofs.laws.description_exists.Goals as goal

pub returns : goal.returns
returns c = λ text. some_description (record {
  tokens = c.reading_is_unique.ensures.list;
  lexical = c.reading_is_unique.ensures.fault;
  apart = c.reading_is_unique.ensures.never_both;
  rows = record { statement = c.forms_are_statements.ensures.statement; first = c.forms_are_statements.ensures.first };
  run = c.one_longest_run.ensures.one;
  some_scale = c.one_scale_or_none.ensures.some;
  one_scale = c.one_scale_or_none.ensures.one;
  verdict = c.verdict_is_unique.ensures.one;
  verdicts_apart = c.verdict_is_unique.ensures.never_both;
}) c.one_longest_run.ensures.some c.signals_without_parents.ensures.tree c.verdict_is_unique.ensures.some c.reading_is_unique.ensures.some text
