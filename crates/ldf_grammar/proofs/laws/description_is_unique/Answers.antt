use Rattle.ldf_grammar.proofs.OneLaws.{one_made}
use Rattle.ldf_grammar.proofs.FaultLaws.{one_fault, no_fault}
use Rattle.ldf_grammar.proofs.laws.description_is_unique.Goals as goal

pub returns-clause-one : goal.returns-clause-one
returns-clause-one c = λ text a b p q. one_made (record {
  tokens = c.reading_is_unique.ensures.list;
  lexical = c.reading_is_unique.ensures.fault;
  apart = c.reading_is_unique.ensures.never_both;
  rows = record { statement = c.forms_are_statements.ensures.statement; first = c.forms_are_statements.ensures.first };
  run = c.one_longest_run.ensures.one;
  some_scale = c.one_scale_or_none.ensures.some;
  one_scale = c.one_scale_or_none.ensures.one;
  verdict = c.verdict_is_unique.ensures.one;
  verdicts_apart = c.verdict_is_unique.ensures.never_both;
}) text a b p.made q.made

pub returns-clause-one_fault : goal.returns-clause-one_fault
returns-clause-one_fault c = one_fault (record {
  tokens = c.reading_is_unique.ensures.list;
  lexical = c.reading_is_unique.ensures.fault;
  apart = c.reading_is_unique.ensures.never_both;
  rows = record { statement = c.forms_are_statements.ensures.statement; first = c.forms_are_statements.ensures.first };
  run = c.one_longest_run.ensures.one;
  some_scale = c.one_scale_or_none.ensures.some;
  one_scale = c.one_scale_or_none.ensures.one;
  verdict = c.verdict_is_unique.ensures.one;
  verdicts_apart = c.verdict_is_unique.ensures.never_both;
})

pub returns-clause-never_both : goal.returns-clause-never_both
returns-clause-never_both c = no_fault (record {
  tokens = c.reading_is_unique.ensures.list;
  lexical = c.reading_is_unique.ensures.fault;
  apart = c.reading_is_unique.ensures.never_both;
  rows = record { statement = c.forms_are_statements.ensures.statement; first = c.forms_are_statements.ensures.first };
  run = c.one_longest_run.ensures.one;
  some_scale = c.one_scale_or_none.ensures.some;
  one_scale = c.one_scale_or_none.ensures.one;
  verdict = c.verdict_is_unique.ensures.one;
  verdicts_apart = c.verdict_is_unique.ensures.never_both;
})
