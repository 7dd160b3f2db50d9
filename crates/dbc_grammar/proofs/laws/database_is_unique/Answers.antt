use Rattle.dbc_grammar.proofs.UniqueLaws.{one_database}
use Rattle.dbc_grammar.proofs.NeverLaws.{never_both}
use Rattle.dbc_grammar.proofs.OneFaultLaws.{one_fault}
use Rattle.dbc_grammar.proofs.laws.database_is_unique.Goals as goal

pub returns-clause-one : goal.returns-clause-one
returns-clause-one c =
    one_database c.one_scale_or_none.ensures.one c.resolution_is_unique.ensures.tree c.reading_is_unique.ensures.list
    c.statements_are_the_longest_run.ensures.only

pub returns-clause-one_fault : goal.returns-clause-one_fault
returns-clause-one_fault c = one_fault (record {
  one_scale = c.one_scale_or_none.ensures.one;
  some_scale = c.one_scale_or_none.ensures.some;
  tree = c.resolution_is_unique.ensures.tree;
  treeless = c.resolution_is_unique.ensures.fault;
  tree_apart = c.resolution_is_unique.ensures.never_both;
  reading = c.reading_is_unique.ensures.list;
  run = c.statements_are_the_longest_run.ensures.only;
  lexical = c.reading_is_unique.ensures.fault;
  lex_apart = c.reading_is_unique.ensures.never_both;
  verdict = c.verdict_is_unique.ensures.one;
  verdict_apart = c.verdict_is_unique.ensures.never_both;
})

pub returns-clause-never_both : goal.returns-clause-never_both
returns-clause-never_both c =
    never_both c.one_scale_or_none.ensures.one c.resolution_is_unique.ensures.tree c.reading_is_unique.ensures.list
    c.statements_are_the_longest_run.ensures.only c.reading_is_unique.ensures.never_both c.resolution_is_unique.ensures.never_both c.verdict_is_unique.ensures.never_both
