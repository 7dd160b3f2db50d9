use Rattle.dbc_grammar.proofs.ExistLaws.{database_or_fault}
use Rattle.dbc_grammar.proofs.laws.database_exists.Goals as goal

pub returns : goal.returns
returns c = database_or_fault (record {
  one_scale = c.one_scale_or_none.ensures.one;
  some_scale = c.one_scale_or_none.ensures.some;
  run = c.statements_are_the_longest_run.ensures.longest;
  tree = c.resolution_is_unique.ensures.some;
  over = c.trees_of_marks.ensures.over;
  reading = c.reading_is_unique.ensures.some;
  verdict = c.verdict_is_unique.ensures.some;
})
