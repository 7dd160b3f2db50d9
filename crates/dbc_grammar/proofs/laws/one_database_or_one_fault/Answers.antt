use Rattle.dbc_grammar.proofs.laws.one_database_or_one_fault.Goals as goal

pub returns : goal.returns
returns c = record {
  some = c.database_exists.ensures;
  one = c.database_is_unique.ensures.one;
  only = c.database_is_unique.ensures.one_fault;
  apart = c.database_is_unique.ensures.never_both;
}
