use Rattle.ldf_grammar.proofs.laws.one_description_or_one_fault.Goals as goal

pub returns : goal.returns
returns c = record {
  some = c.description_exists.ensures;
  one = c.description_is_unique.ensures.one;
  only = c.description_is_unique.ensures.one_fault;
  apart = c.description_is_unique.ensures.never_both;
}
