use Rattle.multiplex_tree.proofs.ChainLaws.{first_cycle, all_end}
use Rattle.multiplex_tree.proofs.chain.check_chains.Goals as goal

pub returns-in-Some-first_with-clause-fault : goal.returns-in-Some-first_with-clause-fault
returns-in-Some-first_with-clause-fault c =
    first_cycle c.args.parents.now c.in-Ok.far.items _ _ c.as_slice.ensures.value c.in-Ok.ensures c.in-Some-first_with.ensures

pub returns-clause-fault : goal.returns-clause-fault
returns-clause-fault c = record {
  within = c.in-Some.ensures.within;
  deep = c.in-Some.ensures.here;
  first = c.in-Some.ensures.first;
  ends = all_end c.args.parents.now c.in-Ok.far.items _ c.as_slice.ensures.value c.in-Ok.ensures c.in-None.ensures;
}
