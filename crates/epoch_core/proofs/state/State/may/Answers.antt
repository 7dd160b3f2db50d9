-- Whether a word may be stored does not depend on the word.
use Rattle.epoch_core.proofs.state.State.may.Goals as goal

pub returns-in-W1-clause-exact : goal.returns-in-W1-clause-exact
returns-in-W1-clause-exact c = rw c.in-W1.is (c.may_store_word.ensures c.in-W1.word)

pub returns-in-W1-clause-in_range : goal.returns-in-W1-clause-in_range
returns-in-W1-clause-in_range c = rw c.in-W1.is (λ allowed. ((c.may_store_word.ensures c.in-W1.word).0 allowed).0)
