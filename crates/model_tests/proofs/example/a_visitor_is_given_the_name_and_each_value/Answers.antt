use Rattle.model_tests.proofs.ExampleLaws.{vector_fits}
use Rattle.model_tests.proofs.example.a_visitor_is_given_the_name_and_each_value.Goals as goal

pub walk-requires-clause-some : goal.walk-requires-clause-some
walk-requires-clause-some g c = vector_fits c.in_ok-words.words.items c.in_ok-words.ensures
