use Rattle.model_tests.proofs.ExampleLaws.{vector_fits, vector_signal}
use Rattle.model_tests.proofs.example.a_raw_value_is_read_from_words.Goals as goal

pub raw_of-requires-clause-some : goal.raw_of-requires-clause-some
raw_of-requires-clause-some g c = vector_fits c.in_ok-words.words.items c.in_ok-words.ensures

pub raw_of-requires-clause-signal : goal.raw_of-requires-clause-signal
raw_of-requires-clause-signal g c = vector_signal c.in_ok-words.words.items c.in_ok-words.ensures
