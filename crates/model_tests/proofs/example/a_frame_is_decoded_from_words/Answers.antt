use Rattle.model_tests.proofs.ExampleLaws.{vector_fits}
use Rattle.model_tests.proofs.example.a_frame_is_decoded_from_words.Goals as goal

pub decode-requires-clause-some : goal.decode-requires-clause-some
decode-requires-clause-some g c = vector_fits c.in_ok-words.words.items c.in_ok-words.ensures
