use Rattle.std.proofs.Common.{arith}
use Rattle.image_words.proofs.MatchLaws.{key_found}
use Rattle.image_words.proofs.matching.by_key.Goals as goal

pub returns-clause-position : goal.returns-clause-position
returns-clause-position g c image bench f bus has =
    key_found image c.args.row bus c.args.key c.key_number_of.result _ has (omega arith) c.key_number_of.ensures.value (c.position_of.ensures.position image bench f)
