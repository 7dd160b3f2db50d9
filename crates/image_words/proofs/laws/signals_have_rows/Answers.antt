use Rattle.image_words.proofs.DecodeLaws.{valid_at}
use Rattle.image_words.proofs.WholeLaws.{signal_there}
use Rattle.image_words.proofs.laws.signals_have_rows.Goals as goal

pub returns : goal.returns
returns c image bench i j k bus message s encodes valid at_bus =
    signal_there image bench i j k bus message s encodes
    (c.valid_is_decodable.ensures bus.database (valid_at bench i bus valid.valid at_bus)) at_bus
