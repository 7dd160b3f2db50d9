use Rattle.image_words.proofs.MatchLaws.{group_found, group_missing}
use Rattle.image_words.proofs.matching.by_group.Goals as goal

pub returns-then-row-ne-J1939_BUS-clause-position : goal.returns-then-row-ne-J1939_BUS-clause-position
returns-then-row-ne-J1939_BUS-clause-position g c image bench f bus has =
    group_missing image c.args.row bus c.args.pgn has c.if-row-ne-J1939_BUS.true

pub returns-clause-position : goal.returns-clause-position
returns-clause-position g c image bench f bus has =
    group_found image c.args.row bus c.args.pgn _ _ has c.if-row-ne-J1939_BUS.false c.from.ensures (c.position_of.ensures.position image bench f)
