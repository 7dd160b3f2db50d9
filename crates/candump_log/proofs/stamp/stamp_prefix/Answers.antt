use Rattle.std.proofs.Common.{arith}
use Rattle.candump_log.proofs.StampLaws.{after_literal-shorter}
use Rattle.candump_log.proofs.stamp.stamp_prefix.Goals as goal

pub returns-clause-within : goal.returns-clause-within
returns-clause-within c =
    omega (arith, after_literal-shorter c.pieces_are_what_a_text_begins_with.ensures.literal _ _ c.in_ok-opened.opened.now c.in_ok-opened.ensures, c.in_ok-seconds.ensures.within, c.in_ok-micros.ensures.within)
