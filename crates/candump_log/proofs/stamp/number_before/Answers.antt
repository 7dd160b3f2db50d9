use Rattle.std.proofs.Common.{arith, length-drop}
use Rattle.candump_log.proofs.StampLaws.{after_literal-shorter}
use Rattle.candump_log.proofs.stamp.number_before.Goals as goal

pub returns-clause-within : goal.returns-clause-within
returns-clause-within c =
    omega (arith, after_literal-shorter c.pieces_are_what_a_text_begins_with.ensures.literal c.args.literal.now _ c.in_ok-rest.rest.now c.in_ok-rest.ensures, length-drop c.in_ok-count.count c.args.bytes.now)
