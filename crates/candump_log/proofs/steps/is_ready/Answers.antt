use Rattle.std.proofs.Common.{refl}
use Rattle.candump_log.proofs.CutLaws.{none_found, has_feed-none, feed_found}
use Rattle.candump_log.proofs.steps.is_ready.Goals as goal

pub returns-in-Some : goal.returns-in-Some
returns-in-Some c =
    let h = c.in-Some.ensures in
    let feed = feed_found c.args.held.now c.in-Some.field-0 h.0.high h.1 in
    rw feed refl

pub returns-else-ended : goal.returns-else-ended
returns-else-ended c =
    let none = has_feed-none c.args.held.now (none_found c.args.held.now (λ k low high p. c.in-None.ensures k low high p)) in
    let open' = c.if-ended.false in
    rw (none, open') refl
