use Rattle.candump_log.proofs.RoutingLaws.{route-read, route-bad}
use Rattle.candump_log.proofs.routing.route.Goals as goal

pub returns-in-Some : goal.returns-in-Some
returns-in-Some c =
    route-read c.args.names.now c.args.long c.args.piece.now c.in-Some.span c.in-Some.line c.name_place.result c.if-long.false c.in-Some.ensures.value c.name_place.ensures

pub returns-in-None : goal.returns-in-None
returns-in-None c = route-bad c.args.names.now c.args.long c.args.piece.now c.if-long.false c.in-None.ensures.value
