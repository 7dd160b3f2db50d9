use Rattle.std.proofs.Common.{subst}
use Rattle.candump_log.specs.declared.log_line.LogLine.{LogLine}
use Rattle.candump_log.specs.Line.{IsLine, KeepsLimits}
use Rattle.candump_log.proofs.RoutingLaws.{line_of-bad, line_of-read}
use Rattle.candump_log.proofs.log_line.line.Goals as goal

pub returns-in-Some-clause-says : goal.returns-in-Some-clause-says
returns-in-Some-clause-says c =
    let P : LogLine → Type 0 = IsLine c.args.bytes.now in
    subst P (line_of-read c.args.bytes.now c.in-Some.field-0-0 c.in-Some.line c.in-Some.ensures.value) (c.one_line.ensures.some c.args.bytes.now)

pub returns-in-Some-clause-limits : goal.returns-in-Some-clause-limits
returns-in-Some-clause-limits c =
    let P : LogLine → Type 0 = KeepsLimits in
    subst P (line_of-read c.args.bytes.now c.in-Some.field-0-0 c.in-Some.line c.in-Some.ensures.value) (c.one_line.ensures.limits c.args.bytes.now)

pub returns-in-None-clause-says : goal.returns-in-None-clause-says
returns-in-None-clause-says c =
    let P : LogLine → Type 0 = IsLine c.args.bytes.now in
    subst P (line_of-bad c.args.bytes.now c.in-None.ensures.value) (c.one_line.ensures.some c.args.bytes.now)
