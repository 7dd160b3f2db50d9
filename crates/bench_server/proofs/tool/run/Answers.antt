use Rattle.std.proofs.Common.{◌∙◌, Some, sym, ap}
use Rattle.tool_words.specs.WordView.{command_view}
use Rattle.bench_server.proofs.MillLaws.{mill_reported}
use Rattle.bench_server.proofs.tool.run.Goals as goal

pub returns-in-Some-Mill-clause-ends : goal.returns-in-Some-Mill-clause-ends
returns-in-Some-Mill-clause-ends g c =
    let named = sym c.command_of.ensures ∙ ap command_view (c.in-Some-Mill.is ∙ ap Some c.in-Some-Mill.field-0-is) in
    rw c.requires.none
    (mill_reported _ c.in-Some-Mill.frames _ c.mill-status.result c.report-in-Some-Mill.result named (c.mill-status.ensures.ends _) c.report-in-Some-Mill.ensures.status)
