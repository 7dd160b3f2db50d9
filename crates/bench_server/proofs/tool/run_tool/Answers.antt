use Rattle.bench_server.proofs.ToolLaws.{exact_by}
use Rattle.bench_server.proofs.tool.run_tool.Goals as goal

pub returns-clause-ends : goal.returns-clause-ends
returns-clause-ends g c = rw c.of.ensures c.run-status.ensures.ends

pub returns-clause-exact : goal.returns-clause-exact
returns-clause-exact g c = rw c.of.ensures (exact_by _ _ _ c.one_verdict.ensures.one c.one_check.ensures.one c.run-status.ensures.ends)
