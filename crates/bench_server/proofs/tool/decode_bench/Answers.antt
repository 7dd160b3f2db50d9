use Rattle.bench_server.proofs.ToolLaws.{plan_decoded}
use Rattle.bench_server.proofs.tool.decode_bench.Goals as goal

pub decode-end-requires-clause-planned : goal.decode-end-requires-clause-planned
decode-end-requires-clause-planned g c =
    let bytes = c.in-Ok.ensures.answer.bytes in
    let is_plan = c.in-Ok.ensures.answer.is_plan in
    let limits = c.limits_of_a_plan.ensures in
    record {
      some_bus = limits.some_bus bytes c.in-Ok.plan is_plan;
      few = limits.buses bytes c.in-Ok.plan is_plan;
      names = limits.names bytes c.in-Ok.plan is_plan;
      forms = limits.forms bytes c.in-Ok.plan is_plan;
    }

pub returns-clause-ends : goal.returns-clause-ends
returns-clause-ends g c =
    plan_decoded c.args.bench.now _ c.in-Ok.plan _ _ c.status_of-status.result c.report-2.result c.in-Ok.ensures (c.decode-end.ensures.ends c.args.bench.now) c.status_of-status.ensures c.report-2.ensures.status
