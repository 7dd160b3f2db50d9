use Rattle.bench_file.proofs.PlanLaws.{one_answer}
use Rattle.bench_file.proofs.laws.one_plan_or_one_fault.Goals as goal

pub returns : goal.returns
returns c = one_answer
