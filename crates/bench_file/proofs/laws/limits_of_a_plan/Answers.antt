use Rattle.bench_file.proofs.LimitLaws.{buses_of_a_plan, number_of_a_plan}
use Rattle.bench_file.proofs.laws.limits_of_a_plan.Goals as goal

pub returns-clause-forms : goal.returns-clause-forms
returns-clause-forms c = buses_of_a_plan

pub returns-clause-least : goal.returns-clause-least
returns-clause-least c = λ bytes plan setting p. (number_of_a_plan bytes plan setting p).0

pub returns-clause-greatest : goal.returns-clause-greatest
returns-clause-greatest c = λ bytes plan setting p. (number_of_a_plan bytes plan setting p).1
