use Rattle.token_forms.proofs.RunLaws.{run_is_longest, runs_are_one}
use Rattle.token_forms.proofs.laws.one_longest_run.Goals as goal

pub returns-clause-some : goal.returns-clause-some
returns-clause-some g c = run_is_longest

pub returns-clause-one : goal.returns-clause-one
returns-clause-one g c = runs_are_one
