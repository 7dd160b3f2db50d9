use Rattle.bench_server.proofs.laws.one_end.Goals as goal

pub returns-clause-some : goal.returns-clause-some
returns-clause-some c = c.one_verdict.ensures.some

pub returns-clause-one : goal.returns-clause-one
returns-clause-one c = c.one_verdict.ensures.one

pub returns-clause-some_check : goal.returns-clause-some_check
returns-clause-some_check c = c.one_check.ensures.some

pub returns-clause-one_check : goal.returns-clause-one_check
returns-clause-one_check c = c.one_check.ensures.one
