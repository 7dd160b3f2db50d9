use Rattle.bench_server.proofs.WholeLaws.{whole, whole_check, whole_mill}
use Rattle.bench_server.proofs.laws.a_run_without_faults_is_whole.Goals as goal

pub returns-clause-decode : goal.returns-clause-decode
returns-clause-decode c = whole c.one_verdict.ensures.one

pub returns-clause-check : goal.returns-clause-check
returns-clause-check c = whole_check c.one_check.ensures.one

pub returns-clause-mill : goal.returns-clause-mill
returns-clause-mill c = whole_mill
