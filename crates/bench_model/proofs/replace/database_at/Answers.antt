use Rattle.bench_model.proofs.ChangeLaws.{taken_out, left_without, unnamed}
use Rattle.bench_model.proofs.replace.database_at.Goals as goal

pub returns-in-Some-clause-database : goal.returns-in-Some-clause-database
returns-in-Some-clause-database c =
    taken_out _ _ _ _ _ _ _ c.deref.ensures.value c.in-Some.ensures c.remove-database.ensures.value c.into_database.ensures.same

pub returns-in-Some-clause-others : goal.returns-in-Some-clause-others
returns-in-Some-clause-others c = λ other different.
    left_without _ _ _ _ _ other _ c.deref.ensures.value c.in-Some.ensures c.remove-database.ensures.value c.remove-database.ensures.items different

pub returns-in_ok-deep_copy-in-None-clause-database : goal.returns-in_ok-deep_copy-in-None-clause-database
returns-in_ok-deep_copy-in-None-clause-database c = unnamed _ _ _ _ _ c.deref.ensures.value c.in-None.ensures c.in_ok-deep_copy-in-None.ensures
