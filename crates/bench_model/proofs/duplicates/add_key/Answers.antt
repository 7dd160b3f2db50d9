use Rattle.std.proofs.Common.{◌∙◌}
use Rattle.bench_model.proofs.DuplicateLaws.{same_key, one_more}
use Rattle.bench_model.proofs.duplicates.add_key.Goals as goal

pub returns-clause-added : goal.returns-clause-added
returns-clause-added c = λ key.
    let m = c.args.message.now.key in
    c.in_ok-insert.ensures.updates.0 (key.extended, key.id)
    ∙ one_more _ _ _ (same_key m.extended key.extended m.id key.id)
