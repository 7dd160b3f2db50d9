use Rattle.std.proofs.Common.{◌∙◌, ap, ℕ, List}
use Rattle.std.specs.Ordering.{is_eq, nat_cmp}
use Rattle.std.specs.Cmp.Lexicographic.{slice_cmp}
use Rattle.bench_model.proofs.DuplicateLaws.{same_name, one_more}
use Rattle.bench_model.proofs.duplicates.add_name.Goals as goal

pub returns-clause-added : goal.returns-clause-added
returns-clause-added c = λ name.
    c.in_ok-insert.ensures.updates.0 (record c.bytes.result { now = name })
    ∙ one_more _ _ _ (ap (λ (bytes : List ℕ). is_eq (slice_cmp nat_cmp bytes name)) c.bytes.ensures
    ∙ same_name c.args.signal.now.name name)
