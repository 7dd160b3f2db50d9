use Rattle.bench_model.specs.Limits.{IsEntry}
use Rattle.bench_model.proofs.FoundLaws.{IfSome-find, from_IfSome}
use Rattle.bench_model.proofs.coding.listed_value.Goals as goal

pub entry_value-requires-clause-entry : goal.entry_value-requires-clause-entry
entry_value-requires-clause-entry c =
    from_IfSome IsEntry _ _ c.in-Some.ensures (IfSome-find _ IsEntry _ c.requires.entries)
