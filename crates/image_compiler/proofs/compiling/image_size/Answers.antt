use Rattle.std.proofs.Common.{List, Ok, Err, subst}
use Rattle.std.specs.Prelude.{All, OnOk}
use Rattle.bench_model.specs.declared.database.Bus.{Bus}
use Rattle.image_compiler.specs.Typed.{IsTypedBus}
use Rattle.image_compiler.proofs.compiling.image_size.Goals as goal

pub returns-clause-typed : goal.returns-clause-typed
returns-clause-typed c =
    let P : List Bus → Type 0 = λ buses. All IsTypedBus buses in
    let typed : All IsTypedBus c.args.bench.now.buses = subst P c.items.ensures c.in_ok-table.ensures.typed in
    elim c.sum.result as (λ r. OnOk r (All IsTypedBus c.args.bench.now.buses)) [ Ok n ↦ typed | Err e ↦ tt ]
