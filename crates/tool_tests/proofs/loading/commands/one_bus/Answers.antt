use Rattle.std.proofs.Common.{◌∙◌, ap, List, [], ◌∷◌, ◌++◌}
use Rattle.bench_model.specs.declared.database.Bus.{Bus}
use Rattle.bench_model.specs.declared.database.Bench.{Bench}
use Rattle.tool_tests.proofs.BusLaws.{one_valid}
use Rattle.tool_tests.proofs.loading.commands.one_bus.Goals as goal

pub returns : goal.returns
returns c =
    let bench : Bench = record { buses = c.of.result } in
    one_valid bench c.in_ok-empty_bus.field-0 65
    (c.of.ensures ∙ c.in_ok-push.ensures.items ∙ ap (λ (bs : List Bus). bs ++ c.in_ok-empty_bus.field-0 ∷ []) c.new-buses.ensures.items)
    c.in_ok-empty_bus.ensures
