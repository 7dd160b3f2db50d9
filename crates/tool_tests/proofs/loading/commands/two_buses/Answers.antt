use Rattle.std.proofs.Common.{◌∙◌, ap, List, [], ◌∷◌, ◌++◌, arith}
use Rattle.bench_model.specs.declared.database.Bus.{Bus}
use Rattle.bench_model.specs.declared.database.Bench.{Bench}
use Rattle.tool_tests.proofs.BusLaws.{two_valid}
use Rattle.tool_tests.proofs.loading.commands.two_buses.Goals as goal

pub returns : goal.returns
returns c =
    let bench : Bench = record { buses = c.of.result } in
    two_valid bench c.in_ok-empty_bus.field-0 c.in_ok-empty_bus-2.field-0 65 76 (λ e. omega (arith, e))
    (c.of.ensures ∙ c.in_ok-push-2.ensures.items
    ∙ ap (λ (bs : List Bus). bs ++ c.in_ok-empty_bus-2.field-0 ∷ []) (c.in_ok-push.ensures.items ∙ ap (λ (bs : List Bus). bs ++ c.in_ok-empty_bus.field-0 ∷ []) c.new-buses.ensures.items))
    c.in_ok-empty_bus.ensures c.in_ok-empty_bus-2.ensures
