use Rattle.std.proofs.Common.{◌≡◌, sym, ap, subst, List, All}
use Rattle.bench_model.specs.declared.database.Bus.{Bus}
use Rattle.bench_model.specs.declared.database.Bench.{Bench}
use Rattle.bench_model.specs.ValidBench.{IsValidBench, HasBusesOf}
use Rattle.bench_model.specs.Check.{IsValid}
use Rattle.bench_model.proofs.ChangeLaws.{made, kept_buses, kept_databases, kept_valid}
use Rattle.bench_model.proofs.database.Bench.replace.Goals as goal

pub returns-clause-kept : goal.returns-clause-kept
returns-clause-kept c =
    let is = made _ _ _ c.args.changes.items c.args.self.now c.items.ensures c.in_ok-buses.ensures c.of.ensures in
    let P : List Bus → Type 0 = λ buses. HasBusesOf (record { buses = buses }) c.args.self.now in
    subst P (sym is) (kept_buses c.args.changes.items c.args.self.now)

pub returns-clause-databases : goal.returns-clause-databases
returns-clause-databases c = λ valid.
    let is = made _ _ _ c.args.changes.items c.args.self.now c.items.ensures c.in_ok-buses.ensures c.of.ensures in
    let P : List Bus → Type 0 = λ buses. All (λ (b : Bus). IsValid b.database) buses in
    subst P (sym is) (kept_databases c.args.changes.items c.args.self.now valid)

pub returns-clause-valid : goal.returns-clause-valid
returns-clause-valid c = λ valid.
    let is = made _ _ _ c.args.changes.items c.args.self.now c.items.ensures c.in_ok-buses.ensures c.of.ensures in
    let P : List Bus → Type 0 = λ buses. IsValidBench (record { buses = buses }) in
    subst P (sym is) (kept_valid c.args.changes.items c.args.self.now valid)
