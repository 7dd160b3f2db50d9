use Rattle.std.proofs.Common.{◌≡◌, ℕ, ◌≤◌, ◌++◌, drop, map, find}
use Rattle.std.specs.List.{enumerate_from}
use Rattle.bench_model.specs.Replaced.{names_bus, bus_after}
use Rattle.bench_model.proofs.replace.buses_after.Given as goal

-- the buses so far and those to come are the buses after all changes; the changes of the buses to come are still there
abbrev pub invariant-loop-place : goal.invariant-loop-place
invariant-loop-place l = record {
  done : l.after.items ++ map (bus_after l.fn.changes.items) (enumerate_from l.place (drop l.place l.buses))
      ≡ map (bus_after l.fn.changes.items) (enumerate_from 0 l.buses);
  left : (other : ℕ) → l.place ≤ other → find (names_bus other) l.changes.items ≡ find (names_bus other) l.fn.changes.items;
}
