use Rattle.std.proofs.Common.{◌≡◌, ◌++◌, drop}
use Rattle.std.specs.List.{filter_map, enumerate_from}
use Rattle.bench_model.specs.Meaning.{active_value, raw_values, active_values}
use Rattle.bench_model.proofs.plain.values_of.Given as goal

-- the values so far and those of the signals that are left are the values of all
abbrev pub invariant-loop-place : goal.invariant-loop-place
invariant-loop-place l =
    l.values.items ++ filter_map (active_value l.bytes l.message.tree.parents (raw_values l.bytes l.message.signals))
    (enumerate_from l.place (drop l.place l.signals)) ≡ active_values l.bytes l.message
