use Rattle.std.proofs.Common.{◌≡◌, take}
use Rattle.bench_model.specs.Meaning.{raw_values}
use Rattle.bench_model.proofs.plain.raws_of.Given as goal

-- the raw values so far are those of the signals so far
abbrev pub invariant-loop-signal : goal.invariant-loop-signal
invariant-loop-signal l = l.raws.items ≡ raw_values l.bytes (take l.signal-index l.signals)
