use Rattle.std.proofs.Common.{◌≡◌, take}
use Rattle.bench_model.specs.Shifts.{big_endian}
use Rattle.image_words.proofs.joining.big_endian.Given as goal

-- the bytes so far are joined
abbrev pub invariant-loop-byte : goal.invariant-loop-byte
invariant-loop-byte l = l.number ≡ big_endian (take l.byte-index l.bytes)
