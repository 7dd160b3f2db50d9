use Rattle.std.proofs.Common.{◌≡◌, ◌++◌, take}
use Rattle.subscriber_text.specs.ItemText.{hex_bytes}
use Rattle.subscriber_text.proofs.bytes.append_hex.Given as goal

-- the digits of the bytes so far were appended
abbrev pub invariant-loop-byte : goal.invariant-loop-byte
invariant-loop-byte l = l.out.items ≡ l.fn.out.items ++ hex_bytes (take l.byte-index l.bytes)
