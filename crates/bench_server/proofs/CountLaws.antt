-- The signals of the first messages are counted.
use Rattle.std.proofs.Common.{◌≡◌, ℕ, zero, suc, ◌+◌, ◌<◌, List, [], ◌∷◌, length, take, get_or, arith}
use Rattle.bench_model.specs.declared.database.Message.{Message}
use Rattle.bench_server.specs.ToolText.{signal_count}

-- one message more
pub count_more : (messages : List Message) (i : ℕ) (d : Message) → i < length messages
    → signal_count (take (suc i) messages) ≡ signal_count (take i messages) + length (get_or messages i d).signals
count_more [] i d h = absurd (omega arith)
count_more (m ∷ ms) zero d h = omega arith
count_more (m ∷ ms) (suc i) d h =
    let more : signal_count (take (suc i) ms) ≡ signal_count (take i ms) + length (get_or ms i d).signals = count_more ms i d (omega arith) in
    omega (arith, more)
