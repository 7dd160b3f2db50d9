-- What a print of a text to a sink does.
use Rattle.std.specs.Prelude.{◌≡◌, ℕ, ◌<◌, List, length, take, Option, Result, Ok, Err}
use Rattle.std.specs.Io.KnownBytes.{append_known}
use Rattle.subscriber_text.specs.declared.fault.PrintRefused.{PrintRefused}
use Rattle.subscriber_text.specs.declared.fault.PrintRefused.TheVariants.{WriteFault, Memory}

-- Ok appended the text, a fault a prefix that is not all of it, and out of memory nothing
abbrev pub Prints : Option (List ℕ) → Option (List ℕ) → Result (Unit {0}) PrintRefused → List ℕ → Type 0
Prints before now (Ok done) text = now ≡ append_known before text
Prints before now (Err WriteFault) text = (n : ℕ) × (n < length text) × (now
    ≡ append_known before (take n text))
Prints before now (Err Memory) text = now ≡ before
