-- What the buffers of a walk hold, and what the collecting visitor makes of what it is given.
use Rattle.std.specs.Prelude.{◌≡◌, ℕ, Bool, true, false, List, [], ◌∷◌, ◌++◌, Option, Some, None}
use Rattle.bench_model.specs.declared.reading.SignalValue.{SignalValue}
use Rattle.image_words.specs.declared.values.ValueBuffer.{ValueBuffer}
use Rattle.image_words.specs.declared.decoding.Collected.{Collected}

-- one, or none
abbrev pub if_there : {X : Type 0} → Bool → X → Option X
if_there true x = Some x
if_there false x = None

-- the value in the buffers
abbrev pub value_in : ValueBuffer → SignalValue
value_in b = record { name = b.name.items; raw = b.raw; value = b.value; unit = b.unit.items; label = if_there b.labelled b.label.items }

-- the collecting visitor keeps the name, and appends each value
abbrev pub collects_name : Collected → List ℕ → Collected → Type 0
collects_name old name new = (new.name ≡ name) × (new.signals.items ≡ old.signals.items)

abbrev pub collects_value : Collected → SignalValue → Collected → Type 0
collects_value old value new = (new.name ≡ old.name) × (new.signals.items ≡ old.signals.items ++ value ∷ [])
