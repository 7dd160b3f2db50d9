-- What a visitor is given of a frame's meaning: the message's name, and then the value of each signal, in order.
use Rattle.std.specs.Prelude.{◌≡◌, ℕ, Bool, true, false, List, [], ◌∷◌, Option, Some, None}
use Rattle.bench_model.specs.declared.reading.SignalValue.{SignalValue}
use Rattle.bench_model.specs.declared.reading.Plain.{Plain}

-- the steps over these items, one after another, lead from a to b
unfoldable pub Run : {S X : Type 0} → (S → X → S → Type 0) → S → List X → S → Type 0
Run step a [] b = b ≡ a
Run {S = S} step a (x ∷ xs) b = (m : S) × step a x m × Run step m xs b

-- the visitor was given what bytes mean as a message
pub record IsGiven {V : Type 0} (names : V → List ℕ → V → Type 0) (takes : V → SignalValue → V → Type 0)
    (old : V) (plain : Plain) (new : V) : Type 0 where
  pub named : V
  pub name : names old plain.name named
  pub signals : Run takes named plain.signals new

-- it was given what bytes mean where a message matches, and is unchanged where none does
abbrev pub IsGivenMatch : {V : Type 0} → (V → List ℕ → V → Type 0) → (V → SignalValue → V → Type 0) →
    V → Option Plain → Bool → V → Type 0
IsGivenMatch names takes old (Some plain) matched new = (matched ≡ true) × IsGiven names takes old plain new
IsGivenMatch names takes old None matched new = (matched ≡ false) × (new ≡ old)
