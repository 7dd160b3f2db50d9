-- What the readers of a command answer.
use Rattle.std.specs.Prelude.{◌≡◌, ℕ, List, [], ◌∷◌, ◌++◌, Result, Ok, Err, Vec}
use Rattle.std.specs.declared.alloc.Global.{Global}
use Rattle.bench_loader.specs.declared.load_line.Pair.{Pair}
use Rattle.bench_loader.specs.declared.load_line.LineRefused.{LineRefused}
use Rattle.bench_loader.specs.declared.load_line.LineRefused.TheVariants as refused
use Rattle.bench_loader.specs.LoadLine.{words_of_pairs, KeepRules, IsLoad, IsOtherForm}

-- a pair more keeps the rules, or it breaks one, whatever pairs follow
abbrev pub AddsPair : List Pair → List ℕ → List ℕ → List Pair → Result (Unit {0}) LineRefused → Type 0
AddsPair before bus file now (Ok done) =
    KeepRules before → (now ≡ before ++ record { bus = bus; file = file } ∷ []) × KeepRules now
AddsPair before bus file now (Err refused.Form) =
    (more : List Pair) → KeepRules (before ++ record { bus = bus; file = file } ∷ more) → ⊥
AddsPair before bus file now (Err refused.Memory) = Unit {0}

-- pairs that keep the rules and whose words these are, or there are none
pub record ArePairs (words : List (List ℕ)) (pairs : List Pair) : Type 0 where
  pub words_are : words ≡ words_of_pairs pairs
  pub rules : KeepRules pairs

abbrev pub ReadsPairs : List (List ℕ) → Result (Vec Pair Global) LineRefused → Type 0
ReadsPairs words (Ok pairs) = ArePairs words pairs.items
ReadsPairs words (Err refused.Form) = (pairs : List Pair) → ArePairs words pairs → ⊥
ReadsPairs words (Err refused.Memory) = Unit {0}

abbrev pub ReadsLoad : List ℕ → Result (Vec Pair Global) LineRefused → Type 0
ReadsLoad line (Ok pairs) = IsLoad line pairs.items
ReadsLoad line (Err refused.Form) = IsOtherForm line
ReadsLoad line (Err refused.Memory) = Unit {0}
