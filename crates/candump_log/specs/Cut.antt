-- Bytes cut at their line feeds: the parts that end in one, without it, and the rest after the last.
use Rattle.std.specs.Prelude.{ℕ, ◌==◌, Bool, true, false, List, [], ◌∷◌}
use Rattle.std.specs.List.{list_any}
use Rattle.byte_forms.specs.Bytes.{line_feed}

pub record Cut : Type 0 where
  pub whole : List (List ℕ)
  pub rest : List ℕ

-- a byte before cut bytes: it is in the first part, or in the rest where there is none
abbrev pub onto : ℕ → List (List ℕ) → List ℕ → Cut
onto b [] rest = record { whole = []; rest = b ∷ rest }
onto b (line ∷ lines) rest = record { whole = (b ∷ line) ∷ lines; rest = rest }

abbrev pub cut_before : Bool → ℕ → Cut → Cut
cut_before true b c = record { whole = [] ∷ c.whole; rest = c.rest }
cut_before false b c = onto b c.whole c.rest

abbrev pub cut : List ℕ → Cut
cut [] = record { whole = []; rest = [] }
cut (b ∷ bs) = cut_before (b == line_feed) b (cut bs)

abbrev pub has_feed : List ℕ → Bool
has_feed bytes = list_any (λ b. b == line_feed) bytes
