-- The operands of many words.
use Rattle.std.proofs.Common.{◌≡◌, ℕ, Bool, true, false, cond, List, [], ◌∷◌, Option, Some, None, refl, sym, ◌≤◌, length, arith}
use Rattle.std.specs.Option.{option_map}
use Rattle.tool_words.specs.Operands.{is_option, is_dashes, operands, only_operand}

two_more : (a b : List ℕ) (o : Option (List (List ℕ))) → only_operand (option_map (λ others. a ∷ others) (option_map (λ others. b ∷ others) o)) ≡ None
two_more a b None = refl
two_more a b (Some words) = refl

second_of : (d o : Bool) (a b c : List ℕ) (rest : List (List ℕ)) (more : Option (List (List ℕ))) →
    only_operand (option_map (λ others. a ∷ others) (cond d (Some (c ∷ rest)) (cond o None (option_map (λ others. b ∷ others) more)))) ≡ None
second_of true o a b c rest more = refl
second_of false true a b c rest more = refl
second_of false false a b c rest more = two_more a b more

first_of : (d o : Bool) (b c : List ℕ) (rest : List (List ℕ)) (x : Option (List (List ℕ))) → only_operand x ≡ None →
    only_operand (cond d (Some (b ∷ c ∷ rest)) (cond o None x)) ≡ None
first_of true o b c rest x h = refl
first_of false true b c rest x h = refl
first_of false false b c rest x h = h

-- three words and more have no only operand
pub too_many : (a b c : List ℕ) (rest : List (List ℕ)) → only_operand (operands (a ∷ b ∷ c ∷ rest)) ≡ None
too_many a b c rest =
    first_of (is_dashes a) (is_option a) b c rest _ (second_of (is_dashes b) (is_option b) a b c rest (operands (c ∷ rest)))

-- the same of a list of three words at least
pub many : (words : List (List ℕ)) → 3 ≤ length words → None ≡ only_operand (operands words)
many [] h = absurd (omega arith)
many (a ∷ []) h = absurd (omega arith)
many (a ∷ b ∷ []) h = absurd (omega arith)
many (a ∷ b ∷ c ∷ rest) h = sym (too_many a b c rest)
