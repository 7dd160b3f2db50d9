-- A text read piece by piece: literals, and the fields between them.
use Rattle.std.specs.Prelude.{ℕ, ◌==◌, Bool, false, not, List, [], ◌∷◌, Option, Some, None, take_while, if◌then◌else◌}
use Rattle.std.specs.Borrow.{Bor}
use Rattle.byte_forms.specs.declared.class.Class.{Class}
use Rattle.byte_forms.specs.Classes.{is_in, drop_while}

-- the second step, where the first gave a value
infixl 10 ◌>>=◌
abbrev pub ◌>>=◌ : {A B : Type 0} → Option A → (A → Option B) → Option B
(Some x) >>= f = f x
None >>= f = None

-- the text after the literal at its front
unfoldable pub after_literal : List ℕ → List ℕ → Option (List ℕ)
after_literal [] bytes = Some bytes
after_literal (l ∷ ls) [] = None
after_literal (l ∷ ls) (b ∷ bs) = if b == l then after_literal ls bs else None

-- the longest run of the class at the front, and the text after the literal that follows it
unfoldable pub field_before : Class → List ℕ → List ℕ → Option (List ℕ × List ℕ)
field_before class literal bytes = do
  rest ← after_literal literal (drop_while (is_in class) bytes)
  Some (take_while (is_in class) bytes, rest)

-- whether a run of the class ends before the literal: its first byte is of another class
abbrev pub is_end_of : Class → List ℕ → Bool
is_end_of class [] = false
is_end_of class (b ∷ bs) = not (is_in class b)

-- what a reader found, with the texts behind the references
abbrev pub text_view : Option (Bor (List ℕ)) → Option (List ℕ)
text_view None = None
text_view (Some rest) = Some rest.now

abbrev pub field_view : Option (Bor (List ℕ) × Bor (List ℕ)) → Option (List ℕ × List ℕ)
field_view None = None
field_view (Some found) = Some (found.0.now, found.1.now)

abbrev pub value_view : {A : Type 0} → Option (A × Bor (List ℕ)) → Option (A × List ℕ)
value_view None = None
value_view (Some found) = Some (found.0, found.1.now)
