-- What a reader found, with what is behind the references.
use Rattle.std.specs.Prelude.{ℕ, List, Option, Some, None}
use Rattle.std.specs.Borrow.{Bor}
use Rattle.sig_text.specs.declared.token.Token.{Token}

abbrev pub bytes_view : Option (Bor (List ℕ)) → Option (List ℕ)
bytes_view None = None
bytes_view (Some found) = Some found.now

-- two values, and the tokens after them
abbrev pub triple_view : {A B : Type 0} → Option (A × B × Bor (List Token)) → Option (A × B × List Token)
triple_view None = None
triple_view (Some found) = Some (found.0, found.1, found.2.now)
