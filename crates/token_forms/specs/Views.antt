-- What a reader found, with the tokens behind the references.
use Rattle.std.specs.Prelude.{List, Option, Some, None}
use Rattle.std.specs.Borrow.{Bor}
use Rattle.sig_text.specs.declared.token.Token.{Token}

abbrev pub rest_view : Option (Bor (List Token)) → Option (List Token)
rest_view None = None
rest_view (Some rest) = Some rest.now

abbrev pub found_view : {A : Type 0} → Option (A × Bor (List Token)) → Option (A × List Token)
found_view None = None
found_view (Some found) = Some (found.0, found.1.now)
