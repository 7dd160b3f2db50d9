-- What a reader that may run out of memory gives.
use Rattle.std.specs.Prelude.{◌≡◌, List, Option, Some, None, Result, Ok, Err}
use Rattle.std.specs.Borrow.{Bor}
use Rattle.sig_text.specs.declared.token.Token.{Token}
use Rattle.ldf_grammar.specs.declared.parts.Stop.{Stop}
use Rattle.ldf_grammar.specs.declared.parts.Stop.TheVariants as stops

-- the reader stopped where there is nothing to be found, or memory ran out
abbrev pub Stops : {A : Type 0} → Stop → Option A → Type 0
Stops stops.Form found = found ≡ None
Stops stops.Memory found = Unit {0}

-- what is found, with the tokens after it
abbrev pub Gives : {A : Type 0} → Result (A × Bor (List Token)) Stop → Option (A × List Token) → Type 0
Gives (Ok got) found = found ≡ Some (got.0, got.1.now)
Gives (Err stop) found = Stops stop found
