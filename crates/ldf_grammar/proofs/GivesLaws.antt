-- A stop that a reader passes on: where the part was not found, the whole is not found.
use Rattle.std.proofs.Common.{◌≡◌, sym, ap, subst, List, Ok, Err, Result}
use Rattle.std.specs.Prelude.{Option, None, IsErr, IsErrAnd}
use Rattle.std.specs.Borrow.{Bor}
use Rattle.sig_text.specs.declared.token.Token.{Token}
use Rattle.ldf_grammar.specs.declared.parts.Stop.{Stop}
use Rattle.ldf_grammar.specs.declared.parts.Stop.TheVariants as stops
use Rattle.ldf_grammar.specs.Gives.{Stops, Gives}

same_stop : {A : Type 0} (r : Result A Stop) (stop : Stop) → IsErr r × IsErrAnd r (λ s. s ≡ stop) → r ≡ Err stop
same_stop (Ok x) stop h = let e = h.0 in absurd cc
same_stop (Err s) stop h = ap Err h.1

stops_too : {A B : Type 0} (stop : Stop) (part : Option B) (whole : Option A) → Stops stop part → (part ≡ None → whole ≡ None) → Stops stop whole
stops_too stops.Form part whole s none = none s
stops_too stops.Memory part whole s none = tt

pub passes_on : {A B : Type 0} (r : Result (A × Bor (List Token)) Stop) (stop : Stop) (part : Option B) (whole : Option (A × List Token))
    → IsErr r × IsErrAnd r (λ s. s ≡ stop) → Stops stop part → (part ≡ None → whole ≡ None) → Gives r whole
passes_on {A} r stop part whole h s none =
    let P : Result (A × Bor (List Token)) Stop → Type 0 = λ x. Gives x whole in
    subst P (sym (same_stop r stop h)) (stops_too stop part whole s none)
