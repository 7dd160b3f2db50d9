-- The error that `?` passes on is the one that it was given.
use Rattle.std.proofs.Common.{◌≡◌, ap}
use Rattle.std.specs.Prelude.{Result, Ok, Err, IsErr, IsErrAnd}

pub same_error : {T E : Type 0} (r : Result T E) (e : E) → IsErr r × IsErrAnd r (λ x. x ≡ e) → r ≡ Err e
same_error (Ok x) e h = absurd h.1
same_error (Err y) e h = ap Err h.1
