-- A sum after a remainder.
use Rattle.std.proofs.Common.{◌≡◌, ◌∙◌, ℕ, ◌+◌, ◌*◌, ◌/◌, ◌%◌, ap, sym, arith}
use Rattle.std.proofs.Math.Nat.{add-mul-mod_self_left, mod-add-div}

pub number_step : (p c m : ℕ) → (p % m + c) % m ≡ (p + c) % m
number_step p c m =
    let e : p + c ≡ p % m + c + m * (p / m) = omega (arith, mod-add-div p m) in
    sym (ap (λ n. n % m) e ∙ add-mul-mod_self_left (p % m + c) m (p / m))
