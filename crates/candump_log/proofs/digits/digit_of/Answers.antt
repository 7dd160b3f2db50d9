-- The table is held against the definition at each of the 256 bytes, by computing.
use Rattle.std.proofs.Common.{◌≡◌, ℕ, ◌<◌, Bool, true, cond, nat_eq, get_or, List, refl, arith}
use Rattle.std.specs.Char.{digit_value, is_ascii_hexdigit}
use Rattle.std.proofs.lemmas.Bool.{agree_below, agree_below_at, eqb-true}
use Rattle.candump_log.specs.declared.digits.TheConstants.{DIGITS}
use Rattle.candump_log.proofs.digits.digit_of.Goals as goal

-- whether the table has at a place what that byte counts
is_right : List ℕ → ℕ → Bool
is_right table k = nat_eq (get_or table k 0) (cond (is_ascii_hexdigit k) (digit_value k) 255)

from_table : (table : List ℕ) (b : ℕ) → b < 256 → agree_below (is_right table) (λ _. true) 256 ≡ true
    → get_or table b 0 ≡ cond (is_ascii_hexdigit b) (digit_value b) 255
unfolding is_right
from_table table b lt h = eqb-true _ _ (agree_below_at (is_right table) (λ _. true) 256 b h lt)

pub returns : goal.returns
unfolding is_right
returns c = from_table DIGITS c.args.byte (omega arith) refl
