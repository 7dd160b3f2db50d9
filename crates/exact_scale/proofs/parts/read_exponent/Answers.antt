use Rattle.std.proofs.Common.{◌≡◌, ◌⊎◌, get_or, refl, arith}
use Rattle.exact_scale.specs.Parts.{SignedRead, ExponentRead}
use Rattle.exact_scale.proofs.PartsLaws.{first_byte, exponent_read, some_weaker}
use Rattle.exact_scale.proofs.parts.read_exponent.Goals as goal

pub returns-in-101-clause-some : goal.returns-in-101-clause-some
returns-in-101-clause-some c =
    let mark : (get_or c.args.text.now 0 0 ≡ 101) ⊎ (get_or c.args.text.now 0 0 ≡ 69) = grind arith in
    let first = first_byte c.args.text.now (get_or c.args.text.now 0 0) c.in-101.len_at_least refl in
    some_weaker c.read_signed.result (λ e. SignedRead _ e.raised e.lowered) (λ e. ExponentRead c.args.text.now e.raised e.lowered)
    (λ e read. exponent_read c.args.text.now _ (get_or c.args.text.now 0 0) e.raised e.lowered first mark read) c.read_signed.ensures.some
