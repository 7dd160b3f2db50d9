use Rattle.std.proofs.Common.{◌≡◌, ◌+◌, ◌-◌, ◌++◌, replicate, ap, ◌∙◌, arith, append_assoc}
use Rattle.std.proofs.lemmas.Result.{on_ok_weaker}
use Rattle.exact_scale.specs.Digits.{decimal_digits}
use Rattle.exact_scale.proofs.DigitLaws.{digits_room, padded_number, zero_more}
use Rattle.exact_scale.proofs.digits.push_fraction.Goals as goal

pub loop-zero-preserved : goal.loop-zero-preserved
loop-zero-preserved c =
    zero_more c.args.out.now.items c.loop-zero.out.items c.push.new.self.items c.loop-zero._zero (c.ilog10-digits.result + 1)
    c.loop-zero.auto._zero c.loop-zero.invariant c.in_ok-push.ensures.items

pub returns-clause-ok : goal.returns-clause-ok
returns-clause-ok c =
    let e = c.ilog10-digits.result in
    let padded = padded_number c.args.places e c.args.rest c.ilog10-digits.ensures.power_le c.ilog10-digits.ensures.next_power_gt c.requires.proper in
    let all : c.loop-zero._zero ≡ c.args.places = omega (arith, digits_room c.args.places e c.args.rest c.ilog10-digits.ensures.power_le c.requires.proper) in
    on_ok_weaker c.push_number.result (λ written.
    written ∙ ap (λ l. l ++ decimal_digits c.args.rest) (c.loop-zero.invariant ∙ ap (λ z. c.args.out.now.items ++ replicate (z - (e + 1)) 48) all)
    ∙ append_assoc c.args.out.now.items (replicate (c.args.places - (e + 1)) 48) (decimal_digits c.args.rest)
    ∙ ap (λ l. c.args.out.now.items ++ l) padded) c.push_number.ensures.ok
