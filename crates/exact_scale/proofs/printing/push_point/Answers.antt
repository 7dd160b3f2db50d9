use Rattle.std.proofs.Common.{[], ◌∷◌, ◌++◌, ap, ◌∙◌, arith, append_assoc}
use Rattle.std.proofs.lemmas.Result.{on_ok_weaker}
use Rattle.exact_scale.specs.Digits.{last_digits}
use Rattle.exact_scale.proofs.TextLaws.{point_written}
use Rattle.exact_scale.proofs.printing.push_point.Goals as goal

pub returns-clause-ok : goal.returns-clause-ok
returns-clause-ok c =
    let digits = last_digits c.args.places c.args.rest in
    on_ok_weaker c.push_fraction.result (λ written.
    written ∙ ap (λ l. l ++ digits) c.in_ok-push.ensures.items ∙ append_assoc c.args.out.now.items (46 ∷ []) digits
    ∙ ap (λ l. c.args.out.now.items ++ l) (point_written c.args.places c.args.rest (omega arith) c.requires.last)) c.push_fraction.ensures.ok
