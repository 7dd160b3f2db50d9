use Rattle.std.proofs.Common.{◌++◌, sym, ap, ◌∙◌, arith, rules}
use Rattle.std.specs.Prelude.{FitsSigned, unsigned_abs}
use Rattle.std.specs.Int.{w128}
use Rattle.std.proofs.lemmas.Int.{to_z-of_z}
use Rattle.std.proofs.lemmas.Nat.{mod_below}
use Rattle.std.proofs.lemmas.Result.{on_ok_weaker}
use Rattle.exact_scale.specs.ShortestText.{minus_of}
use Rattle.exact_scale.proofs.PowerLaws.{ten_pos}
use Rattle.exact_scale.proofs.TextLaws.{last_kept, text_joined, pieces_joined}
use Rattle.exact_scale.proofs.printing.Exact.write.Goals as goal

pub push_point-requires-clause-proper : goal.push_point-requires-clause-proper
push_point-requires-clause-proper c =
    let places = c.without_last_zeros-size.result.1 in
    omega (arith, c.at_point-whole.ensures.rest, mod_below c.without_last_zeros-size.result.0 _ (ten_pos places))

pub push_point-requires-clause-last : goal.push_point-requires-clause-last
push_point-requires-clause-last c =
    last_kept c.without_last_zeros-size.result.0 c.without_last_zeros-size.result.1 c.at_point-whole.result.1
    c.at_point-whole.ensures.rest c.without_last_zeros-size.ensures.last

pub returns-clause-ok : goal.returns-clause-ok
returns-clause-ok c =
    let fits : FitsSigned w128 c.args.self.now.num = search rules in
    let num = to_z-of_z w128 c.args.self.now.num fits in
    let text = text_joined c.args.self.now.num c.args.self.now.k
    c.without_last_zeros-size.result.0 c.without_last_zeros-size.result.1 c.at_point-whole.result.0 c.at_point-whole.result.1
    c.without_last_zeros-size.ensures.shorter (ap unsigned_abs (sym num) ∙ sym c.unsigned_abs.ensures.value ∙ c.without_last_zeros-size.ensures.same)
    c.at_point-whole.ensures.whole c.at_point-whole.ensures.rest in
    on_ok_weaker c.push_point.result (λ written.
    pieces_joined c.args.out.now.items c.push_minus.new.out.items c.push_number.new.out.items c.push_point.new.out.items _ _ _
    (c.in_ok-push_minus.ensures.ok ∙ ap (λ n. c.args.out.now.items ++ minus_of n) num) c.in_ok-push_number.ensures.ok written
    ∙ ap (λ l. c.args.out.now.items ++ l) (sym text)) c.push_point.ensures.ok
