use Rattle.std.proofs.Common.{◌≡◌, ℕ, List, [], get_or, sym, ap, ◌∙◌, arith, below_more}
use Rattle.std.specs.Str.{bytes_eq}
use Rattle.candump_log.proofs.RoutingLaws.{first_here, none_here, same_at}
use Rattle.candump_log.proofs.routing.name_place.Goals as goal

pub loop-i-preserved : goal.loop-i-preserved
loop-i-preserved c =
    let name : c.bytes.result.now ≡ get_or c.args.names.now c.loop-i.i [] = c.bytes.ensures ∙ c.index-names-i.is ∙ same_at c.args.names.now c.loop-i.i c.index-names-i.result [] c.loop-i-test.true in
    below_more _ _ c.loop-i.invariant (ap (λ (n : List ℕ). bytes_eq n c.args.word.now) (sym name) ∙ sym c.eq.ensures ∙ c.if-eq.false)

pub returns-then-eq : goal.returns-then-eq
returns-then-eq c =
    let name : c.bytes.result.now ≡ get_or c.args.names.now c.loop-i.i [] = c.bytes.ensures ∙ c.index-names-i.is ∙ same_at c.args.names.now c.loop-i.i c.index-names-i.result [] c.loop-i-test.true in
    first_here c.args.names.now c.args.word.now c.loop-i.i c.loop-i-test.true c.loop-i.invariant (ap (λ (n : List ℕ). bytes_eq n c.args.word.now) (sym name) ∙ sym c.eq.ensures ∙ c.if-eq.true)

pub returns : goal.returns
returns c = none_here c.args.names.now c.args.word.now (λ k lt. c.loop-i.invariant k (omega arith))
