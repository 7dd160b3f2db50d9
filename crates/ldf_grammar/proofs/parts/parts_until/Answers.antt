use Rattle.std.proofs.Common.{◌∙◌, sym, ap, arith}
use Rattle.ldf_grammar.specs.Forms.{until, put_all_before}
use Rattle.ldf_grammar.proofs.UntilLaws.{until_closed, until_stopped, until_idle, until_goes_on, put_pushed, put_last}
use Rattle.ldf_grammar.proofs.GivesLaws.{passes_on}
use Rattle.ldf_grammar.proofs.parts.parts_until.Goals as goal

pub returns-in-Some : goal.returns-in-Some
returns-in-Some g c =
    let e = until_closed c.args.bytes.now c.args.close.now (g.T.Part.form c.args.bytes.now) c.loop-after.rest.now c.in-Some.after.now c.in-Some.ensures in
    sym c.loop-after.invariant ∙ ap (put_all_before c.loop-after.parts.items) e
    ∙ put_last c.of.result c.loop-after.parts.items c.in-Some.after.now c.of.ensures

pub returns-in_err-part : goal.returns-in_err-part
returns-in_err-part g c =
    passes_on c.from_residual.result _ _ _ c.from_residual.ensures c.in_err-part.ensures (λ none.
    sym c.loop-after.invariant
    ∙ ap (put_all_before c.loop-after.parts.items) (until_stopped c.args.bytes.now c.args.close.now (g.T.Part.form c.args.bytes.now) c.loop-after.rest.now c.in_default.ensures none))

pub returns-then-after-rest : goal.returns-then-after-rest
returns-then-after-rest g c =
    sym c.loop-after.invariant
    ∙ ap (put_all_before c.loop-after.parts.items) (until_idle c.args.bytes.now c.args.close.now (g.T.Part.form c.args.bytes.now) c.loop-after.rest.now c.in_ok-part.after.now c.in_ok-part.part c.in_default.ensures c.in_ok-part.ensures (omega arith))

pub loop-after-preserved : goal.loop-after-preserved
loop-after-preserved g c =
    let e = until_goes_on c.args.bytes.now c.args.close.now (g.T.Part.form c.args.bytes.now) c.loop-after.rest.now c.in_ok-part.after.now c.in_ok-part.part c.in_default.ensures c.in_ok-part.ensures (omega arith) in
    put_pushed c.push.new.self.items c.loop-after.parts.items c.in_ok-part.part (until c.args.bytes.now c.args.close.now (g.T.Part.form c.args.bytes.now) c.in_ok-part.after.now) c.in_ok-push.ensures.items
    ∙ ap (put_all_before c.loop-after.parts.items) (sym e)
    ∙ c.loop-after.invariant
