use Rattle.std.proofs.Common.{◌∙◌, sym, arith, refl}
use Rattle.ldf_grammar.specs.Unknown.{unknown_in}
use Rattle.ldf_grammar.proofs.StepLaws.{place_found, place_passed, no_place}
use Rattle.ldf_grammar.proofs.unknown.check_names.Goals as goal

pub returns-in-Some-clause-unknown : goal.returns-in-Some-clause-unknown
returns-in-Some-clause-unknown c = λ d has. (
  _,
  refl,
  sym (c.loop-statement.invariant d has)
      ∙ place_found (unknown_in c.args.bytes.now d) c.args.statements.now c.loop-statement.statement-index c.statement-item.result _ c.loop-statement-test.true c.statement-item.is (sym (c.in-Some.ensures d has)),
)

pub loop-statement-preserved : goal.loop-statement-preserved
loop-statement-preserved c = λ d has.
    place_passed (unknown_in c.args.bytes.now d) c.args.statements.now c.loop-statement.statement-index c.statement-item.result c.loop-statement-test.true c.statement-item.is (sym (c.in_default.ensures d has))
    ∙ c.loop-statement.invariant d has

pub returns-clause-known : goal.returns-clause-known
returns-clause-known c = λ d has. sym (c.loop-statement.invariant d has) ∙ no_place (unknown_in c.args.bytes.now d) c.args.statements.now c.loop-statement.statement-index (omega arith)
