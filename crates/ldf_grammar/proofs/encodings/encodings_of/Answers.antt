use Rattle.ldf_grammar.specs.Gather.{IsCoded, encodings_in}
use Rattle.ldf_grammar.specs.Described.{IsWideEncoding}
use Rattle.ldf_grammar.specs.Answer.{IsFirstWide}
use Rattle.ldf_grammar.specs.Lookup.{pair_of}
use Rattle.ldf_grammar.proofs.ScaleLaws.{wide_passes, flat_more, flat_first}
use Rattle.ldf_grammar.proofs.encodings.encodings_of.Goals as goal

pub returns-in_err-add_encoded-clause-wide : goal.returns-in_err-add_encoded-clause-wide
returns-in_err-add_encoded-clause-wide c =
    wide_passes c.from_residual.result _ _ (IsFirstWide c.args.bytes.now c.args.statements.now) c.from_residual.ensures c.in_err-add_encoded.ensures.wide (λ at fails.
    flat_first (IsCoded c.args.bytes.now) (IsWideEncoding c.args.bytes.now) encodings_in c.args.statements.now c.loop-statement.statement-index _ c.statement-item.result at c.loop-statement.invariant c.loop-statement-test.true c.statement-item.is fails)

pub loop-statement-preserved : goal.loop-statement-preserved
loop-statement-preserved c =
    flat_more (IsCoded c.args.bytes.now) (pair_of c.args.bytes.now) encodings_in c.args.statements.now c.loop-statement.statement-index c.loop-statement.all.items c.add_encoded.new.all.items
    c.statement-item.result c.loop-statement.invariant c.loop-statement-test.true c.statement-item.is c.in_ok-add_encoded.ensures.ok
