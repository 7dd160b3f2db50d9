use Rattle.ldf_grammar.specs.Gather.{IsCoded}
use Rattle.ldf_grammar.specs.Lookup.{pair_of}
use Rattle.ldf_grammar.specs.Described.{IsWideEncoding}
use Rattle.ldf_grammar.proofs.ScaleLaws.{wide_passes, first_here, added_more}
use Rattle.ldf_grammar.proofs.encodings.add_encodings.Goals as goal

pub returns-in_err-encode-clause-wide : goal.returns-in_err-encode-clause-wide
returns-in_err-encode-clause-wide c =
    wide_passes c.from_residual.result _ _ _ c.from_residual.ensures c.in_err-encode.ensures.wide (λ at fails.
    first_here (IsCoded c.args.bytes.now) (IsWideEncoding c.args.bytes.now) c.args.encodings.now c.loop-encoding.encoding-index _ c.encoding-item.result at c.loop-encoding.invariant.2 c.loop-encoding-test.true c.encoding-item.is fails)

pub loop-encoding-preserved : goal.loop-encoding-preserved
loop-encoding-preserved c =
    added_more (IsCoded c.args.bytes.now) (pair_of c.args.bytes.now) c.args.encodings.now c.loop-encoding.encoding-index c.args.all.now.items c.loop-encoding.all.items c.push.new.self.items
    c.encoding-item.result c.in_ok-encode.field-0 c.loop-encoding.invariant c.loop-encoding-test.true c.encoding-item.is c.in_ok-encode.ensures.ok c.in_ok-push.ensures.items
