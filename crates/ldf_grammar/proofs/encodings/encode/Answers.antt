use Rattle.std.proofs.Common.{List, subst}
use Rattle.decisions.specs.ListDecisions.{FirstFailsFor}
use Rattle.ldf_grammar.specs.Scaling.{IsEntryOf, IsTooWide}
use Rattle.ldf_grammar.specs.Described.{IsWideEncoding}
use Rattle.ldf_grammar.specs.declared.statement.EncodingEntry.{EncodingEntry}
use Rattle.ldf_grammar.proofs.ScaleLaws.{wide_passes, first_here, each_push}
use Rattle.ldf_grammar.proofs.StepLaws.{own_default}
use Rattle.ldf_grammar.proofs.encodings.encode.Goals as goal

pub returns-in_err-entry_of-clause-wide : goal.returns-in_err-entry_of-clause-wide
returns-in_err-entry_of-clause-wide c =
    wide_passes c.from_residual.result _ _ (IsWideEncoding c.args.bytes.now c.args.encoding.now) c.from_residual.ensures c.in_err-entry_of.ensures.wide (λ at fails.
    let P : List EncodingEntry → Type 0 = λ xs. FirstFailsFor (IsEntryOf c.args.bytes.now) (IsTooWide c.args.bytes.now) xs at in
    subst P c.items-entry-items.ensures
    (first_here (IsEntryOf c.args.bytes.now) (IsTooWide c.args.bytes.now) c.items-entry-items.result.now c.loop-entry.entry-index _ _ at c.loop-entry.invariant c.loop-entry-test.true (own_default c.items-entry-items.result.now c.loop-entry.entry-index _ c.loop-entry-test.true) fails))

pub loop-entry-preserved : goal.loop-entry-preserved
loop-entry-preserved c =
    each_push (IsEntryOf c.args.bytes.now) c.items-entry-items.result.now c.loop-entry.entry-index _ _ _ _ c.loop-entry.invariant c.loop-entry-test.true (own_default c.items-entry-items.result.now c.loop-entry.entry-index _ c.loop-entry-test.true) c.in_ok-entry_of.ensures.ok c.in_ok-push.ensures.items
