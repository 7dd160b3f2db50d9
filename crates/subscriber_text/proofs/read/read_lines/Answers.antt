use Rattle.std.proofs.Common.{◌+◌, sym, ◌∙◌, ap, refl, inr, arith, rules}
use Rattle.byte_forms.specs.Lines.{all_lines}
use Rattle.text_words.specs.Words.{words_of}
use Rattle.subscriber_text.specs.Wants.{Want}
use Rattle.subscriber_text.specs.WantLines.{OfNoBus, OtherForm, want_line, lines_wants}
use Rattle.subscriber_text.specs.WantView.{name_of, wants_view}
use Rattle.subscriber_text.specs.declared.fault.WantsFault.TheVariants as faults
use Rattle.subscriber_text.proofs.ReadLaws.{onto_all, onto_all-none, line_fault, line_read, lines_read}
use Rattle.subscriber_text.proofs.read.read_lines.Goals as goal

pub loop-line-init : goal.loop-line-init
loop-line-init c =
    (sym (ap (λ wants. onto_all (wants_view wants) (lines_wants c.args.names.now (c.args.lines + 1) (all_lines c.args.text.now))) c.new-wants.ensures.items ∙ onto_all-none _), omega arith)

pub returns-in-OfNoBus-clause-fault : goal.returns-in-OfNoBus-clause-fault
returns-in-OfNoBus-clause-fault c =
    inr (line_fault _ c.args.names.now (c.loop-line.lines + 1) c.loop-line.rest.now c.in-Some.line.now (all_lines c.in-Some.after.now) (wants_view c.loop-line.wants.items) OfNoBus
    (faults.UnknownBus (c.loop-line.lines + 1)) c.loop-line.invariant.0 c.in-Some.ensures.line
    (c.in-OfNoBus.ensures ∙ ap (λ line. want_line c.args.names.now (words_of line)) c.without_return.ensures) (λ later. refl))

pub returns-in-OtherForm-clause-fault : goal.returns-in-OtherForm-clause-fault
returns-in-OtherForm-clause-fault c =
    inr (line_fault _ c.args.names.now (c.loop-line.lines + 1) c.loop-line.rest.now c.in-Some.line.now (all_lines c.in-Some.after.now) (wants_view c.loop-line.wants.items) OtherForm
    (faults.Line (c.loop-line.lines + 1)) c.loop-line.invariant.0 c.in-Some.ensures.line
    (c.in-OtherForm.ensures ∙ ap (λ line. want_line c.args.names.now (words_of line)) c.without_return.ensures) (λ later. refl))

pub loop-line-preserved : goal.loop-line-preserved
loop-line-preserved c =
    let want : Want = record { bus = c.in-Want.bus; message = name_of c.in-Want.message; signal = name_of c.in-Want.signal } in (
      line_read _ c.args.names.now (c.loop-line.lines + 1) c.loop-line.rest.now c.in-Some.line.now (all_lines c.in-Some.after.now) (wants_view c.loop-line.wants.items)
          (wants_view c.push_want.new.wants.items) want c.loop-line.invariant.0 c.in-Some.ensures.line
          (c.in-Want.ensures ∙ ap (λ line. want_line c.args.names.now (words_of line)) c.without_return.ensures) c.in_ok-push_want-in-Want.ensures,
      omega (arith, c.loop-line.invariant.1, c.in-Some.ensures.shorter),
    )

pub returns-clause-ok : goal.returns-clause-ok
returns-clause-ok c = lines_read _ c.args.names.now (c.loop-line.lines + 1) c.loop-line.rest.now (wants_view c.loop-line.wants.items) c.loop-line.invariant.0 (c.in_default.ensures.none.0 (search rules))
