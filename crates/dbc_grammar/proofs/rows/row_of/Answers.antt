use Rattle.std.proofs.Common.{◌≡◌, ◌∙◌, ap, subst, ◌≤◌, length, List, map, take}
use Rattle.std.proofs.lemmas.List.{take_all}
use Rattle.std.specs.List.{flat_map, enumerate_from}
use Rattle.dbc_grammar.specs.declared.statement.SignalForm.{SignalForm}
use Rattle.dbc_grammar.specs.Gather.{signal_links}
use Rattle.dbc_grammar.specs.Naming.{places_in, place_of_name}
use Rattle.dbc_grammar.specs.Noted.{seen_notes, notes_seen}
use Rattle.dbc_grammar.specs.Places.{signal_place}
use Rattle.dbc_grammar.proofs.ErrorLaws.{same_error}
use Rattle.dbc_grammar.proofs.RowLaws.{same_places, signals_go_on_in, links_go_on_in, marks_go_on_in, links_within}
use Rattle.dbc_grammar.proofs.WideLaws.{made_scaled, signal_is_first_in}
use Rattle.dbc_grammar.proofs.rows.row_of.Goals as goal

pub loop-place-preserved : goal.loop-place-preserved
loop-place-preserved c =
    let text = c.args.bytes.now in
    let m = c.args.message.now in
    let noted = notes_seen c.args.index.now.notes in
    let place_of = signal_place c.in_ok-places.places.places in
    let forms = c.items-forms.result.now in
    let i = c.loop-place.place in
    let places = same_places place_of (places_in text m) (λ q. c.in_ok-places.ensures q ∙ ap (place_of_name text q) c.items-forms.ensures) in
    record {
      signals = signals_go_on_in text c.args.utf8 noted c.args.named m place_of forms i _ c.loop-place.signals.items c.push.new.self.items
          (seen_notes c.deref.result.now) (seen_notes c.in_ok-notes.notes.items) c.in_ok-signal_of.field-0 c.key_of-key.result
          c.items-forms.ensures c.loop-place-test.true places c.key_of-key.ensures c.in_ok-signal_of.ensures.ok
          c.in_ok-notes.ensures (ap seen_notes c.deref.ensures.value) c.loop-place.invariant.signals c.in_ok-push.ensures.items;
      marks = marks_go_on_in m.signals forms i _ c.loop-place.marks.items c.push-in-loop-place.new.self.items
          c.items-forms.ensures c.loop-place-test.true c.loop-place.invariant.marks c.in_ok-push-2.ensures.items;
      links = links_go_on_in text noted c.args.named m place_of forms i _ c.loop-place.links.items c.push_links.new.links.items
          (seen_notes c.deref-in-loop-place.result.now) (seen_notes c.in_ok-notes.notes.items) c.key_of-key.result
          c.items-forms.ensures c.loop-place-test.true places c.key_of-key.ensures
          c.in_ok-notes.ensures (ap seen_notes c.deref-in-loop-place.ensures.value) c.loop-place.invariant.links c.in_ok-push_links.ensures;
    }

pub returns-in_err-signal_of-clause-fault : goal.returns-in_err-signal_of-clause-fault
returns-in_err-signal_of-clause-fault c =
    let m = c.args.message.now in
    let fault = c.in_err-signal_of.field-0.0 in
    rw (same_error c.from_residual-in_err-signal_of.result fault c.from_residual-in_err-signal_of.ensures)
    (signal_is_first_in c.args.bytes.now m.signals c.items-forms.result.now c.loop-place.place _ fault c.items-forms.ensures c.loop-place-test.true
    (made_scaled c.args.bytes.now c.args.utf8 (notes_seen c.args.index.now.notes) c.args.named m 0 (take c.loop-place.place m.signals)
    c.loop-place.signals.items c.loop-place.invariant.signals) c.in_err-signal_of.ensures.fault)

pub invariant_of-result : goal.invariant_of-result
invariant_of-result c =
    let m = c.args.message.now in
    let past : length m.signals ≤ c.loop-place.place =
    subst (λ (fs : List SignalForm). length fs ≤ c.loop-place.place) c.items-forms.ensures c.loop-place-test.false in
    let all : take c.loop-place.place m.signals ≡ m.signals = take_all c.loop-place.place m.signals past in
    record {
      within = links_within c.args.bytes.now (notes_seen c.args.index.now.notes) c.args.named m c.loop-place.marks.items c.loop-place.links.items
          (c.loop-place.invariant.marks ∙ ap (map (λ (s : SignalForm). s.mark)) all)
          (c.loop-place.invariant.links ∙ ap (λ (fs : List SignalForm).
          flat_map (signal_links c.args.bytes.now (notes_seen c.args.index.now.notes) c.args.named m) (enumerate_from 0 fs)) all);
    }
