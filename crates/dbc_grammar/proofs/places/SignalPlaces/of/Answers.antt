use Rattle.std.proofs.Common.{◌∙◌, ap, Some, None}
use Rattle.std.specs.Prelude.{if◌then◌else◌}
use Rattle.std.specs.Str.{bytes_eq}
use Rattle.dbc_grammar.specs.Forms.{◌<|>◌}
use Rattle.dbc_grammar.specs.Naming.{has_name}
use Rattle.dbc_grammar.specs.Places.{signal_place}
use Rattle.dbc_grammar.proofs.PlaceLaws.{place_goes_on_at}
use Rattle.dbc_grammar.proofs.places.SignalPlaces.of.Goals as goal

pub loop-place-preserved : goal.loop-place-preserved
loop-place-preserved c = λ q.
    let old = signal_place c.loop-place.places.places q in
    let added = c.in_ok-add.ensures q ∙ ap (λ n. old <|> (if bytes_eq n q then Some c.loop-place.place else None)) c.token_text.ensures in
    place_goes_on_at (has_name c.args.bytes.now q) c.args.signals.now c.loop-place.place _ old (signal_place c.add.new.self.places q)
    c.loop-place-test.true (c.loop-place.invariant q) added
