use Rattle.std.proofs.Common.{◌∙◌, ap, Some, None}
use Rattle.std.specs.Prelude.{if◌then◌else◌}
use Rattle.dbc_grammar.specs.Forms.{◌<|>◌}
use Rattle.dbc_grammar.specs.Naming.{same_key, has_key}
use Rattle.dbc_grammar.specs.Places.{message_place}
use Rattle.dbc_grammar.proofs.PlaceLaws.{place_goes_on}
use Rattle.dbc_grammar.proofs.places.MessagePlaces.of.Goals as goal

pub loop-place-preserved : goal.loop-place-preserved
loop-place-preserved c = λ q.
    let old = message_place c.loop-place.places.places q in
    let added = c.in_ok-add.ensures q ∙ ap (λ k. old <|> (if same_key k q then Some c.loop-place.place else None)) c.key_of.ensures in
    place_goes_on (has_key q) c.args.messages.now c.loop-place.place c.index-messages-place.result old (message_place c.add.new.self.places q)
    c.loop-place-test.true c.index-messages-place.is (c.loop-place.invariant q) added
