use Rattle.std.proofs.Common.{◌≡◌, ◌∙◌, ap, arith, cond, Some, None}
use Rattle.std.proofs.lemmas.Grind.{common_steps}
use Rattle.std.specs.BTreeMap.{get}
use Rattle.dbc_grammar.specs.Naming.{same_key}
use Rattle.dbc_grammar.specs.Places.{key_order, message_place}
use Rattle.dbc_grammar.proofs.PlaceLaws.{same_order, at_same_key, or_added}
use Rattle.dbc_grammar.proofs.places.MessagePlaces.add.Goals as goal

pub returns-in_ok-insert : goal.returns-in_ok-insert
returns-in_ok-insert c = λ q.
    let k = c.args.key in
    let old = c.args.self.now.places in
    let absent : message_place old k ≡ None = grind (arith, common_steps) in
    or_added (same_key k q) (message_place old q) (message_place c.insert.new.self q) c.args.place
    (λ same. at_same_key (λ p. get key_order old p) k q same ∙ absent)
    (c.in_ok-insert.ensures.updates.0 (q.extended, q.id)
    ∙ ap (λ b. cond b (Some c.args.place) (message_place old q)) (same_order k.extended q.extended k.id q.id))
