use Rattle.std.proofs.Common.{◌≡◌, ◌∙◌, false, arith}
use Rattle.std.proofs.lemmas.Bool.Decides.{nat_tests}
use Rattle.text_words.specs.Words.{is_empty}
use Rattle.subscriber_text.specs.Wants.{WantList}
use Rattle.subscriber_text.specs.WantView.{want_view, wants_view}
use Rattle.subscriber_text.proofs.WantLaws.{is_empty-map, bus_by_index}
use Rattle.subscriber_text.proofs.wants.Wants.wants_bus.Goals as goal

pub returns-else-is_empty : goal.returns-else-is_empty
returns-else-is_empty c =
    let some : is_empty (wants_view c.self.inside.wants.items) ≡ false = is_empty-map want_view c.self.inside.wants.items (λ none. grind (arith, nat_tests, c.self.inside.wants.ok.0, c.if-is_empty.ensures)) in
    let wants : WantList = record { format = c.self.inside.format; names = c.self.inside.names.items; wants = wants_view c.self.inside.wants.items } in
    rw (← c.self.view_is) (c.names_bus.ensures ∙ bus_by_index wants c.args.bus c.self.inside.index (omega (arith, c.if-bus-len.true, c.len.ensures, c.self.inside.names.ok.0)) some c.self.invariant)
