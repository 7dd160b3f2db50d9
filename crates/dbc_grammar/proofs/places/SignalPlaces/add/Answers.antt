use Rattle.std.proofs.Common.{◌≡◌, ◌∙◌, sym, ap, arith, cond, Some, None, ℕ, List}
use Rattle.std.proofs.lemmas.Grind.{common_steps}
use Rattle.std.specs.Str.{bytes_eq}
use Rattle.std.proofs.lemmas.Slice.Eq.{bytes_eq-Decides}
use Rattle.dbc_grammar.specs.Places.{signal_place}
use Rattle.dbc_grammar.proofs.PlaceLaws.{same_bytes, or_added}
use Rattle.dbc_grammar.proofs.places.SignalPlaces.add.Goals as goal

pub returns-in_ok-insert : goal.returns-in_ok-insert
returns-in_ok-insert c = λ q.
    let n = c.args.name.now in
    let old = c.args.self.now.places in
    let absent : signal_place old n ≡ None = grind (arith, common_steps) in
    or_added (bytes_eq n q) (signal_place old q) (signal_place c.insert.new.self q) c.args.place
    (λ same. ap (λ (p : List ℕ). signal_place old p) (sym ((bytes_eq-Decides n q).0 same)) ∙ absent)
    (c.in_ok-insert.ensures.updates.0 (record c.args.name { now = q })
    ∙ ap (λ b. cond b (Some c.args.place) (signal_place old q)) (same_bytes n q))
