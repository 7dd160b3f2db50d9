use Rattle.std.proofs.Common.{ℕ, subst}
use Rattle.bench_model.specs.declared.reading.Ask.TheVariants as ask
use Rattle.bench_model.specs.Meaning.{matching}
use Rattle.image_words.specs.Found.{IsFoundAt}
use Rattle.image_words.proofs.MatchLaws.{frame_by_group, frame_not_found}
use Rattle.image_words.proofs.matching.by_frame_group.Goals as goal

pub returns-then-key-clause-position : goal.returns-then-key-clause-position
returns-then-key-clause-position g c image bench f bus has none =
    let P : ℕ → Type 0 = λ pgn. IsFoundAt bus.database.messages c.by_group.result (matching bus.kind (ask.Group pgn) bus.database.messages) in
    frame_by_group bus.kind bus.database.messages c.args.key c.by_group.result none c.if-key.true
    (subst P c.group_of.ensures (c.by_group.ensures.position image bench f bus has))

pub returns-clause-position : goal.returns-clause-position
returns-clause-position g c image bench f bus has none = frame_not_found bus.kind bus.database.messages c.args.key none c.if-key.false
