use Rattle.std.proofs.Common.{Option, true, false, refl, subst, arith}
use Rattle.bench_model.specs.declared.reading.Plain.{Plain}
use Rattle.bench_model.specs.Meaning.{message_meaning}
use Rattle.image_words.specs.Visits.{IsGivenMatch}
use Rattle.image_words.proofs.WordLaws.{learned_then, earlier}
use Rattle.image_words.proofs.DecodeLaws.{each_message, message_within, message_there, meaning_none, meaning_some}
use Rattle.image_words.proofs.walking.walk.Goals as goal

pub matching-requires-clause-some : goal.matching-requires-clause-some
matching-requires-clause-some g c = c.bus_at-row.ensures.learned.narrows.some c.requires.some

pub matching-requires-clause-bus : goal.matching-requires-clause-bus
matching-requires-clause-bus g c image bench f = let b = c.bus_at-row.ensures.row image bench f in (b.0, b.2)

pub returns-in_default-clause-narrows : goal.returns-in_default-clause-narrows
returns-in_default-clause-narrows g c =
    (learned_then _ _ g.met.W.Words.chain _ _ _ c.bus_at-row.ensures.learned c.in_default.ensures.learned).narrows

pub returns-in_default-clause-reads : goal.returns-in_default-clause-reads
returns-in_default-clause-reads g c =
    (learned_then _ _ g.met.W.Words.chain _ _ _ c.bus_at-row.ensures.learned c.in_default.ensures.learned).reads_on

pub returns-in_default-clause-given : goal.returns-in_default-clause-given
returns-in_default-clause-given g c image bench f =
    let b = c.bus_at-row.ensures.row image bench (earlier _ _ _ _ image bench c.in_default.ensures.learned f) in
    let P : Option Plain → Type 0 = λ meaning. IsGivenMatch g.V.Visit.names g.V.Visit.takes c.args.visitor.now meaning false c.args.visitor.now in
    subst P (meaning_none bench c.args.bus c.args.ask c.args.bytes.now b.0 b.1 (c.in_default.ensures.position image bench f b.0 b.2)) (refl, refl)

pub walk_message-requires-clause-some : goal.walk_message-requires-clause-some
walk_message-requires-clause-some g c = c.in-Some.ensures.learned.narrows.some (c.bus_at-row.ensures.learned.narrows.some c.requires.some)

pub walk_message-requires-clause-message : goal.walk_message-requires-clause-message
walk_message-requires-clause-message g c =
    each_message _ c.bus_at-row.result c.args.ask c.in-Some.position
    (λ image bench f. (let b = c.bus_at-row.ensures.row image bench (earlier _ _ _ _ image bench c.in-Some.ensures.learned f) in (b.0, b.2)))
    c.in-Some.ensures.position

pub overflow_mul-at : goal.overflow_mul-at
overflow_mul-at g c =
    let within = message_within _ _
    (c.in-Some.ensures.learned.narrows.some (c.bus_at-row.ensures.learned.narrows.some c.requires.some))
    (each_message _ c.bus_at-row.result c.args.ask c.in-Some.position
    (λ image bench f. (let b = c.bus_at-row.ensures.row image bench (earlier _ _ _ _ image bench c.in-Some.ensures.learned f) in (b.0, b.2)))
    c.in-Some.ensures.position) in
    record { fits = omega (arith, within, c.len-size.ensures, c.in-Some.ensures.learned.narrows.size) }

pub overflow_add-at : goal.overflow_add-at
overflow_add-at g c =
    let within = message_within _ _
    (c.in-Some.ensures.learned.narrows.some (c.bus_at-row.ensures.learned.narrows.some c.requires.some))
    (each_message _ c.bus_at-row.result c.args.ask c.in-Some.position
    (λ image bench f. (let b = c.bus_at-row.ensures.row image bench (earlier _ _ _ _ image bench c.in-Some.ensures.learned f) in (b.0, b.2)))
    c.in-Some.ensures.position) in
    record { fits = omega (arith, within, c.len-size.ensures, c.in-Some.ensures.learned.narrows.size) }

pub returns-in_err-walk_message-clause-narrows : goal.returns-in_err-walk_message-clause-narrows
returns-in_err-walk_message-clause-narrows g c =
    (learned_then _ _ g.met.W.Words.chain _ _ _
    (learned_then _ _ g.met.W.Words.chain _ _ _ c.bus_at-row.ensures.learned c.in-Some.ensures.learned) c.walk_message.ensures.learned).narrows

pub returns-in_err-walk_message-clause-reads : goal.returns-in_err-walk_message-clause-reads
returns-in_err-walk_message-clause-reads g c =
    (learned_then _ _ g.met.W.Words.chain _ _ _
    (learned_then _ _ g.met.W.Words.chain _ _ _ c.bus_at-row.ensures.learned c.in-Some.ensures.learned) c.walk_message.ensures.learned).reads_on

pub returns-clause-narrows : goal.returns-clause-narrows
returns-clause-narrows g c =
    (learned_then _ _ g.met.W.Words.chain _ _ _
    (learned_then _ _ g.met.W.Words.chain _ _ _ c.bus_at-row.ensures.learned c.in-Some.ensures.learned) c.walk_message.ensures.learned).narrows

pub returns-clause-reads : goal.returns-clause-reads
returns-clause-reads g c =
    (learned_then _ _ g.met.W.Words.chain _ _ _
    (learned_then _ _ g.met.W.Words.chain _ _ _ c.bus_at-row.ensures.learned c.in-Some.ensures.learned) c.walk_message.ensures.learned).reads_on

pub returns-clause-given : goal.returns-clause-given
returns-clause-given g c image bench f =
    let middle = earlier _ _ _ _ image bench c.walk_message.ensures.learned f in
    let b = c.bus_at-row.ensures.row image bench (earlier _ _ _ _ image bench c.in-Some.ensures.learned middle) in
    let m = message_there image c.bus_at-row.result b.0 c.args.ask c.in-Some.position b.2 (c.in-Some.ensures.position image bench middle b.0 b.2) in
    let P : Option Plain → Type 0 = λ meaning. IsGivenMatch g.V.Visit.names g.V.Visit.takes c.args.visitor.now meaning true c.walk_message.new.visitor in
    subst P (meaning_some bench c.args.bus c.args.ask c.args.bytes.now b.0 m.0 (message_meaning c.args.bytes.now m.0) b.1 m.1 refl)
    (refl, c.in_ok-walk_message.ensures.given image bench f m.0 m.2)
