use Rattle.std.proofs.Common.{◌∙◌, List, ℕ, subst}
use Rattle.image_words.proofs.WordLaws.{learned_then, earlier}
use Rattle.image_words.proofs.DecodeLaws.{message_within, message_name, message_signals}
use Rattle.image_words.proofs.walking.walk_message.Goals as goal

pub message_row-row-requires : goal.message_row-row-requires
message_row-row-requires g c = message_within _ _ c.requires.some c.requires.message

pub read_text-requires-clause-some : goal.read_text-requires-clause-some
read_text-requires-clause-some g c = c.message_row-row.ensures.learned.narrows.some c.requires.some

pub read_text-requires-clause-text : goal.read_text-requires-clause-text
read_text-requires-clause-text g c image bench f =
    let m = c.requires.message image bench (earlier _ _ _ _ image bench c.message_row-row.ensures.learned f) in
    (m.0.name, message_name image c.args.at c.message_row-row.result m.0 (c.message_row-row.ensures.row image bench f) m.1)

pub returns-in_err-read_text-clause-learned : goal.returns-in_err-read_text-clause-learned
returns-in_err-read_text-clause-learned g c =
    learned_then _ _ g.met.W.Words.chain _ _ _ c.message_row-row.ensures.learned c.read_text.ensures.learned

pub returns-in_err-message-clause-learned : goal.returns-in_err-message-clause-learned
returns-in_err-message-clause-learned g c =
    learned_then _ _ g.met.W.Words.chain _ _ _ c.message_row-row.ensures.learned c.read_text.ensures.learned

pub walk_signals-requires-clause-some : goal.walk_signals-requires-clause-some
walk_signals-requires-clause-some g c =
    c.read_text.ensures.learned.narrows.some (c.message_row-row.ensures.learned.narrows.some c.requires.some)

pub walk_signals-requires-clause-signals : goal.walk_signals-requires-clause-signals
walk_signals-requires-clause-signals g c image bench f =
    let before = earlier _ _ _ _ image bench c.read_text.ensures.learned f in
    let m = c.requires.message image bench (earlier _ _ _ _ image bench c.message_row-row.ensures.learned before) in
    (m.0, message_signals image c.args.at c.message_row-row.result m.0 (c.message_row-row.ensures.row image bench before) m.1)

pub returns-in_err-walk_signals-clause-learned : goal.returns-in_err-walk_signals-clause-learned
returns-in_err-walk_signals-clause-learned g c =
    learned_then _ _ g.met.W.Words.chain _ _ _
    (learned_then _ _ g.met.W.Words.chain _ _ _ c.message_row-row.ensures.learned c.read_text.ensures.learned) c.walk_signals.ensures.learned

pub returns-clause-learned : goal.returns-clause-learned
returns-clause-learned g c =
    learned_then _ _ g.met.W.Words.chain _ _ _
    (learned_then _ _ g.met.W.Words.chain _ _ _ c.message_row-row.ensures.learned c.read_text.ensures.learned) c.walk_signals.ensures.learned

pub returns-clause-given : goal.returns-clause-given
returns-clause-given g c image bench f m has =
    let middle = earlier _ _ _ _ image bench c.walk_signals.ensures.learned f in
    let before = earlier _ _ _ _ image bench c.read_text.ensures.learned middle in
    let row = c.message_row-row.ensures.row image bench before in
    let P : List ℕ → Type 0 = λ name. g.V.Visit.names c.args.visitor.now name c.message.new.self in
    record {
      named = c.message.new.self;
      name = subst P (c.as_slice.ensures.value ∙ c.in_ok-read_text.ensures.text image bench middle m.name (message_name image c.args.at c.message_row-row.result m row has)) c.in_ok-message.ensures;
      signals = c.in_ok-walk_signals.ensures.given image bench f m (message_signals image c.args.at c.message_row-row.result m row has);
    }
