use Rattle.std.proofs.Common.{◌∙◌, ℤ, ap, arith}
use Rattle.bench_model.specs.Meaning.{physical}
use Rattle.image_words.specs.Buffers.{value_in}
use Rattle.image_words.proofs.NumberLaws.{raw_kept}
use Rattle.image_words.proofs.WordLaws.{learned_then, earlier}
use Rattle.image_words.proofs.RowLaws.{signal_within}
use Rattle.image_words.proofs.ActiveLaws.{signal_of}
use Rattle.image_words.proofs.DecodeLaws.{each_signal, signal_is, value_inactive, value_absent, value_present}
use Rattle.image_words.proofs.walking.read_signal.Goals as goal

pub overflow_mul-place : goal.overflow_mul-place
overflow_mul-place g c =
    let within = signal_within _ _ c.requires.some (each_signal _ _ _ _ c.requires.signals c.requires.place) in
    record { fits = omega (arith, within, c.len-size.ensures) }

pub overflow_add-at : goal.overflow_add-at
overflow_add-at g c =
    let within = signal_within _ _ c.requires.some (each_signal _ _ _ _ c.requires.signals c.requires.place) in
    record { fits = omega (arith, within, c.len-size.ensures) }

pub signal_row-row-requires-clause-signal : goal.signal_row-row-requires-clause-signal
signal_row-row-requires-clause-signal g c = each_signal _ _ _ _ c.requires.signals c.requires.place

pub is_active-requires-clause-some : goal.is_active-requires-clause-some
is_active-requires-clause-some g c = c.signal_row-row.ensures.learned.narrows.some c.requires.some

pub is_active-requires-clause-signals : goal.is_active-requires-clause-signals
is_active-requires-clause-signals g c image bench f =
    c.requires.signals image bench (earlier _ _ _ _ image bench c.signal_row-row.ensures.learned f)

pub is_active-requires-clause-level : goal.is_active-requires-clause-level
is_active-requires-clause-level g c image bench f = (c.signal_row-row.ensures.row image bench f).level

pub returns-then-not-is_active-clause-learned : goal.returns-then-not-is_active-clause-learned
returns-then-not-is_active-clause-learned g c =
    learned_then _ _ g.met.W.Words.chain _ _ _ c.signal_row-row.ensures.learned c.is_active.ensures.learned

pub returns-then-not-is_active-clause-value : goal.returns-then-not-is_active-clause-value
returns-then-not-is_active-clause-value g c image bench f m has =
    value_inactive c.args.bytes.now m c.args.place (c.is_active.ensures.active image bench f m has ∙ c.if-not-is_active.true)

pub returns-in_default-clause-learned : goal.returns-in_default-clause-learned
returns-in_default-clause-learned g c =
    learned_then _ _ g.met.W.Words.chain _ _ _ c.signal_row-row.ensures.learned c.is_active.ensures.learned

pub returns-in_default-clause-value : goal.returns-in_default-clause-value
returns-in_default-clause-value g c image bench f m has =
    let s = signal_of c.args.at c.args.count c.args.place image m has c.requires.place in
    let row = c.signal_row-row.ensures.row image bench (earlier _ _ _ _ image bench c.is_active.ensures.learned f) in
    let own = signal_is image _ c.signal_row-row.result s.0 row s.2 in
    value_absent c.args.bytes.now m c.args.place s.0 (c.is_active.ensures.active image bench f m has ∙ c.if-not-is_active.false) s.1
    (c.in_default.ensures.value s.0 own.shape)

pub read_value-requires-clause-some : goal.read_value-requires-clause-some
read_value-requires-clause-some g c =
    c.is_active.ensures.learned.narrows.some (c.signal_row-row.ensures.learned.narrows.some c.requires.some)

pub read_value-requires-clause-signal : goal.read_value-requires-clause-signal
read_value-requires-clause-signal g c image bench f =
    let before = earlier _ _ _ _ image bench c.is_active.ensures.learned f in
    let m = c.requires.signals image bench (earlier _ _ _ _ image bench c.signal_row-row.ensures.learned before) in
    let s = signal_of c.args.at c.args.count c.args.place image m.0 m.1 c.requires.place in
    (s.0, signal_is image _ c.signal_row-row.result s.0 (c.signal_row-row.ensures.row image bench before) s.2)

pub returns-in_err-read_value-clause-learned : goal.returns-in_err-read_value-clause-learned
returns-in_err-read_value-clause-learned g c =
    learned_then _ _ g.met.W.Words.chain _ _ _
    (learned_then _ _ g.met.W.Words.chain _ _ _ c.signal_row-row.ensures.learned c.is_active.ensures.learned) c.read_value.ensures.learned

pub returns-clause-learned : goal.returns-clause-learned
returns-clause-learned g c =
    learned_then _ _ g.met.W.Words.chain _ _ _
    (learned_then _ _ g.met.W.Words.chain _ _ _ c.signal_row-row.ensures.learned c.is_active.ensures.learned) c.read_value.ensures.learned

pub returns-clause-value : goal.returns-clause-value
returns-clause-value g c image bench f m has =
    let middle = earlier _ _ _ _ image bench c.read_value.ensures.learned f in
    let before = earlier _ _ _ _ image bench c.is_active.ensures.learned middle in
    let s = signal_of c.args.at c.args.count c.args.place image m has c.requires.place in
    let own = signal_is image _ c.signal_row-row.result s.0 (c.signal_row-row.ensures.row image bench before) s.2 in
    value_present c.args.bytes.now m c.args.place s.0 c.in-Some.raw (value_in c.read_value.new.value)
    (c.is_active.ensures.active image bench middle m has ∙ c.if-not-is_active.false) s.1 (c.in-Some.ensures.value s.0 own.shape)
    (c.in_ok-read_value.ensures.value image bench f s.0 own ∙ ap (λ (r : ℤ). physical s.0 r) (raw_kept c.in-Some.raw c.in-Some.ensures.bound))
