use Rattle.std.proofs.Common.{◌∙◌, arith}
use Rattle.image_words.proofs.WordLaws.{learned_then, earlier}
use Rattle.image_words.proofs.RowLaws.{signal_within}
use Rattle.image_words.proofs.ActiveLaws.{no_parent, parent_known, each_above, each_ranges, parent_inside, passed, goes_up}
use Rattle.image_words.proofs.activity.step_up.Goals as goal

pub returns-then-level-eq0-clause-leads : goal.returns-then-level-eq0-clause-leads
returns-then-level-eq0-clause-leads g c image bench f m has =
    no_parent c.args.at c.args.count c.args.place image m c.args.level has c.requires.place (c.requires.level image bench f) c.if-level-eq0.true

pub overflow_mul-parent : goal.overflow_mul-parent
overflow_mul-parent g c =
    let within = signal_within _ _ c.requires.some (each_above _ _ _ _ c.args.level c.requires.signals c.requires.place c.requires.level c.if-level-eq0.false) in
    record { fits = omega (arith, within, c.len-size.ensures) }

pub overflow_add-at : goal.overflow_add-at
overflow_add-at g c =
    let within = signal_within _ _ c.requires.some (each_above _ _ _ _ c.args.level c.requires.signals c.requires.place c.requires.level c.if-level-eq0.false) in
    record { fits = omega (arith, within, c.len-size.ensures) }

pub level_at-above-requires-clause-signal : goal.level_at-above-requires-clause-signal
level_at-above-requires-clause-signal g c =
    each_above _ _ _ _ c.args.level c.requires.signals c.requires.place c.requires.level c.if-level-eq0.false

pub selects-requires-clause-some : goal.selects-requires-clause-some
selects-requires-clause-some g c = c.level_at-above.ensures.learned.narrows.some c.requires.some

pub selects-requires-clause-ranges : goal.selects-requires-clause-ranges
selects-requires-clause-ranges g c image bench f =
    each_ranges _ _ _ _ c.args.level c.requires.signals c.requires.place c.requires.level c.if-level-eq0.false
    image bench (earlier _ _ _ _ image bench c.level_at-above.ensures.learned f)

pub returns-then-not-selects-clause-learned : goal.returns-then-not-selects-clause-learned
returns-then-not-selects-clause-learned g c =
    learned_then _ _ g.met.W.Words.chain _ _ _ c.level_at-above.ensures.learned c.selects.ensures.learned

pub returns-then-not-selects-clause-leads : goal.returns-then-not-selects-clause-leads
returns-then-not-selects-clause-leads g c image bench f m has =
    let middle = earlier _ _ _ _ image bench c.selects.ensures.learned f in
    let first = earlier _ _ _ _ image bench c.level_at-above.ensures.learned middle in
    let p = parent_known c.args.at c.args.count c.args.place image m c.args.level has c.requires.place (c.requires.level image bench first) c.if-level-eq0.false in
    passed c.args.at c.args.count c.args.place c.args.bytes.now image m c.args.level c.level_at-above.result has p (c.level_at-above.ensures.level image bench middle)
    (λ ranges at s shape. c.selects.ensures.value image bench f ranges at s shape ∙ c.if-not-selects.true)

pub returns-clause-learned : goal.returns-clause-learned
returns-clause-learned g c =
    learned_then _ _ g.met.W.Words.chain _ _ _ c.level_at-above.ensures.learned c.selects.ensures.learned

pub returns-clause-leads : goal.returns-clause-leads
returns-clause-leads g c image bench f m has =
    let middle = earlier _ _ _ _ image bench c.selects.ensures.learned f in
    let first = earlier _ _ _ _ image bench c.level_at-above.ensures.learned middle in
    let p = parent_known c.args.at c.args.count c.args.place image m c.args.level has c.requires.place (c.requires.level image bench first) c.if-level-eq0.false in
    goes_up c.args.at c.args.count c.args.place c.args.bytes.now image m c.args.level c.level_at-above.result has p (c.level_at-above.ensures.level image bench middle)
    (λ ranges at s shape. c.selects.ensures.value image bench f ranges at s shape ∙ c.if-not-selects.false)

pub returns-clause-below : goal.returns-clause-below
returns-clause-below g c = parent_inside _ _ _ _ c.args.level c.requires.some c.requires.signals c.requires.place c.requires.level c.if-level-eq0.false
