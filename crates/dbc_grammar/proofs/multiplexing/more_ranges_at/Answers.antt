use Rattle.std.proofs.Common.{◌∙◌, sym, ap, subst, ◌+◌, ◌-◌, length}
use Rattle.token_forms.specs.Runs.{run_of, put_first}
use Rattle.dbc_grammar.specs.Forms.{more_range_at}
use Rattle.dbc_grammar.proofs.RunLaws.{IsAhead, one_taken, none_follows, all_taken}
use Rattle.dbc_grammar.proofs.multiplexing.more_ranges_at.Goals as goal

pub returns-in-None : goal.returns-in-None
returns-in-None c =
    ap (λ xs. (xs, c.loop-turn.rest.now)) c.of.ensures
    ∙ none_follows (more_range_at c.args.bytes.now) (length c.args.tokens.now) c.loop-turn.turn c.loop-turn.ranges.items c.loop-turn.rest.now
    (put_first c.args.first (run_of (more_range_at c.args.bytes.now) c.args.tokens.now)) c.loop-turn-test.true (sym c.in-None.ensures) c.loop-turn.invariant

pub loop-turn-preserved : goal.loop-turn-preserved
loop-turn-preserved c =
    let all = put_first c.args.first (run_of (more_range_at c.args.bytes.now) c.args.tokens.now) in
    subst (λ xs. IsAhead (more_range_at c.args.bytes.now) (length c.args.tokens.now - (c.loop-turn.turn + 1)) xs c.in-Some.after.now all)
    (sym c.in_ok-push-in-Some.ensures.items)
    (one_taken (more_range_at c.args.bytes.now) (length c.args.tokens.now) c.loop-turn.turn c.loop-turn.ranges.items c.loop-turn.rest.now
    c.in-Some.after.now c.in-Some.range all c.loop-turn-test.true (sym c.in-Some.ensures) c.loop-turn.invariant)

pub returns : goal.returns
returns c =
    ap (λ xs. (xs, c.loop-turn.rest.now)) c.of-2.ensures
    ∙ all_taken (more_range_at c.args.bytes.now) (length c.args.tokens.now) c.loop-turn.turn c.loop-turn.ranges.items c.loop-turn.rest.now
    (put_first c.args.first (run_of (more_range_at c.args.bytes.now) c.args.tokens.now)) c.loop-turn-test.false c.loop-turn.invariant
