use Rattle.std.proofs.Common.{◌∙◌, sym, ap, subst, ◌+◌, ◌-◌, length}
use Rattle.token_forms.specs.Runs.{run_of}
use Rattle.dbc_grammar.specs.Forms.{value_text_at}
use Rattle.dbc_grammar.proofs.RunLaws.{IsAhead, one_taken, none_follows, all_taken}
use Rattle.dbc_grammar.proofs.values.value_texts_at.Goals as goal

pub returns-in-None : goal.returns-in-None
returns-in-None c =
    ap (λ xs. (xs, c.loop-turn.rest.now)) c.of.ensures
    ∙ none_follows (value_text_at c.args.bytes.now) (length c.args.tokens.now) c.loop-turn.turn c.loop-turn.texts.items c.loop-turn.rest.now
    (run_of (value_text_at c.args.bytes.now) c.args.tokens.now) c.loop-turn-test.true (sym c.in-None.ensures) c.loop-turn.invariant

pub loop-turn-preserved : goal.loop-turn-preserved
loop-turn-preserved c =
    let all = run_of (value_text_at c.args.bytes.now) c.args.tokens.now in
    subst (λ xs. IsAhead (value_text_at c.args.bytes.now) (length c.args.tokens.now - (c.loop-turn.turn + 1)) xs c.in-Some.after.now all)
    (sym c.in_ok-push-in-Some.ensures.items)
    (one_taken (value_text_at c.args.bytes.now) (length c.args.tokens.now) c.loop-turn.turn c.loop-turn.texts.items c.loop-turn.rest.now
    c.in-Some.after.now c.in-Some.text all c.loop-turn-test.true (sym c.in-Some.ensures) c.loop-turn.invariant)

pub returns : goal.returns
returns c =
    ap (λ xs. (xs, c.loop-turn.rest.now)) c.of-2.ensures
    ∙ all_taken (value_text_at c.args.bytes.now) (length c.args.tokens.now) c.loop-turn.turn c.loop-turn.texts.items c.loop-turn.rest.now
    (run_of (value_text_at c.args.bytes.now) c.args.tokens.now) c.loop-turn-test.false c.loop-turn.invariant
