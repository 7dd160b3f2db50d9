use Rattle.std.proofs.Common.{sym, length}
use Rattle.token_forms.specs.Runs.{run_of}
use Rattle.dbc_grammar.specs.Forms.{value_text_at}
use Rattle.dbc_grammar.proofs.RunLaws.{rest_taken, rest_follows, rest_left}
use Rattle.dbc_grammar.proofs.values.after_value_texts.Goals as goal

pub returns-in-None : goal.returns-in-None
returns-in-None c =
    rest_follows (value_text_at c.args.bytes.now) (length c.args.tokens.now) c.loop-turn.turn c.loop-turn.rest.now
    (run_of (value_text_at c.args.bytes.now) c.args.tokens.now).1 c.loop-turn-test.true (sym c.in-None.ensures) c.loop-turn.invariant

pub loop-turn-preserved : goal.loop-turn-preserved
loop-turn-preserved c =
    rest_taken (value_text_at c.args.bytes.now) (length c.args.tokens.now) c.loop-turn.turn c.loop-turn.rest.now c.in-Some.after.now
    c.in-Some._text (run_of (value_text_at c.args.bytes.now) c.args.tokens.now).1 c.loop-turn-test.true (sym c.in-Some.ensures) c.loop-turn.invariant

pub returns : goal.returns
returns c =
    rest_left (value_text_at c.args.bytes.now) (length c.args.tokens.now) c.loop-turn.turn c.loop-turn.rest.now
    (run_of (value_text_at c.args.bytes.now) c.args.tokens.now).1 c.loop-turn-test.false c.loop-turn.invariant
