use Rattle.std.proofs.Common.{◌≡◌, ◌∙◌, sym, ap, subst, length, List, ℕ}
use Rattle.sig_text.specs.declared.token.Token.{Token}
use Rattle.token_forms.specs.Runs.{run_of}
use Rattle.token_forms.specs.Grammar.{Each}
use Rattle.token_forms.specs.Views.{found_view}
use Rattle.dbc_grammar.specs.declared.statements.Kept.{Kept}
use Rattle.dbc_grammar.specs.Statements.{Parses}
use Rattle.dbc_grammar.specs.Forms.{statement_at}
use Rattle.dbc_grammar.specs.Gather.{messages_in, notes_in, messages_of, notes_of}
use Rattle.dbc_grammar.specs.Kept.{IsKeptBefore}
use Rattle.dbc_grammar.proofs.RunLaws.{rest_taken, rest_follows, rest_left, kept_taken, kept_follows, kept_left}
use Rattle.dbc_grammar.proofs.statements.kept_of.Goals as goal

before : (text : List ℕ) (tokens rest : List Token) (kept : Kept)
    → Each (Parses text) (run_of (statement_at text) tokens).0 tokens (run_of (statement_at text) tokens).1
    → rest ≡ (run_of (statement_at text) tokens).1 → kept.messages.items ≡ messages_of (run_of (statement_at text) tokens).0
    → kept.notes.items ≡ notes_of (run_of (statement_at text) tokens).0 → IsKeptBefore text tokens kept rest
before text tokens rest kept longest left messages notes =
    let statements = (run_of (statement_at text) tokens).0 in
    record {
      statements = statements;
      all = subst (λ (r : List Token). Each (Parses text) statements tokens r) (sym left) longest;
      messages = messages;
      notes = notes;
    }

pub returns-in-None : goal.returns-in-None
returns-in-None c =
    let form = statement_at c.args.bytes.now in
    let n = length c.args.tokens.now in
    let all = run_of form c.args.tokens.now in
    let loop = c.loop-turn in
    let none = sym c.in_ok-statement.ensures ∙ ap found_view c.in-None.is in
    before c.args.bytes.now c.args.tokens.now loop.rest.now loop.kept
    (c.statements_are_the_longest_run.ensures.longest c.args.bytes.now c.args.tokens.now)
    (rest_follows form n loop.turn loop.rest.now all.1 c.loop-turn-test.true none loop.invariant.after)
    (kept_follows form messages_in n loop.turn loop.kept.messages.items loop.rest.now all.0 c.loop-turn-test.true none loop.invariant.messages)
    (kept_follows form notes_in n loop.turn loop.kept.notes.items loop.rest.now all.0 c.loop-turn-test.true none loop.invariant.notes)

pub loop-turn-preserved : goal.loop-turn-preserved
loop-turn-preserved c =
    let form = statement_at c.args.bytes.now in
    let n = length c.args.tokens.now in
    let all = run_of form c.args.tokens.now in
    let loop = c.loop-turn in
    let some = sym c.in_ok-statement.ensures ∙ ap found_view c.in-Some.is in
    record {
      messages = kept_taken form messages_in n loop.turn loop.kept.messages.items c.add.new.self.messages.items loop.rest.now c.in-Some.after.now
          c.in-Some.statement all.0 c.loop-turn-test.true some c.in_ok-add-in-Some.ensures.messages loop.invariant.messages;
      notes = kept_taken form notes_in n loop.turn loop.kept.notes.items c.add.new.self.notes.items loop.rest.now c.in-Some.after.now
          c.in-Some.statement all.0 c.loop-turn-test.true some c.in_ok-add-in-Some.ensures.notes loop.invariant.notes;
      after = rest_taken form n loop.turn loop.rest.now c.in-Some.after.now c.in-Some.statement all.1 c.loop-turn-test.true some loop.invariant.after;
    }

pub returns : goal.returns
returns c =
    let form = statement_at c.args.bytes.now in
    let n = length c.args.tokens.now in
    let all = run_of form c.args.tokens.now in
    let loop = c.loop-turn in
    before c.args.bytes.now c.args.tokens.now loop.rest.now loop.kept
    (c.statements_are_the_longest_run.ensures.longest c.args.bytes.now c.args.tokens.now)
    (rest_left form n loop.turn loop.rest.now all.1 c.loop-turn-test.false loop.invariant.after)
    (kept_left form messages_in n loop.turn loop.kept.messages.items loop.rest.now all.0 c.loop-turn-test.false loop.invariant.messages)
    (kept_left form notes_in n loop.turn loop.kept.notes.items loop.rest.now all.0 c.loop-turn-test.false loop.invariant.notes)
