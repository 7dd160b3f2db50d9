use Rattle.std.proofs.Common.{◌≡◌, ◌-◌, length}
use Rattle.token_forms.specs.Runs.{run_within, run_of}
use Rattle.dbc_grammar.specs.Forms.{statement_at}
use Rattle.dbc_grammar.specs.Gather.{messages_in, notes_in}
use Rattle.dbc_grammar.proofs.RunLaws.{IsKeptAhead}
use Rattle.dbc_grammar.proofs.statements.kept_of.Given as goal

-- what is kept so far and of the statements ahead is what is kept of all, and the same tokens are left
abbrev pub invariant-loop-turn : goal.invariant-loop-turn
invariant-loop-turn l = record {
  messages : IsKeptAhead (statement_at l.bytes) messages_in (length l.tokens - l.turn) l.kept.messages.items l.rest (run_of (statement_at l.bytes) l.tokens).0;
  notes : IsKeptAhead (statement_at l.bytes) notes_in (length l.tokens - l.turn) l.kept.notes.items l.rest (run_of (statement_at l.bytes) l.tokens).0;
  after : (run_within (length l.tokens - l.turn) (statement_at l.bytes) l.rest).1 ≡ (run_of (statement_at l.bytes) l.tokens).1;
}
