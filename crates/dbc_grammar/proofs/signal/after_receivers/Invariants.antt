use Rattle.std.proofs.Common.{◌≡◌, ◌-◌, length}
use Rattle.token_forms.specs.Runs.{run_within, run_of}
use Rattle.dbc_grammar.specs.Forms.{receiver_at}
use Rattle.dbc_grammar.proofs.signal.after_receivers.Given as goal

-- the tokens after those ahead are the tokens after all
abbrev pub invariant-loop-turn : goal.invariant-loop-turn
invariant-loop-turn l = (run_within (length l.tokens - l.turn) (receiver_at l.bytes) l.rest).1 ≡ (run_of (receiver_at l.bytes) l.tokens).1
