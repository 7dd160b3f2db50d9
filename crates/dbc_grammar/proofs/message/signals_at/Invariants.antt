use Rattle.std.proofs.Common.{◌-◌, length}
use Rattle.token_forms.specs.Runs.{run_of}
use Rattle.dbc_grammar.specs.Forms.{signal_at}
use Rattle.dbc_grammar.proofs.RunLaws.{IsAhead}
use Rattle.dbc_grammar.proofs.message.signals_at.Given as goal

-- those taken and those ahead are all
abbrev pub invariant-loop-turn : goal.invariant-loop-turn
invariant-loop-turn l = IsAhead (signal_at l.bytes) (length l.tokens - l.turn) l.signals.items l.rest (run_of (signal_at l.bytes) l.tokens)
