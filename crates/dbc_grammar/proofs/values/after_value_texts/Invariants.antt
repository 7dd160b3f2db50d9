use Rattle.std.proofs.Common.{◌≡◌, ◌-◌, length}
use Rattle.token_forms.specs.Runs.{run_within, run_of}
use Rattle.dbc_grammar.specs.Forms.{value_text_at}
use Rattle.dbc_grammar.proofs.values.after_value_texts.Given as goal

-- the tokens after those ahead are the tokens after all
abbrev pub invariant-loop-turn : goal.invariant-loop-turn
invariant-loop-turn l = (run_within (length l.tokens - l.turn) (value_text_at l.bytes) l.rest).1 ≡ (run_of (value_text_at l.bytes) l.tokens).1
