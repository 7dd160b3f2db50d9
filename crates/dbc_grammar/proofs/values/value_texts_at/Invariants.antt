use Rattle.std.proofs.Common.{◌-◌, length}
use Rattle.token_forms.specs.Runs.{run_of}
use Rattle.dbc_grammar.specs.Forms.{value_text_at}
use Rattle.dbc_grammar.proofs.RunLaws.{IsAhead}
use Rattle.dbc_grammar.proofs.values.value_texts_at.Given as goal

-- those taken and those ahead are all
abbrev pub invariant-loop-turn : goal.invariant-loop-turn
invariant-loop-turn l = IsAhead (value_text_at l.bytes) (length l.tokens - l.turn) l.texts.items l.rest (run_of (value_text_at l.bytes) l.tokens)
