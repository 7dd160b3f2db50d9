use Rattle.std.proofs.Common.{◌-◌, length}
use Rattle.token_forms.specs.Runs.{run_of, put_first}
use Rattle.dbc_grammar.specs.Forms.{more_range_at}
use Rattle.dbc_grammar.proofs.RunLaws.{IsAhead}
use Rattle.dbc_grammar.proofs.multiplexing.more_ranges_at.Given as goal

-- the first, those taken and those ahead are all
abbrev pub invariant-loop-turn : goal.invariant-loop-turn
invariant-loop-turn l = IsAhead (more_range_at l.bytes) (length l.tokens - l.turn) l.ranges.items l.rest (put_first l.fn.first (run_of (more_range_at l.bytes) l.tokens))
