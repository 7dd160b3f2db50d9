use Rattle.std.proofs.Common.{◌≡◌, length}
use Rattle.ldf_grammar.specs.Forms.{until, put_all_before}
use Rattle.ldf_grammar.proofs.parts.parts_until.Given as goal

-- the parts so far, and those of the rest behind them, are all
abbrev pub invariant-loop-after : goal.invariant-loop-after
invariant-loop-after g l =
    put_all_before l.parts.items (until l.bytes l.close (g.T.Part.form l.bytes) l.rest) ≡ until l.bytes l.close (g.T.Part.form l.bytes) l.tokens

abbrev pub decreases-loop-after : goal.decreases-loop-after
decreases-loop-after g l = length l.rest
