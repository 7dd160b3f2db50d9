use Rattle.std.proofs.Common.{◌-◌, ◌≤◌, length}
use Rattle.sig_text.specs.Tokens.{AreTokens}
use Rattle.sig_text.proofs.lexer.read_tokens.Given as goal

-- the tokens so far lead up to this place
abbrev pub invariant-loop-at : goal.invariant-loop-at
invariant-loop-at l = record { within : l.at ≤ length l.bytes; reading : AreTokens l.bytes l.comments 0 l.list.items l.at }

abbrev pub decreases-loop-at : goal.decreases-loop-at
decreases-loop-at l = length l.bytes - l.at
