use Rattle.std.proofs.Common.{Bool}
use Rattle.dbc_grammar.specs.Naming.{Noted}
use Rattle.dbc_grammar.specs.Rows.{AreRowsOf}
use Rattle.dbc_grammar.proofs.TreeLaws.{IsUnderWay}
use Rattle.dbc_grammar.proofs.read.messages_of.Given as goal

-- the messages so far, and the rows of those ahead
abbrev pub invariant-loop-form : goal.invariant-loop-form
invariant-loop-form l = (utf8 : Bool) (noted : Noted) → AreRowsOf l.bytes utf8 noted l.forms l.fn.rows.items →
    IsUnderWay l.bytes utf8 noted l.forms l.form-index l.messages.items l.left.items
