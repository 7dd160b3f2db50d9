use Rattle.byte_forms.proofs.PieceLaws.{strips}
use Rattle.byte_forms.proofs.pieces.after_literal.Goals as goal

pub returns : goal.returns
returns c = strips c.args.literal.now c.args.bytes.now c.strip_prefix.result c.strip_prefix.ensures.cases
