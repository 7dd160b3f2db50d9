use Rattle.std.proofs.Common.{sym}
use Rattle.byte_forms.specs.Classes.{is_in}
use Rattle.byte_forms.proofs.RunLaws.{list_all-prefix_len}
use Rattle.byte_forms.proofs.runs.is_all.Goals as goal

pub returns : goal.returns
returns c = rw c.run_len.ensures.value (sym (list_all-prefix_len (is_in c.args.class) c.args.bytes.now))
