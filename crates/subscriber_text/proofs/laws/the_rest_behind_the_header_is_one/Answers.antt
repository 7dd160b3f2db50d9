use Rattle.std.proofs.Common.{sym, ◌∙◌}
use Rattle.std.proofs.lemmas.List.{append_cancel_left}
use Rattle.subscriber_text.specs.ItemText.{header_text}
use Rattle.subscriber_text.proofs.laws.the_rest_behind_the_header_is_one.Goals as goal

pub returns : goal.returns
returns c = λ wants sent rest other first second. append_cancel_left (header_text wants) rest other (sym first ∙ second)
