use Rattle.std.proofs.Common.{refl}
use Rattle.byte_forms.specs.Hexadecimal.{hex_digits}
use Rattle.subscriber_text.proofs.record.key_digits.Goals as goal

pub returns-else-key : goal.returns-else-key
unfolding hex_digits
returns-else-key c = rw (c.requires, c.if-key.false) refl
