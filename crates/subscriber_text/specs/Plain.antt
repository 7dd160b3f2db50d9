-- Which bytes are written unchanged inside quotation marks.
use Rattle.std.specs.Prelude.{ℕ, ◌==◌, ◌||◌, Bool, not, nat_lt, List, flat_map}
use Rattle.byte_forms.specs.Bytes.{space}
use Rattle.subscriber_text.specs.Bytes.{quote, backslash, delete}
use Rattle.subscriber_text.specs.ItemText.{quoted_byte}

abbrev pub is_plain : ℕ → Bool
is_plain b = not (b == quote || (b == backslash || (nat_lt b space || b == delete)))

abbrev pub escaped : List ℕ → List ℕ
escaped text = flat_map quoted_byte text
