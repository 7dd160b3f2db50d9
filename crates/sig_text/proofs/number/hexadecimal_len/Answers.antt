use Rattle.std.proofs.Common.{◌≡◌, ◌<◌, true, ◌∙◌, ap, get_or, arith}
use Rattle.std.specs.List.{prefix_len}
use Rattle.std.specs.Char.{is_ascii_hexdigit}
use Rattle.std.proofs.lemmas.List.{take_rest}
use Rattle.sig_text.specs.Bytes.{is_hexadecimal_mark}
use Rattle.sig_text.proofs.NumberLaws.{hexadecimal_prefix}
use Rattle.sig_text.proofs.number.hexadecimal_len.Goals as goal

-- `0x` is in front, and its digits are the run behind it
pub returns-in_default-hexadecimal_digits_len : goal.returns-in_default-hexadecimal_digits_len
returns-in_default-hexadecimal_digits_len c =
    let text = c.args.text.now in
    let nought : get_or text 0 0 ≡ 48 = grind arith in
    let mark : is_hexadecimal_mark (get_or text 1 0) ≡ true = grind arith in
    let some : 0 < c.hexadecimal_digits_len.result = grind arith in
    hexadecimal_prefix text _ (omega arith) nought mark some (c.hexadecimal_digits_len.ensures.run ∙ ap (prefix_len is_ascii_hexdigit) (take_rest text 2))
