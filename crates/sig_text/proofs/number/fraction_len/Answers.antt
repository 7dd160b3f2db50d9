use Rattle.std.proofs.Common.{◌≡◌, ◌∙◌, ap, get_or, arith}
use Rattle.std.specs.List.{prefix_len}
use Rattle.std.specs.Char.{is_ascii_digit}
use Rattle.std.proofs.lemmas.List.{take_rest}
use Rattle.sig_text.proofs.PrefixLaws.{fraction_prefix}
use Rattle.sig_text.proofs.number.fraction_len.Goals as goal

-- the point is the first byte, and its digits are the run behind it
pub returns-in-46 : goal.returns-in-46
returns-in-46 c =
    let text = c.args.text.now in
    let dot : get_or text 0 0 ≡ 46 = grind arith in
    fraction_prefix text c.digits_len.result (omega arith) dot (c.digits_len.ensures.run ∙ ap (prefix_len is_ascii_digit) (take_rest text 1))
