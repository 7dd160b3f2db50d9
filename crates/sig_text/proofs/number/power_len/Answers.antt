use Rattle.std.proofs.Common.{◌≡◌, ◌<◌, ◌≤◌, length, true, false, ◌∙◌, ap, sym, subst, get_or, arith}
use Rattle.std.specs.List.{prefix_len}
use Rattle.std.specs.Char.{is_ascii_digit}
use Rattle.std.proofs.lemmas.List.{take_rest, get_or_past}
use Rattle.sig_text.specs.Bytes.{is_plus_or_minus}
use Rattle.sig_text.specs.Prefixes.{IsLongestPrefix}
use Rattle.sig_text.specs.Lexemes.{IsPower}
use Rattle.sig_text.proofs.NumberLaws.{power_signed, power_plain}
use Rattle.sig_text.proofs.number.power_len.Goals as goal

pub returns-in_default-digits_len : goal.returns-in_default-digits_len
returns-in_default-digits_len c =
    let text = c.args.text.now in
    let sign : is_plus_or_minus (get_or text 0 0) ≡ true = grind arith in
    let some : 0 < c.digits_len.result = grind arith in
    power_signed text _ (omega arith) sign some (c.digits_len.ensures.run ∙ ap (prefix_len is_ascii_digit) (take_rest text 1))

pub returns-in_default : goal.returns-in_default
returns-in_default c =
    let text = c.args.text.now in
    let past : length text ≤ 0 → get_or text 0 0 ≡ 0 = get_or_past text 0 0 in
    let plain : is_plus_or_minus (get_or text 0 0) ≡ false = grind arith in
    subst (IsLongestPrefix IsPower text) (sym c.digits_len-in_default.ensures.run) (power_plain text plain)
