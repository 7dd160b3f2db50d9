use Rattle.std.proofs.Common.{◌≡◌, ◌<◌, true, subst, get_or, arith}
use Rattle.std.proofs.lemmas.List.{take_rest}
use Rattle.sig_text.specs.Bytes.{is_exponent_mark}
use Rattle.sig_text.specs.Prefixes.{IsLongestPrefix}
use Rattle.sig_text.specs.Lexemes.{IsPower}
use Rattle.sig_text.proofs.PrefixLaws.{after_prefix}
use Rattle.sig_text.proofs.number.exponent_len.Goals as goal

pub returns-in_default-power_len : goal.returns-in_default-power_len
returns-in_default-power_len c =
    let text = c.args.text.now in
    let mark : is_exponent_mark (get_or text 0 0) ≡ true = grind arith in
    let some : 0 < c.power_len.result = grind arith in
    after_prefix is_exponent_mark IsPower text _ (omega arith) mark some (subst (λ s. IsLongestPrefix IsPower s c.power_len.result) (take_rest text 1) c.power_len.ensures)
