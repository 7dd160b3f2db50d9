use Rattle.std.proofs.Common.{◌≡◌, ◌<◌, true, false, get_or, arith, subst}
use Rattle.sig_text.specs.Bytes.{is_word_start, is_sign}
use Rattle.sig_text.specs.Prefixes.{IsLongestPrefix}
use Rattle.sig_text.specs.Lexemes.{IsNumber}
use Rattle.sig_text.proofs.ScanLaws.{word_token, string_token, no_string_token, number_token, sign_token, no_token}
use Rattle.sig_text.proofs.scan.token_at_start.Goals as goal

pub returns-then-is_word_start-clause-found : goal.returns-then-is_word_start-clause-found
returns-then-is_word_start-clause-found c =
    let word : is_word_start (get_or c.args.text.now 0 0) ≡ true = grind arith in
    word_token c.args.text.now c.word_len.result c.requires c.word_len.ensures.run word

pub returns-in_err-len-clause-none : goal.returns-in_err-len-clause-none
returns-in_err-len-clause-none c =
    let text = c.args.text.now in
    let quote : get_or text 0 0 ≡ 34 = grind arith in
    rw c.from_residual.ensures (no_string_token text c.in_err-len.ensures.none quote)

pub returns-then-first-eq34-clause-found : goal.returns-then-first-eq34-clause-found
returns-then-first-eq34-clause-found c =
    let quote : get_or c.args.text.now 0 0 ≡ 34 = grind arith in
    string_token c.args.text.now c.in_ok-len.len c.in_ok-len.ensures.within c.in_ok-len.ensures.found quote

pub returns-in-0-clause-found : goal.returns-in-0-clause-found
returns-in-0-clause-found c =
    let text = c.args.text.now in
    let no_word : is_word_start (get_or text 0 0) ≡ false = grind arith in
    let no_quote : get_or text 0 0 ≡ 34 → ⊥ = grind arith in
    let sign : is_sign (get_or text 0 0) ≡ true = grind arith in
    sign_token text c.requires no_word no_quote (subst (IsLongestPrefix IsNumber text) c.in-0.is c.number_len.ensures) sign

pub returns-in-0-2-clause-none : goal.returns-in-0-2-clause-none
returns-in-0-2-clause-none c =
    let text = c.args.text.now in
    let no_word : is_word_start (get_or text 0 0) ≡ false = grind arith in
    let no_quote : get_or text 0 0 ≡ 34 → ⊥ = grind arith in
    let no_sign : is_sign (get_or text 0 0) ≡ false = grind arith in
    no_token text no_word no_quote (subst (IsLongestPrefix IsNumber text) c.in-0.is c.number_len.ensures) no_sign

pub returns-in_default-clause-found : goal.returns-in_default-clause-found
returns-in_default-clause-found c =
    let text = c.args.text.now in
    let no_word : is_word_start (get_or text 0 0) ≡ false = grind arith in
    let no_quote : get_or text 0 0 ≡ 34 → ⊥ = grind arith in
    let some : 0 < c.number_len.result = grind arith in
    number_token text c.number_len.result no_word no_quote some c.number_len.ensures
