use Rattle.std.proofs.Common.{◌≡◌, get_or, inl, arith}
use Rattle.sig_text.proofs.StringLaws.{line_comment_prefix}
use Rattle.sig_text.proofs.blank.comment_at_start.Goals as goal

pub returns-in-47 : goal.returns-in-47
returns-in-47 c =
    let text = c.args.text.now in
    let first : get_or text 0 0 ≡ 47 = grind arith in
    let second : get_or text 1 0 ≡ 47 = grind arith in
    inl (line_comment_prefix text c.line_len.result c.line_len.ensures.run (omega arith) (record { first_slash = first; second_slash = second }))
