use Rattle.std.proofs.Common.{◌≡◌, ◌<◌, ◌==◌, true, drop, subst, arith}
use Rattle.std.proofs.lemmas.Bool.{both_ways}
use Rattle.std.proofs.lemmas.List.{take_rest}
use Rattle.sig_text.specs.Comments.{BeginsSpace, OpensLineComment, OpensBlockComment}
use Rattle.sig_text.proofs.BlankLaws.{space_at, no_blank_at}
use Rattle.sig_text.proofs.blank.blank_end.Goals as goal
use Rattle.sig_text.proofs.blank.blank_end.Goals.{then-comments+in-Absent, else-comments}

pub returns-in-0-clause-none : goal.returns-in-0-clause-none
returns-in-0-clause-none c =
    let text = c.args.bytes.now in
    let rest = take_rest text c.args.at in
    let absent : c.args.comments ≡ true → (OpensLineComment (drop c.args.at text) → ⊥) × (OpensBlockComment (drop c.args.at text) → ⊥) = λ asked.
    elim c.if-comments.branch [
      | then-comments+in-Absent w ↦ subst (λ s. (OpensLineComment s → ⊥) × (OpensBlockComment s → ⊥)) rest w.in-Absent.ensures
      | else-comments w ↦ absurd (both_ways _ w.if-comments.false asked)
    ] in
    no_blank_at text c.args.comments c.args.at absent (subst (BeginsSpace (drop c.args.at text) (c.args.at == 0)) c.in-0.is (subst (λ s. BeginsSpace s (c.args.at == 0) c.space_len.result) rest c.space_len.ensures))

pub returns-in_default-clause-blank : goal.returns-in_default-clause-blank
returns-in_default-clause-blank c =
    let text = c.args.bytes.now in
    let some : 0 < c.space_len.result = grind arith in
    space_at text c.args.comments c.args.at c.space_len.result c.requires some (subst (λ s. BeginsSpace s (c.args.at == 0) c.space_len.result) (take_rest text c.args.at) c.space_len.ensures)
