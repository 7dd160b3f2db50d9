use Rattle.std.proofs.Common.{◌∙◌, sym, length, get_or, arith, below_more}
use Rattle.std.proofs.lemmas.List.Sums.{prefix_len_is}
use Rattle.candump_log.specs.Line.{is_blank}
use Rattle.candump_log.proofs.BlankLaws.{not_true, not_false}
use Rattle.candump_log.proofs.blanks.blank_len.Goals as goal

pub loop-i-preserved : goal.loop-i-preserved
loop-i-preserved c = below_more _ _ c.loop-i.invariant (not_false (is_blank (get_or c.args.bytes.now c.loop-i.i 0)) (sym c.has.ensures ∙ c.if-has.false))

pub returns-clause-value : goal.returns-clause-value
returns-clause-value c =
    sym (prefix_len_is is_blank c.args.bytes.now (length c.args.bytes.now) 0 (omega arith) (λ k lt. c.loop-i.invariant k (omega arith)) (λ past. absurd (omega arith)))

pub returns-then-has-clause-value : goal.returns-then-has-clause-value
returns-then-has-clause-value c =
    sym (prefix_len_is is_blank c.args.bytes.now c.loop-i.i 0 (omega arith) c.loop-i.invariant (λ _. not_true (is_blank (get_or c.args.bytes.now c.loop-i.i 0)) (sym c.has.ensures ∙ c.if-has.true)))
