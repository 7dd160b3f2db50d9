use Rattle.std.proofs.Common.{◌∙◌, sym, length, arith}
use Rattle.std.proofs.lemmas.List.Sums.{prefix_len_is}
use Rattle.byte_forms.specs.Classes.{is_in}
use Rattle.byte_forms.proofs.runs.run_len.Goals as goal

pub returns-clause-value : goal.returns-clause-value
returns-clause-value c =
    sym (prefix_len_is (is_in c.args.class) c.args.bytes.now (length c.args.bytes.now) 0 (omega arith) (λ k lt. c.loop-i.invariant k (omega arith)) (λ past. absurd (omega arith)))

pub returns-then-not-has-clause-value : goal.returns-then-not-has-clause-value
returns-then-not-has-clause-value c =
    sym (prefix_len_is (is_in c.args.class) c.args.bytes.now c.loop-i.i 0 (omega arith) c.loop-i.invariant (λ _. sym c.has.ensures ∙ c.if-not-has.true))
