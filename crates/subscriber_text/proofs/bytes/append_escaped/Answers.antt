use Rattle.std.proofs.lemmas.List.{take_rest}
use Rattle.std.proofs.Common.{◌++◌, ◌≡◌, arith, inl, inr, ap, ◌∙◌, rules}
use Rattle.std.proofs.lemmas.Bool.{cases_lt}
use Rattle.subscriber_text.proofs.QuoteLaws.{escaped-step, escaped-end}
use Rattle.subscriber_text.proofs.bytes.append_escaped.Goals as goal
use Rattle.subscriber_text.proofs.bytes.append_escaped.Goals.{then-not-is_plain+in_ok-extend_from_slice+in_ok-append_escape, else-not-is_plain}

pub loop-i-preserved : goal.loop-i-preserved
loop-i-preserved c =
    let inv = c.loop-i.invariant in
    elim c.if-not-is_plain.branch [
      | then-not-is_plain+in_ok-extend_from_slice+in_ok-append_escape w ↦
          (omega arith, (rw (w.out-is, w.start-is) (escaped-step c.args.text.now c.args.out.now.items c.loop-i.out.items w.extend_from_slice.new.self.items w.append_escape.new.out.items c.loop-i.start c.loop-i.i inv.0 (omega arith) inv.1.1 inv.1.0 w.in_ok-extend_from_slice.ensures.items w.in_ok-append_escape.ensures.ok), λ k lo hi. absurd (omega (arith, w.start-is))))
      | else-not-is_plain w ↦ (
        omega arith,
        (
          rw (w.out-is, w.start-is) inv.1.0,
          λ k lo hi. elim (cases_lt k c.loop-i.i) [
            | inl below ↦ inv.1.1 k (omega (arith, w.start-is)) below
            | inr above ↦ let same : k ≡ c.loop-i.i = omega arith in rw same (search rules)
          ],
        ),
      )
    ]

pub returns-clause-ok : goal.returns-clause-ok
returns-clause-ok c =
    let inv = c.loop-i.invariant in
    escaped-end c.args.text.now c.args.out.now.items c.loop-i.out.items _ c.loop-i.start c.loop-i.i inv.0 (omega arith) inv.1.1 inv.1.0
    (c.in_ok-extend_from_slice-2.ensures.items ∙ ap (λ ys. c.loop-i.out.items ++ ys) (take_rest c.args.text.now c.loop-i.start))
