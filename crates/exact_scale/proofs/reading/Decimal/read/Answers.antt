use Rattle.exact_scale.proofs.ReadLaws.{denotes_once, narrow_not_wide}
use Rattle.exact_scale.proofs.reading.Decimal.read.Goals as goal

pub returns-in-Some-narrow-clause-only : goal.returns-in-Some-narrow-clause-only
returns-in-Some-narrow-clause-only c = λ n k d.
    denotes_once c.args.text.now n c.in-Some-narrow.decimal.num k c.in-Some-narrow.decimal.k d (c.in-Some-narrow.ensures.some c.args.text.now c.in-Some.ensures.some)

pub returns-in-Some-narrow-clause-wide : goal.returns-in-Some-narrow-clause-wide
returns-in-Some-narrow-clause-wide c = (
  λ e. cc,
  λ w. absurd (narrow_not_wide c.args.text.now c.in-Some-narrow.decimal.num c.in-Some-narrow.decimal.k
      (c.in-Some-narrow.ensures.some c.args.text.now c.in-Some.ensures.some) c.in-Some-narrow.ensures.narrow.0 c.in-Some-narrow.ensures.narrow.1 w),
)
