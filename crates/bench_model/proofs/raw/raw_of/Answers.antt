use Rattle.std.proofs.Common.{◌∙◌, sym, ap, Some, arith}
use Rattle.std.proofs.lemmas.Int.{ints}
use Rattle.bench_model.proofs.RawLaws.{absent, present, first_within, top_weighs}
use Rattle.bench_model.proofs.raw.raw_of.Goals as goal

pub returns-in_default-clause-value : goal.returns-in_default-clause-value
returns-in_default-clause-value c = sym (absent _ _ _ c.first_place-first.ensures.place c.in_default.ensures)

pub returns-in_default-bit_at-clause-value : goal.returns-in_default-bit_at-clause-value
returns-in_default-bit_at-clause-value c =
    sym (absent _ _ _ c.first_place-first.ensures.place (first_within _ _ _ _ c.requires.some_bits c.in_default-bit_at.ensures))

pub returns-clause-value : goal.returns-clause-value
returns-clause-value c =
    ap Some (omega (arith, ints, c.number.ensures.bound.0, c.number.ensures.bound.1))
    ∙ sym (present _ _ _ _ _ _ c.first_place-first.ensures.place c.in-Some.ensures.0 c.in-Some.ensures.1 c.in-Some-bit_at.ensures.1 c.number.ensures.value)

pub number-requires-clause-top : goal.number-requires-clause-top
number-requires-clause-top c = λ set.
    rw c.in-Some.ensures.1 (top_weighs _ _ _ _ c.requires.some_bits (sym c.in-Some-bit_at.ensures.1 ∙ set))
