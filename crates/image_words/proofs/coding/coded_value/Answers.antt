use Rattle.std.proofs.Common.{ℤ, subst}
use Rattle.std.proofs.Math.Facts.{to_z-of_z}
use Rattle.bench_model.specs.Meaning.{coding_meaning}
use Rattle.image_words.specs.Reading.{IsCoded}
use Rattle.image_words.proofs.EntryLaws.{listed_coded, scaled_coded}
use Rattle.image_words.proofs.coding.coded_value.Goals as goal

pub returns-then-row-eq-LISTED-clause-coded : goal.returns-then-row-eq-LISTED-clause-coded
returns-then-row-eq-LISTED-clause-coded g c image bench f coding has =
    let P : ℤ → Type 0 = λ r. IsCoded image c.listed_value.result (coding_meaning coding r) in
    subst P (to_z-of_z c.ranges.raw)
    (listed_coded image c.args.row coding _ c.listed_value.result c.if-row-eq-LISTED.true has (c.listed_value.ensures.coded image bench f))

pub returns-clause-coded : goal.returns-clause-coded
returns-clause-coded g c image bench f coding has =
    let P : ℤ → Type 0 = λ r. IsCoded image (record { value = c.apply.result; unit = c.args.row.unit; label = c.label_of-label.result }) (coding_meaning coding r) in
    subst P (to_z-of_z c.ranges.raw)
    (scaled_coded image c.args.row coding _ c.apply.result c.scale_of.result c.label_of-label.result c.if-row-eq-LISTED.false has c.scale_of.ensures
    c.apply.ensures.value c.apply.ensures.places (c.label_of-label.ensures.label image bench f))
