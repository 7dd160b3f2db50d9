-- The first label of a raw value.
use Rattle.std.proofs.Common.{◌≡◌, ◌∙◌, ℕ, ◌+◌, ◌≤◌, ℤ, true, false, List, length, drop, find, Some, refl, ap}
use Rattle.std.specs.Option.{option_map}
use Rattle.std.specs.Ordering.{int_eq}
use Rattle.bench_model.specs.declared.database.Label.{Label}
use Rattle.bench_model.specs.Meaning.{is_label_of}
use Rattle.image_words.specs.declared.choices.LabelRow.{LabelRow}
use Rattle.image_words.specs.Layout.{HasOptionalText}
use Rattle.image_words.specs.Reading.{IsLabelRow}
use Rattle.image_words.proofs.SearchLaws.{find_more, find_here, find_past}

pub label_found : (image : List ℕ) (labels : List Label) (raw : ℤ) (i : ℕ) (row : LabelRow) → IsLabelRow image labels i row → int_eq row.raw raw ≡ true →
    find (is_label_of raw) labels ≡ find (is_label_of raw) (drop i labels) →
    HasOptionalText image row.text (option_map (λ (l : Label). l.text) (find (is_label_of raw) labels))
label_found image labels raw i row at same rest =
    let test : is_label_of raw at.label ≡ true = ap (λ (r : ℤ). int_eq r raw) at.raw ∙ same in
    let found : find (is_label_of raw) labels ≡ Some at.label = rest ∙ find_here (is_label_of raw) labels i at.label at.there test in
    rw found at.text

pub label_passed : (image : List ℕ) (labels : List Label) (raw : ℤ) (i : ℕ) (row : LabelRow) → IsLabelRow image labels i row → int_eq row.raw raw ≡ false →
    find (is_label_of raw) (drop i labels) ≡ find (is_label_of raw) (drop (i + 1) labels)
label_passed image labels raw i row at other =
    find_more (is_label_of raw) labels i at.label at.there (ap (λ (r : ℤ). int_eq r raw) at.raw ∙ other)

pub label_missing : (image : List ℕ) (labels : List Label) (raw : ℤ) (i : ℕ) → length labels ≤ i →
    find (is_label_of raw) labels ≡ find (is_label_of raw) (drop i labels) →
    HasOptionalText image 0 (option_map (λ (l : Label). l.text) (find (is_label_of raw) labels))
label_missing image labels raw i h rest = rw (rest ∙ find_past (is_label_of raw) labels i h) refl
