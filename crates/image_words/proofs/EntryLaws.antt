-- What the first entry that covers a raw value makes of it.
use Rattle.std.proofs.Common.{◌≡◌, ◌≢◌, ◌∙◌, ℕ, ◌+◌, ◌≤◌, ℤ, ◌+ℤ◌, ◌*ℤ◌, true, false, List, length, drop, find, Option, Some, None, refl, sym, subst, arith}
use Rattle.std.specs.Option.{option_map}
use Rattle.exact_scale.specs.declared.scaling.Scale.{Scale}
use Rattle.exact_scale.specs.declared.printing.Exact.{Exact}
use Rattle.exact_scale.specs.Limits.{IsScale}
use Rattle.bench_model.specs.declared.database.Label.{Label}
use Rattle.bench_model.specs.declared.database.Entry.{Entry}
use Rattle.bench_model.specs.declared.database.Entry.TheVariants.{Logical, Physical, Plain}
use Rattle.bench_model.specs.declared.database.Coding.{Coding}
use Rattle.bench_model.specs.declared.database.Coding.TheVariants.{Scaled, Listed}
use Rattle.bench_model.specs.Limits.{IsEntry}
use Rattle.bench_model.specs.Meaning.{is_label_of, covers, entry_meaning, coding_meaning}
use Rattle.image_words.specs.declared.rows.CodingRow.{CodingRow}
use Rattle.image_words.specs.declared.choices.EntryRow.{EntryRow}
use Rattle.image_words.specs.declared.coding.Coded.{Coded}
use Rattle.image_words.specs.Layout.{HasOptionalText}
use Rattle.image_words.specs.Knowledge.{Knowledge, SomeFits, Narrows}
use Rattle.image_words.specs.Reading.{EachHas, EachIs, LabelsAt, EntriesAt, scale_of, IsEntryOf, IsEntryRow, CodingOf, IsCoded}
use Rattle.image_words.proofs.WordLaws.{fitted}
use Rattle.image_words.proofs.SearchLaws.{find_more, find_here, find_past}

entry_limits : (image : List ℕ) (row : EntryRow) (entry : Entry) → IsEntryOf row image entry → IsEntry entry → row.kind ≡ 1 →
    IsScale (scale_of row.factor row.offset row.places)
entry_limits image row (Logical raw text) is limits kind = absurd (omega (arith, is.kind, kind))
entry_limits image row (Physical low high scale unit) is limits kind = subst IsScale is.scaling limits
entry_limits image row Plain is limits kind = absurd (omega (arith, is, kind))

-- a physical entry has a scaling within its limits
pub entry_scale : (a b : Knowledge) (at count i : ℕ) (row : EntryRow) → Narrows a b → SomeFits a → EachHas a (EntriesAt at count) →
    EachIs b (EntriesAt at count) (λ image entries. IsEntryRow image entries i row) → row.kind ≡ 1 →
    IsScale (scale_of row.factor row.offset row.places)
entry_scale a b at count i row n some has is kind =
    let still = n.some some in
    let entries = has still.image still.bench (fitted a b still.image still.bench n still.fits) in
    let entry = is still.image still.bench still.fits entries.0 entries.1 in
    entry_limits still.image row entry.entry entry.is_of entry.limits kind

pub entry_found : (image : List ℕ) (entries : List Entry) (raw : ℤ) (i : ℕ) (row : EntryRow) (at : IsEntryRow image entries i row) → covers raw at.entry ≡ true →
    find (covers raw) entries ≡ find (covers raw) (drop i entries) → find (covers raw) entries ≡ Some at.entry
entry_found image entries raw i row at test rest = rest ∙ find_here (covers raw) entries i at.entry at.there test

pub entry_passed : (image : List ℕ) (entries : List Entry) (raw : ℤ) (i : ℕ) (row : EntryRow) (at : IsEntryRow image entries i row) → covers raw at.entry ≡ false →
    find (covers raw) (drop i entries) ≡ find (covers raw) (drop (i + 1) entries)
entry_passed image entries raw i row at test = find_more (covers raw) entries i at.entry at.there test

pub entry_missing : (entries : List Entry) (raw : ℤ) (i : ℕ) → length entries ≤ i →
    find (covers raw) entries ≡ find (covers raw) (drop i entries) → find (covers raw) entries ≡ None
entry_missing entries raw i h rest = rest ∙ find_past (covers raw) entries i h

-- ---- values with references

pub physical_coded : (image : List ℕ) (row : EntryRow) (entry : Entry) (raw r : ℤ) (exact : Exact) (scale : Scale) → IsEntryOf row image entry → row.kind ≡ 1 →
    scale ≡ scale_of row.factor row.offset row.places → r ≡ raw → exact.num ≡ (r *ℤ scale.factor) +ℤ scale.offset → exact.k ≡ scale.k →
    IsCoded image (record { value = exact; unit = row.text; label = 0 }) (entry_meaning raw (Some entry))
physical_coded image row (Logical value text) raw r exact scale is kind e same num k = absurd (omega (arith, is.kind, kind))
physical_coded image row Plain raw r exact scale is kind e same num k = absurd (omega (arith, is, kind))
physical_coded image row (Physical low high own unit) raw r exact scale is kind e same num k =
    let one : own ≡ scale = is.scaling ∙ sym e in
    let value : (raw *ℤ own.factor) +ℤ own.offset ≡ exact.num =
    (λ j. (sym same j *ℤ (one j).factor) +ℤ (one j).offset) ∙ sym num in
    let places : own.k ≡ exact.k = (λ j. (one j).k) ∙ sym k in
    record {
      number = λ j. record { num = value j; k = places j };
      unit_text = record { text = Some unit; there = is.unit_text; same = refl };
      label_text = refl;
    }

-- where no entry covers a raw value it stands for itself
pub none_coded : (image : List ℕ) (coded : Coded) (raw r : ℤ) (entry : Option Entry) → entry ≡ None → r ≡ raw →
    coded ≡ record { value = record { num = r; k = 0 }; unit = 0; label = 0 } → IsCoded image coded (entry_meaning raw entry)
none_coded image coded raw r entry none same e = rw (none, e) (record {
  number = (λ j. record { num = sym same j; k = 0 });
  unit_text = record { text = None; there = refl; same = refl };
  label_text = refl;
})

pub listed_coded : (image : List ℕ) (row : CodingRow) (coding : Coding) (raw : ℤ) (coded : Coded) → row.kind ≡ 1 → CodingOf row image coding →
    ((entries : List Entry) → EntriesAt row.choices_at row.choices image entries → IsCoded image coded (entry_meaning raw (find (covers raw) entries))) →
    IsCoded image coded (coding_meaning coding raw)
listed_coded image row (Scaled scale unit labels) raw coded kind has each = absurd (omega (arith, has.is_of.kind, kind))
listed_coded image row (Listed entries) raw coded kind has each = each entries (record { rows = has.is_of.rows; limits = has.limits })

pub scaled_coded : (image : List ℕ) (row : CodingRow) (coding : Coding) (raw : ℤ) (exact : Exact) (scale : Scale) (label : ℕ) → row.kind ≢ 1 → CodingOf row image coding →
    scale ≡ scale_of row.factor row.offset row.places → exact.num ≡ (raw *ℤ scale.factor) +ℤ scale.offset → exact.k ≡ scale.k →
    ((labels : List Label) → LabelsAt row.choices_at row.choices image labels →
    HasOptionalText image label (option_map (λ (l : Label). l.text) (find (is_label_of raw) labels))) →
    IsCoded image (record { value = exact; unit = row.unit; label = label }) (coding_meaning coding raw)
scaled_coded image row (Listed entries) raw exact scale label kind has e num k each = absurd (kind has.is_of.kind)
scaled_coded image row (Scaled own unit labels) raw exact scale label kind has e num k each =
    let one : own ≡ scale = has.is_of.scaling ∙ sym e in
    let value : (raw *ℤ own.factor) +ℤ own.offset ≡ exact.num = (λ j. (raw *ℤ (one j).factor) +ℤ (one j).offset) ∙ sym num in
    let places : own.k ≡ exact.k = (λ j. (one j).k) ∙ sym k in
    record {
      number = λ j. record { num = value j; k = places j };
      unit_text = record { text = Some unit; there = has.is_of.unit_text; same = refl };
      label_text = each labels has.is_of.rows;
    }
