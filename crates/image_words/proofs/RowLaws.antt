-- What the words of a row say of the bench's parts.
use Rattle.std.proofs.Common.{◌≡◌, ◌∙◌, ℕ, zero, suc, ◌+◌, ◌*◌, ◌<◌, ◌≤◌, List, [], ◌∷◌, length, Some, refl, ap, sym, subst, arith}
use Rattle.std.specs.Prelude.{slice_get, slice_index, ◌==◌}
use Rattle.std.specs.Int.{w64, cast_signed}
use Rattle.exact_scale.specs.declared.scaling.Scale.{Scale}
use Rattle.multiplex_tree.specs.declared.mark.Range.{Range}
use Rattle.bench_model.specs.declared.database.Label.{Label}
use Rattle.bench_model.specs.declared.database.Entry.{Entry}
use Rattle.bench_model.specs.declared.database.Entry.TheVariants.{Logical, Physical, Plain}
use Rattle.bench_model.specs.Limits.{IsEntry}
use Rattle.image_words.specs.declared.choices.LabelRow.{LabelRow}
use Rattle.image_words.specs.declared.choices.EntryRow.{EntryRow}
use Rattle.image_words.specs.Layout.{word, EachRow, HasRows, HasText, HasOptionalText}
use Rattle.image_words.specs.Image.{sign_weight, raw_of_bits, HasScale, HasRange, HasLabel, HasEntry, HasKindOfEntry}
use Rattle.image_words.specs.Knowledge.{Knowledge, SomeFits, Narrows, Holds}
use Rattle.image_words.specs.Reading.{EachHas, AreWords, RangesAt, LabelsAt, EntriesAt, SignalAt, shape_of, scale_of, IsDecodableShape, IsBusRow, IsLevel, IsSignalRow, IsLabelRow, IsEntryOf, IsEntryRow}
use Rattle.image_words.proofs.SearchLaws.{all_at}
use Rattle.image_words.proofs.WordLaws.{fitted}

-- ---- any rows

each_row_at : {X : Type 0} (Has : ℕ → X → Type 0) (stride at : ℕ) (xs : List X) (i : ℕ) → EachRow Has stride at xs → i < length xs →
    (x : X) × (slice_get xs i ≡ Some x) × Has (at + stride * i) x
unfolding EachRow
each_row_at Has stride at [] i each h = absurd (omega (arith, h))
each_row_at Has stride at (x ∷ xs) zero each h =
    let e : at ≡ at + stride * 0 = omega arith in
    let P : ℕ → Type 0 = λ p. Has p x in
    (x, refl, subst P e each.0)
each_row_at Has stride at (x ∷ xs) (suc i) each h =
    let found = each_row_at Has stride (at + stride) xs i each.1 (omega (arith, h)) in
    let e : at + stride + stride * i ≡ at + stride * suc i = omega arith in
    let P : ℕ → Type 0 = λ p. Has p found.0 in
    (found.0, found.1, subst P e found.2)

pub row_of : {X : Type 0} (Has : ℕ → X → Type 0) (stride at count : ℕ) (xs : List X) (i : ℕ) → HasRows Has stride at count xs → i < count →
    (x : X) × (slice_get xs i ≡ Some x) × Has (at + stride * i) x
row_of Has stride at count xs i rows h = each_row_at Has stride at xs i rows.each (omega (arith, h, rows.size))

-- the first word of a row
pub first_word : (image : List ℕ) (at : ℕ) (row : List ℕ) → 1 ≤ length row → AreWords image at row → word image at ≡ slice_index row 0
first_word image at row h words = let here : at ≡ at + 0 = omega arith in ap (word image) here ∙ words 0 (omega arith)

-- ---- buses

pub bus_row_read : (image : List ℕ) (at : ℕ) (row : List ℕ) → length row ≡ 7 → AreWords image at row →
    IsBusRow image at (record {
      kind = slice_index row 0;
      messages = slice_index row 2;
      messages_at = slice_index row 3;
      keys_at = slice_index row 4;
      groups = slice_index row 5;
      groups_at = slice_index row 6;
    })
bus_row_read image at row h words = record {
  kind = first_word image at row (omega arith) words;
  messages = words 2 (omega arith);
  messages_at = words 3 (omega arith);
  keys_at = words 4 (omega arith);
  groups = words 5 (omega arith);
  groups_at = words 6 (omega arith);
}

-- ---- ranges

pub range_within : (k : Knowledge) (at count i : ℕ) → SomeFits k → EachHas k (RangesAt at count) → i < count → at + 2 * i + 2 ≤ k.size
range_within k at count i some has h =
    let ranges = has some.image some.bench some.fits in
    let row = row_of (HasRange some.image) 2 at count ranges.0 i ranges.1 h in
    omega (arith, row.2.within, some.fits.encodes.whole, some.fits.size)

pub range_read : (image : List ℕ) (at count i : ℕ) (row : List ℕ) (ranges : List Range) → length row ≡ 2 → AreWords image (at + 2 * i) row →
    RangesAt at count image ranges → i < count → slice_get ranges i ≡ Some (record { low = slice_index row 0; high = slice_index row 1 })
range_read image at count i row ranges long words has h =
    let found = row_of (HasRange image) 2 at count ranges i has h in
    let low : found.0.low ≡ slice_index row 0 = found.2.low ∙ first_word image (at + 2 * i) row (omega arith) words in
    let high : found.0.high ≡ slice_index row 1 = found.2.high ∙ words 1 (omega arith) in
    found.1 ∙ (λ j. Some (record { low = low j; high = high j }))

-- ---- labels

pub label_within : (k : Knowledge) (at count i : ℕ) → SomeFits k → EachHas k (LabelsAt at count) → i < count → at + 3 * i + 3 ≤ k.size
label_within k at count i some has h =
    let labels = has some.image some.bench some.fits in
    let row = row_of (HasLabel some.image) 3 at count labels.0 i labels.1 h in
    omega (arith, row.2.within, some.fits.encodes.whole, some.fits.size)

pub label_read : (image : List ℕ) (at count i : ℕ) (row : List ℕ) (labels : List Label) (result : LabelRow) → length row ≡ 3 →
    AreWords image (at + 3 * i) row → LabelsAt at count image labels → i < count → result.raw ≡ raw_of_bits (slice_index row 0) (slice_index row 1 == 1) →
    result.text ≡ slice_index row 2 → IsLabelRow image labels i result
label_read image at count i row labels result long words has h raw text =
    let found = row_of (HasLabel image) 3 at count labels i has h in
    let low : word image (at + 3 * i) ≡ slice_index row 0 = first_word image (at + 3 * i) row (omega arith) words in
    let flag : word image (at + 3 * i + 1) ≡ slice_index row 1 = words 1 (omega arith) in
    let reference : word image (at + 3 * i + 2) ≡ result.text = words 2 (omega arith) ∙ sym text in
    let P : ℕ → Type 0 = λ r. HasText image r found.0.text in
    record {
      label = found.0;
      there = found.1;
      raw = found.2.raw ∙ (λ j. raw_of_bits (low j) (flag j == 1)) ∙ sym raw;
      text = subst P reference found.2.text;
    }

-- ---- signals

pub signal_within : (k : Knowledge) (at : ℕ) → SomeFits k → EachHas k (SignalAt at) → at + 12 ≤ k.size
signal_within k at some has =
    let s = has some.image some.bench some.fits in
    omega (arith, s.1.signal.within, some.fits.encodes.whole, some.fits.size)

-- the word of a signal's shape is small, and the shape one that a valid bench may have
pub shape_small : (a b : Knowledge) (at w : ℕ) → Narrows a b → SomeFits a → EachHas a (SignalAt at) →
    Holds b (λ image bench. word image (at + 1) ≡ w) → w < 2 * sign_weight
shape_small a b at w n some has read =
    let still = n.some some in
    let s = has still.image still.bench (fitted a b still.image still.bench n still.fits) in
    omega (arith, read still.image still.bench still.fits, s.1.signal.shape)

pub shape_decodable : (a b : Knowledge) (at w : ℕ) → Narrows a b → SomeFits a → EachHas a (SignalAt at) →
    Holds b (λ image bench. word image (at + 1) ≡ w) → IsDecodableShape (shape_of w)
shape_decodable a b at w n some has read =
    let still = n.some some in
    let s = has still.image still.bench (fitted a b still.image still.bench n still.fits) in
    let word_is = read still.image still.bench still.fits in
    let start : s.0.start ≡ (shape_of w).start = s.1.signal.start ∙ ap (λ (v : ℕ). (shape_of v).start) word_is in
    let size : s.0.size ≡ (shape_of w).size = s.1.signal.size ∙ ap (λ (v : ℕ). (shape_of v).size) word_is in
    record {
      some_bits = omega (arith, s.1.decodable.some_bits, size);
      size = omega (arith, s.1.decodable.size, size);
      start = omega (arith, s.1.decodable.start, start);
    }

pub level_read : (image : List ℕ) (at : ℕ) (row : List ℕ) → length row ≡ 4 → AreWords image (at + 1) row →
    IsLevel image at (record { shape = shape_of (slice_index row 0); parent = slice_index row 1; ranges_at = slice_index row 2; ranges = slice_index row 3 })
level_read image at row h words = record {
  shape = ap shape_of (first_word image (at + 1) row (omega arith) words);
  parent = (let e : at + 2 ≡ at + 1 + 1 = omega arith in ap (word image) e ∙ words 1 (omega arith));
  ranges_at = (let e : at + 3 ≡ at + 1 + 2 = omega arith in ap (word image) e ∙ words 2 (omega arith));
  ranges = (let e : at + 4 ≡ at + 1 + 3 = omega arith in ap (word image) e ∙ words 3 (omega arith));
}

-- words after the fifth
later_word : (image : List ℕ) (at i n : ℕ) (row : List ℕ) → n < length row → n ≡ 5 + i → AreWords image at row → word image (at + 5 + i) ≡ slice_index row n
later_word image at i n row h e words = let place : at + 5 + i ≡ at + n = omega (arith, e) in ap (word image) place ∙ words n h

pub signal_row_read : (image : List ℕ) (at : ℕ) (row : List ℕ) → length row ≡ 12 → AreWords image at row →
    IsSignalRow image at (record {
      name = slice_index row 0;
      level = record { shape = shape_of (slice_index row 1); parent = slice_index row 2; ranges_at = slice_index row 3; ranges = slice_index row 4 };
      coding = record {
        kind = slice_index row 5;
        choices_at = slice_index row 6;
        choices = slice_index row 7;
        factor = slice_index row 8;
        offset = slice_index row 9;
        places = slice_index row 10;
        unit = slice_index row 11;
      };
    })
signal_row_read image at row h words = record {
  name = first_word image at row (omega arith) words;
  level = record {
    shape = ap shape_of (words 1 (omega arith));
    parent = words 2 (omega arith);
    ranges_at = words 3 (omega arith);
    ranges = words 4 (omega arith);
  };
  coding = record {
    kind = words 5 (omega arith);
    choices_at = later_word image at 1 6 row (omega arith) (omega arith) words;
    choices = later_word image at 2 7 row (omega arith) (omega arith) words;
    factor = later_word image at 3 8 row (omega arith) (omega arith) words;
    offset = later_word image at 4 9 row (omega arith) (omega arith) words;
    places = later_word image at 5 10 row (omega arith) (omega arith) words;
    unit_text = later_word image at 6 11 row (omega arith) (omega arith) words;
  };
}

-- ---- entries

pub entry_within : (k : Knowledge) (at count i : ℕ) → SomeFits k → EachHas k (EntriesAt at count) → i < count → at + 7 * i + 7 ≤ k.size
entry_within k at count i some has h =
    let entries = has some.image some.bench some.fits in
    let row = row_of (HasEntry some.image) 7 at count entries.0 i entries.1.rows h in
    omega (arith, row.2.within, some.fits.encodes.whole, some.fits.size)

-- the words of an entry's row
pub record AreEntryWords (image : List ℕ) (at : ℕ) (row : EntryRow) : Type 0 where
  pub kind : word image at ≡ row.kind
  pub low : word image (at + 1) ≡ row.low
  pub high : word image (at + 2) ≡ row.high
  pub factor : word image (at + 3) ≡ row.factor
  pub offset : word image (at + 4) ≡ row.offset
  pub places : word image (at + 5) ≡ row.places
  pub text : word image (at + 6) ≡ row.text

-- the scaling of three words
pub scale_read : (image : List ℕ) (at factor offset places : ℕ) (scale : Scale) → HasScale image at scale → word image at ≡ factor →
    word image (at + 1) ≡ offset → word image (at + 2) ≡ places → scale ≡ scale_of factor offset places
scale_read image at factor offset places scale h f o p = λ j. record {
  factor = (h.factor ∙ ap (cast_signed w64) f) j;
  offset = (h.offset ∙ ap (cast_signed w64) o) j;
  k = (h.places ∙ p) j;
}

entry_kind : (image : List ℕ) (at : ℕ) (row : EntryRow) (entry : Entry) → AreEntryWords image at row → HasKindOfEntry image at entry → IsEntryOf row image entry
entry_kind image at row (Logical raw text) w h =
    let P : ℕ → Type 0 = λ r. HasOptionalText image r text in
    record { kind = sym w.kind ∙ h.kind; low = h.low ∙ w.low; high = h.high ∙ w.high; label = subst P w.text h.label }
entry_kind image at row (Physical low high scale unit) w h =
    let P : ℕ → Type 0 = λ r. HasText image r unit in
    let offset : word image (at + 3 + 1) ≡ row.offset = (let e : at + 3 + 1 ≡ at + 4 = omega arith in ap (word image) e ∙ w.offset) in
    let places : word image (at + 3 + 2) ≡ row.places = (let e : at + 3 + 2 ≡ at + 5 = omega arith in ap (word image) e ∙ w.places) in
    record {
      kind = sym w.kind ∙ h.kind;
      low_word = h.low_word ∙ w.low;
      high_word = h.high_word ∙ w.high;
      scaling = scale_read image (at + 3) row.factor row.offset row.places scale h.scaling w.factor offset places;
      unit_text = subst P w.text h.unit_text;
    }
entry_kind image at row Plain w h = sym w.kind ∙ h.kind

pub entry_read : (image : List ℕ) (at count i : ℕ) (row : List ℕ) (entries : List Entry) → length row ≡ 7 → AreWords image (at + 7 * i) row →
    EntriesAt at count image entries → i < count →
    IsEntryRow image entries i (record {
      kind = slice_index row 0;
      low = slice_index row 1;
      high = slice_index row 2;
      factor = slice_index row 3;
      offset = slice_index row 4;
      places = slice_index row 5;
      text = slice_index row 6;
    })
entry_read image at count i row entries long words has h =
    let found = row_of (HasEntry image) 7 at count entries i has.rows h in
    record {
      entry = found.0;
      there = found.1;
      is_of = entry_kind image (at + 7 * i) _ found.0
          (record {
            kind = first_word image (at + 7 * i) row (omega arith) words;
            low = words 1 (omega arith);
            high = words 2 (omega arith);
            factor = words 3 (omega arith);
            offset = words 4 (omega arith);
            places = words 5 (omega arith);
            text = words 6 (omega arith);
          }) found.2.kind;
      limits = all_at IsEntry entries i found.0 has.limits found.1;
    }
