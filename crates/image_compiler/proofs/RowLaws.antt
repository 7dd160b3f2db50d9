-- The rows that are written for scalings, labels, entries, codings and ranges have these parts.
use Rattle.std.proofs.Common.{◌≡◌, ◌∙◌, ℕ, zero, suc, ◌+◌, ◌*◌, ◌^◌, ◌<◌, ◌≤◌, ◌==◌, ℤ, pos, negsuc, ◌-ℤ◌, List, [], ◌∷◌, ◌++◌, length, refl, ap, sym, subst, arith, length-append}
use Rattle.std.specs.Prelude.{replicate, unsigned_abs, slice_index}
use Rattle.std.specs.Int.{w64, cast_signed, cast_unsigned}
use Rattle.std.proofs.lemmas.Int.{ints, to_z-of_z, fits_signed_from_abs}
use Rattle.exact_scale.specs.declared.scaling.Scale.{Scale}
use Rattle.exact_scale.specs.Limits.{IsScale, IsNarrow, IsRawValue}
use Rattle.multiplex_tree.specs.declared.mark.Range.{Range}
use Rattle.bench_model.specs.declared.database.Label.{Label}
use Rattle.bench_model.specs.declared.database.Entry.{Entry}
use Rattle.bench_model.specs.declared.database.Entry.TheVariants.{Logical, Physical, Plain}
use Rattle.bench_model.specs.declared.database.Coding.{Coding}
use Rattle.bench_model.specs.declared.database.Coding.TheVariants.{Scaled, Listed}
use Rattle.bench_model.specs.Limits.{IsLabel, IsEntry, IsCoding}
use Rattle.bench_model.specs.Rules.{IsShortText, HasShortText, IsSmall}
use Rattle.image_words.specs.Layout.{word, label_words, entry_words, range_words, EachRow, HasRows, AreZeros}
use Rattle.image_words.specs.Image.{HasScale, HasRange, HasLabel, HasEntry, HasCoding, raw_of_bits}
use Rattle.image_compiler.specs.Size.{text_size, table_size, label_behind, entry_behind, coding_behind}
use Rattle.image_compiler.specs.Layout.{text_words, table_words, label_row, label_parts, entry_row, entry_parts, coding_row, coding_parts, ranges_words, sign_flag}
use Rattle.image_compiler.specs.Typed.{IsTypedLabel, IsTypedEntry, IsTypedCoding}
use Rattle.image_compiler.proofs.ListLaws.{LiesAt, lies_first, lies_word, lies_left, lies_right, all_both, table_long, table_lies}
use Rattle.image_compiler.proofs.TextLaws.{text_long, optional_text_long, text_lies, optional_text_lies}

pub rows_at : {X : Type 0} (Has : ℕ → X → Type 0) (stride at count a c : ℕ) (rows : List X) → a ≡ at → c ≡ count → HasRows Has stride at count rows → HasRows Has stride a c rows
rows_at {X} Has stride at count a c rows e f h =
    let P : ℕ → Type 0 = λ p. HasRows Has stride p count rows in
    let Q : ℕ → Type 0 = λ n. HasRows Has stride a n rows in
    subst Q (sym f) (subst P (sym e) h)

abbrev zeros : ℕ → List ℕ
zeros n = replicate n 0

zero_there : (n i : ℕ) → slice_index (zeros n) i ≡ 0
zero_there zero i = refl
zero_there (suc n) zero = refl
zero_there (suc n) (suc i) = zero_there n i

zero_run : (n : ℕ) → length (zeros n) ≡ n
zero_run zero = refl
zero_run (suc n) = ap suc (zero_run n)

zeros_lie : (words : List ℕ) (at n : ℕ) → LiesAt words at (zeros n) → AreZeros words at n
zeros_lie words at n s = λ i h. s.each i (omega (arith, h, zero_run n)) ∙ zero_there n i

-- ---- scalings

number_back : (n : ℤ) (w : ℕ) → IsNarrow n → w ≡ cast_unsigned w64 n → n ≡ cast_signed w64 w
number_back n w narrow e =
    let fits : unsigned_abs n < 2 ^ 63 = omega (arith, narrow) in
    sym (to_z-of_z w64 n (fits_signed_from_abs w64 n fits)) ∙ ap (cast_signed w64) (sym e)

scale_lies : (words : List ℕ) (at : ℕ) (scale : Scale) (rest : List ℕ) → IsScale scale →
    LiesAt words at (cast_unsigned w64 scale.factor ∷ cast_unsigned w64 scale.offset ∷ scale.k ∷ rest) → HasScale words at scale
scale_lies words at scale rest limits s = record {
  factor = number_back scale.factor (word words at) limits.factor (lies_first words at _ _ s);
  offset = number_back scale.offset (word words (at + 1)) limits.offset (lies_word words at 1 _ (omega arith) s);
  places = sym (lies_word words at 2 _ (omega arith) s);
}

-- ---- labels

raw_back : (raw : ℤ) (w f : ℕ) → IsRawValue raw → w ≡ cast_unsigned w64 raw → f ≡ sign_flag raw → raw ≡ raw_of_bits w (f == 1)
raw_back (pos n) w f range e g = ap pos (sym e) ∙ ap (λ (k : ℕ). raw_of_bits w (k == 1)) (sym g)
raw_back (negsuc n) w f range e g =
    let low = range.0 in
    let here : negsuc n ≡ pos w -ℤ pos (2 ^ 64) = omega (arith, ints, e, low) in
    here ∙ ap (λ (k : ℕ). raw_of_bits w (k == 1)) (sym g)

sign_small : (raw : ℤ) → sign_flag raw < 2
sign_small (pos n) = omega arith
sign_small (negsuc n) = omega arith

abbrev pub IsGoodLabel : Label → Type 0
IsGoodLabel l = IsLabel l × (IsShortText l.text × IsTypedLabel l)

label_one : (words : List ℕ) (at place : ℕ) (l : Label) → IsGoodLabel l → LiesAt words at (label_row place l) → LiesAt words place (label_parts place l) →
    2 ≤ place → place + label_behind l ≤ word words 0 → at + label_words ≤ word words 0 → HasLabel words at l
label_one words at place l good s t past h k =
    let sign = lies_word words at 1 _ (omega arith) s in
    record {
      within = k;
      flag = omega (arith, sign, sign_small l.raw);
      raw = raw_back l.raw (word words at) (word words (at + 1)) good.0 (lies_first words at _ _ s) sign;
      text = text_lies words (at + 2) place l.text good.1.1 (omega (arith, good.1.0)) (lies_word words at 2 _ (omega arith) s) t past h;
    }

-- ---- entries

abbrev pub IsGoodEntry : Entry → Type 0
IsGoodEntry e = IsEntry e × (HasShortText e × IsTypedEntry e)

entry_row_long : (place : ℕ) (e : Entry) → length (entry_row place e) ≡ entry_words
entry_row_long place (Logical raw text) = refl
entry_row_long place (Physical low high scale unit) = refl
entry_row_long place Plain = refl

entry_parts_long : (place : ℕ) (e : Entry) → length (entry_parts place e) ≡ entry_behind e
entry_parts_long place (Logical raw text) = optional_text_long text
entry_parts_long place (Physical low high scale unit) = text_long unit
entry_parts_long place Plain = refl

entry_one : (words : List ℕ) (at place : ℕ) (e : Entry) → IsGoodEntry e → LiesAt words at (entry_row place e) → LiesAt words place (entry_parts place e) →
    2 ≤ place → place + entry_behind e ≤ word words 0 → at + entry_words ≤ word words 0 → HasEntry words at e
entry_one words at place (Logical raw text) good s t past h k = record {
  within = k;
  kind = record {
    kind = lies_first words at _ _ s;
    low = sym (lies_word words at 1 _ (omega arith) s);
    high = sym (lies_word words at 2 _ (omega arith) s);
    zeros = zeros_lie words (at + 3) 3 (lies_left words (at + 3) (0 ∷ 0 ∷ 0 ∷ []) _ (lies_right words at 3 (0 ∷ raw ∷ raw ∷ []) _ refl s));
    label = optional_text_lies words (at + 6) place text good.1.1 good.1.0 (lies_word words at 6 _ (omega arith) s) t past h;
  };
}
entry_one words at place (Physical low high scale unit) good s t past h k = record {
  within = k;
  kind = record {
    kind = lies_first words at _ _ s;
    low_word = sym (lies_word words at 1 _ (omega arith) s);
    high_word = sym (lies_word words at 2 _ (omega arith) s);
    scaling = scale_lies words (at + 3) scale _ good.0 (lies_right words at 3 (1 ∷ low ∷ high ∷ []) _ refl s);
    unit_text = text_lies words (at + 6) place unit good.1.1 (omega (arith, good.1.0)) (lies_word words at 6 _ (omega arith) s) t past h;
  };
}
entry_one words at place Plain good s t past h k = record {
  within = k;
  kind = record { kind = lies_first words at _ _ s; zeros = zeros_lie words (at + 1) 6 (lies_right words at 1 (2 ∷ []) _ refl s) };
}

-- ---- codings

abbrev IsAny : {X : Type 0} → X → Type 0
IsAny x = Unit {0}

label_row_long : (place : ℕ) (l : Label) → length (label_row place l) ≡ label_words
label_row_long place l = refl

labels_long : (place : ℕ) (labels : List Label) → length (table_words label_words label_row label_parts label_behind place labels) ≡ table_size label_words label_behind labels
labels_long place labels = table_long IsAny label_words label_row label_parts label_behind label_row_long (λ p l any. text_long l.text) place labels (λ k d h. tt)

entries_long : (place : ℕ) (entries : List Entry) → length (table_words entry_words entry_row entry_parts entry_behind place entries) ≡ table_size entry_words entry_behind entries
entries_long place entries = table_long IsAny entry_words entry_row entry_parts entry_behind entry_row_long (λ p e any. entry_parts_long p e) place entries (λ k d h. tt)

pub coding_row_long : (place : ℕ) (coding : Coding) → length (coding_row place coding) ≡ 7
coding_row_long place (Scaled scale unit labels) = refl
coding_row_long place (Listed entries) = refl

pub coding_parts_long : (place : ℕ) (coding : Coding) → length (coding_parts place coding) ≡ coding_behind coding
coding_parts_long place (Scaled scale unit labels) =
    let table : List ℕ = table_words label_words label_row label_parts label_behind (place + text_size unit) labels in
    let all : length (text_words unit ++ table) ≡ text_size unit + length table = length-append (text_words unit) table ∙ ap (λ (n : ℕ). n + length table) (text_long unit) in
    all ∙ ap (λ (n : ℕ). text_size unit + n) (labels_long (place + text_size unit) labels)
coding_parts_long place (Listed entries) = entries_long place entries

pub coding_lies : (words : List ℕ) (at place : ℕ) (coding : Coding) → IsCoding coding → IsSmall coding → IsTypedCoding coding →
    LiesAt words at (coding_row place coding) → LiesAt words place (coding_parts place coding) → 2 ≤ place → place + coding_behind coding ≤ word words 0 →
    HasCoding words at coding
coding_lies words at place (Scaled scale unit labels) limits small typed s t past h =
    let table : List ℕ = table_words label_words label_row label_parts label_behind (place + text_size unit) labels in
    let good = all_both IsLabel (λ l. IsShortText l.text × IsTypedLabel l) labels limits.1 (all_both (λ l. IsShortText l.text) IsTypedLabel labels small.2 typed.1) in
    let behind = lies_right words place (text_size unit) (text_words unit) table (text_long unit) t in
    let rows = table_lies IsGoodLabel label_words label_row label_parts label_behind label_row_long (λ p l any. text_long l.text) words (HasLabel words) (label_one words)
    (place + text_size unit) labels good behind (omega (arith, past)) (omega (arith, h)) in
    record {
      kind = lies_first words at _ _ s;
      rows = rows_at (HasLabel words) label_words (place + text_size unit) (length labels) (word words (at + 1)) (word words (at + 2)) labels
          (lies_word words at 1 _ (omega arith) s) (lies_word words at 2 _ (omega arith) s) rows;
      scaling = scale_lies words (at + 3) scale _ limits.0 (lies_right words at 3 (0 ∷ (place + text_size unit) ∷ length labels ∷ []) _ refl s);
      unit_text = text_lies words (at + 6) place unit typed.0 (omega (arith, small.0)) (lies_word words at 6 _ (omega arith) s)
          (lies_left words place (text_words unit) table t) past (omega (arith, h));
    }
coding_lies words at place (Listed entries) limits small typed s t past h =
    let good = all_both IsEntry (λ e. HasShortText e × IsTypedEntry e) entries limits (all_both HasShortText IsTypedEntry entries small.1 typed) in
    let rows = table_lies IsGoodEntry entry_words entry_row entry_parts entry_behind entry_row_long (λ p e any. entry_parts_long p e) words (HasEntry words) (entry_one words)
    place entries good t past h in
    record {
      kind = lies_first words at _ _ s;
      rows = rows_at (HasEntry words) entry_words place (length entries) (word words (at + 1)) (word words (at + 2)) entries
          (lies_word words at 1 _ (omega arith) s) (lies_word words at 2 _ (omega arith) s) rows;
      zeros = zeros_lie words (at + 3) 4 (lies_right words at 3 (1 ∷ place ∷ length entries ∷ []) _ refl s);
    }

-- ---- ranges

pub ranges_long : (ranges : List Range) → length (ranges_words ranges) ≡ range_words * length ranges
unfolding ranges_words
ranges_long [] = refl
ranges_long (r ∷ rs) = let rest = ranges_long rs in omega (arith, rest)

pub ranges_lie : (words : List ℕ) (at : ℕ) (ranges : List Range) → LiesAt words at (ranges_words ranges) → at + range_words * length ranges ≤ word words 0 →
    EachRow (HasRange words) range_words at ranges
unfolding EachRow ranges_words
ranges_lie words at [] s h = tt
ranges_lie words at (r ∷ rs) s h = (
  record { within = omega (arith, h); low = sym (lies_first words at _ _ s); high = sym (lies_word words at 1 _ (omega arith) s) },
  ranges_lie words (at + 2) rs (lies_right words at 2 (r.low ∷ r.high ∷ []) (ranges_words rs) refl s) (omega (arith, h)),
)
