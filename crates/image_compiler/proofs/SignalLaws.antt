-- The rows that are written for the signals of a message have the signals and their parents.
use Rattle.std.proofs.Common.{◌≡◌, ℕ, ◌+◌, ◌*◌, ◌/◌, ◌%◌, ◌<◌, ◌≤◌, ◌==◌, Bool, true, false, List, [], ◌∷◌, length, Option, Some, None, refl, ap, arith, length-append}
use Rattle.std.specs.Prelude.{All}
use Rattle.multiplex_tree.specs.declared.mark.Parent.{Parent}
use Rattle.bench_model.specs.declared.database.Order.{Order}
use Rattle.bench_model.specs.declared.database.Order.TheVariants.{Intel, Motorola}
use Rattle.bench_model.specs.declared.database.Signal.{Signal}
use Rattle.bench_model.specs.Limits.{IsCoding}
use Rattle.bench_model.specs.Rules.{KeepsSignalRules}
use Rattle.image_words.specs.Layout.{word, signal_words, range_words, EachRow}
use Rattle.image_words.specs.Image.{HasSignal, HasParent, HasRange, size_weight, size_span, order_weight, sign_weight, order_of}
use Rattle.image_compiler.specs.Size.{total, text_size, signal_behind, parent_behind}
use Rattle.image_compiler.specs.Layout.{text_words, coding_row, coding_parts, parent_row, parent_parts, signal_row, signal_parts, signal_rows, parts_from, shape_word, order_flag, flag, reference}
use Rattle.image_compiler.specs.Typed.{IsTypedSignal}
use Rattle.image_compiler.proofs.ListLaws.{LiesAt, lies_first, lies_word, lies_left, lies_right, all_first, all_rest}
use Rattle.image_compiler.proofs.TextLaws.{text_long, text_lies}
use Rattle.image_compiler.proofs.RowLaws.{rows_at, coding_row_long, coding_parts_long, coding_lies, ranges_long, ranges_lie}

abbrev pub IsGoodSignal : Signal → Type 0
IsGoodSignal s = IsCoding s.coding × (KeepsSignalRules s × IsTypedSignal s)

-- ---- lengths

parent_row_long : (ranges : ℕ) (p : Option Parent) → length (parent_row ranges p) ≡ 3
parent_row_long ranges None = refl
parent_row_long ranges (Some p) = refl

pub parent_parts_long : (place : ℕ) (p : Option Parent) → length (parent_parts place p) ≡ parent_behind p
parent_parts_long place None = refl
parent_parts_long place (Some p) = ranges_long p.ranges

pub signal_parts_long : (place : ℕ) (s : Signal) → length (signal_parts place s) ≡ signal_behind s
signal_parts_long place s =
    omega (
      arith,
      length-append (text_words s.name) (coding_parts (place + text_size s.name) s.coding),
      text_long s.name,
      coding_parts_long (place + text_size s.name) s.coding,
    )

signal_row_long : (place ranges : ℕ) (s : Signal) (p : Option Parent) → length (signal_row place ranges s p) ≡ signal_words
signal_row_long place ranges s p =
    omega (
      arith,
      length-append (parent_row ranges p) (coding_row (place + text_size s.name) s.coding),
      parent_row_long ranges p,
      coding_row_long (place + text_size s.name) s.coding,
    )

pub signal_rows_long : (place ranges : ℕ) (ss : List Signal) (ps : List (Option Parent)) → length ps ≡ length ss →
    length (signal_rows place ranges ss ps) ≡ signal_words * length ss
unfolding signal_rows
signal_rows_long place ranges [] ps same = refl
signal_rows_long place ranges (s ∷ ss) [] same = absurd (omega (arith, same))
signal_rows_long place ranges (s ∷ ss) (p ∷ ps) same =
    let rest = signal_rows_long (place + signal_behind s) (ranges + parent_behind p) ss ps (omega (arith, same)) in
    omega (
      arith,
      rest,
      signal_row_long place ranges s p,
      length-append (signal_row place ranges s p) (signal_rows (place + signal_behind s) (ranges + parent_behind p) ss ps),
    )

-- ---- shapes

shape_start : (w start size o g : ℕ) → start < size_weight → w ≡ start + size * size_weight + o * order_weight + g * sign_weight → start ≡ w % size_weight
shape_start w start size o g h e = omega (arith, h, e)

shape_size : (w start size o g : ℕ) → start < size_weight → size < size_span → w ≡ start + size * size_weight + o * order_weight + g * sign_weight →
    size ≡ w / size_weight % size_span
shape_size w start size o g h k e = omega (arith, h, k, e)

shape_order : (w start size g : ℕ) (order : Order) → start < size_weight → size < size_span →
    w ≡ start + size * size_weight + order_flag order * order_weight + g * sign_weight → order ≡ order_of (w / order_weight % 2)
shape_order w start size g Intel h k e = let bit : 0 ≡ w / order_weight % 2 = omega (arith, h, k, e) in ap order_of bit
shape_order w start size g Motorola h k e = let bit : 1 ≡ w / order_weight % 2 = omega (arith, h, k, e) in ap order_of bit

order_small : (order : Order) → order_flag order < 2
order_small Intel = omega arith
order_small Motorola = omega arith

shape_sign : (w start size o : ℕ) (signed : Bool) → start < size_weight → size < size_span → o < 2 →
    w ≡ start + size * size_weight + o * order_weight + flag signed * sign_weight → signed ≡ (w / sign_weight == 1)
shape_sign w start size o true h k l e = let bit : 1 ≡ w / sign_weight = omega (arith, h, k, l, e) in ap (λ (n : ℕ). n == 1) bit
shape_sign w start size o false h k l e = let bit : 0 ≡ w / sign_weight = omega (arith, h, k, l, e) in ap (λ (n : ℕ). n == 1) bit

shape_below : (w start size o : ℕ) (signed : Bool) → start < size_weight → size < size_span → o < 2 →
    w ≡ start + size * size_weight + o * order_weight + flag signed * sign_weight → w < 2 * sign_weight
shape_below w start size o true h k l e = omega (arith, h, k, l, e)
shape_below w start size o false h k l e = omega (arith, h, k, l, e)

-- ---- a signal

signal_one : (words : List ℕ) (at place ranges : ℕ) (s : Signal) (p : Option Parent) → IsGoodSignal s → LiesAt words at (signal_row place ranges s p) →
    LiesAt words place (signal_parts place s) → 2 ≤ place → place + signal_behind s ≤ word words 0 → at + signal_words ≤ word words 0 → HasSignal words at s
signal_one words at place ranges s p good r t past h k =
    let rules = good.1.0 in
    let start : s.start < size_weight = omega (arith, rules.start) in
    let size : s.size < size_span = omega (arith, rules.size) in
    let w : ℕ = word words (at + 1) in
    let here : w ≡ shape_word s = lies_word words at 1 _ (omega arith) r in
    let low = order_small s.order in
    let coding : List ℕ = coding_row (place + text_size s.name) s.coding in
    let head : List ℕ = reference place s.name ∷ shape_word s ∷ parent_row ranges p in
    let five : length head ≡ 5 = omega (arith, parent_row_long ranges p) in
    record {
      within = k;
      name = text_lies words at place s.name good.1.1.name (omega (arith, rules.name.bytes)) (lies_first words at _ _ r)
          (lies_left words place (text_words s.name) (coding_parts (place + text_size s.name) s.coding) t) past (omega (arith, h));
      shape = shape_below w s.start s.size (order_flag s.order) s.signed start size low here;
      start = shape_start w s.start s.size (order_flag s.order) (flag s.signed) start here;
      size = shape_size w s.start s.size (order_flag s.order) (flag s.signed) start size here;
      order = shape_order w s.start s.size (flag s.signed) s.order start size here;
      signed = shape_sign w s.start s.size (order_flag s.order) s.signed start size low here;
      float = rules.no_float;
      coding = coding_lies words (at + 5) (place + text_size s.name) s.coding good.0 rules.coding good.1.1.coding
          (lies_right words at 5 head coding five r)
          (lies_right words place (text_size s.name) (text_words s.name) (coding_parts (place + text_size s.name) s.coding) (text_long s.name) t)
          (omega (arith, past)) (omega (arith, h));
    }

parent_one : (words : List ℕ) (at place ranges : ℕ) (s : Signal) (p : Option Parent) → LiesAt words at (signal_row place ranges s p) →
    LiesAt words ranges (parent_parts ranges p) → ranges + parent_behind p ≤ word words 0 → HasParent words at p
parent_one words at place ranges s None r t h = lies_word words at 2 _ (omega arith) r
parent_one words at place ranges s (Some p) r t h = record {
  signal = lies_word words at 2 _ (omega arith) r;
  rows = rows_at (HasRange words) range_words ranges (length p.ranges) (word words (at + 3)) (word words (at + 4)) p.ranges
      (lies_word words at 3 _ (omega arith) r) (lies_word words at 4 _ (omega arith) r)
      (record { size = refl; each = ranges_lie words ranges p.ranges t h });
}

-- ---- the signals of a message

pub signals_lie : (words : List ℕ) (at place ranges : ℕ) (ss : List Signal) (ps : List (Option Parent)) → All IsGoodSignal ss → length ps ≡ length ss →
    LiesAt words at (signal_rows place ranges ss ps) → LiesAt words place (parts_from signal_parts signal_behind place ss) →
    LiesAt words ranges (parts_from parent_parts parent_behind ranges ps) → 2 ≤ place → place + total signal_behind ss ≤ word words 0 →
    ranges + total parent_behind ps ≤ word words 0 → at + signal_words * length ss ≤ word words 0 →
    EachRow (HasSignal words) signal_words at ss × EachRow (HasParent words) signal_words at ps
unfolding signal_rows parts_from total EachRow
signals_lie words at place ranges [] [] are same r t u past h k l = (tt, tt)
signals_lie words at place ranges [] (p ∷ ps) are same r t u past h k l = absurd (omega (arith, same))
signals_lie words at place ranges (s ∷ ss) [] are same r t u past h k l = absurd (omega (arith, same))
signals_lie words at place ranges (s ∷ ss) (p ∷ ps) are same r t u past h k l =
    let good = all_first IsGoodSignal s ss are in
    let others : List ℕ = signal_rows (place + signal_behind s) (ranges + parent_behind p) ss ps in
    let parts : List ℕ = parts_from signal_parts signal_behind (place + signal_behind s) ss in
    let lists : List ℕ = parts_from parent_parts parent_behind (ranges + parent_behind p) ps in
    let row = lies_left words at (signal_row place ranges s p) others r in
    let rest = signals_lie words (at + signal_words) (place + signal_behind s) (ranges + parent_behind p) ss ps (all_rest IsGoodSignal s ss are) (omega (arith, same))
    (lies_right words at signal_words (signal_row place ranges s p) others (signal_row_long place ranges s p) r)
    (lies_right words place (signal_behind s) (signal_parts place s) parts (signal_parts_long place s) t)
    (lies_right words ranges (parent_behind p) (parent_parts ranges p) lists (parent_parts_long ranges p) u)
    (omega (arith, past)) (omega (arith, h)) (omega (arith, k)) (omega (arith, l)) in (
      (signal_one words at place ranges s p good row (lies_left words place (signal_parts place s) parts t) past (omega (arith, h)) (omega (arith, l)), rest.0),
      (parent_one words at place ranges s p row (lies_left words ranges (parent_parts ranges p) lists u) (omega (arith, k)), rest.1),
    )
