-- Tiles side by side are tiles of the whole, and stay so when the list grows.
use Rattle.std.proofs.Common.{◌≡◌, ℕ, ◌+◌, ◌-◌, List, [], ◌∷◌, ◌++◌}
use Rattle.std.proofs.Common.{slice_get, flat_map, Some, sym, ap, ◌∙◌, arith, append-nil}
use Rattle.std.specs.List.{range_with_len}
use Rattle.std.proofs.lemmas.List.Concat.{flat_map-append}
use Rattle.std.proofs.lemmas.List.Elements.{All-nil, All-cons, All-append, All-weaker}
use Rattle.bench_model.specs.declared.reading.Reading.{Reading}
use Rattle.bench_model.specs.declared.reading.Missed.{Missed}
use Rattle.bench_model.specs.declared.reading.Item.{Item}
use Rattle.bench_model.specs.declared.reading.Item.TheVariants as item
use Rattle.gap_ring.specs.Tiles.{Tiles, IsFrom, IsGapOf, numbers_in}
use Rattle.gap_ring.proofs.PlaceLaws.{get_longer, range_append}

from_longer : (list more : List Reading) (x : Item) → IsFrom list x → IsFrom (list ++ more) x
from_longer list more (item.Start bus number turn) h = absurd h
from_longer list more (item.Reading r) h = get_longer list more r.number r h
from_longer list more (item.Gap bus m) h = record {
  first_reading = h.first_reading;
  last_reading = h.last_reading;
  counts = h.counts;
  first_there = get_longer list more m.first h.first_reading h.first_there;
  last_there = get_longer list more (m.first + m.count - 1) h.last_reading h.last_there;
  micros = h.micros;
  versions = h.versions;
}
from_longer list more (item.End bus number) h = absurd h

-- they stay tiles when the list grows
pub tiles_longer : (items : List Item) (list more : List Reading) (a b : ℕ) → Tiles items list a b → Tiles items (list ++ more) a b
tiles_longer items list more a b h = record {
  order = h.order;
  true_to = All-weaker (IsFrom list) (IsFrom (list ++ more)) (from_longer list more) items h.true_to;
  once = h.once;
}

-- one stretch after another
pub tiles_append : (xs ys : List Item) (list : List Reading) (a b c : ℕ) → Tiles xs list a b → Tiles ys list b c → Tiles (xs ++ ys) list a c
tiles_append xs ys list a b c h k =
    let low = h.order in
    let high = k.order in
    let middle : a + (b - a) ≡ b = omega arith in
    let whole : (b - a) + (c - b) ≡ c - a = omega arith in
    record {
      order = omega arith;
      true_to = All-append (IsFrom list) xs ys h.true_to k.true_to;
      once =
          flat_map-append numbers_in xs ys
          ∙ (ap (λ ns. ns ++ flat_map numbers_in ys) h.once
          ∙ (ap (λ ns. range_with_len a (b - a) ++ ns) k.once
          ∙ (ap (λ s. range_with_len a (b - a) ++ range_with_len s (c - b)) (sym middle)
          ∙ (sym (range_append a (b - a) (c - b))
          ∙ ap (λ n. range_with_len a n) whole))));
    }

-- no items for no numbers
pub tiles_none : (list : List Reading) (a : ℕ) → Tiles [] list a a
tiles_none list a =
    let none : a - a ≡ 0 = omega arith in
    record {
      order = omega arith;
      true_to = All-nil (IsFrom list);
      once = ap (λ n. range_with_len a n) (sym none);
    }

-- one record
pub tiles_reading : (list : List Reading) (r : Reading) (a : ℕ) → r.number ≡ a → slice_get list a ≡ Some r → Tiles (item.Reading r ∷ []) list a (a + 1)
tiles_reading list r a is there =
    let one : a + 1 - a ≡ 1 = omega arith in
    record {
      order = omega arith;
      true_to = All-cons (IsFrom list) (item.Reading r) [] (ap (λ n. slice_get list n) is ∙ there) (All-nil (IsFrom list));
      once = ap (λ n. n ∷ []) is ∙ ap (λ n. range_with_len a n) (sym one);
    }

-- one gap
pub tiles_gap : (list : List Reading) (bus : ℕ) (m : Missed) (a : ℕ) → m.first ≡ a → IsGapOf list m → Tiles (item.Gap bus m ∷ []) list a (a + m.count)
tiles_gap list bus m a is gap =
    let count : a + m.count - a ≡ m.count = omega arith in
    record {
      order = omega arith;
      true_to = All-cons (IsFrom list) (item.Gap bus m) [] gap (All-nil (IsFrom list));
      once =
          append-nil (range_with_len m.first m.count)
          ∙ (ap (λ s. range_with_len s m.count) is ∙ ap (λ n. range_with_len a n) (sym count));
    }
