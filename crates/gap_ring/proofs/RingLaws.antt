-- The rule holds at the start, and when seats are cut in two and made one again.
use Rattle.std.proofs.Common.{◌≡◌, ℕ, ◌≤◌, true, true≢false, List, [], length, map, replicate, set}
use Rattle.std.proofs.Common.{slice_index, Option, None, refl, sym, ap, ◌∙◌, arith, inl}
use Rattle.std.proofs.lemmas.Option.{none-some}
use Rattle.std.proofs.lemmas.List.{length-map, length-replicate}
use Rattle.std.proofs.lemmas.List.Elements.{All-nil}
use mathlib.Core.Option.{none, some}
use mathlib.Core.Option as maybe
use Rattle.atomic_table.specs.Table.{opening, Splits, Joins}
use Rattle.bench_model.specs.declared.reading.Item.{Item}
use Rattle.gap_ring.specs.declared.entries.Offered.{Offered}
use Rattle.gap_ring.specs.declared.entries.Taken.{Taken}
use Rattle.gap_ring.specs.declared.view.View.{View}
use Rattle.gap_ring.specs.Offers.{IsHeadBy}
use Rattle.gap_ring.specs.Turns.{IsStartBy}
use Rattle.gap_ring.specs.Rule.{first_view, first_putting, first_taking, word_count, attach_word, KeptBy, Kept}
use Rattle.gap_ring.specs.Steps.{putter_side, taker_side, both_sides, spent_view}
use Rattle.gap_ring.proofs.SeatLaws.{seats_start, seats_split, seats_join}
use Rattle.gap_ring.proofs.SlotLaws.{slots_start}

abbrev nothing : Option Item
nothing = None

-- the words at the start: zeros, and 1 for the attach word
pub starts : (bus capacity : ℕ) (ws : List ℕ) → 2 ≤ capacity → ws ≡ set (replicate word_count 0) attach_word 1
    → Kept bus (opening ws (replicate capacity nothing) (first_view bus))
starts bus capacity ws two is =
    let homes : List (maybe.Option (Option Item)) = map some (replicate capacity nothing) in
    let count : length homes ≡ capacity = length-map (replicate capacity nothing) some ∙ length-replicate capacity nothing in
    let at : (k : ℕ) → slice_index ws k ≡ slice_index (set (replicate word_count 0) attach_word 1) k = λ k. ap (λ l. slice_index l k) is in
    record {
      p = first_putting;
      t = first_taking bus;
      by = record {
        waiting = [];
        putter = 0;
        taker = 0;
        bus_is = refl;
        deep = omega arith;
        words = record {
          wide = ap length is;
          head_is = at 0;
          tail_is = at 16;
          end_is = at 32;
          attach_is = at 48;
          first_is = at 64;
          last_is = at 80;
          versions_is = at 96;
        };
        put = record {
          offered = tt;
          few = omega arith;
          put_is = refl;
          lead_is = inl refl;
          attach_low = omega arith;
          attach_high = All-nil (λ (o : Offered). o.attach ≤ 1);
          head_high = All-nil (IsHeadBy 0);
        };
        take = record {
          split = refl;
          room = omega arith;
          slot_free = λ _. omega arith;
          hand_is = λ x e. absurd (none-some x e);
          attach_seen = omega arith;
          head_seen = omega arith;
          taken = record {
            words_rise = λ i j d below above. absurd (omega arith);
            words_bounded = All-nil (λ (s : Taken). s.attach ≤ 1);
            in_time = All-nil (λ (s : Taken). IsStartBy s.attach s.item);
          };
          starts = All-nil (IsStartBy 1);
        };
        slots = slots_start bus homes capacity refl count;
        end = record {
          no_lead = λ _. refl;
          gap_is = λ _. refl;
          fits = λ _. omega arith;
          end_seen = inl refl;
          done_is = λ d. absurd (true≢false (sym d));
        };
        each_seat = seats_start bus;
      };
    }

-- a seat that may put and take is cut in two
pub splits : (bus id : ℕ) (v : View) → v.puts ≡ true → v.takes ≡ true → Splits (Kept bus) id v (putter_side v) (taker_side v)
splits bus id v puts takes s kept at =
    let r : KeptBy bus s kept.p kept.t = kept.by in
    record {
      p = kept.p;
      t = kept.t;
      by = record {
        waiting = r.waiting;
        putter = r.putter;
        taker = length s.views;
        bus_is = r.bus_is;
        deep = r.deep;
        words = r.words;
        put = r.put;
        take = r.take;
        slots = r.slots;
        end = r.end;
        each_seat = seats_split r.putter r.taker kept.p kept.t s.views r.each_seat id v at puts takes;
      };
    }

-- the putter's seat takes in the taker's
pub joins : (bus id other : ℕ) (v w : View) → v.puts ≡ true → w.takes ≡ true → Joins (Kept bus) id v other w (both_sides v w) spent_view
joins bus id other v w puts takes s kept at apart there =
    let r : KeptBy bus s kept.p kept.t = kept.by in
    record {
      p = kept.p;
      t = kept.t;
      by = record {
        waiting = r.waiting;
        putter = r.putter;
        taker = id;
        bus_is = r.bus_is;
        deep = r.deep;
        words = r.words;
        put = r.put;
        take = r.take;
        slots = r.slots;
        end = r.end;
        each_seat = seats_join r.putter r.taker kept.p kept.t s.views r.each_seat id other v w at puts apart there takes;
      };
    }
