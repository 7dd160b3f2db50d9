-- Each load of the putter, and each store of the tail, keeps the rule.
use Rattle.std.proofs.Common.{◌≡◌, ℕ, ◌+◌, ◌%◌, ◌<◌, ◌≤◌, ◌==◌, true, false, cond, true≢false, List, [], ◌∷◌, ◌++◌, length, set, slice_index, All, Option, Some, None, refl, sym, ap, ◌∙◌, subst, arith, inl, inr, ⊎_elim, length-set, length-append, append-nil, append_assoc, ltb-true, ltb-false, eqb-true}
use Rattle.std.proofs.lemmas.List.{length-map}
use Rattle.std.proofs.lemmas.Option.{none-some, same_Some}
use Rattle.std.proofs.lemmas.Bool.{cases_Bool, cond-true, cond-false, cond_both}
use Rattle.std.proofs.lemmas.List.Elements.{All-push, All-weaker}
use mathlib.Core.Option.{none, some}
use mathlib.Core.Option as maybe
use lib.ListN.{get_elem?}
use Rattle.atomic_table.specs.Table.{State, Act, step, keeps, takes, gives, put_back, rest, stepped, carried_after, homes_after, Valid, Allows}
use Rattle.bench_model.specs.declared.reading.Reading.{Reading}
use Rattle.bench_model.specs.declared.reading.Missed.{Missed}
use Rattle.bench_model.specs.declared.reading.Item.{Item}
use Rattle.bench_model.specs.declared.reading.Item.TheVariants as item
use Rattle.gap_ring.specs.declared.entries.Outcome.{Outcome}
use Rattle.gap_ring.specs.declared.entries.Outcome.TheVariants as outcome
use Rattle.gap_ring.specs.declared.entries.Offered.{Offered}
use Rattle.gap_ring.specs.declared.entries.Taken.{Taken}
use Rattle.gap_ring.specs.declared.view.Did.TheVariants as did
use Rattle.gap_ring.specs.declared.view.Putting.{Putting}
use Rattle.gap_ring.specs.declared.view.Taking.{Taking}
use Rattle.gap_ring.specs.declared.view.View.{View}
use Rattle.gap_ring.specs.Offers.{IsDetached, IsHeadOf, IsHeadBy, Ends, IsOffered, slots_needed, slots_free, turn_of, trailing, gap_of, gap_item, lead, put_by, put_of}
use Rattle.gap_ring.specs.Turns.{items_taken, IsStartBy}
use Rattle.gap_ring.specs.Rule.{head_word, tail_word, attach_word, end_of, most_offers, PutRule, TakeRule, Slots, EndRule, KeptBy, Kept}
use Rattle.gap_ring.specs.Steps.{Sat, PutterLoads, PutterStores, item_in, record_in, entry_of, did_put, with_attach, with_offer, with_slot, with_head, is_short, slot_taken, attach_seen, saw_attach, head_seen, saw_head, reached, lead_put, put_lead, record_put, put_record}
use Rattle.gap_ring.proofs.PlaceLaws.{get_longer, head_same}
use Rattle.gap_ring.specs.May.{MayOffer, MayPut, MayReach, MayLead, MayRecord}
use Rattle.gap_ring.proofs.OneMoreLaws.{put-snoc, offers-snoc}
use Rattle.gap_ring.proofs.SeatLaws.{seats_after_put}
use Rattle.gap_ring.proofs.WordLaws as words
use Rattle.gap_ring.proofs.SlotLaws.{slots_same, tail_free, tail_taken, tail_given}

abbrev pub Board : Type 0
Board = State (Option Item) View

-- the rule, by what the putter's seat knows
pub putter_own : (bus : ℕ) (s : Board) (id : ℕ) (v : View) → Kept bus s → get_elem? s.views id ≡ some v → v.puts ≡ true → (t : Taking) × KeptBy bus s v.putting t
putter_own bus s id v r at may = (r.t, subst (λ p. KeptBy bus s p r.t) (sym (((r.by.each_seat id v at).0 may).1)) r.by)

end_open : (p : Putting) → p.ended ≡ false → end_of p ≡ 0
end_open p h = cond-false p.ended (length p.offers + 1) 0 h

-- before the end the taker has found no end
pub end_kept : (p p' : Putting) (t : Taking) → p.ended ≡ false → p'.ended ≡ false → EndRule p t → EndRule p' t
end_kept p p' t before after h = record {
  no_lead = λ e. absurd (true≢false (sym e ∙ after));
  gap_is = λ e. absurd (true≢false (sym e ∙ after));
  fits = λ e. absurd (true≢false (sym e ∙ after));
  end_seen = ⊎_elim (λ (e : t.end ≡ 0). inl e) (λ (e : (p.ended ≡ true) × (t.end ≡ length p.offers + 1)). absurd (true≢false (sym e.0 ∙ before))) h.end_seen;
  done_is = λ d. absurd (true≢false (sym (h.done_is d).0 ∙ before));
}

-- what is put besides a record
pub take_kept : (capacity : ℕ) (p p' : Putting) (t : Taking) (waiting : List Item) → p'.put ≡ p.put → (p'.holds_slot ≡ true → length waiting < capacity)
    → p'.attach ≤ t.attach → p'.head ≤ length t.taken → TakeRule capacity p t waiting → TakeRule capacity p' t waiting
take_kept capacity p p' t waiting put slot attach head h = record {
  split = put ∙ h.split;
  room = h.room;
  slot_free = slot;
  hand_is = h.hand_is;
  attach_seen = attach;
  head_seen = head;
  taken = h.taken;
  starts = subst (All (IsStartBy t.attach)) (sym put) h.starts;
}

module _ (bus : ℕ) (s : Board) (id : ℕ) (v : View) (p' : Putting) (t : Taking) (r : KeptBy bus s v.putting t)
    (at : get_elem? s.views id ≡ some v) (may : v.puts ≡ true) (before : v.putting.ended ≡ false) (after : p'.ended ≡ false) where
  abbrev same_end : end_of p' ≡ end_of v.putting
  same_end = end_open p' after ∙ sym (end_open v.putting before)

  abbrev next_views : List View
  next_views = set s.views id (record v { putting = p' })

  -- a load that takes no slot
  quiet : (i : ℕ) → p'.put ≡ v.putting.put → p'.gap ≡ v.putting.gap → p'.holds_slot ≡ v.putting.holds_slot → p'.attach ≤ t.attach → p'.head ≤ length t.taken
      → PutRule bus (length s.homes) p' → KeptBy bus (record { words = set s.words i (slice_index s.words i); homes = s.homes; views = next_views }) p' t
  quiet i put gap slot attach head rule = record {
    waiting = r.waiting;
    putter = r.putter;
    taker = r.taker;
    bus_is = r.bus_is;
    deep = r.deep;
    words = words.words_loaded s.words i v.putting p' t t r.words (ap length put) same_end gap refl refl;
    put = rule;
    take = take_kept (length s.homes) v.putting p' t r.waiting put (λ e. r.take.slot_free (sym slot ∙ e)) attach head r.take;
    slots = slots_same s.homes v.putting p' t t r.waiting r.slots slot refl refl;
    end = end_kept v.putting p' t before after r.end;
    each_seat = seats_after_put r.putter r.taker v.putting t s.views r.each_seat id v p' at may;
  }

  -- the place of the tail
  tail_place : length v.putting.put ≡ length t.taken + length r.waiting
  tail_place = ap length r.take.split ∙ (length-append (items_taken t.taken) r.waiting ∙ ap (λ n. n + length r.waiting) (length-map t.taken (λ (x : Taken). x.item)))

  place_is : length v.putting.put % length s.homes ≡ (length t.taken + length r.waiting) % length s.homes
  place_is = ap (λ n. n % length s.homes) tail_place

  -- a load that takes the slot of the tail
  free_slot : length r.waiting < length s.homes → v.putting.holds_slot ≡ false → get_elem? s.homes (length v.putting.put % length s.homes) ≡ some (some None)
  free_slot room home = ap (get_elem? s.homes) place_is ∙ tail_free s.homes v.putting p' t r.waiting r.slots room home r.take.hand_is

  slot_goes : (i : ℕ) → length r.waiting < length s.homes → v.putting.holds_slot ≡ false → p'.holds_slot ≡ true → p'.put ≡ v.putting.put → p'.gap ≡ v.putting.gap
      → p'.attach ≤ t.attach → p'.head ≤ length t.taken → PutRule bus (length s.homes) p'
      → KeptBy bus (record { words = set s.words i (slice_index s.words i); homes = set s.homes (length v.putting.put % length s.homes) none; views = next_views }) p' t
  slot_goes i room home slot put gap attach head rule =
      let hs : List (maybe.Option (Option Item)) = set s.homes (length v.putting.put % length s.homes) none in
      let count : length hs ≡ length s.homes = length-set s.homes (length v.putting.put % length s.homes) none in
      let deep = r.deep in
      record {
        waiting = r.waiting;
        putter = r.putter;
        taker = r.taker;
        bus_is = r.bus_is;
        deep = omega arith;
        words = words.words_loaded s.words i v.putting p' t t r.words (ap length put) same_end gap refl refl;
        put = subst (λ n. PutRule bus n p') (sym count) rule;
        take = subst (λ n. TakeRule n p' t r.waiting) (sym count) (take_kept (length s.homes) v.putting p' t r.waiting put (λ _. room) attach head r.take);
        slots = subst (λ k. Slots (set s.homes k none) p' t r.waiting) (sym place_is) (tail_taken s.homes v.putting p' t r.waiting r.slots room home slot);
        end = end_kept v.putting p' t before after r.end;
        each_seat = seats_after_put r.putter r.taker v.putting t s.views r.each_seat id v p' at may;
      }

  -- a store of the tail, which gives the slot back with the item
  slot_comes : (x : Item) (n : ℕ) → v.putting.holds_slot ≡ true → p'.holds_slot ≡ false → p'.put ≡ v.putting.put ++ x ∷ [] → n ≡ length v.putting.put + 1
      → p'.gap ≡ v.putting.gap → p'.attach ≤ t.attach → p'.head ≤ length t.taken → IsStartBy t.attach x → PutRule bus (length s.homes) p'
      → KeptBy bus (record { words = set s.words tail_word n; homes = set s.homes (length v.putting.put % length s.homes) (some (Some x)); views = next_views }) p' t
  slot_comes x n mine slot put count_is gap attach head start rule =
      let hs : List (maybe.Option (Option Item)) = set s.homes (length v.putting.put % length s.homes) (some (Some x)) in
      let count : length hs ≡ length s.homes = length-set s.homes (length v.putting.put % length s.homes) (some (Some x)) in
      let room : length r.waiting < length s.homes = r.take.slot_free mine in
      let stored : n ≡ length p'.put = omega (arith, ap length put, length-append v.putting.put (x ∷ [])) in
      let deep = r.deep in
      record {
        waiting = r.waiting ++ x ∷ [];
        putter = r.putter;
        taker = r.taker;
        bus_is = r.bus_is;
        deep = omega arith;
        words = words.tail_stored s.words v.putting t r.words n p' stored same_end gap;
        put = subst (λ m. PutRule bus m p') (sym count) rule;
        take = record {
          split = put ∙ (ap (λ xs. xs ++ x ∷ []) r.take.split ∙ append_assoc (items_taken t.taken) r.waiting (x ∷ []));
          room = omega (arith, length-append r.waiting (x ∷ []));
          slot_free = λ e. absurd (true≢false (sym e ∙ slot));
          hand_is = λ y e. get_longer r.waiting (x ∷ []) 0 y (r.take.hand_is y e);
          attach_seen = attach;
          head_seen = head;
          taken = r.take.taken;
          starts = subst (All (IsStartBy t.attach)) (sym put) (All-push (IsStartBy t.attach) v.putting.put x r.take.starts start);
        };
        slots = subst (λ k. Slots (set s.homes k (some (Some x))) p' t (r.waiting ++ x ∷ [])) (sym place_is) (tail_given s.homes v.putting p' t r.waiting r.slots room x slot);
        end = end_kept v.putting p' t before after r.end;
        each_seat = seats_after_put r.putter r.taker v.putting t s.views r.each_seat id v p' at may;
      }

-- what was offered and put, after each step

loaded_attach : (bus capacity n : ℕ) (p : Putting) → PutRule bus capacity p → p.lead ≡ [] → p.attach ≤ n → PutRule bus capacity (with_attach p n)
loaded_attach bus capacity n p h none_led higher =
    let low = h.attach_low in
    record {
      offered = h.offered;
      few = h.few;
      put_is = h.put_is;
      lead_is = inl none_led;
      attach_low = omega arith;
      attach_high = All-weaker (λ (o : Offered). o.attach ≤ p.attach) (λ o. o.attach ≤ n) (λ o below. omega arith) p.offers h.attach_high;
      head_high = h.head_high;
    }

pub head_later : (n m : ℕ) (o : Offered) → n ≤ m → IsHeadBy n o → IsHeadBy m o
head_later n m o low h k e = let below : k ≤ n = h k e in omega arith

loaded_head : (bus capacity n : ℕ) (p : Putting) → PutRule bus capacity p → p.head ≤ n → PutRule bus capacity (with_head p n)
loaded_head bus capacity n p h higher = record {
  offered = h.offered;
  few = h.few;
  put_is = h.put_is;
  lead_is = h.lead_is;
  attach_low = h.attach_low;
  attach_high = h.attach_high;
  head_high = All-weaker (IsHeadBy p.head) (IsHeadBy n) (λ o below. head_later p.head n o higher below) p.offers h.head_high;
}

-- the head of an entry
head_of_none : (n : ℕ) (o : Offered) → o.head ≡ None → IsHeadBy n o
head_of_none n o none_is k e = absurd (none-some k (sym none_is ∙ e))

head_of_some : (n : ℕ) (o : Offered) → o.head ≡ Some n → IsHeadBy n o
head_of_some n o some_is k e = let same : n ≡ k = same_Some n k (sym some_is ∙ e) in omega arith

-- an offer that puts nothing
offered_unput : (bus capacity : ℕ) (p : Putting) (o : Offered) → PutRule bus capacity p → p.lead ≡ [] → IsOffered bus capacity p.offers o → put_by p.offers o ≡ [] → o.attach ≤ p.attach → IsHeadBy p.head o → length p.offers < most_offers
    → PutRule bus capacity (record p { offers = p.offers ++ o ∷ [] })
offered_unput bus capacity p o h none_led is nothing low head room = record {
  offered = offers-snoc bus capacity [] p.offers o h.offered is;
  few = omega (arith, length-append p.offers (o ∷ []));
  put_is =
      h.put_is
      ∙ ap (λ xs. xs ++ p.lead) (sym (put-snoc p.offers o ∙ (ap (λ xs. put_of p.offers ++ xs) nothing ∙ append-nil (put_of p.offers))));
  lead_is = inl none_led;
  attach_low = h.attach_low;
  attach_high = All-push (λ (q : Offered). q.attach ≤ p.attach) p.offers o h.attach_high low;
  head_high = All-push (IsHeadBy p.head) p.offers o h.head_high head;
}

-- the entry of the offer that is made now
entry_is : (bus capacity : ℕ) (p : Putting) (reading : Reading) (head : Option ℕ) (how : Outcome) → PutRule bus capacity p → reading.bus ≡ bus → reading.number ≡ length p.offers
    → Ends capacity p.attach head (length (put_of p.offers)) (slots_needed p.offers reading p.attach) how → IsOffered bus capacity p.offers (entry_of p reading head how)
entry_is bus capacity p reading head how h its number ends = record {
  bus_is = its;
  number_is = number;
  attach_low = h.attach_low;
  attach_rises = h.attach_high;
  tail_is = refl;
  needed_is = refl;
  ends = ends;
}

-- the attach word
pub sees_attach : (bus slots id : ℕ) (me : Sat) (reading : Reading) → MayOffer bus reading me.0
    → Allows (Kept bus) slots id me attach_word (λ n. n) (PutterLoads (saw_attach (Some reading)) (step slots attach_word 0 0 none) me)
sees_attach bus slots id me reading may s kept deep at below =
    let own = putter_own bus s id me.0 kept at may.may in
    let t : Taking = own.0 in
    let r : KeptBy bus s me.0.putting t = own.1 in
    let p : Putting = me.0.putting in
    let n : ℕ = slice_index s.words attach_word in
    let is : n ≡ t.attach = r.words.attach_is in
    let seen = r.take.attach_seen in
    let rule : PutRule bus (length s.homes) (with_attach p n) = loaded_attach bus (length s.homes) n p r.put may.no_lead (omega arith) in
    let low : n ≤ t.attach = omega arith in
    let away : Putting = with_offer (with_attach p n) reading None outcome.Away in
    let P : Putting → Type 0 = λ q. KeptBy bus (record { words = set s.words attach_word n; homes = s.homes; views = set s.views id (record me.0 { putting = did_put q (did.Loaded attach_word n) }) }) (did_put q (did.Loaded attach_word n)) t in
    let at_even = λ (even : (n % 2 == 0) ≡ true).
    let detached : IsDetached n = eqb-true (n % 2) 0 even in
    let entry = entry_is bus (length s.homes) (with_attach p n) reading None outcome.Away rule may.its may.number (detached, refl) in
    let full : PutRule bus (length s.homes) away = offered_unput bus (length s.homes) (with_attach p n) (entry_of (with_attach p n) reading None outcome.Away) rule may.no_lead entry refl (omega arith) (head_of_none p.head (entry_of (with_attach p n) reading None outcome.Away) refl) may.room in
    quiet bus s id me.0 (did_put away (did.Loaded attach_word n)) t r at may.may may.open_ may.open_ attach_word refl refl refl low r.take.head_seen
    record { offered = full.offered; few = full.few; put_is = full.put_is; lead_is = full.lead_is; attach_low = full.attach_low; attach_high = full.attach_high; head_high = full.head_high } in
    let at_odd = λ (odd : (n % 2 == 0) ≡ false).
    quiet bus s id me.0 (did_put (with_attach p n) (did.Loaded attach_word n)) t r at may.may may.open_ may.open_ attach_word refl refl refl low r.take.head_seen
    record { offered = rule.offered; few = rule.few; put_is = rule.put_is; lead_is = rule.lead_is; attach_low = rule.attach_low; attach_high = rule.attach_high; head_high = rule.head_high } in
    let by : P (cond (n % 2 == 0) away (with_attach p n)) = cond_both (n % 2 == 0) away (with_attach p n) P at_even at_odd in (
      record me.0 { putting = attach_seen reading n p },
      keeps,
      tt,
      record { p = attach_seen reading n p; t = t; by = by },
      ((refl, refl, rule.attach_low, rule.attach_high), cond_both (n % 2 == 0) away (with_attach p n) (λ (q : Putting). q.steps ++ did.Loaded attach_word n ∷ [] ≡ p.steps ++ did.Loaded attach_word n ∷ []) (λ _. refl) (λ _. refl)),
    )

-- what the head is to the tail
head_fits : (bus : ℕ) (s : Board) (p : Putting) (t : Taking) → (r : KeptBy bus s p t) → p.lead ≡ [] → IsHeadOf (length s.homes) (length (put_of p.offers)) (length t.taken)
head_fits bus s p t r none_led =
    let put : length p.put ≡ length (put_of p.offers) = ap length r.put.put_is ∙ (ap (λ xs. length (put_of p.offers ++ xs)) none_led ∙ ap length (append-nil (put_of p.offers))) in
    let count : length (items_taken t.taken) ≡ length t.taken = length-map t.taken (λ (x : Taken). x.item) in
    let split : length p.put ≡ length (items_taken t.taken ++ r.waiting) = ap length r.take.split in
    let room = r.take.room in
    (omega (arith, length-append (items_taken t.taken) r.waiting), omega (arith, length-append (items_taken t.taken) r.waiting))

-- where slots are free by the head, one is free now
head_room : (bus : ℕ) (s : Board) (p : Putting) (t : Taking) (free n : ℕ) → (r : KeptBy bus s p t) → n ≤ length t.taken → length p.put < n + length s.homes → length r.waiting < length s.homes
head_room bus s p t free n r low fits =
    let count : length (items_taken t.taken) ≡ length t.taken = length-map t.taken (λ (x : Taken). x.item) in
    let split : length p.put ≡ length (items_taken t.taken ++ r.waiting) = ap length r.take.split in
    omega (arith, length-append (items_taken t.taken) r.waiting)

module _ (bus slots id : ℕ) (me : Sat) (reading : Reading) (may : MayPut bus reading me.0) (bare : me.1 ≡ []) (s : Board) (kept : Kept bus s)
    (deep : length s.homes ≡ slots) (at : get_elem? s.views id ≡ some me.0) where
  abbrev q : Putting
  q = me.0.putting

  abbrev found : ℕ
  found = slice_index s.words head_word

  abbrev others : Taking
  others = (putter_own bus s id me.0 kept at may.offer.may).0

  abbrev own_rule : KeptBy bus s q others
  own_rule = (putter_own bus s id me.0 kept at may.offer.may).1

  found_is : found ≡ length others.taken
  found_is = own_rule.words.head_is

  fits : IsHeadOf slots (length (put_of q.offers)) found
  fits = subst (λ n. IsHeadOf n (length (put_of q.offers)) found) deep (subst (IsHeadOf (length s.homes) (length (put_of q.offers))) (sym found_is) (head_fits bus s q others own_rule may.offer.no_lead))

  abbrev Next : Putting → Act (Option Item) → Type 0
  Next p' a = Kept bus (stepped s head_word found id me.1 (record me.0 { putting = p' }) a)

  seen_rule : PutRule bus (length s.homes) (with_head q found)
  seen_rule = let seen = own_rule.take.head_seen in loaded_head bus (length s.homes) found q own_rule.put (omega (arith, found_is))

  -- too few slots: the offer is refused
  abbrev refusal : Putting
  refusal = did_put (with_offer (with_head q found) reading (Some found) outcome.Refused) (did.Loaded head_word found)

  refused_step : is_short slots found q reading ≡ true → Next refusal keeps
  refused_step short =
      let less : slots_free slots found (length (put_of q.offers)) < slots_needed q.offers reading q.attach = ltb-true (slots_free slots found (length (put_of q.offers))) (slots_needed q.offers reading q.attach) short in
      let ends : Ends slots q.attach (Some found) (length (put_of q.offers)) (slots_needed q.offers reading q.attach) outcome.Refused = (may.odd, (found, refl, fits, less)) in
      let h : PutRule bus (length s.homes) q = own_rule.put in
      let entry = entry_is bus (length s.homes) q reading (Some found) outcome.Refused h may.offer.its may.offer.number
      (subst (λ c. Ends c q.attach (Some found) (length (put_of q.offers)) (slots_needed q.offers reading q.attach) outcome.Refused) (sym deep) ends) in
      let low : found ≤ length others.taken = omega (arith, found_is) in
      let o : Offered = entry_of q reading (Some found) outcome.Refused in
      let full = offered_unput bus (length s.homes) (with_head q found) o seen_rule may.offer.no_lead entry refl (omega arith) (head_of_some found o refl) may.offer.room in
      record {
        p = refusal;
        t = others;
        by = quiet bus s id me.0 refusal others own_rule at may.offer.may may.offer.open_ may.offer.open_ head_word refl refl refl own_rule.take.attach_seen low
            record { offered = full.offered; few = full.few; put_is = full.put_is; lead_is = full.lead_is; attach_low = full.attach_low; attach_high = full.attach_high; head_high = full.head_high };
      }

  -- room: the slot of the tail is taken
  abbrev advance : Putting
  advance = did_put (with_slot (with_head q found)) (did.Loaded head_word found)

  enough : is_short slots found q reading ≡ false → length own_rule.waiting < length s.homes
  enough roomy =
      let more : slots_needed q.offers reading q.attach ≤ slots_free slots found (length (put_of q.offers)) = ltb-false (slots_free slots found (length (put_of q.offers))) (slots_needed q.offers reading q.attach) roomy in
      let put : length q.put ≡ length (put_of q.offers) = ap length own_rule.put.put_is ∙ (ap (λ xs. length (put_of q.offers ++ xs)) may.offer.no_lead ∙ ap length (append-nil (put_of q.offers))) in
      let f = fits in
      head_room bus s q others 0 found own_rule (omega (arith, found_is)) (omega (arith, deep))

  advance_step : is_short slots found q reading ≡ false → Next advance (takes (length q.put % length s.homes) None)
  advance_step roomy =
      let h = seen_rule in
      record {
        p = advance;
        t = others;
        by = slot_goes bus s id me.0 advance others own_rule at may.offer.may may.offer.open_ may.offer.open_ head_word (enough roomy) may.offer.home refl refl refl own_rule.take.attach_seen (omega (arith, found_is))
            record { offered = h.offered; few = h.few; put_is = h.put_is; lead_is = h.lead_is; attach_low = h.attach_low; attach_high = h.attach_high; head_high = h.head_high };
      }

  free_there : is_short slots found q reading ≡ false → get_elem? s.homes (length q.put % length s.homes) ≡ some (some None)
  free_there roomy = free_slot bus s id me.0 advance others own_rule at may.offer.may may.offer.open_ may.offer.open_ (enough roomy) may.offer.home

  abbrev Result : Type 0
  Result =
      (w : View) × (a : Act (Option Item)) × Valid s.homes me.1 a × Kept bus (stepped s head_word found id me.1 w a)
      × PutterLoads (saw_head (Some reading)) (step slots head_word 0 0 none) me found (w, carried_after me.1 a)

  decided : Result
  decided =
      ⊎_elim
      (λ (short : is_short slots found q reading ≡ true).
      let view : head_seen slots reading found q ≡ refusal =
      ap (λ z. did_put z (did.Loaded head_word found)) (cond-true (is_short slots found q reading) (with_offer (with_head q found) reading (Some found) outcome.Refused) (with_slot (with_head q found)) short) in
      let hand : me.1 ≡ cond (is_short slots found q reading) [] (slot_taken slots q) = bare ∙ sym (cond-true (is_short slots found q reading) [] (slot_taken slots q) short) in
      (record me.0 { putting = refusal }, keeps, tt, refused_step short, ((ap (λ z. record me.0 { putting = z }) (sym view), hand, fits), refl)))
      (λ (roomy : is_short slots found q reading ≡ false).
      let view : head_seen slots reading found q ≡ advance =
      ap (λ z. did_put z (did.Loaded head_word found)) (cond-false (is_short slots found q reading) (with_offer (with_head q found) reading (Some found) outcome.Refused) (with_slot (with_head q found)) roomy) in
      let slot : (length q.put % length s.homes, None) ∷ me.1 ≡ slot_taken slots q = ap (λ n. (length q.put % n, None) ∷ me.1) deep ∙ ap (λ l. (length q.put % slots, None) ∷ l) bare in
      let hand : (length q.put % length s.homes, None) ∷ me.1 ≡ cond (is_short slots found q reading) [] (slot_taken slots q) = slot ∙ sym (cond-false (is_short slots found q reading) [] (slot_taken slots q) roomy) in
      (record me.0 { putting = advance }, takes (length q.put % length s.homes) None, free_there roomy, advance_step roomy, ((ap (λ z. record me.0 { putting = z }) (sym view), hand, fits), refl)))
      (cases_Bool (is_short slots found q reading))

pub sees_head : (bus slots id : ℕ) (me : Sat) (reading : Reading) → MayPut bus reading me.0 → me.1 ≡ []
    → Allows (Kept bus) slots id me head_word (λ n. n) (PutterLoads (saw_head (Some reading)) (step slots head_word 0 0 none) me)
sees_head bus slots id me reading may bare s kept deep at below = decided bus slots id me reading may bare s kept deep at

pub reaches : (bus slots id : ℕ) (me : Sat) → MayReach slots me.0 → me.1 ≡ []
    → Allows (Kept bus) slots id me head_word (λ n. n) (PutterLoads reached (step slots head_word 0 0 none) me)
reaches bus slots id me may bare s kept deep at below =
    let own = putter_own bus s id me.0 kept at may.may in
    let t : Taking = own.0 in
    let r : KeptBy bus s me.0.putting t = own.1 in
    let p : Putting = me.0.putting in
    let n : ℕ = slice_index s.words head_word in
    let p' : Putting = did_put (with_slot p) (did.Loaded head_word n) in
    let h : PutRule bus (length s.homes) p = r.put in
    let full : PutRule bus (length s.homes) p' = record { offered = h.offered; few = h.few; put_is = h.put_is; lead_is = h.lead_is; attach_low = h.attach_low; attach_high = h.attach_high; head_high = h.head_high } in
    let wide : length p.put < p.head + length s.homes = omega (arith, may.room, deep) in
    let room : length r.waiting < length s.homes = head_room bus s p t 0 p.head r r.take.head_seen wide in
    let slot : (length p.put % length s.homes, None) ∷ me.1 ≡ slot_taken slots p = ap (λ k. (length p.put % k, None) ∷ me.1) deep ∙ ap (λ l. (length p.put % slots, None) ∷ l) bare in (
      record me.0 { putting = p' },
      takes (length p.put % length s.homes) None,
      free_slot bus s id me.0 p' t r at may.may may.open_ may.open_ room may.home,
      record { p = p'; t = t; by = slot_goes bus s id me.0 p' t r at may.may may.open_ may.open_ head_word room may.home refl refl refl r.take.attach_seen r.take.head_seen full },
      ((refl, slot), refl),
    )

pub start_by_later : (a b : ℕ) (x : Item) → a ≤ b → IsStartBy a x → IsStartBy b x
start_by_later a b (item.Start bus number turn) low h = omega arith
start_by_later a b (item.Reading r) low h = tt
start_by_later a b (item.Gap bus m) low h = tt
start_by_later a b (item.End bus number) low h = tt

-- a Start that goes before a record is of no later turn than the attach word
lead_in_time : (os : List Offered) (reading : Reading) (attach : ℕ) (x : Item) → x ∷ [] ≡ lead os reading attach → IsStartBy attach x
lead_in_time os reading attach x is =
    let P : List Item → Type 0 = λ l. x ∷ [] ≡ l → IsStartBy attach x in
    let start : Item = item.Start reading.bus reading.number attach in
    cond_both (attach == turn_of os) (gap_item reading.bus (gap_of (trailing os))) (start ∷ []) P
    (λ _. of_gap (gap_of (trailing os)))
    (λ _ e. subst (IsStartBy attach) (sym (head_same x start [] [] e)) (omega arith))
    is
  where
    of_gap : (gap : Option Missed) → x ∷ [] ≡ gap_item reading.bus gap → IsStartBy attach x
    of_gap None e = absurd (let n : 1 ≡ 0 = ap length e in omega arith)
    of_gap (Some m) e = subst (IsStartBy attach) (sym (head_same x (item.Gap reading.bus m) [] [] e)) tt

-- the slots after one is given back
given_back : (homes : List (maybe.Option (Option Item))) (c : List (ℕ × Option Item)) (k : ℕ) (y : Option Item) → c ≡ (k, y) ∷ [] → homes_after homes c gives ≡ set homes k (some y)
given_back homes c k y e = ap (λ l. put_back homes l) e

pub puts_lead : (bus slots id n : ℕ) (me : Sat) (x : Item) → MayLead bus x n me.0 → me.1 ≡ (length me.0.putting.put % slots, Some x) ∷ []
    → Allows (Kept bus) slots id me tail_word (λ _. n) (λ _. PutterStores (put_lead (Some x)) (step slots tail_word n 0 none) me n)
puts_lead bus slots id n me x may held s kept deep at below =
    let own = putter_own bus s id me.0 kept at may.may in
    let t : Taking = own.0 in
    let r : KeptBy bus s me.0.putting t = own.1 in
    let p : Putting = me.0.putting in
    let p' : Putting = lead_put x n p in
    let h : PutRule bus (length s.homes) p = r.put in
    let put : p.put ≡ put_of p.offers = h.put_is ∙ (ap (λ xs. put_of p.offers ++ xs) may.no_lead ∙ append-nil (put_of p.offers)) in
    let full : PutRule bus (length s.homes) p' = record {
      offered = h.offered;
      few = h.few;
      put_is = ap (λ xs. xs ++ x ∷ []) put;
      lead_is = inr may.is_lead;
      attach_low = h.attach_low;
      attach_high = h.attach_high;
      head_high = h.head_high;
    } in
    let in_time : IsStartBy p.attach x = lead_in_time p.offers may.is_lead.reading p.attach x may.is_lead.lead_is in
    let start : IsStartBy t.attach x = start_by_later p.attach t.attach x r.take.attach_seen in_time in
    let next = slot_comes bus s id me.0 p' t r at may.may may.open_ may.open_ x n may.mine refl refl may.count refl r.take.attach_seen r.take.head_seen start full in
    let back : homes_after s.homes me.1 gives ≡ set s.homes (length p.put % length s.homes) (some (Some x)) =
    given_back s.homes me.1 (length p.put % slots) (Some x) held ∙ ap (λ k. set s.homes (length p.put % k) (some (Some x))) (sym deep) in
    let by = subst (λ hs. KeptBy bus (record { words = set s.words tail_word n; homes = hs; views = set s.views id (record me.0 { putting = p' }) }) p' t) (sym back) next in (
      record me.0 { putting = p' },
      gives,
      tt,
      record { p = p'; t = t; by = by },
      ((refl, ap rest held), refl),
    )

pub puts_record : (bus slots id n : ℕ) (me : Sat) (reading : Reading) → MayRecord bus slots reading n me.0 → me.1 ≡ (length me.0.putting.put % slots, Some (item.Reading reading)) ∷ []
    → Allows (Kept bus) slots id me tail_word (λ _. n) (λ _. PutterStores (put_record (Some reading)) (step slots tail_word n 0 none) me n)
puts_record bus slots id n me reading may held s kept deep at below =
    let own = putter_own bus s id me.0 kept at may.may in
    let t : Taking = own.0 in
    let r : KeptBy bus s me.0.putting t = own.1 in
    let p : Putting = me.0.putting in
    let p' : Putting = record_put reading n p in
    let x : Item = item.Reading reading in
    let h : PutRule bus (length s.homes) p = r.put in
    let o : Offered = entry_of p reading (Some p.head) outcome.Put in
    let ends : Ends (length s.homes) p.attach (Some p.head) (length (put_of p.offers)) (slots_needed p.offers reading p.attach) outcome.Put =
    subst (λ c. Ends c p.attach (Some p.head) (length (put_of p.offers)) (slots_needed p.offers reading p.attach) outcome.Put) (sym deep) (may.odd, (p.head, refl, may.head_is, may.enough)) in
    let entry = entry_is bus (length s.homes) p reading (Some p.head) outcome.Put h may.its may.number ends in
    let put : p.put ++ x ∷ [] ≡ put_of (p.offers ++ o ∷ []) =
    ap (λ xs. xs ++ x ∷ []) h.put_is
    ∙ (append_assoc (put_of p.offers) p.lead (x ∷ [])
    ∙ (ap (λ l. put_of p.offers ++ (l ++ x ∷ [])) may.led
    ∙ sym (put-snoc p.offers o))) in
    let full : PutRule bus (length s.homes) p' = record {
      offered = offers-snoc bus (length s.homes) [] p.offers o h.offered entry;
      few = omega (arith, may.room, length-append p.offers (o ∷ []));
      put_is = put ∙ sym (append-nil (put_of (p.offers ++ o ∷ [])));
      lead_is = inl refl;
      attach_low = h.attach_low;
      attach_high = All-push (λ (q : Offered). q.attach ≤ p.attach) p.offers o h.attach_high (omega arith);
      head_high = All-push (IsHeadBy p.head) p.offers o h.head_high (head_of_some p.head o refl);
    } in
    let next = slot_comes bus s id me.0 p' t r at may.may may.open_ may.open_ x n may.mine refl refl may.count refl r.take.attach_seen r.take.head_seen tt full in
    let back : homes_after s.homes me.1 gives ≡ set s.homes (length p.put % length s.homes) (some (Some x)) =
    given_back s.homes me.1 (length p.put % slots) (Some x) held ∙ ap (λ k. set s.homes (length p.put % k) (some (Some x))) (sym deep) in
    let by = subst (λ hs. KeptBy bus (record { words = set s.words tail_word n; homes = hs; views = set s.views id (record me.0 { putting = p' }) }) p' t) (sym back) next in (
      record me.0 { putting = p' },
      gives,
      tt,
      record { p = p'; t = t; by = by },
      ((refl, ap rest held), refl),
    )

-- a store of the tail, once the slot in hand has the item
pub lead_ready : (bus slots id n k : ℕ) (me me' : Sat) (x : Item) → MayLead bus x n me.0 → k ≡ length me.0.putting.put % slots → me.1 ≡ slot_taken slots me.0.putting
    → me' ≡ (me.0, (k, Some x) ∷ rest me.1) → Allows (Kept bus) slots id me' tail_word (λ _. n) (λ _. PutterStores (put_lead (item_in me'.1)) (step slots tail_word n 0 none) me' n)
lead_ready bus slots id n k me me' x may place held is =
    let full : Sat = (me.0, (length me.0.putting.put % slots, Some x) ∷ []) in
    let same : me' ≡ full = is ∙ (ap (λ (l : List (ℕ × Option Item)). (me.0, (k, Some x) ∷ rest l)) held ∙ ap (λ (m : ℕ). (me.0, (m, Some x) ∷ [])) place) in
    subst (λ (m : Sat). Allows (Kept bus) slots id m tail_word (λ _. n) (λ _. PutterStores (put_lead (item_in m.1)) (step slots tail_word n 0 none) m n)) (sym same)
    (puts_lead bus slots id n full x may refl)

pub record_ready : (bus slots id n k : ℕ) (me me' : Sat) (reading : Reading) → MayRecord bus slots reading n me.0 → k ≡ length me.0.putting.put % slots → me.1 ≡ slot_taken slots me.0.putting
    → me' ≡ (me.0, (k, Some (item.Reading reading)) ∷ rest me.1)
    → Allows (Kept bus) slots id me' tail_word (λ _. n) (λ _. PutterStores (put_record (record_in (item_in me'.1))) (step slots tail_word n 0 none) me' n)
record_ready bus slots id n k me me' reading may place held is =
    let full : Sat = (me.0, (length me.0.putting.put % slots, Some (item.Reading reading)) ∷ []) in
    let same : me' ≡ full =
    is ∙ (ap (λ (l : List (ℕ × Option Item)). (me.0, (k, Some (item.Reading reading)) ∷ rest l)) held ∙ ap (λ (m : ℕ). (me.0, (m, Some (item.Reading reading)) ∷ [])) place) in
    subst (λ (m : Sat). Allows (Kept bus) slots id m tail_word (λ _. n) (λ _. PutterStores (put_record (record_in (item_in m.1))) (step slots tail_word n 0 none) m n)) (sym same)
    (puts_record bus slots id n full reading may refl)
