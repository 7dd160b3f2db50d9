-- What an offer leaves, by how it ended.
use Rattle.std.proofs.Common.{◌≡◌, ◌≢◌, ℕ, ◌+◌, ◌-◌, ◌%◌, ◌<◌, ◌≤◌, ◌==◌, ◌&&◌, Bool, true, false, cond, List, [], ◌∷◌, ◌++◌, length}
use Rattle.std.proofs.Common.{filter, All, Option, Some, None, refl, sym, ap, ◌∙◌, subst, arith, inl, inr, ⊎_elim, length-append, append-nil, append_assoc}
use Rattle.std.proofs.Common.{eq-eqb, ne_eqb, le-ltb, lt-ltb, option_to_list}
use Rattle.std.proofs.lemmas.Nat.{mod_below}
use Rattle.std.proofs.lemmas.Bool.{cases_Bool, cases_eq, cond-true, cond-false, cond_both}
use Rattle.std.proofs.lemmas.List.{get_or_push, map-append}
use Rattle.std.proofs.lemmas.List.Elements.{filter-append}
use Rattle.bench_model.specs.declared.reading.Reading.{Reading}
use Rattle.bench_model.specs.declared.reading.Missed.{Missed}
use Rattle.bench_model.specs.declared.reading.Item.{Item}
use Rattle.bench_model.specs.declared.reading.Item.TheVariants as item
use Rattle.gap_ring.specs.declared.answers.Offer.TheVariants as offer
use Rattle.gap_ring.specs.declared.count.Count.{Count}
use Rattle.gap_ring.specs.declared.entries.Outcome.{Outcome}
use Rattle.gap_ring.specs.declared.entries.Outcome.TheVariants as outcome
use Rattle.gap_ring.specs.declared.entries.Offered.{Offered}
use Rattle.gap_ring.specs.declared.view.Did.{Did}
use Rattle.gap_ring.specs.declared.view.Did.TheVariants as did
use Rattle.gap_ring.specs.declared.view.Putting.{Putting}
use Rattle.gap_ring.specs.declared.view.View.{View}
use Rattle.gap_ring.specs.Offers.{IsAttached, IsDetached, IsHeadOf, Ends, IsOffered, puts, refuses, is_put, turn_of, since_put, is_missed_in, trailing}
use Rattle.gap_ring.specs.Offers.{missed, longer, missed_count, last_of, gap_of, readings_of, gap_item, slots_needed, slots_free, lead, put_of}
use Rattle.gap_ring.specs.Rule.{head_word, tail_word, attach_word, IsLead}
use Rattle.gap_ring.specs.Steps.{entry_of, did_put, with_attach, with_offer, with_slot, with_head, is_short, slot_taken, attach_seen, head_seen, lead_put, record_put}
use Rattle.gap_ring.specs.May.{MayOffer, MayItems, MayLead, MayReach, MayRecord}
use Rattle.gap_ring.specs.Ends.{PutterRests, did_reach}
use Rattle.gap_ring.specs.Offering.{OfferMade, AreStepsBy, ItemsPut, one_put, two_put}
use Rattle.gap_ring.proofs.OneMoreLaws.{turn-snoc, since-snoc, put-snoc}

-- the trailing gap, after one more offer
pub trailing_put : (os : List Offered) (o : Offered) → is_put o ≡ true → trailing (os ++ o ∷ []) ≡ []
trailing_put os o put = ap (filter (is_missed_in (turn_of (os ++ o ∷ [])))) (since-snoc os o ∙ cond-true (is_put o) [] (since_put os ++ o ∷ []) put)

pub trailing_more : (os : List Offered) (o : Offered) → is_put o ≡ false → trailing (os ++ o ∷ []) ≡ trailing os ++ filter (is_missed_in (turn_of os)) (o ∷ [])
trailing_more os o unput =
    let turn : turn_of (os ++ o ∷ []) ≡ turn_of os = turn-snoc os o ∙ cond-false (is_put o) o.attach (turn_of os) unput in
    let since : since_put (os ++ o ∷ []) ≡ since_put os ++ o ∷ [] = since-snoc os o ∙ cond-false (is_put o) [] (since_put os ++ o ∷ []) unput in
    ap (λ (t : ℕ). filter (is_missed_in t) (since_put (os ++ o ∷ []))) turn
    ∙ (ap (filter (is_missed_in (turn_of os))) since
    ∙ filter-append (is_missed_in (turn_of os)) (since_put os) (o ∷ []))

pub trailing_away : (os : List Offered) (o : Offered) → o.outcome ≡ outcome.Away → trailing (os ++ o ∷ []) ≡ trailing os
trailing_away os o away =
    let none : filter (is_missed_in (turn_of os)) (o ∷ []) ≡ [] = ap (λ (b : Bool). cond (b && (o.attach == turn_of os)) (o ∷ []) []) (ap refuses away) in
    trailing_more os o (ap puts away) ∙ (ap (λ (l : List Offered). trailing os ++ l) none ∙ append-nil (trailing os))

-- a gap of one record more
pub gap_longer : (os : List Offered) (o : Offered) → gap_of (os ++ o ∷ []) ≡ Some (longer (gap_of os) o.reading)
gap_longer [] o = refl
gap_longer (p ∷ ps) o =
    let count : length (p ∷ (ps ++ o ∷ [])) ≡ length (p ∷ ps) + 1 = omega (arith, length-append ps (o ∷ [])) in
    let last : last_of p (ps ++ o ∷ []) ≡ o = get_or_push (p ∷ ps) o p (length (ps ++ o ∷ [])) (omega (arith, length-append ps (o ∷ []))) in
    λ i. Some (missed p.reading (count i) (last i).reading)

pub trailing_refused : (os : List Offered) (o : Offered) → o.outcome ≡ outcome.Refused
    → gap_of (trailing (os ++ o ∷ [])) ≡ cond (o.attach == turn_of os) (Some (longer (gap_of (trailing os)) o.reading)) (gap_of (trailing os))
trailing_refused os o refused =
    let here : (b : Bool) → (o.attach == turn_of os) ≡ b → filter (is_missed_in (turn_of os)) (o ∷ []) ≡ cond b (o ∷ []) [] =
    λ b e. ap (λ (c : Bool). cond (c && (o.attach == turn_of os)) (o ∷ []) []) (ap refuses refused) ∙ ap (λ (c : Bool). cond c (o ∷ []) []) e in
    ⊎_elim
    (λ (e : (o.attach == turn_of os) ≡ true).
    ap gap_of (trailing_more os o (ap puts refused) ∙ ap (λ (l : List Offered). trailing os ++ l) (here true e))
    ∙ (gap_longer (trailing os) o
    ∙ sym (cond-true (o.attach == turn_of os) (Some (longer (gap_of (trailing os)) o.reading)) (gap_of (trailing os)) e)))
    (λ (e : (o.attach == turn_of os) ≡ false).
    ap gap_of (trailing_more os o (ap puts refused) ∙ (ap (λ (l : List Offered). trailing os ++ l) (here false e) ∙ append-nil (trailing os)))
    ∙ sym (cond-false (o.attach == turn_of os) (Some (longer (gap_of (trailing os)) o.reading)) (gap_of (trailing os)) e))
    (cases_Bool (o.attach == turn_of os))

pub longer_counts : (gap : Option Missed) (r : Reading) → missed_count (Some (longer gap r)) ≡ missed_count gap + 1
longer_counts None r = refl
longer_counts (Some m) r = refl

pub put_unput : (os : List Offered) (o : Offered) → is_put o ≡ false → put_of (os ++ o ∷ []) ≡ put_of os
put_unput os o unput =
    put-snoc os o ∙ (ap (λ xs. put_of os ++ xs) (cond-false (is_put o) (lead os o.reading o.attach ++ item.Reading o.reading ∷ []) [] unput) ∙ append-nil (put_of os))

-- the words that the putter loaded so far in this offer
pub record Attaching (v : View) (a : ℕ) : Type 0 where
  pub low : 1 ≤ a
  pub high : All (λ o. o.attach ≤ a) v.putting.offers

module _ (bus slots a : ℕ) (c : Count) (reading : Reading) (v : View) (rests : PutterRests c v) (may : MayOffer bus reading v) (words : Attaching v a) where
  abbrev p : Putting
  p = v.putting

  abbrev os : List Offered
  os = p.offers

  abbrev p1 : Putting
  p1 = with_attach p a

  abbrev entry : Option ℕ → Outcome → Offered
  entry head how = entry_of p1 reading head how

  entry_offered : (head : Option ℕ) (how : Outcome) → Ends slots a head (length (put_of os)) (slots_needed os reading a) how → IsOffered bus slots os (entry head how)
  entry_offered head how ends = record {
    bus_is = may.its;
    number_is = may.number;
    attach_low = words.low;
    attach_rises = words.high;
    tail_is = refl;
    needed_is = refl;
    ends = ends;
  }

  pub away_leaves : IsDetached a → (v' : View) → v' ≡ record v { putting = attach_seen reading a p }
      → PutterRests (record c { number = c.number + 1 }) v' × OfferMade bus slots reading v v' (offer.Away reading)
  away_leaves even v' is =
      let test : (a % 2 == 0) ≡ true = eq-eqb (a % 2) 0 even in
      let o : Offered = entry None outcome.Away in
      let after : Putting = did_put (with_offer p1 reading None outcome.Away) (did.Loaded attach_word a) in
      let view : v' ≡ record v { putting = after } =
      is ∙ ap (λ (q : Putting). record v { putting = did_put q (did.Loaded attach_word a) }) (cond-true (a % 2 == 0) (with_offer p1 reading None outcome.Away) p1 test) in
      let tail = rests.tail_is in
      let low = rests.missed_low in
      let number = rests.number_is in
      let room = may.room in
      let tail_low = rests.tail_low in
      subst (λ (w : View). PutterRests (record c { number = c.number + 1 }) w × OfferMade bus slots reading v w (offer.Away reading)) (sym view) (
        record {
          puts = rests.puts;
          home = rests.home;
          no_lead = rests.no_lead;
          put_is = rests.put_is ∙ sym (put_unput os o refl);
          tail_is = rests.tail_is;
          number_is = omega (arith, length-append os (o ∷ []));
          turn_is = rests.turn_is ∙ sym (turn-snoc os o);
          missed_is = rests.missed_is ∙ ap gap_of (sym (trailing_away os o refl));
          missed_low = omega arith;
          few = omega arith;
          tail_low = omega arith;
        },
        record {
          entry = o;
          reading_is = refl;
          is_offered = entry_offered None outcome.Away (even, refl);
          answered = (refl, refl);
          offers_are = refl;
          readings_are = map-append (λ (q : Offered). q.reading) os (o ∷ []);
          put_is = sym (append-nil p.put);
          counted = ap gap_of (trailing_away os o refl);
          more = did.Loaded attach_word a ∷ [];
          steps_are = refl;
          are_steps = refl;
          still_open = refl;
          gap_same = refl;
        },
      )

  -- the view once the attach word is loaded and odd
  abbrev p2 : Putting
  p2 = did_put p1 (did.Loaded attach_word a)

  pub refused_leaves : IsAttached a → (h : ℕ) → IsHeadOf slots (length (put_of os)) h → slots_free slots h (length (put_of os)) < slots_needed os reading a
      → (v' : View) → v' ≡ record v { putting = did_put (with_offer (with_head p2 h) reading (Some h) outcome.Refused) (did.Loaded head_word h) }
      → PutterRests (record c { number = c.number + 1; missed = cond (a == c.turn) (Some (longer c.missed reading)) c.missed }) v' × OfferMade bus slots reading v v' (offer.Refused reading h)
  refused_leaves odd h fits short v' view =
      let o : Offered = entry (Some h) outcome.Refused in
      let c' : Count = record c { number = c.number + 1; missed = cond (a == c.turn) (Some (longer c.missed reading)) c.missed } in
      let low = rests.missed_low in
      let number = rests.number_is in
      let room = may.room in
      let tail_low = rests.tail_low in
      let count : missed_count (cond (a == c.turn) (Some (longer c.missed reading)) c.missed) ≤ c.number + 1 =
      cond_both (a == c.turn) (Some (longer c.missed reading)) c.missed (λ (m : Option Missed). missed_count m ≤ c.number + 1)
      (λ _. omega (arith, longer_counts c.missed reading)) (λ _. omega arith) in
      let gap : cond (a == c.turn) (Some (longer c.missed reading)) c.missed ≡ gap_of (trailing (os ++ o ∷ [])) =
      ap (λ (t : ℕ). cond (a == t) (Some (longer c.missed reading)) c.missed) rests.turn_is
      ∙ (ap (λ (m : Option Missed). cond (a == turn_of os) (Some (longer m reading)) m) rests.missed_is
      ∙ sym (trailing_refused os o refl)) in
      subst (λ (w : View). PutterRests c' w × OfferMade bus slots reading v w (offer.Refused reading h)) (sym view) (
        record {
          puts = rests.puts;
          home = rests.home;
          no_lead = rests.no_lead;
          put_is = rests.put_is ∙ sym (put_unput os o refl);
          tail_is = rests.tail_is;
          number_is = omega (arith, length-append os (o ∷ []));
          turn_is = rests.turn_is ∙ sym (turn-snoc os o);
          missed_is = gap;
          missed_low = count;
          few = omega arith;
          tail_low = omega arith;
        },
        record {
          entry = o;
          reading_is = refl;
          is_offered = entry_offered (Some h) outcome.Refused (odd, (h, refl, fits, short));
          answered = (refl, refl, refl);
          offers_are = refl;
          readings_are = map-append (λ (q : Offered). q.reading) os (o ∷ []);
          put_is = sym (append-nil p.put);
          counted = trailing_refused os o refl;
          more = did.Loaded attach_word a ∷ did.Loaded head_word h ∷ [];
          steps_are = append_assoc p.steps (did.Loaded attach_word a ∷ []) (did.Loaded head_word h ∷ []);
          are_steps = (h, refl, refl);
          still_open = refl;
          gap_same = refl;
        },
      )

  -- the view once the head is loaded too, and there is room
  abbrev p3 : ℕ → Putting
  p3 h = did_put (with_slot (with_head p2 h)) (did.Loaded head_word h)

  abbrev done_count : ℕ → Count
  done_count tail = record { tail = tail; number = c.number + 1; turn = a; missed = None }

  put_leaves : IsAttached a → (h : ℕ) → IsHeadOf slots (length (put_of os)) h → slots_needed os reading a ≤ slots_free slots h (length (put_of os))
      → (q : Putting) (more : List Did) (tail : ℕ) → q.offers ≡ os ++ entry (Some h) outcome.Put ∷ [] → q.put ≡ p.put ++ (lead os reading a ++ item.Reading reading ∷ [])
      → q.holds_slot ≡ false → q.lead ≡ [] → q.ended ≡ p.ended → q.gap ≡ p.gap → q.steps ≡ p.steps ++ more → AreStepsBy (entry (Some h) outcome.Put) outcome.Put more
      → tail ≡ length q.put → tail ≤ c.tail + 2
      → (v' : View) → v' ≡ record v { putting = q } → PutterRests (done_count tail) v' × OfferMade bus slots reading v v' offer.Put
  put_leaves odd h fits enough q more tail offers put home led ended gap steps are count at_most v' view =
      let o : Offered = entry (Some h) outcome.Put in
      let number = rests.number_is in
      let room = may.room in
      let tail_low = rests.tail_low in
      subst (λ (w : View). PutterRests (done_count tail) w × OfferMade bus slots reading v w offer.Put) (sym view) (
        record {
          puts = rests.puts;
          home = home;
          no_lead = led;
          put_is = put ∙ (ap (λ xs. xs ++ (lead os reading a ++ item.Reading reading ∷ [])) rests.put_is ∙ (sym (put-snoc os o) ∙ ap put_of (sym offers)));
          tail_is = count;
          number_is = omega (arith, ap length offers, length-append os (o ∷ []));
          turn_is = sym (ap turn_of offers ∙ turn-snoc os o);
          missed_is = sym (ap (λ (l : List Offered). gap_of (trailing l)) offers ∙ ap gap_of (trailing_put os o refl));
          missed_low = omega arith;
          few = omega arith;
          tail_low = omega arith;
        },
        record {
          entry = o;
          reading_is = refl;
          is_offered = entry_offered (Some h) outcome.Put (odd, (h, refl, fits, enough));
          answered = refl;
          offers_are = offers;
          readings_are = ap readings_of offers ∙ map-append (λ (q : Offered). q.reading) os (o ∷ []);
          put_is = put;
          counted = ap (λ (l : List Offered). gap_of (trailing l)) offers ∙ ap gap_of (trailing_put os o refl);
          more = more;
          steps_are = steps;
          are_steps = are;
          still_open = ended;
          gap_same = gap;
        },
      )

module _ (bus slots : ℕ) (reading : Reading) (v : View) where
  pub may_one : (n : ℕ) → MayItems bus slots reading None v → n ≡ length v.putting.put + 1 → MayRecord bus slots reading n v
  may_one n h count = record {
    may = h.may;
    open_ = h.open_;
    mine = h.mine;
    odd = h.odd;
    its = h.its;
    number = h.number;
    room = h.room;
    led = h.no_lead ∙ h.led_is;
    head_is = h.head_is;
    enough = h.enough;
    count = count;
  }

  module _ (x : Item) (h : MayItems bus slots reading (Some x) v) where
    pub may_lead : (n : ℕ) → n ≡ length v.putting.put + 1 → MayLead bus x n v
    may_lead n count =
        let led : IsLead bus v.putting.offers v.putting.attach (x ∷ []) = record { reading = reading; bus_is = h.its; number_is = h.number; attached = h.odd; lead_is = h.led_is } in
        record { may = h.may; open_ = h.open_; mine = h.mine; no_lead = h.no_lead; is_lead = led; count = count }

    pub may_reach : (n : ℕ) → MayReach slots (record v { putting = lead_put x n v.putting })
    may_reach n =
        let two : 1 ≡ length (lead v.putting.offers reading v.putting.attach) = ap length h.led_is in
        let enough = h.enough in
        let fits = h.head_is in
        record {
          may = h.may;
          open_ = h.open_;
          home = refl;
          room = omega (arith, length-append v.putting.put (x ∷ []), ap length h.put_is);
        }

    pub may_two : (n m again : ℕ) → m ≡ length v.putting.put + 2 → MayRecord bus slots reading m (did_reach again (record v { putting = lead_put x n v.putting }))
    may_two n m again count = record {
      may = h.may;
      open_ = h.open_;
      mine = refl;
      odd = h.odd;
      its = h.its;
      number = h.number;
      room = h.room;
      led = h.led_is;
      head_is = h.head_is;
      enough = h.enough;
      count = omega (arith, length-append v.putting.put (x ∷ []));
    }

-- what was seen of the words in an offer: the attach word is odd, and the head was loaded
pub record Seen (slots a h : ℕ) (c : Count) (reading : Reading) (led : Option Item) (v v1 v2 : View) : Type 0 where
  pub words : Attaching v a
  pub odd : IsAttached a
  pub first : v1 ≡ record v { putting = attach_seen reading a v.putting }
  pub second : v2 ≡ record v1 { putting = head_seen slots reading h v1.putting }
  pub fits : IsHeadOf slots (length (put_of v1.putting.offers)) h
  pub led_is : option_to_list led ≡ cond (a == c.turn) (gap_item reading.bus c.missed) (item.Start reading.bus reading.number a ∷ [])

pub odd_from : (a : ℕ) → (a % 2 ≡ 0 → ⊥) → IsAttached a
odd_from a h = let low : a % 2 < 2 = mod_below a 2 (omega arith) in
    ⊎_elim (λ (e : a % 2 ≡ 0). absurd (h e)) (λ (e : a % 2 ≢ 0). omega arith) (cases_eq (a % 2) 0)

module _ (bus slots a h : ℕ) (c : Count) (reading : Reading) (led : Option Item) (v v1 v2 : View) (rests : PutterRests c v) (may : MayOffer bus reading v)
    (seen : Seen slots a h c reading led v v1 v2) where
  abbrev q2 : Putting
  q2 = did_put (with_attach v.putting a) (did.Loaded attach_word a)

  abbrev q3 : Putting
  q3 = did_put (with_slot (with_head q2 h)) (did.Loaded head_word h)

  first_is : v1 ≡ record v { putting = q2 }
  first_is =
      let test : (a % 2 == 0) ≡ false = let odd = seen.odd in ne_eqb (a % 2) 0 (λ e. omega arith) in
      seen.first ∙ ap (λ (q : Putting). record v { putting = did_put q (did.Loaded attach_word a) })
      (cond-false (a % 2 == 0) (with_offer (with_attach v.putting a) reading None outcome.Away) (with_attach v.putting a) test)

  fits_here : IsHeadOf slots (length (put_of v.putting.offers)) h
  fits_here = subst (λ (u : View). IsHeadOf slots (length (put_of u.putting.offers)) h) first_is seen.fits

  second_is : v2 ≡ record v { putting = head_seen slots reading h q2 }
  second_is = seen.second ∙ ap (λ (u : View). record u { putting = head_seen slots reading h u.putting }) first_is

  led_here : option_to_list led ≡ lead v.putting.offers reading a
  led_here =
      let start : List Item = item.Start reading.bus reading.number a ∷ [] in
      seen.led_is
      ∙ (ap (λ (t : ℕ). cond (a == t) (gap_item reading.bus c.missed) start) rests.turn_is
      ∙ ap (λ (m : Option Missed). cond (a == turn_of v.putting.offers) (gap_item reading.bus m) start) rests.missed_is)

  tail_here : c.tail ≡ length (put_of v.putting.offers)
  tail_here = rests.tail_is ∙ ap length rests.put_is

  module _ (capacity needed : ℕ) (wide : capacity ≡ slots) (need : needed ≡ length (option_to_list led) + 1) where
    needed_here : needed ≡ slots_needed v.putting.offers reading a
    needed_here = need ∙ ap (λ (l : List Item). length l + 1) led_here

    free_here : capacity - (c.tail - h) ≡ slots_free slots h (length (put_of v.putting.offers))
    free_here = ap (λ (n : ℕ). n - (c.tail - h)) wide ∙ ap (λ (n : ℕ). slots - (n - h)) tail_here

    pub refused_end : capacity - (c.tail - h) < needed
        → PutterRests (record c { number = c.number + 1; missed = cond (a == c.turn) (Some (longer c.missed reading)) c.missed }) v2 × OfferMade bus slots reading v v2 (offer.Refused reading h)
    refused_end less =
        let free = free_here in
        let need_is = needed_here in
        let short : slots_free slots h (length (put_of v.putting.offers)) < slots_needed v.putting.offers reading a = omega arith in
        let test : is_short slots h q2 reading ≡ true = lt-ltb (slots_free slots h (length (put_of v.putting.offers))) (slots_needed v.putting.offers reading a) short in
        refused_leaves bus slots a c reading v rests may seen.words seen.odd h fits_here short v2
        (second_is ∙ ap (λ (q : Putting). record v { putting = did_put q (did.Loaded head_word h) })
        (cond-true (is_short slots h q2 reading) (with_offer (with_head q2 h) reading (Some h) outcome.Refused) (with_slot (with_head q2 h)) test))

    module _ (room : needed ≤ capacity - (c.tail - h)) where
      enough_here : slots_needed v.putting.offers reading a ≤ slots_free slots h (length (put_of v.putting.offers))
      enough_here = let free = free_here in let need_is = needed_here in omega arith

      roomy : is_short slots h q2 reading ≡ false
      roomy = le-ltb (slots_free slots h (length (put_of v.putting.offers))) (slots_needed v.putting.offers reading a) enough_here

      third_is : v2 ≡ record v { putting = q3 }
      third_is =
          second_is ∙ ap (λ (q : Putting). record v { putting = did_put q (did.Loaded head_word h) })
          (cond-false (is_short slots h q2 reading) (with_offer (with_head q2 h) reading (Some h) outcome.Refused) (with_slot (with_head q2 h)) roomy)

      pub may_items : MayItems bus slots reading led v2
      may_items = subst (λ (u : View). MayItems bus slots reading led u) (sym third_is) record {
        may = rests.puts;
        open_ = may.open_;
        mine = refl;
        no_lead = rests.no_lead;
        put_is = rests.put_is;
        odd = seen.odd;
        its = may.its;
        number = may.number;
        room = may.room;
        led_is = led_here;
        head_is = fits_here;
        enough = enough_here;
      }

      pub hand_here : (l : List (ℕ × Option Item)) → l ≡ cond (is_short slots h v1.putting reading) [] (slot_taken slots v1.putting) → l ≡ slot_taken slots v2.putting
      hand_here l e =
          e
          ∙ (ap (λ (u : View). cond (is_short slots h u.putting reading) [] (slot_taken slots u.putting)) first_is
          ∙ (cond-false (is_short slots h q2 reading) [] (slot_taken slots q2) roomy
          ∙ ap (λ (u : View). slot_taken slots u.putting) (sym third_is)))

      pub tail_now : c.tail ≡ length v2.putting.put
      tail_now = rests.tail_is ∙ ap (λ (u : View). length u.putting.put) (sym third_is)

      abbrev LA : Did
      LA = did.Loaded attach_word a

      abbrev LH : Did
      LH = did.Loaded head_word h

      abbrev T : ℕ
      T = length (put_of v.putting.offers)

      pub put_end : (l : Option Item) → led ≡ l → (v3 : View) (next : ℕ) → ItemsPut l reading c.tail v2 v3 next
          → PutterRests (record { tail = next; number = c.number + 1; turn = a; missed = None }) v3 × OfferMade bus slots reading v v3 offer.Put
      put_end None none v3 next put =
          let empty : [] ≡ lead v.putting.offers reading a = ap option_to_list (sym none) ∙ led_here in
          let q : Putting = record_put reading (c.tail + 1) q3 in
          let view : v3 ≡ record v { putting = q } = put.0 ∙ ap (one_put reading c.tail) third_is in
          let stored : did.Stored tail_word (c.tail + 1) ≡ did.Stored tail_word (T + 1) = ap (λ (n : ℕ). did.Stored tail_word (n + 1)) tail_here in
          let steps : q.steps ≡ v.putting.steps ++ LA ∷ LH ∷ did.Stored tail_word (T + 1) ∷ [] =
          ap (λ (d : Did). ((v.putting.steps ++ LA ∷ []) ++ LH ∷ []) ++ d ∷ []) stored
          ∙ (append_assoc (v.putting.steps ++ LA ∷ []) (LH ∷ []) (did.Stored tail_word (T + 1) ∷ [])
          ∙ append_assoc v.putting.steps (LA ∷ []) (LH ∷ did.Stored tail_word (T + 1) ∷ [])) in
          let one : slots_needed v.putting.offers reading a ≡ 1 = ap (λ (l : List Item). length l + 1) (sym empty) in
          put_leaves bus slots a c reading v rests may seen.words seen.odd h fits_here enough_here q (LA ∷ LH ∷ did.Stored tail_word (T + 1) ∷ []) next refl
          (ap (λ (l : List Item). v.putting.put ++ (l ++ item.Reading reading ∷ [])) empty) refl refl refl refl steps (h, refl, inl (one, refl))
          (omega (arith, put.1, rests.tail_is, length-append v.putting.put (item.Reading reading ∷ []))) (omega (arith, put.1)) v3 view
      put_end (Some x) some_x v3 next put =
          let full : x ∷ [] ≡ lead v.putting.offers reading a = ap option_to_list (sym some_x) ∙ led_here in
          let n : ℕ = put.0.0 in
          let q : Putting = record_put reading (c.tail + 2) (did_put (with_slot (lead_put x (c.tail + 1) q3)) (did.Loaded head_word n)) in
          let view : v3 ≡ record v { putting = q } = put.0.1 ∙ ap (two_put x n reading c.tail) third_is in
          let LN : Did = did.Loaded head_word n in
          let S : ℕ → Did = λ k. did.Stored tail_word k in
          let steps : q.steps ≡ v.putting.steps ++ LA ∷ LH ∷ S (T + 1) ∷ LN ∷ S (T + 2) ∷ [] =
          ap (λ (t : ℕ). ((((v.putting.steps ++ LA ∷ []) ++ LH ∷ []) ++ S (t + 1) ∷ []) ++ LN ∷ []) ++ S (t + 2) ∷ []) tail_here
          ∙ (append_assoc (((v.putting.steps ++ LA ∷ []) ++ LH ∷ []) ++ S (T + 1) ∷ []) (LN ∷ []) (S (T + 2) ∷ [])
          ∙ (append_assoc ((v.putting.steps ++ LA ∷ []) ++ LH ∷ []) (S (T + 1) ∷ []) (LN ∷ S (T + 2) ∷ [])
          ∙ (append_assoc (v.putting.steps ++ LA ∷ []) (LH ∷ []) (S (T + 1) ∷ LN ∷ S (T + 2) ∷ [])
          ∙ append_assoc v.putting.steps (LA ∷ []) (LH ∷ S (T + 1) ∷ LN ∷ S (T + 2) ∷ [])))) in
          let two : slots_needed v.putting.offers reading a ≡ 2 = ap (λ (l : List Item). length l + 1) (sym full) in
          let put_is : q.put ≡ v.putting.put ++ (lead v.putting.offers reading a ++ item.Reading reading ∷ []) =
          append_assoc v.putting.put (x ∷ []) (item.Reading reading ∷ [])
          ∙ ap (λ (l : List Item). v.putting.put ++ (l ++ item.Reading reading ∷ [])) full in
          put_leaves bus slots a c reading v rests may seen.words seen.odd h fits_here enough_here q (LA ∷ LH ∷ S (T + 1) ∷ LN ∷ S (T + 2) ∷ []) next refl
          put_is refl refl refl refl steps (h, refl, inr (two, (n, refl)))
          (omega (arith, put.1, rests.tail_is, length-append v.putting.put (x ∷ []), length-append (v.putting.put ++ x ∷ []) (item.Reading reading ∷ []))) (omega (arith, put.1)) v3 view

-- after a refusal no slot is out
pub refused_hand : (bus slots a h capacity needed : ℕ) (c : Count) (reading : Reading) (led : Option Item) (v v1 v2 : View) → PutterRests c v → MayOffer bus reading v
    → Seen slots a h c reading led v v1 v2 → capacity ≡ slots → needed ≡ length (option_to_list led) + 1 → capacity - (c.tail - h) < needed
    → (l : List (ℕ × Option Item)) → l ≡ cond (is_short slots h v1.putting reading) [] (slot_taken slots v1.putting) → l ≡ []
refused_hand bus slots a h capacity needed c reading led v v1 v2 rests may seen wide need less l e =
    let free = free_here bus slots a h c reading led v v1 v2 rests may seen capacity needed wide need in
    let need_is = needed_here bus slots a h c reading led v v1 v2 rests may seen capacity needed wide need in
    let first = first_is bus slots a h c reading led v v1 v2 rests may seen in
    let q : Putting = did_put (with_attach v.putting a) (did.Loaded attach_word a) in
    let short : slots_free slots h (length (put_of v.putting.offers)) < slots_needed v.putting.offers reading a = omega arith in
    let test : is_short slots h q reading ≡ true = lt-ltb (slots_free slots h (length (put_of v.putting.offers))) (slots_needed v.putting.offers reading a) short in
    e ∙ (ap (λ (u : View). cond (is_short slots h u.putting reading) [] (slot_taken slots u.putting)) first ∙ cond-true (is_short slots h q reading) [] (slot_taken slots q) test)
