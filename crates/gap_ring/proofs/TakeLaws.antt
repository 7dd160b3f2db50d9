-- Each step of the taker keeps the rule.
use Rattle.std.proofs.Common.{◌≡◌, ◌≢◌, ◌⊎◌, ℕ, ◌+◌, ◌%◌, ◌≤◌, ◌==◌, Bool, true, false, List, [], ◌∷◌, ◌++◌, length, set}
use Rattle.std.proofs.Common.{slice_index, slice_get, All, MatchBool, Option, Some, None, refl, sym, ap, ◌∙◌, subst, arith, inl, inr, ⊎_elim, length-set, length-append}
use Rattle.std.proofs.Common.{append-nil, append_assoc, eq-eqb, ne_eqb}
use Rattle.std.proofs.lemmas.Bool.{cases_Bool, cases_eq, cond-true, cond-false}
use Rattle.std.proofs.lemmas.Option.{none-some, same_Some}
use Rattle.std.proofs.lemmas.List.{length-map, map-append, nil_from_length}
use Rattle.std.proofs.lemmas.List.Elements.{All-push, All-weaker, All-head}
use Rattle.std.proofs.lemmas.List.Quantifiers.{all_pairs_push}
use mathlib.Core.Option.{none, some}
use mathlib.Core.Option as maybe
use lib.ListN.{get_elem?}
use Rattle.atomic_table.specs.Table.{State, Act, step, keeps, takes, gives, put_back, rest, stepped, carried_after, homes_after, Valid, Allows}
use Rattle.bench_model.specs.declared.reading.Item.{Item}
use Rattle.gap_ring.specs.declared.entries.Offered.{Offered}
use Rattle.gap_ring.specs.declared.entries.Taken.{Taken}
use Rattle.gap_ring.specs.declared.view.Did.TheVariants as did
use Rattle.gap_ring.specs.declared.view.Putting.{Putting}
use Rattle.gap_ring.specs.declared.view.Taking.{Taking}
use Rattle.gap_ring.specs.declared.view.View.{View}
use Rattle.gap_ring.specs.Offers.{put_of, trailing, gap_of, IsHeadBy, AreOffers}
use Rattle.gap_ring.specs.Turns.{items_taken, IsStartBy, AreTaken}
use Rattle.gap_ring.specs.Rule.{head_word, tail_word, end_word, attach_word, first_word, last_word, versions_word, gap_words_of}
use Rattle.gap_ring.specs.Rule.{PutRule, TakeRule, Slots, EndRule, KeptBy, Kept}
use Rattle.gap_ring.specs.Steps.{Sat, TakerLoads, TakerStores, did_take, IsAll, end_loaded, saw_end, tail_loaded, saw_tail, gap_word, saw_gap}
use Rattle.gap_ring.specs.Steps.{taken_now, head_stored, stored_head, attach_stored, stored_attach, HaveMet, learned}
use Rattle.gap_ring.proofs.PlaceLaws.{all_right, head_same}
use Rattle.gap_ring.specs.May.{IsGapWord, MayTurn, MayTake, MayGive}
use Rattle.gap_ring.proofs.SeatLaws.{seats_after_take}
use Rattle.gap_ring.proofs.WordLaws as words
use Rattle.gap_ring.proofs.SlotLaws.{slots_same, head_full, head_taken, head_given}
use Rattle.gap_ring.proofs.NextLaws.{next_is}
use Rattle.gap_ring.proofs.PutLaws.{start_by_later, head_later}

abbrev Board : Type 0
Board = State (Option Item) View

-- the rule, by what the taker's seat knows
pub taker_own : (bus : ℕ) (s : Board) (id : ℕ) (v : View) → Kept bus s → get_elem? s.views id ≡ some v → v.takes ≡ true → (p : Putting) × KeptBy bus s p v.taking
taker_own bus s id v r at may = (r.p, subst (λ t. KeptBy bus s r.p t) (sym (((r.by.each_seat id v at).1 may).1)) r.by)

module _ (bus : ℕ) (s : Board) (id : ℕ) (v : View) (p : Putting) (r : KeptBy bus s p v.taking) (at : get_elem? s.views id ≡ some v) (may : v.takes ≡ true) where
  -- a load that takes no slot
  quiet : (i : ℕ) (t' : Taking) → t'.bus ≡ v.taking.bus → t'.taken ≡ v.taking.taken → t'.attach ≡ v.taking.attach → t'.hand ≡ v.taking.hand → EndRule p t'
      → KeptBy bus (record { words = set s.words i (slice_index s.words i); homes = s.homes; views = set s.views id (record v { taking = t' }) }) p t'
  quiet i t' its taken attach hand end =
      let h = r.take in
      let low = h.attach_seen in
      record {
        waiting = r.waiting;
        putter = r.putter;
        taker = r.taker;
        bus_is = its ∙ r.bus_is;
        deep = r.deep;
        words = words.words_loaded s.words i p p v.taking t' r.words refl refl refl (ap length taken) attach;
        put = r.put;
        take = record {
          split = h.split ∙ ap (λ ts. items_taken ts ++ r.waiting) (sym taken);
          room = h.room;
          slot_free = h.slot_free;
          hand_is = λ x e. h.hand_is x (sym hand ∙ e);
          attach_seen = omega arith;
          head_seen = subst (λ n. p.head ≤ n) (sym (ap length taken)) h.head_seen;
          taken = subst (λ a. AreTaken a t'.taken) (sym attach) (subst (AreTaken v.taking.attach) (sym taken) h.taken);
          starts = subst (λ a. All (IsStartBy a) p.put) (sym attach) h.starts;
        };
        slots = slots_same s.homes p p v.taking t' r.waiting r.slots refl hand taken;
        end = end;
        each_seat = seats_after_take r.putter r.taker p v.taking s.views r.each_seat id v t' at may;
      }

-- the end word
pub sees_end : (bus slots id : ℕ) (me : Sat) → me.0.takes ≡ true → Allows (Kept bus) slots id me end_word (λ n. n) (TakerLoads saw_end (step slots end_word 0 0 none) me)
sees_end bus slots id me may s kept deep at below =
    let own = taker_own bus s id me.0 kept at may in
    let p : Putting = own.0 in
    let r : KeptBy bus s p me.0.taking = own.1 in
    let n : ℕ = slice_index s.words end_word in
    let t' : Taking = end_loaded n me.0.taking in
    let seen : (n ≡ 0) ⊎ ((p.ended ≡ true) × (n ≡ length p.offers + 1)) =
    ⊎_elim
    (λ (e : p.ended ≡ true). inr (e, r.words.end_is ∙ cond-true p.ended (length p.offers + 1) 0 e))
    (λ (e : p.ended ≡ false). inl (r.words.end_is ∙ cond-false p.ended (length p.offers + 1) 0 e))
    (cases_Bool p.ended) in
    let end : EndRule p t' = record { no_lead = r.end.no_lead; gap_is = r.end.gap_is; fits = r.end.fits; end_seen = seen; done_is = r.end.done_is } in (
      record me.0 { taking = t' },
      keeps,
      tt,
      record { p = p; t = t'; by = quiet bus s id me.0 p r at may end_word t' refl refl refl refl end },
      ((refl, refl), refl),
    )

-- a gap word
gap_load : (bus slots id word : ℕ) (me : Sat) → me.0.takes ≡ true
    → ((s : Board) (p : Putting) → KeptBy bus s p me.0.taking → slice_index s.words word ≡ gap_word word p.gap)
    → Allows (Kept bus) slots id me word (λ n. n) (TakerLoads saw_gap (step slots word 0 0 none) me)
gap_load bus slots id word me may is s kept deep at below =
    let own = taker_own bus s id me.0 kept at may in
    let p : Putting = own.0 in
    let r : KeptBy bus s p me.0.taking = own.1 in
    let t : Taking = me.0.taking in
    let n : ℕ = slice_index s.words word in
    let t' : Taking = record t { steps = t.steps ++ did.Loaded word n ∷ [] } in
    let end : EndRule p t' = record { no_lead = r.end.no_lead; gap_is = r.end.gap_is; fits = r.end.fits; end_seen = r.end.end_seen; done_is = r.end.done_is } in (
      record me.0 { taking = t' },
      keeps,
      tt,
      record { p = p; t = t'; by = quiet bus s id me.0 p r at may word t' refl refl refl refl end },
      (
        (
          refl,
          refl,
          λ done. let d = r.end.done_is done in
              is s p r ∙ (ap (gap_word word) (r.end.gap_is d.0) ∙ ap (λ os. gap_word word (gap_words_of (gap_of (trailing os)))) (sym d.1)),
        ),
        refl,
      ),
    )

pub sees_first : (bus slots id : ℕ) (me : Sat) → me.0.takes ≡ true → Allows (Kept bus) slots id me first_word (λ n. n) (TakerLoads saw_gap (step slots first_word 0 0 none) me)
sees_first bus slots id me may = gap_load bus slots id first_word me may (λ s p r. r.words.first_is)

pub sees_last : (bus slots id : ℕ) (me : Sat) → me.0.takes ≡ true → Allows (Kept bus) slots id me last_word (λ n. n) (TakerLoads saw_gap (step slots last_word 0 0 none) me)
sees_last bus slots id me may = gap_load bus slots id last_word me may (λ s p r. r.words.last_is)

pub sees_versions : (bus slots id : ℕ) (me : Sat) → me.0.takes ≡ true → Allows (Kept bus) slots id me versions_word (λ n. n) (TakerLoads saw_gap (step slots versions_word 0 0 none) me)
sees_versions bus slots id me may = gap_load bus slots id versions_word me may (λ s p r. r.words.versions_is)

pub turns : (bus slots id n : ℕ) (me : Sat) → MayTurn n me.0 → Allows (Kept bus) slots id me attach_word (λ _. n) (λ _. TakerStores stored_attach (step slots attach_word n 0 none) me n)
turns bus slots id n me may s kept deep at below =
    let own = taker_own bus s id me.0 kept at may.may in
    let p : Putting = own.0 in
    let r : KeptBy bus s p me.0.taking = own.1 in
    let t : Taking = me.0.taking in
    let t' : Taking = attach_stored n t in
    let h = r.take in
    let seen = h.attach_seen in
    let higher : t.attach ≤ n = omega (arith, may.next) in (
      record me.0 { taking = t' },
      keeps,
      tt,
      record {
        p = p;
        t = t';
        by = record {
          waiting = r.waiting;
          putter = r.putter;
          taker = r.taker;
          bus_is = r.bus_is;
          deep = r.deep;
          words = words.attach_stored s.words p t r.words n t' refl refl;
          put = r.put;
          take = record {
            split = h.split;
            room = h.room;
            slot_free = h.slot_free;
            hand_is = h.hand_is;
            attach_seen = omega arith;
            head_seen = h.head_seen;
            taken = record {
              words_rise = h.taken.words_rise;
              words_bounded = All-weaker (λ (x : Taken). x.attach ≤ t.attach) (λ x. x.attach ≤ n) (λ x low. omega arith) t.taken h.taken.words_bounded;
              in_time = h.taken.in_time;
            };
            starts = All-weaker (IsStartBy t.attach) (IsStartBy n) (λ x. start_by_later t.attach n x higher) p.put h.starts;
          };
          slots = slots_same s.homes p p t t' r.waiting r.slots refl refl refl;
          end = record { no_lead = r.end.no_lead; gap_is = r.end.gap_is; fits = r.end.fits; end_seen = r.end.end_seen; done_is = r.end.done_is };
          each_seat = seats_after_take r.putter r.taker p t s.views r.each_seat id me.0 t' at may.may;
        };
      },
      ((refl, refl), refl),
    )

match_true : (b : Bool) (P Q : Type 0) → b ≡ true → P → MatchBool b P Q
match_true b P Q e h = subst (λ c. MatchBool c P Q) (sym e) h

match_false : (b : Bool) (P Q : Type 0) → b ≡ false → Q → MatchBool b P Q
match_false b P Q e h = subst (λ c. MatchBool c P Q) (sym e) h

module _ (bus slots id : ℕ) (me : Sat) (may : MayTake me.0) (bare : me.1 ≡ []) (s : Board) (deep : length s.homes ≡ slots)
    (at : get_elem? s.views id ≡ some me.0) (p : Putting) (r : KeptBy bus s p me.0.taking) where
  abbrev t : Taking
  t = me.0.taking

  abbrev n : ℕ
  n = slice_index s.words tail_word

  abbrev then_is : Sat → Type 0
  then_is = TakerLoads saw_tail (step slots tail_word 0 0 none) me n

  abbrev Result : Type 0
  Result = (w : View) × (a : Act (Option Item)) × Valid s.homes me.1 a × Kept bus (stepped s tail_word n id me.1 w a) × then_is (w, carried_after me.1 a)

  counts : n ≡ length t.taken + length r.waiting
  counts =
      let split : length p.put ≡ length (items_taken t.taken ++ r.waiting) = ap length r.take.split in
      let count : length (items_taken t.taken) ≡ length t.taken = length-map t.taken (λ (x : Taken). x.item) in
      omega (arith, r.words.tail_is, length-append (items_taken t.taken) r.waiting)

  -- none waits, and the ring goes on
  goes_on : n ≡ length t.taken → t.end ≡ 0 → Result
  goes_on same open_ =
      let t' : Taking = tail_loaded n t in
      let end : EndRule p t' = record { no_lead = r.end.no_lead; gap_is = r.end.gap_is; fits = r.end.fits; end_seen = r.end.end_seen; done_is = r.end.done_is } in (
        record me.0 { taking = t' },
        keeps,
        tt,
        record { p = p; t = t'; by = quiet bus s id me.0 p r at may.may tail_word t' refl refl refl refl end },
        (match_true (n == length t.taken) _ _ (eq-eqb n (length t.taken) same) (match_true (t.end == 0) _ _ (eq-eqb t.end 0 open_) (refl, refl)), refl),
      )

  -- none waits, and the ring has ended
  ends_here : n ≡ length t.taken → t.end ≢ 0 → Result
  ends_here same ended =
      let known : List Offered = p.offers in
      let t' : Taking = tail_loaded n (record t { done = true; known = known }) in
      let seen : (p.ended ≡ true) × (t.end ≡ length p.offers + 1) =
      ⊎_elim (λ (e : t.end ≡ 0). absurd (ended e)) (λ (e : (p.ended ≡ true) × (t.end ≡ length p.offers + 1)). e) r.end.end_seen in
      let c = counts in
      let none_left : r.waiting ≡ [] = nil_from_length r.waiting (omega arith) in
      let all : items_taken t.taken ≡ p.put = sym (r.take.split ∙ (ap (λ xs. items_taken t.taken ++ xs) none_left ∙ append-nil (items_taken t.taken))) in
      let put : p.put ≡ put_of p.offers = r.put.put_is ∙ (ap (λ xs. put_of p.offers ++ xs) (r.end.no_lead seen.0) ∙ append-nil (put_of p.offers)) in
      let higher = r.take.attach_seen in
      let end : EndRule p t' = record { no_lead = r.end.no_lead; gap_is = r.end.gap_is; fits = r.end.fits; end_seen = r.end.end_seen; done_is = λ _. (seen.0, refl, all) } in
      let offered : AreOffers t.bus slots p.offers = subst (λ b. AreOffers b slots p.offers) (sym r.bus_is) (subst (λ k. AreOffers bus k p.offers) deep r.put.offered) in
      let is_all : IsAll slots t known = record {
        number = seen.1;
        offered = offered;
        all_taken = all ∙ put;
        words = r.take.taken;
        low = All-weaker (λ (o : Offered). o.attach ≤ p.attach) (λ o. o.attach ≤ t.attach) (λ o low. omega arith) p.offers r.put.attach_high;
        fits = r.end.fits seen.0;
      } in (
        record me.0 { taking = t' },
        keeps,
        tt,
        record { p = p; t = t'; by = quiet bus s id me.0 p r at may.may tail_word t' refl refl refl refl end },
        (
          match_true (n == length t.taken) _ _ (eq-eqb n (length t.taken) same)
              (match_false (t.end == 0) _ _ (ne_eqb t.end 0 ended) (known, refl, refl, is_all, λ d. sym (r.end.done_is d).1)),
          refl,
        ),
      )

  -- an item waits
  waits : (x : Item) (more : List Item) → r.waiting ≡ x ∷ more → n ≢ length t.taken → Result
  waits x more is other =
      let t' : Taking = tail_loaded n (record t { hand = Some x }) in
      let h : TakeRule (length s.homes) p t (x ∷ more) = subst (TakeRule (length s.homes) p t) is r.take in
      let slots_are : Slots s.homes p t (x ∷ more) = subst (Slots s.homes p t) is r.slots in
      let k : ℕ = length t.taken % length s.homes in
      let hs : List (maybe.Option (Option Item)) = set s.homes k none in
      let count : length hs ≡ length s.homes = length-set s.homes k none in
      let two = r.deep in
      let slot : (k, Some x) ∷ me.1 ≡ (length t.taken % slots, Some x) ∷ [] =
      ap (λ m. (length t.taken % m, Some x) ∷ me.1) deep ∙ ap (λ l. (length t.taken % slots, Some x) ∷ l) bare in (
        record me.0 { taking = t' },
        takes k (Some x),
        head_full s.homes p t t' x more slots_are h.room may.empty,
        record {
          p = p;
          t = t';
          by = record {
            waiting = x ∷ more;
            putter = r.putter;
            taker = r.taker;
            bus_is = r.bus_is;
            deep = omega arith;
            words = words.words_loaded s.words tail_word p p t t' r.words refl refl refl refl refl;
            put = subst (λ m. PutRule bus m p) (sym count) r.put;
            take = subst (λ m. TakeRule m p t' (x ∷ more)) (sym count) record {
              split = h.split;
              room = h.room;
              slot_free = h.slot_free;
              hand_is = λ y e. e;
              attach_seen = h.attach_seen;
              head_seen = h.head_seen;
              taken = h.taken;
              starts = h.starts;
            };
            slots = head_taken s.homes p t t' x more slots_are h.room refl refl;
            end = record { no_lead = r.end.no_lead; gap_is = r.end.gap_is; fits = r.end.fits; end_seen = r.end.end_seen; done_is = r.end.done_is };
            each_seat = seats_after_take r.putter r.taker p t s.views r.each_seat id me.0 t' at may.may;
          };
        },
        (
          match_false (n == length t.taken) _ _ (ne_eqb n (length t.taken) other)
              (x, refl, slot, next_is bus (length s.homes) p r.put t x more r.bus_is h.split, let c = counts in let w : length r.waiting ≡ length (x ∷ more) = ap length is in omega arith),
          refl,
        ),
      )

  by_waiting : (ws : List Item) → r.waiting ≡ ws → n ≢ length t.taken → Result
  by_waiting [] is other = absurd (other (let c = counts in let e : length r.waiting ≡ 0 = ap length is in omega arith))
  by_waiting (x ∷ more) is other = waits x more is other

  tail_seen : Result
  tail_seen =
      ⊎_elim
      (λ (same : n ≡ length t.taken).
      ⊎_elim (λ (e : t.end ≡ 0). goes_on same e) (λ (e : t.end ≢ 0). ends_here same e) (cases_eq t.end 0))
      (λ (other : n ≢ length t.taken). by_waiting r.waiting refl other)
      (cases_eq n (length t.taken))

pub sees_tail : (bus slots id : ℕ) (me : Sat) → MayTake me.0 → me.1 ≡ [] → Allows (Kept bus) slots id me tail_word (λ n. n) (TakerLoads saw_tail (step slots tail_word 0 0 none) me)
sees_tail bus slots id me may bare s kept deep at below =
    let own = taker_own bus s id me.0 kept at may.may in
    tail_seen bus slots id me may bare s deep at own.0 own.1

module _ (bus slots id n : ℕ) (me : Sat) (x : Item) (may : MayGive x n me.0) (held : me.1 ≡ (length me.0.taking.taken % slots, None) ∷ []) (s : Board)
    (deep : length s.homes ≡ slots) (at : get_elem? s.views id ≡ some me.0) (p : Putting) (r : KeptBy bus s p me.0.taking) where
  abbrev old : Taking
  old = me.0.taking

  abbrev entry : Taken
  entry = record { item = x; attach = old.attach }

  abbrev new : Taking
  new = head_stored n old

  taken_is : new.taken ≡ old.taken ++ entry ∷ []
  taken_is = ap (λ h. old.taken ++ taken_now old h) may.hand

  given_by : (ws : List Item) → r.waiting ≡ ws → Kept bus (stepped s head_word n id me.1 (record me.0 { taking = new }) gives)
  given_by [] is = absurd (none-some x (ap (λ ws. slice_get ws 0) (sym is) ∙ r.take.hand_is x may.hand))
  given_by (y ∷ more) is =
      let there : slice_get (y ∷ more) 0 ≡ Some x = ap (λ ws. slice_get ws 0) (sym is) ∙ r.take.hand_is x may.hand in
      let same : y ≡ x = same_Some y x there in
      let is_x : r.waiting ≡ x ∷ more = is ∙ ap (λ z. z ∷ more) same in
      let h : TakeRule (length s.homes) p old (x ∷ more) = subst (TakeRule (length s.homes) p old) is_x r.take in
      let slots_are : Slots s.homes p old (x ∷ more) = subst (Slots s.homes p old) is_x r.slots in
      let k : ℕ = length old.taken % length s.homes in
      let hs : List (maybe.Option (Option Item)) = set s.homes k (some None) in
      let count : length hs ≡ length s.homes = length-set s.homes k (some None) in
      let longer : length new.taken ≡ length old.taken + 1 = ap length taken_is ∙ length-append old.taken (entry ∷ []) in
      let back : homes_after s.homes me.1 gives ≡ hs =
      ap (λ l. put_back s.homes l) held ∙ ap (λ m. set s.homes (length old.taken % m) (some None)) (sym deep) in
      let items : items_taken new.taken ≡ items_taken old.taken ++ x ∷ [] = ap items_taken taken_is ∙ map-append (λ (z : Taken). z.item) old.taken (entry ∷ []) in
      let split : p.put ≡ items_taken new.taken ++ more =
      h.split ∙ (sym (append_assoc (items_taken old.taken) (x ∷ []) more) ∙ ap (λ xs. xs ++ more) (sym items)) in
      let start : IsStartBy old.attach x =
      All-head (IsStartBy old.attach) x more (all_right (IsStartBy old.attach) (items_taken old.taken) (x ∷ more) (subst (All (IsStartBy old.attach)) h.split h.starts)) in
      let words_taken : AreTaken old.attach (old.taken ++ entry ∷ []) = record {
        words_rise = all_pairs_push (λ (a b : Taken). a.attach ≤ b.attach) old.taken entry h.taken.words_rise h.taken.words_bounded;
        words_bounded = All-push (λ (a : Taken). a.attach ≤ old.attach) old.taken entry h.taken.words_bounded (omega arith);
        in_time = All-push (λ (a : Taken). IsStartBy a.attach a.item) old.taken entry h.taken.in_time start;
      } in
      let room = h.room in
      let two = r.deep in
      let seen = h.head_seen in
      let by : KeptBy bus (record { words = set s.words head_word n; homes = hs; views = set s.views id (record me.0 { taking = new }) }) p new = record {
        waiting = more;
        putter = r.putter;
        taker = r.taker;
        bus_is = r.bus_is;
        deep = omega arith;
        words = words.head_stored s.words p old r.words n new (omega (arith, may.next)) refl;
        put = subst (λ m. PutRule bus m p) (sym count) r.put;
        take = subst (λ m. TakeRule m p new more) (sym count) record {
          split = split;
          room = omega arith;
          slot_free = λ e. let f = h.slot_free e in omega arith;
          hand_is = λ z e. absurd (none-some z e);
          attach_seen = h.attach_seen;
          head_seen = omega arith;
          taken = subst (AreTaken old.attach) (sym taken_is) words_taken;
          starts = h.starts;
        };
        slots = head_given s.homes p old new x more slots_are h.room refl longer;
        end = record {
          no_lead = r.end.no_lead;
          gap_is = r.end.gap_is;
          fits = r.end.fits;
          end_seen = r.end.end_seen;
          done_is = λ d. absurd (
              let all : length (items_taken old.taken) ≡ length p.put = ap length (r.end.done_is d).2 in
              let parts : length p.put ≡ length (items_taken old.taken ++ x ∷ more) = ap length h.split in
              omega (arith, length-append (items_taken old.taken) (x ∷ more)));
        };
        each_seat = seats_after_take r.putter r.taker p old s.views r.each_seat id me.0 new at may.may;
      } in
      record { p = p; t = new; by = subst (λ homes. KeptBy bus (record { words = set s.words head_word n; homes = homes; views = set s.views id (record me.0 { taking = new }) }) p new) (sym back) by }

pub gives_head : (bus slots id n : ℕ) (me : Sat) (x : Item) → MayGive x n me.0 → me.1 ≡ (length me.0.taking.taken % slots, None) ∷ []
    → Allows (Kept bus) slots id me head_word (λ _. n) (λ _. TakerStores stored_head (step slots head_word n 0 none) me n)
gives_head bus slots id n me x may held s kept deep at below =
    let own = taker_own bus s id me.0 kept at may.may in (
      record me.0 { taking = head_stored n me.0.taking },
      gives,
      tt,
      given_by bus slots id n me x may held s deep at own.0 own.1 own.1.waiting refl,
      ((refl, ap rest held), refl),
    )

-- what both know, once one seat is both
pub learns : (bus slots id : ℕ) (me : Sat) → me.0.puts ≡ true → me.0.takes ≡ true
    → Allows (Kept bus) slots id me head_word (λ n. n) (TakerLoads (learned bus) (step slots head_word 0 0 none) me)
learns bus slots id me puts may s kept deep at below =
    let own = taker_own bus s id me.0 kept at may in
    let p : Putting = own.0 in
    let r : KeptBy bus s p me.0.taking = own.1 in
    let t : Taking = me.0.taking in
    let mine : me.0.putting ≡ p = ((r.each_seat id me.0 at).0 puts).1 in
    let end : EndRule p t = r.end in
    let after : EndRule p (did_take t (did.Loaded head_word (slice_index s.words head_word))) = record { no_lead = end.no_lead; gap_is = end.gap_is; fits = end.fits; end_seen = end.end_seen; done_is = end.done_is } in
    let higher = r.take.attach_seen in
    let n : ℕ = slice_index s.words head_word in
    let t' : Taking = did_take t (did.Loaded head_word n) in
    let met : HaveMet bus slots p t' = record {
      bus_is = r.bus_is;
      offered = subst (λ k. AreOffers bus k p.offers) deep r.put.offered;
      put_is = r.put.put_is;
      waiting = r.waiting;
      split = r.take.split;
      room = subst (λ k. length r.waiting ≤ k) deep r.take.room;
      words = r.take.taken;
      attach_low = omega (arith, r.put.attach_low);
      low = All-weaker (λ (o : Offered). o.attach ≤ p.attach) (λ o. o.attach ≤ t.attach) (λ o low. omega arith) p.offers r.put.attach_high;
      heads = All-weaker (IsHeadBy p.head) (IsHeadBy (length t.taken)) (λ o h. head_later p.head (length t.taken) o r.take.head_seen h) p.offers r.put.head_high;
      gap_is = r.end.gap_is;
      done = λ d. ((r.end.done_is d).1, (r.end.done_is d).2);
    } in (
      record me.0 { taking = t' },
      keeps,
      tt,
      record { p = p; t = t'; by = quiet bus s id me.0 p r at may head_word t' refl refl refl refl after },
      ((refl, refl, subst (λ q. HaveMet bus slots q t') (sym mine) met, r.words.head_is), refl),
    )

pub sees_gap : (bus slots id word : ℕ) (me : Sat) → me.0.takes ≡ true → IsGapWord word → Allows (Kept bus) slots id me word (λ n. n) (TakerLoads saw_gap (step slots word 0 0 none) me)
sees_gap bus slots id word me may which =
    let P : ℕ → Type 0 = λ w. Allows (Kept bus) slots id me w (λ n. n) (TakerLoads saw_gap (step slots w 0 0 none) me) in
    ⊎_elim
    (λ (e : word ≡ first_word). subst P (sym e) (sees_first bus slots id me may))
    (λ (o : (word ≡ last_word) ⊎ (word ≡ versions_word)).
    ⊎_elim
    (λ (e : word ≡ last_word). subst P (sym e) (sees_last bus slots id me may))
    (λ (e : word ≡ versions_word). subst P (sym e) (sees_versions bus slots id me may))
    o)
    which

-- a store of the head, once the slot in hand has nothing
pub head_ready : (bus slots id n k : ℕ) (me me' : Sat) (x : Item) → MayGive x n me.0 → k ≡ length me.0.taking.taken % slots → me.1 ≡ (length me.0.taking.taken % slots, Some x) ∷ []
    → me' ≡ (me.0, (k, None) ∷ rest me.1) → Allows (Kept bus) slots id me' head_word (λ _. n) (λ _. TakerStores stored_head (step slots head_word n 0 none) me' n)
head_ready bus slots id n k me me' x may place held is =
    let empty : Sat = (me.0, (length me.0.taking.taken % slots, None) ∷ []) in
    let same : me' ≡ empty = is ∙ (ap (λ (l : List (ℕ × Option Item)). (me.0, (k, None) ∷ rest l)) held ∙ ap (λ (m : ℕ). (me.0, (m, None) ∷ [])) place) in
    subst (λ (m : Sat). Allows (Kept bus) slots id m head_word (λ _. n) (λ _. TakerStores stored_head (step slots head_word n 0 none) m n)) (sym same)
    (gives_head bus slots id n empty x may refl)

-- the item taken is the one that was in hand
pub item_had : (k : ℕ) (x : Item) (y : Option Item) (l : List (ℕ × Option Item)) (m : ℕ) → l ≡ (m, Some x) ∷ [] → l ≡ (k, y) ∷ rest l → y ≡ Some x
item_had k x y l m e f =
    ap (λ (z : ℕ × Option Item). z.1) (head_same (k, y) (m, Some x) (rest l) [] (sym f ∙ e))
