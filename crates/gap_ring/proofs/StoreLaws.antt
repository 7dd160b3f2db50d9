-- Each store of a gap word and of the end word keeps the rule.
use Rattle.std.proofs.Common.{◌≡◌, ◌⊎◌, ℕ, ◌+◌, ◌<◌, Bool, true, true≢false, List, [], length, set}
use Rattle.std.proofs.Common.{refl, sym, ◌∙◌, subst, arith, inl, ⊎_elim}
use mathlib.Core.Option.{none, some}
use lib.ListN.{get_elem?}
use Rattle.atomic_table.specs.Table.{step, keeps, Allows}
use Rattle.gap_ring.specs.declared.view.Did.{Did}
use Rattle.gap_ring.specs.declared.view.GapWords.{GapWords}
use Rattle.gap_ring.specs.declared.view.Putting.{Putting}
use Rattle.gap_ring.specs.declared.view.Taking.{Taking}
use Rattle.gap_ring.specs.declared.view.View.{View}
use Rattle.gap_ring.specs.Offers.{trailing, gap_of, last_version_of}
use Rattle.gap_ring.specs.Rule.{end_word, first_word, last_word, versions_word, gap_words_of}
use Rattle.gap_ring.specs.Rule.{version_limit, Words, PutRule, EndRule, KeptBy, Kept}
use Rattle.gap_ring.specs.Steps.{Sat, PutterStores}
use Rattle.gap_ring.specs.Steps.{gap_stored, stored_gap, end_stored, stored_end}
use Rattle.gap_ring.specs.May.{IsGapWord, MayEnd}
use Rattle.gap_ring.proofs.SeatLaws.{seats_after_put}
use Rattle.gap_ring.proofs.WordLaws as words
use Rattle.gap_ring.proofs.SlotLaws.{slots_same}
use Rattle.gap_ring.proofs.PutLaws.{Board, putter_own, end_kept, take_kept}

module _ (bus : ℕ) (s : Board) (id : ℕ) (v : View) (p' : Putting) (t : Taking) (r : KeptBy bus s v.putting t)
    (at : get_elem? s.views id ≡ some v) (may : v.puts ≡ true) where
  -- a store that changes no slot
  word_stored : (ws : List ℕ) → p'.put ≡ v.putting.put → p'.holds_slot ≡ v.putting.holds_slot → p'.attach ≡ v.putting.attach → p'.head ≡ v.putting.head
      → Words ws p' t → EndRule p' t → PutRule bus (length s.homes) p' → KeptBy bus (record { words = ws; homes = s.homes; views = set s.views id (record v { putting = p' }) }) p' t
  word_stored ws put slot attach head is end rule =
      let low = r.take.attach_seen in
      let low' = r.take.head_seen in
      record {
        waiting = r.waiting;
        putter = r.putter;
        taker = r.taker;
        bus_is = r.bus_is;
        deep = r.deep;
        words = is;
        put = rule;
        take = take_kept (length s.homes) v.putting p' t r.waiting put (λ e. r.take.slot_free (sym slot ∙ e)) (omega arith) (omega arith) r.take;
        slots = slots_same s.homes v.putting p' t t r.waiting r.slots slot refl refl;
        end = end;
        each_seat = seats_after_put r.putter r.taker v.putting t s.views r.each_seat id v p' at may;
      }

put_rule_same : (bus capacity : ℕ) (p : Putting) (gap : GapWords) (ended : Bool) (steps : List Did) → PutRule bus capacity p → PutRule bus capacity (record p { gap = gap; ended = ended; steps = steps })
put_rule_same bus capacity p gap ended steps h = record { offered = h.offered; few = h.few; put_is = h.put_is; lead_is = h.lead_is; attach_low = h.attach_low; attach_high = h.attach_high; head_high = h.head_high }

pub stores_first : (bus slots id n : ℕ) (me : Sat) → MayEnd me.0 → Allows (Kept bus) slots id me first_word (λ _. n) (λ _. PutterStores stored_gap (step slots first_word n 0 none) me n)
stores_first bus slots id n me may s kept deep at below =
    let own = putter_own bus s id me.0 kept at may.may in
    let r : KeptBy bus s me.0.putting own.0 = own.1 in
    let p : Putting = me.0.putting in
    let p' : Putting = gap_stored first_word n p in
    let rule = put_rule_same bus (length s.homes) p p'.gap p.ended p'.steps r.put in
    let is = words.first_stored s.words p own.0 r.words n p' refl refl refl in (
      record me.0 { putting = p' },
      keeps,
      tt,
      record { p = p'; t = own.0; by = word_stored bus s id me.0 p' own.0 r at may.may (set s.words first_word n) refl refl refl refl is (end_kept p p' own.0 may.open_ may.open_ r.end) rule },
      ((refl, refl), refl),
    )

pub stores_last : (bus slots id n : ℕ) (me : Sat) → MayEnd me.0 → Allows (Kept bus) slots id me last_word (λ _. n) (λ _. PutterStores stored_gap (step slots last_word n 0 none) me n)
stores_last bus slots id n me may s kept deep at below =
    let own = putter_own bus s id me.0 kept at may.may in
    let r : KeptBy bus s me.0.putting own.0 = own.1 in
    let p : Putting = me.0.putting in
    let p' : Putting = gap_stored last_word n p in
    let rule = put_rule_same bus (length s.homes) p p'.gap p.ended p'.steps r.put in
    let is = words.last_stored s.words p own.0 r.words n p' refl refl refl in (
      record me.0 { putting = p' },
      keeps,
      tt,
      record { p = p'; t = own.0; by = word_stored bus s id me.0 p' own.0 r at may.may (set s.words last_word n) refl refl refl refl is (end_kept p p' own.0 may.open_ may.open_ r.end) rule },
      ((refl, refl), refl),
    )

pub stores_versions : (bus slots id n : ℕ) (me : Sat) → MayEnd me.0 → Allows (Kept bus) slots id me versions_word (λ _. n) (λ _. PutterStores stored_gap (step slots versions_word n 0 none) me n)
stores_versions bus slots id n me may s kept deep at below =
    let own = putter_own bus s id me.0 kept at may.may in
    let r : KeptBy bus s me.0.putting own.0 = own.1 in
    let p : Putting = me.0.putting in
    let p' : Putting = gap_stored versions_word n p in
    let rule = put_rule_same bus (length s.homes) p p'.gap p.ended p'.steps r.put in
    let is = words.versions_stored s.words p own.0 r.words n p' refl refl refl in (
      record me.0 { putting = p' },
      keeps,
      tt,
      record { p = p'; t = own.0; by = word_stored bus s id me.0 p' own.0 r at may.may (set s.words versions_word n) refl refl refl refl is (end_kept p p' own.0 may.open_ may.open_ r.end) rule },
      ((refl, refl), refl),
    )

-- the end word, once the gap words are those of the trailing gap
pub stores_end : (bus slots id n : ℕ) (me : Sat) → MayEnd me.0 → n ≡ length me.0.putting.offers + 1
    → me.0.putting.lead ≡ [] → me.0.putting.gap ≡ gap_words_of (gap_of (trailing me.0.putting.offers))
    → last_version_of (gap_of (trailing me.0.putting.offers)) < version_limit
    → Allows (Kept bus) slots id me end_word (λ _. n) (λ _. PutterStores stored_end (step slots end_word n 0 none) me n)
stores_end bus slots id n me may count led gap fits s kept deep at below =
    let own = putter_own bus s id me.0 kept at may.may in
    let t : Taking = own.0 in
    let r : KeptBy bus s me.0.putting t = own.1 in
    let p : Putting = me.0.putting in
    let p' : Putting = end_stored n p in
    let rule = put_rule_same bus (length s.homes) p p.gap true p'.steps r.put in
    let is = words.end_stored s.words p t r.words n p' count refl refl in
    let end : EndRule p' t = record {
      no_lead = λ _. led;
      gap_is = λ _. gap;
      fits = λ _. fits;
      end_seen = ⊎_elim (λ (e : t.end ≡ 0). inl e) (λ (e : (p.ended ≡ true) × (t.end ≡ length p.offers + 1)). absurd (true≢false (sym e.0 ∙ may.open_))) r.end.end_seen;
      done_is = λ d. absurd (true≢false (sym (r.end.done_is d).0 ∙ may.open_));
    } in (
      record me.0 { putting = p' },
      keeps,
      tt,
      record { p = p'; t = t; by = word_stored bus s id me.0 p' t r at may.may (set s.words end_word n) refl refl refl refl is end rule },
      ((refl, refl), refl),
    )

pub stores_gap : (bus slots id n word : ℕ) (me : Sat) → MayEnd me.0 → IsGapWord word → Allows (Kept bus) slots id me word (λ _. n) (λ _. PutterStores stored_gap (step slots word n 0 none) me n)
stores_gap bus slots id n word me may which =
    let P : ℕ → Type 0 = λ w. Allows (Kept bus) slots id me w (λ _. n) (λ _. PutterStores stored_gap (step slots w n 0 none) me n) in
    ⊎_elim
    (λ (e : word ≡ first_word). subst P (sym e) (stores_first bus slots id n me may))
    (λ (o : (word ≡ last_word) ⊎ (word ≡ versions_word)).
    ⊎_elim
    (λ (e : word ≡ last_word). subst P (sym e) (stores_last bus slots id n me may))
    (λ (e : word ≡ versions_word). subst P (sym e) (stores_versions bus slots id n me may))
    o)
    which
