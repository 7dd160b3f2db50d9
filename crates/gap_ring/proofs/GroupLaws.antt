-- What was put is made of groups: one more offer leaves the groups as they are, adds to the last one or begins one.
use Rattle.std.proofs.Common.{◌≡◌, ◌≢◌, ◌⊎◌, ℕ, ◌+◌, ◌-◌, ◌%◌, ◌<◌, ◌≤◌, ◌==◌, true, false, List, [], ◌∷◌, ◌++◌}
use Rattle.std.proofs.Common.{length, get_or, slice_get, flat_map, All, AllPairs, Some, refl, sym, ap, ◌∙◌, subst}
use Rattle.std.proofs.Common.{arith, option_map, length-append, append-nil, append_assoc, inl, inr, ⊎_elim, eq-eqb, ne_eqb}
use Rattle.std.specs.List.{range_with_len}
use Rattle.std.proofs.lemmas.Bool.{cases_eq, and_from, cond-true, cond-false}
use Rattle.std.proofs.lemmas.Option.{none-some, slice_get-get_or, slice_get-map}
use Rattle.std.proofs.lemmas.List.{map-append}
use Rattle.std.proofs.lemmas.List.Sums.{fold_push}
use Rattle.std.proofs.lemmas.List.Concat.{flat_map-append}
use Rattle.std.proofs.lemmas.List.Elements.{All-nil, All-cons, All-push, All-append, All-weaker}
use Rattle.std.proofs.lemmas.List.Quantifiers.{all_pairs_push}
use Rattle.bench_model.specs.declared.reading.Reading.{Reading}
use Rattle.bench_model.specs.declared.reading.Missed.{Missed}
use Rattle.bench_model.specs.declared.reading.Item.{Item}
use Rattle.bench_model.specs.declared.reading.Item.TheVariants as item
use Rattle.gap_ring.specs.declared.entries.Outcome.{Outcome}
use Rattle.gap_ring.specs.declared.entries.Outcome.TheVariants as outcome
use Rattle.gap_ring.specs.declared.entries.Offered.{Offered}
use Rattle.gap_ring.specs.Offers.{IsAttached, IsDetached, puts, refuses, is_put, turn_of, since_put, is_missed_in, trailing}
use Rattle.gap_ring.specs.Offers.{missed, last_of, gap_of, gap_item, lead, put_of, Ends, IsOffered, AreOffersAfter, AreOffers, readings_of}
use Rattle.gap_ring.specs.Tiles.{Tiles, IsGapOf, numbers_missed}
use Rattle.gap_ring.specs.Groups.{Group, group_items, OfferWas, IsOfTurn, IsGroup, AreGroups}
use Rattle.gap_ring.specs.Turns.{next_of, next_after}
use Rattle.gap_ring.proofs.PlaceLaws.{get_longer, get_last, get_right, get_snoc, all_right, filter_all, all_range}
use Rattle.gap_ring.proofs.OneMoreLaws.{turn-snoc, since-snoc, put-snoc, turn_bounded}
use Rattle.gap_ring.proofs.TileLaws.{tiles_longer, tiles_append, tiles_none, tiles_reading, tiles_gap}

-- the number of each record is its place
abbrev pub AreNumbered : List Offered → Type 0
AreNumbered offers = (n : ℕ) (o : Offered) → slice_get offers n ≡ Some o → o.reading.number ≡ n

abbrev pub IsUnput : Offered → Type 0
IsUnput p = (p.outcome ≡ outcome.Refused) ⊎ ((p.outcome ≡ outcome.Away) × IsDetached p.attach)

-- what follows the last put was not put, in no earlier turn
pub record Follows (offers : List Offered) : Type 0 where
  pub prefix : List Offered
  pub split : offers ≡ prefix ++ since_put offers
  pub unput : All IsUnput (since_put offers)
  pub later : All (λ p. turn_of offers ≤ p.attach) (since_put offers)
  pub numbered : AreNumbered offers

numbered-snoc : (os : List Offered) (o : Offered) → o.reading.number ≡ length os → AreNumbered os → AreNumbered (os ++ o ∷ [])
numbered-snoc os o is before n p there =
    ⊎_elim
    (λ (h : slice_get os n ≡ Some p). before n p h)
    (λ (h : (n ≡ length os) × (o ≡ p)). ap (λ (q : Offered). q.reading.number) (sym h.1) ∙ (is ∙ sym h.0))
    (get_snoc os o p n there)

follows_nothing : Follows []
follows_nothing = record {
  prefix = [];
  split = refl;
  unput = All-nil IsUnput;
  later = All-nil (λ p. turn_of [] ≤ p.attach);
  numbered = λ n o there. absurd (none-some o there);
}

follows_put : (os : List Offered) (o : Offered) → is_put o ≡ true → o.reading.number ≡ length os → Follows os → Follows (os ++ o ∷ [])
follows_put os o put is h =
    let none : since_put (os ++ o ∷ []) ≡ [] = since-snoc os o ∙ cond-true (is_put o) [] (since_put os ++ o ∷ []) put in
    let Q : Offered → Type 0 = λ p. turn_of (os ++ o ∷ []) ≤ p.attach in
    record {
      prefix = os ++ o ∷ [];
      split = sym (append-nil (os ++ o ∷ [])) ∙ ap (λ s. (os ++ o ∷ []) ++ s) (sym none);
      unput = subst (All IsUnput) (sym none) (All-nil IsUnput);
      later = subst (All Q) (sym none) (All-nil Q);
      numbered = numbered-snoc os o is h.numbered;
    }

follows_unput : (os : List Offered) (o : Offered) → is_put o ≡ false → IsUnput o → o.reading.number ≡ length os
    → All (λ p. p.attach ≤ o.attach) os → Follows os → Follows (os ++ o ∷ [])
follows_unput os o put idle is rises h =
    let since : since_put (os ++ o ∷ []) ≡ since_put os ++ o ∷ [] = since-snoc os o ∙ cond-false (is_put o) [] (since_put os ++ o ∷ []) put in
    let turn : turn_of (os ++ o ∷ []) ≡ turn_of os = turn-snoc os o ∙ cond-false (is_put o) o.attach (turn_of os) put in
    let Q : ℕ → Offered → Type 0 = λ t p. t ≤ p.attach in
    let pushed : All (Q (turn_of os)) (since_put os ++ o ∷ []) = All-push (Q (turn_of os)) (since_put os) o h.later (turn_bounded o.attach os rises) in
    record {
      prefix = h.prefix;
      split = ap (λ xs. xs ++ o ∷ []) h.split ∙ (append_assoc h.prefix (since_put os) (o ∷ []) ∙ ap (λ s. h.prefix ++ s) (sym since));
      unput = subst (All IsUnput) (sym since) (All-push IsUnput (since_put os) o h.unput idle);
      later = subst (λ t. All (Q t) (since_put (os ++ o ∷ []))) (sym turn) (subst (All (Q (turn_of os))) (sym since) pushed);
      numbered = numbered-snoc os o is h.numbered;
    }

follows_as : (bus capacity : ℕ) (os : List Offered) (o : Offered) (how : Outcome) → o.outcome ≡ how → IsOffered bus capacity os o → Follows os → Follows (os ++ o ∷ [])
follows_as bus capacity os o outcome.Put e h f = follows_put os o (ap puts e) h.number_is f
follows_as bus capacity os o outcome.Refused e h f = follows_unput os o (ap puts e) (inl e) h.number_is h.attach_rises f
follows_as bus capacity os o outcome.Away e h f =
    let ends : Ends capacity o.attach o.head o.tail o.needed outcome.Away = subst (λ w. Ends capacity o.attach o.head o.tail o.needed w) e h.ends in
    follows_unput os o (ap puts e) (inr (e, ends.0)) h.number_is h.attach_rises f

pub follows_snoc : (bus capacity : ℕ) (os : List Offered) (o : Offered) → IsOffered bus capacity os o → Follows os → Follows (os ++ o ∷ [])
follows_snoc bus capacity os o h f = follows_as bus capacity os o o.outcome refl h f

-- refused in this turn
abbrev pub IsMissed : ℕ → Offered → Type 0
IsMissed turn p = (p.attach ≡ turn) × (p.outcome ≡ outcome.Refused)

is_missed : (turn a : ℕ) (p : Offered) → IsAttached a → turn ≡ a → p.attach ≤ a → turn ≤ p.attach → IsUnput p → IsMissed turn p
is_missed turn a p odd is low high idle =
    let same : p.attach ≡ turn = omega arith in
    let here : p.attach ≡ a = omega arith in
    ⊎_elim
    (λ (e : p.outcome ≡ outcome.Refused). (same, e))
    (λ (e : (p.outcome ≡ outcome.Away) × IsDetached p.attach). absurd (let even : a % 2 ≡ 0 = subst (λ n. n % 2 ≡ 0) here e.1 in omega arith))
    idle

-- where a word is of the turn of the last put, all that follows it was refused in that turn
pub all_missed : (os : List Offered) (a : ℕ) → IsAttached a → turn_of os ≡ a → All (λ p. p.attach ≤ a) os → Follows os → All (IsMissed (turn_of os)) (since_put os)
all_missed os a odd is rises f k d below =
    let bounded : All (λ p. p.attach ≤ a) (since_put os) = all_right (λ p. p.attach ≤ a) f.prefix (since_put os) (subst (All (λ p. p.attach ≤ a)) f.split rises) in
    is_missed (turn_of os) a (get_or (since_put os) k d) odd is (bounded k d below) (f.later k d below) (f.unput k d below)

pub trailing_all : (os : List Offered) → All (IsMissed (turn_of os)) (since_put os) → trailing os ≡ since_put os
trailing_all os h =
    filter_all (is_missed_in (turn_of os)) (since_put os)
    (λ k d below.
    let p : Offered = get_or (since_put os) k d in
    let m = h k d below in
    and_from (refuses p.outcome) (p.attach == turn_of os) (ap refuses m.1) (eq-eqb p.attach (turn_of os) m.0))

-- what is so of some offers is so of more
pub ended_longer : (how : Outcome) (os more : List Offered) (turn n : ℕ) → OfferWas how os turn n → OfferWas how (os ++ more) turn n
ended_longer how os more turn n h = (h.0, get_longer os more n h.0 h.1, h.2, h.3)

of_turn_longer : (os more : List Offered) (turn : ℕ) (x : Item) → IsOfTurn os turn x → IsOfTurn (os ++ more) turn x
of_turn_longer os more turn (item.Start bus number t) h = absurd h
of_turn_longer os more turn (item.Reading r) h = ended_longer outcome.Put os more turn r.number h
of_turn_longer os more turn (item.Gap bus m) h =
    All-weaker (OfferWas outcome.Refused os turn) (OfferWas outcome.Refused (os ++ more) turn) (ended_longer outcome.Refused os more turn) (numbers_missed m) h
of_turn_longer os more turn (item.End bus number) h = absurd h

all_of_turn_longer : (os more : List Offered) (turn : ℕ) (xs : List Item) → All (IsOfTurn os turn) xs → All (IsOfTurn (os ++ more) turn) xs
all_of_turn_longer os more turn xs h = All-weaker (IsOfTurn os turn) (IsOfTurn (os ++ more) turn) (of_turn_longer os more turn) xs h

readings-append : (os more : List Offered) → readings_of (os ++ more) ≡ readings_of os ++ readings_of more
readings-append os more = map-append (λ (o : Offered). o.reading) os more

tiles_with_more : (xs : List Item) (os more : List Offered) (a b : ℕ) → Tiles xs (readings_of os) a b → Tiles xs (readings_of (os ++ more)) a b
tiles_with_more xs os more a b h =
    subst (λ list. Tiles xs list a b) (sym (readings-append os more)) (tiles_longer xs (readings_of os) (readings_of more) a b h)

group_longer : (os more : List Offered) (g : Group) → IsGroup os g → IsGroup (os ++ more) g
group_longer os more g h =
    let bounded : g.next ≤ length os = h.bounded in
    record {
      attached = h.attached;
      starts = ended_longer outcome.Put os more g.turn g.number h.starts;
      tiles = tiles_with_more g.items os more g.number g.next h.tiles;
      bounded = omega (arith, length-append os more);
      of_turn = all_of_turn_longer os more g.turn g.items h.of_turn;
    }

-- the record offered at a place
reading_at : (os : List Offered) (n : ℕ) (o : Offered) → slice_get os n ≡ Some o → slice_get (readings_of os) n ≡ Some o.reading
reading_at os n o there = slice_get-map (λ (p : Offered). p.reading) os n ∙ ap (option_map (λ (p : Offered). p.reading)) there

-- the gap that counts p and ps
abbrev gap_from : Offered → List Offered → Missed
gap_from p ps = missed p.reading (length (p ∷ ps)) (last_of p ps).reading

-- what follows the last put is from that place on
pub since_at : (os since : List Offered) (next k : ℕ) (d : Offered) → (f : Follows os) → since_put os ≡ since → next + length since ≡ length os
    → k < length since → slice_get os (next + k) ≡ Some (get_or since k d)
since_at os since next k d f is place below =
    let split : os ≡ f.prefix ++ since = f.split ∙ ap (λ s. f.prefix ++ s) is in
    let whole : length os ≡ length (f.prefix ++ since) = ap length split in
    let prefix : length f.prefix + k ≡ next + k = omega (arith, length-append f.prefix since) in
    ap (λ xs. slice_get xs (next + k)) split ∙ (get_right f.prefix since (next + k) k prefix ∙ slice_get-get_or since k d below)

-- it is a gap of the records offered, and each that it counts was refused in the turn
pub gap_is : (os : List Offered) (p : Offered) (ps : List Offered) (next : ℕ) → (f : Follows os) → since_put os ≡ p ∷ ps → next + length (p ∷ ps) ≡ length os
    → ((gap_from p ps).first ≡ next) × IsGapOf (readings_of os) (gap_from p ps)
gap_is os p ps next f is place =
    let here : next + 0 ≡ next = omega arith in
    let first : slice_get os next ≡ Some p = ap (slice_get os) (sym here) ∙ since_at os (p ∷ ps) next 0 p f is place (omega arith) in
    let number : p.reading.number ≡ next = f.numbered next p first in
    let last : slice_get os (next + length ps) ≡ Some (last_of p ps) = since_at os (p ∷ ps) next (length ps) p f is place (omega arith) in
    let there : next + length ps ≡ p.reading.number + length (p ∷ ps) - 1 = omega arith in (
      number,
      record {
        first_reading = p.reading;
        last_reading = (last_of p ps).reading;
        counts = omega arith;
        first_there = ap (slice_get (readings_of os)) number ∙ reading_at os next p first;
        last_there = ap (slice_get (readings_of os)) (sym there) ∙ reading_at os (next + length ps) (last_of p ps) last;
        micros = (refl, refl);
        versions = (refl, refl);
      },
    )

gap_refused : (os : List Offered) (p : Offered) (ps : List Offered) (next turn : ℕ) → (f : Follows os) → since_put os ≡ p ∷ ps → next + length (p ∷ ps) ≡ length os
    → All (IsMissed turn) (since_put os) → All (OfferWas outcome.Refused os turn) (numbers_missed (gap_from p ps))
gap_refused os p ps next turn f is place missing =
    let these : All (IsMissed turn) (p ∷ ps) = subst (All (IsMissed turn)) is missing in
    let number : p.reading.number ≡ next = (gap_is os p ps next f is place).0 in
    subst (λ n. All (OfferWas outcome.Refused os turn) (range_with_len n (length (p ∷ ps)))) (sym number)
    (all_range (OfferWas outcome.Refused os turn) next (length (p ∷ ps))
    (λ k below. let m = these k p below in (get_or (p ∷ ps) k p, since_at os (p ∷ ps) next k p f is place below, m.0, m.1)))

-- what goes before the next record of this turn tiles what follows the last put
pub trailing_tiles : (os since : List Offered) (bus next turn : ℕ) → (f : Follows os) → since_put os ≡ since → next + length since ≡ length os
    → All (IsMissed turn) (since_put os)
    → Tiles (gap_item bus (gap_of since)) (readings_of os) next (length os) × All (IsOfTurn os turn) (gap_item bus (gap_of since))
trailing_tiles os [] bus next turn f is place missing =
    let whole : next ≡ length os = omega arith in
    (subst (λ n. Tiles [] (readings_of os) next n) whole (tiles_none (readings_of os) next), All-nil (IsOfTurn os turn))
trailing_tiles os (p ∷ ps) bus next turn f is place missing =
    let gap = gap_is os p ps next f is place in (
      subst (λ n. Tiles (item.Gap bus (gap_from p ps) ∷ []) (readings_of os) next n) place (tiles_gap (readings_of os) bus (gap_from p ps) next gap.0 gap.1),
      All-cons (IsOfTurn os turn) (item.Gap bus (gap_from p ps)) [] (gap_refused os p ps next turn f is place missing) (All-nil (IsOfTurn os turn)),
    )

-- the groups so far, of which g is the last
pub record LastGroup (bus : ℕ) (os : List Offered) (closed : List Group) (g : Group) : Type 0 where
  pub joined : put_of os ≡ flat_map (group_items bus) (closed ++ g ∷ [])
  pub each : All (IsGroup os) closed
  pub rises : AllPairs (λ a b. a.turn < b.turn) closed
  pub below : All (λ c. c.turn < g.turn) closed
  pub last : IsGroup os g
  pub turn_is : g.turn ≡ turn_of os
  pub next_is : g.next + length (since_put os) ≡ length os
  pub ends : next_of (group_items bus g) ≡ g.next

-- the record of an offer that was put, as a tile
new_tile : (os : List Offered) (o : Offered) → o.reading.number ≡ length os
    → Tiles (item.Reading o.reading ∷ []) (readings_of (os ++ o ∷ [])) (length os) (length os + 1)
new_tile os o is = tiles_reading (readings_of (os ++ o ∷ [])) o.reading (length os) is (reading_at (os ++ o ∷ []) (length os) o (get_last os o (length os) refl))

new_ended : (os : List Offered) (o : Offered) → o.reading.number ≡ length os → o.outcome ≡ outcome.Put → OfferWas outcome.Put (os ++ o ∷ []) o.attach o.reading.number
new_ended os o is put = (o, get_last os o o.reading.number (sym is), refl, put)

new_of_turn : (os : List Offered) (o : Offered) → o.reading.number ≡ length os → o.outcome ≡ outcome.Put → All (IsOfTurn (os ++ o ∷ []) o.attach) (item.Reading o.reading ∷ [])
new_of_turn os o is put =
    let P : Item → Type 0 = IsOfTurn (os ++ o ∷ []) o.attach in
    All-cons P (item.Reading o.reading) [] (new_ended os o is put) (All-nil P)

-- the group that this record begins
abbrev begun : List Offered → Offered → Group
begun os o = record { number = o.reading.number; turn = o.attach; next = length os + 1; items = item.Reading o.reading ∷ [] }

begun_is : (os : List Offered) (o : Offered) → o.reading.number ≡ length os → o.outcome ≡ outcome.Put → IsAttached o.attach → IsGroup (os ++ o ∷ []) (begun os o)
begun_is os o is put odd = record {
  attached = odd;
  starts = new_ended os o is put;
  tiles = subst (λ n. Tiles (item.Reading o.reading ∷ []) (readings_of (os ++ o ∷ [])) n (length os + 1)) (sym is) (new_tile os o is);
  bounded = omega (arith, length-append os (o ∷ []));
  of_turn = new_of_turn os o is put;
}

module _ (bus capacity : ℕ) (os : List Offered) (o : Offered) (h : IsOffered bus capacity os o) (put : o.outcome ≡ outcome.Put) where
  is_put_is : is_put o ≡ true
  is_put_is = ap puts put

  attached : IsAttached o.attach
  attached = (subst (λ w. Ends capacity o.attach o.head o.tail o.needed w) put h.ends).0

  turn_after : turn_of (os ++ o ∷ []) ≡ o.attach
  turn_after = turn-snoc os o ∙ cond-true (is_put o) o.attach (turn_of os) is_put_is

  none_since : length (since_put (os ++ o ∷ [])) ≡ 0
  none_since = ap length (since-snoc os o ∙ cond-true (is_put o) [] (since_put os ++ o ∷ []) is_put_is)

  put_is : put_of (os ++ o ∷ []) ≡ put_of os ++ (lead os o.reading o.attach ++ item.Reading o.reading ∷ [])
  put_is = put-snoc os o ∙ ap (λ xs. put_of os ++ xs) (cond-true (is_put o) (lead os o.reading o.attach ++ item.Reading o.reading ∷ []) [] is_put_is)

  begins : (closed : List Group) → put_of os ≡ flat_map (group_items bus) closed → All (IsGroup os) closed
      → AllPairs (λ a b. a.turn < b.turn) closed → All (λ c. c.turn < o.attach) closed → o.attach ≢ turn_of os
      → LastGroup bus (os ++ o ∷ []) closed (begun os o)
  begins closed joined each rises below new =
      let start : lead os o.reading o.attach ≡ item.Start o.reading.bus o.reading.number o.attach ∷ [] = cond-false (o.attach == turn_of os)
      (gap_item o.reading.bus (gap_of (trailing os))) (item.Start o.reading.bus o.reading.number o.attach ∷ []) (ne_eqb o.attach (turn_of os) new) in
      let these : lead os o.reading o.attach ++ item.Reading o.reading ∷ [] ≡ group_items bus (begun os o) ++ [] =
      ap (λ xs. xs ++ item.Reading o.reading ∷ []) start
      ∙ ap (λ b. item.Start b o.reading.number o.attach ∷ item.Reading o.reading ∷ []) h.bus_is in
      record {
        joined =
            put_is
            ∙ (ap (λ xs. xs ++ (lead os o.reading o.attach ++ item.Reading o.reading ∷ [])) joined
            ∙ (ap (λ xs. flat_map (group_items bus) closed ++ xs) these
            ∙ sym (flat_map-append (group_items bus) closed (begun os o ∷ []))));
        each = All-weaker (IsGroup os) (IsGroup (os ++ o ∷ [])) (group_longer os (o ∷ [])) closed each;
        rises = rises;
        below = below;
        last = begun_is os o h.number_is put attached;
        turn_is = sym turn_after;
        next_is = omega (arith, none_since, length-append os (o ∷ []));
        ends = ap (λ n. n + 1) h.number_is;
      }

  -- what the record adds to the last group
  abbrev added : List Item
  added = gap_item bus (gap_of (trailing os)) ++ item.Reading o.reading ∷ []

  abbrev grown : Group → Group
  grown g = record { number = g.number; turn = g.turn; next = length os + 1; items = g.items ++ added }

  grown_is : (closed : List Group) (g : Group) → (f : Follows os) → LastGroup bus os closed g → o.attach ≡ turn_of os → IsGroup (os ++ o ∷ []) (grown g)
  grown_is closed g f before same =
      let missing : All (IsMissed (turn_of os)) (since_put os) = all_missed os o.attach attached (sym same) h.attach_rises f in
      let all = trailing_all os missing in
      let gap = trailing_tiles os (since_put os) bus g.next (turn_of os) f refl before.next_is missing in
      let turn : g.turn ≡ o.attach = before.turn_is ∙ sym same in
      let P : Item → Type 0 = IsOfTurn (os ++ o ∷ []) g.turn in
      let list : List Reading = readings_of (os ++ o ∷ []) in
      let gap_tile : Tiles (gap_item bus (gap_of (trailing os))) list g.next (length os) =
      tiles_with_more (gap_item bus (gap_of (trailing os))) os (o ∷ []) g.next (length os)
      (subst (λ s. Tiles (gap_item bus (gap_of s)) (readings_of os) g.next (length os)) (sym all) gap.0) in
      let gap_turn : All P (gap_item bus (gap_of (trailing os))) =
      all_of_turn_longer os (o ∷ []) g.turn (gap_item bus (gap_of (trailing os)))
      (subst (λ t. All (IsOfTurn os t) (gap_item bus (gap_of (trailing os)))) (sym before.turn_is)
      (subst (λ s. All (IsOfTurn os (turn_of os)) (gap_item bus (gap_of s))) (sym all) gap.1)) in
      record {
        attached = before.last.attached;
        starts = ended_longer outcome.Put os (o ∷ []) g.turn g.number before.last.starts;
        tiles =
            tiles_append g.items added list g.number g.next (length os + 1)
            (tiles_with_more g.items os (o ∷ []) g.number g.next before.last.tiles)
            (tiles_append (gap_item bus (gap_of (trailing os))) (item.Reading o.reading ∷ []) list g.next (length os) (length os + 1) gap_tile
            (new_tile os o h.number_is));
        bounded = omega (arith, length-append os (o ∷ []));
        of_turn =
            All-append P g.items added (all_of_turn_longer os (o ∷ []) g.turn g.items before.last.of_turn)
            (All-append P (gap_item bus (gap_of (trailing os))) (item.Reading o.reading ∷ []) gap_turn
            (subst (λ t. All (IsOfTurn (os ++ o ∷ []) t) (item.Reading o.reading ∷ [])) (sym turn) (new_of_turn os o h.number_is put)));
      }

  grows : (closed : List Group) (g : Group) → (f : Follows os) → LastGroup bus os closed g → o.attach ≡ turn_of os → LastGroup bus (os ++ o ∷ []) closed (grown g)
  grows closed g f before same =
      let gap : lead os o.reading o.attach ≡ gap_item bus (gap_of (trailing os)) =
      cond-true (o.attach == turn_of os) (gap_item o.reading.bus (gap_of (trailing os))) (item.Start o.reading.bus o.reading.number o.attach ∷ [])
      (eq-eqb o.attach (turn_of os) same)
      ∙ ap (λ b. gap_item b (gap_of (trailing os))) h.bus_is in
      let f_items : Group → List Item = group_items bus in
      let old : flat_map f_items (closed ++ g ∷ []) ≡ flat_map f_items closed ++ f_items g =
      flat_map-append f_items closed (g ∷ []) ∙ ap (λ xs. flat_map f_items closed ++ xs) (append-nil (f_items g)) in
      let new : flat_map f_items (closed ++ grown g ∷ []) ≡ flat_map f_items closed ++ f_items (grown g) =
      flat_map-append f_items closed (grown g ∷ []) ∙ ap (λ xs. flat_map f_items closed ++ xs) (append-nil (f_items (grown g))) in
      record {
        joined =
            put_is
            ∙ (ap (λ xs. put_of os ++ (xs ++ item.Reading o.reading ∷ [])) gap
            ∙ (ap (λ xs. xs ++ added) (before.joined ∙ old)
            ∙ (append_assoc (flat_map f_items closed) (f_items g) added
            ∙ sym new)));
        each = All-weaker (IsGroup os) (IsGroup (os ++ o ∷ [])) (group_longer os (o ∷ [])) closed before.each;
        rises = before.rises;
        below = before.below;
        last = grown_is closed g f before same;
        turn_is = before.turn_is ∙ (sym same ∙ sym turn_after);
        next_is = omega (arith, none_since, length-append os (o ∷ []));
        ends =
            ap next_of (ap (λ xs. item.Start bus g.number g.turn ∷ xs) (sym (append_assoc g.items (gap_item bus (gap_of (trailing os))) (item.Reading o.reading ∷ []))))
            ∙ (fold_push next_after 0 (item.Start bus g.number g.turn ∷ (g.items ++ gap_item bus (gap_of (trailing os)))) (item.Reading o.reading)
            ∙ ap (λ n. n + 1) h.number_is);
      }

-- nothing was put, or there is a last group
abbrev pub Grouped : ℕ → List Offered → Type 0
Grouped bus os = ((put_of os ≡ []) × (turn_of os ≡ 0)) ⊎ ((closed : List Group) × (g : Group) × LastGroup bus os closed g)

stays : (bus : ℕ) (os : List Offered) (o : Offered) → is_put o ≡ false → Grouped bus os → Grouped bus (os ++ o ∷ [])
stays bus os o unput h =
    let puts_none : put_of (os ++ o ∷ []) ≡ put_of os =
    put-snoc os o ∙ (ap (λ xs. put_of os ++ xs) (cond-false (is_put o) (lead os o.reading o.attach ++ item.Reading o.reading ∷ []) [] unput) ∙ append-nil (put_of os)) in
    let turn : turn_of (os ++ o ∷ []) ≡ turn_of os = turn-snoc os o ∙ cond-false (is_put o) o.attach (turn_of os) unput in
    let since : since_put (os ++ o ∷ []) ≡ since_put os ++ o ∷ [] = since-snoc os o ∙ cond-false (is_put o) [] (since_put os ++ o ∷ []) unput in
    let count : length (since_put (os ++ o ∷ [])) ≡ length (since_put os ++ o ∷ []) = ap length since in
    ⊎_elim
    (λ (n : (put_of os ≡ []) × (turn_of os ≡ 0)). inl (puts_none ∙ n.0, turn ∙ n.1))
    (λ (l : (closed : List Group) × (g : Group) × LastGroup bus os closed g). inr (
      l.0,
      l.1,
      record {
        joined = puts_none ∙ l.2.joined;
        each = All-weaker (IsGroup os) (IsGroup (os ++ o ∷ [])) (group_longer os (o ∷ [])) l.0 l.2.each;
        rises = l.2.rises;
        below = l.2.below;
        last = group_longer os (o ∷ []) l.1 l.2.last;
        turn_is = l.2.turn_is ∙ sym turn;
        next_is = omega (arith, l.2.next_is, count, length-append os (o ∷ []), length-append (since_put os) (o ∷ []));
        ends = l.2.ends;
      },
    ))
    h

goes_on : (bus capacity : ℕ) (os : List Offered) (o : Offered) → IsOffered bus capacity os o → o.outcome ≡ outcome.Put → Follows os → Grouped bus os → Grouped bus (os ++ o ∷ [])
goes_on bus capacity os o h put f groups =
    let low : 1 ≤ o.attach = h.attach_low in
    ⊎_elim
    (λ (n : (put_of os ≡ []) × (turn_of os ≡ 0)).
    inr ([], begun os o, begins bus capacity os o h put [] n.0 (All-nil (IsGroup os)) (λ i j d below above. absurd (omega arith)) (All-nil (λ (c : Group). c.turn < o.attach)) (omega (arith, n.1))))
    (λ (l : (closed : List Group) × (g : Group) × LastGroup bus os closed g).
    let bound : turn_of os ≤ o.attach = turn_bounded o.attach os h.attach_rises in
    let turn : l.1.turn ≡ turn_of os = l.2.turn_is in
    ⊎_elim
    (λ (same : o.attach ≡ turn_of os). inr (l.0, grown bus capacity os o h put l.1, grows bus capacity os o h put l.0 l.1 f l.2 same))
    (λ (new : o.attach ≢ turn_of os).
    let higher : l.1.turn < o.attach = omega arith in
    let older : All (λ (c : Group). c.turn < o.attach) l.0 = All-weaker (λ (c : Group). c.turn < l.1.turn) (λ c. c.turn < o.attach) (λ c b. omega arith) l.0 l.2.below in
    inr (
      l.0 ++ l.1 ∷ [],
      begun os o,
      begins bus capacity os o h put (l.0 ++ l.1 ∷ []) l.2.joined
          (All-push (IsGroup os) l.0 l.1 l.2.each l.2.last)
          (all_pairs_push (λ (a b : Group). a.turn < b.turn) l.0 l.1 l.2.rises l.2.below)
          (All-push (λ (c : Group). c.turn < o.attach) l.0 l.1 older higher)
          new,
    ))
    (cases_eq o.attach (turn_of os)))
    groups

grouped_as : (bus capacity : ℕ) (os : List Offered) (o : Offered) (how : Outcome) → o.outcome ≡ how → IsOffered bus capacity os o → Follows os → Grouped bus os → Grouped bus (os ++ o ∷ [])
grouped_as bus capacity os o outcome.Put e h f groups = goes_on bus capacity os o h e f groups
grouped_as bus capacity os o outcome.Refused e h f groups = stays bus os o (ap puts e) groups
grouped_as bus capacity os o outcome.Away e h f groups = stays bus os o (ap puts e) groups

-- every list of offers
all_grouped : (bus capacity : ℕ) (before os : List Offered) → AreOffersAfter bus capacity before os → Follows before → Grouped bus before → Follows (before ++ os) × Grouped bus (before ++ os)
all_grouped bus capacity before [] h f g = subst (λ b. Follows b × Grouped bus b) (sym (append-nil before)) (f, g)
all_grouped bus capacity before (o ∷ os) h f g =
    subst (λ b. Follows b × Grouped bus b) (append_assoc before (o ∷ []) os)
    (all_grouped bus capacity (before ++ o ∷ []) os h.1 (follows_snoc bus capacity before o h.0 f) (grouped_as bus capacity before o o.outcome refl h.0 f g))

pub offers_grouped : (bus capacity : ℕ) (os : List Offered) → AreOffers bus capacity os → Follows os × Grouped bus os
offers_grouped bus capacity os h = all_grouped bus capacity [] os h follows_nothing (inl (refl, refl))

pub are_groups : (bus : ℕ) (os : List Offered) (closed : List Group) (g : Group) → LastGroup bus os closed g → AreGroups bus os (put_of os) (closed ++ g ∷ [])
are_groups bus os closed g h = record {
  joined = h.joined;
  each = All-push (IsGroup os) closed g h.each h.last;
  turns_rise = all_pairs_push (λ (a b : Group). a.turn < b.turn) closed g h.rises h.below;
}

pub put_in_groups : (bus capacity : ℕ) (os : List Offered) → AreOffers bus capacity os → (groups : List Group) × AreGroups bus os (put_of os) groups
put_in_groups bus capacity os h =
    ⊎_elim
    (λ (n : (put_of os ≡ []) × (turn_of os ≡ 0)). (
      [],
      record {
        joined = n.0;
        each = All-nil (IsGroup os);
        turns_rise = λ i j d below above. absurd (omega arith);
      },
    ))
    (λ (l : (closed : List Group) × (g : Group) × LastGroup bus os closed g). (l.0 ++ l.1 ∷ [], are_groups bus os l.0 l.1 l.2))
    (offers_grouped bus capacity os h).1
