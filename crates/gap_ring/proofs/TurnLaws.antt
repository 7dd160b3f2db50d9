-- What was given in a turn that lasts to the end is the group of that turn, whole.
use Rattle.std.proofs.Common.{◌≡◌, ◌≢◌, ℕ, ◌+◌, ◌-◌, ◌%◌, ◌<◌, ◌≤◌, ◌==◌, Bool, true, false, List, [], ◌∷◌, ◌++◌}
use Rattle.std.proofs.Common.{length, get_or, slice_get, flat_map, filter, All, None, refl, sym, ap, ◌∙◌, subst}
use Rattle.std.proofs.Common.{arith, append-nil, ⊎_elim, eq-eqb, ne_eqb}
use Rattle.std.proofs.lemmas.Bool.{cond-true, cond-false}
use Rattle.std.proofs.lemmas.List.{map-append}
use Rattle.std.proofs.lemmas.List.Concat.{flat_map-append}
use Rattle.std.proofs.lemmas.List.Elements.{All-nil, All-cons, All-head, All-tail, All-append, All-weaker, All-filter, All-map, filter-append}
use Rattle.bench_model.specs.declared.reading.Item.{Item}
use Rattle.bench_model.specs.declared.reading.Item.TheVariants as item
use Rattle.gap_ring.specs.declared.entries.Outcome.TheVariants as outcome
use Rattle.gap_ring.specs.declared.entries.Offered.{Offered}
use Rattle.gap_ring.specs.declared.entries.Taken.{Taken}
use Rattle.gap_ring.specs.Offers.{IsAttached, turn_of, since_put, trailing, gap_of, gap_item, put_of, AreOffers, readings_of}
use Rattle.gap_ring.specs.Tiles.{Tiles, IsFrom}
use Rattle.gap_ring.specs.Groups.{Group, group_items, OfferWas, IsGroup}
use Rattle.gap_ring.specs.Turns.{items_taken, starts_turn, from_start, given, IsStartBy, AreTaken, ending, IsWholeTurn, IsGapTo, next_of, is_begun}
use Rattle.gap_ring.proofs.PlaceLaws.{filter_all, filter_none, all_get, all_right, all_pairs_right, all_pairs_head, all_unmap, all_flat_map, map_split, head_same}
use Rattle.gap_ring.proofs.OneMoreLaws.{turn_bounded}
use Rattle.gap_ring.proofs.TileLaws.{tiles_append}
use Rattle.gap_ring.proofs.GroupLaws.{Follows, LastGroup, IsMissed, offers_grouped, all_missed, trailing_all, trailing_tiles, since_at, gap_is}

-- an item that does not begin this turn
abbrev pub IsNoStart : ℕ → Item → Type 0
IsNoStart turn x = starts_turn turn x ≡ false

from_is_no_start : (turn : ℕ) (os : List Offered) (x : Item) → IsFrom (readings_of os) x → IsNoStart turn x
from_is_no_start turn os (item.Start bus number t) h = absurd h
from_is_no_start turn os (item.Reading r) h = refl
from_is_no_start turn os (item.Gap bus m) h = refl
from_is_no_start turn os (item.End bus number) h = absurd h

-- no item of a group of another turn begins this one
pub other_group : (turn bus : ℕ) (os : List Offered) (g : Group) → IsGroup os g → g.turn ≢ turn → All (IsNoStart turn) (group_items bus g)
other_group turn bus os g h other =
    All-cons (IsNoStart turn) (item.Start bus g.number g.turn) g.items (ne_eqb g.turn turn other)
    (All-weaker (IsFrom (readings_of os)) (IsNoStart turn) (from_is_no_start turn os) g.items h.tiles.true_to)

other_groups : (turn bus : ℕ) (os : List Offered) (gs : List Group) → All (IsGroup os) gs → All (λ g. g.turn < turn) gs → All (IsNoStart turn) (flat_map (group_items bus) gs)
other_groups turn bus os gs h below =
    all_flat_map (group_items bus) (IsNoStart turn) gs
    (λ k d less. let g : Group = get_or gs k d in let b = below k d less in other_group turn bus os g (h k d less) (λ e. omega arith))

pub no_start : (turn : ℕ) (xs ys : List Item) → All (IsNoStart turn) xs → from_start turn (xs ++ ys) ≡ from_start turn ys
no_start turn [] ys h = refl
no_start turn (x ∷ xs) ys h =
    cond-false (starts_turn turn x) (x ∷ (xs ++ ys)) (from_start turn (xs ++ ys)) (All-head (IsNoStart turn) x xs h)
    ∙ no_start turn xs ys (All-tail (IsNoStart turn) x xs h)

no_start_at_all : (turn : ℕ) (xs : List Item) → All (IsNoStart turn) xs → from_start turn xs ≡ []
no_start_at_all turn xs h = ap (from_start turn) (sym (append-nil xs)) ∙ no_start turn xs [] h

abbrev pub in_turn : ℕ → Taken → Bool
in_turn turn t = t.attach == turn

-- nothing was given in a turn of which no Start was taken
pub given_nothing : (taken : List Taken) (turn : ℕ) → All (IsNoStart turn) (items_taken taken) → given taken turn ≡ []
given_nothing taken turn h =
    no_start_at_all turn (items_taken (filter (in_turn turn) taken))
    (All-map (IsNoStart turn) (λ (t : Taken). t.item) (filter (in_turn turn) taken)
    (All-filter (in_turn turn) (λ t. IsNoStart turn t.item) taken (all_unmap (λ (t : Taken). t.item) (IsNoStart turn) taken h)))

-- what follows a Start of the taker's own turn was taken in that turn
taken_in_turn : (turn : ℕ) (before : List Taken) (t : Taken) (ts : List Taken) (bus number : ℕ) → AreTaken turn (before ++ t ∷ ts) → t.item ≡ item.Start bus number turn
    → All (λ s. in_turn turn s ≡ true) (t ∷ ts)
taken_in_turn turn before t ts bus number h start =
    let high = all_right (λ (s : Taken). s.attach ≤ turn) before (t ∷ ts) h.words_bounded in
    let low : turn ≤ t.attach = subst (IsStartBy t.attach) start (All-head (λ (s : Taken). IsStartBy s.attach s.item) t ts (all_right (λ (s : Taken). IsStartBy s.attach s.item) before (t ∷ ts) h.in_time)) in
    let rise = all_pairs_head (λ (r s : Taken). r.attach ≤ s.attach) t ts (all_pairs_right (λ (r s : Taken). r.attach ≤ s.attach) before (t ∷ ts) h.words_rise) in
    let first : t.attach ≤ turn = All-head (λ (s : Taken). s.attach ≤ turn) t ts high in
    let rest : All (λ (s : Taken). s.attach ≤ turn) ts = All-tail (λ (s : Taken). s.attach ≤ turn) t ts high in
    All-cons (λ s. in_turn turn s ≡ true) t ts (eq-eqb t.attach turn (omega arith))
    (λ k d below. let s : Taken = get_or ts k d in let a = rise k d below in let b = rest k d below in eq-eqb s.attach turn (omega arith))

given_group : (turn bus : ℕ) (os : List Offered) (before after : List Taken) (g : Group) → AreTaken turn (before ++ after)
    → All (IsNoStart turn) (items_taken before) → items_taken after ≡ group_items bus g → g.turn ≡ turn
    → given (before ++ after) turn ≡ group_items bus g
given_group turn bus os before [] g h none is same = absurd (let e : 0 ≡ length (group_items bus g) = ap length is in omega arith)
given_group turn bus os before (t ∷ ts) g h none is same =
    let start : t.item ≡ item.Start bus g.number turn =
    head_same t.item (item.Start bus g.number g.turn) (items_taken ts) g.items is ∙ ap (λ n. item.Start bus g.number n) same in
    let kept : filter (in_turn turn) (t ∷ ts) ≡ t ∷ ts = filter_all (in_turn turn) (t ∷ ts) (taken_in_turn turn before t ts bus g.number h start) in
    let split : filter (in_turn turn) (before ++ t ∷ ts) ≡ filter (in_turn turn) before ++ t ∷ ts =
    filter-append (in_turn turn) before (t ∷ ts) ∙ ap (λ xs. filter (in_turn turn) before ++ xs) kept in
    let old : List Item = items_taken (filter (in_turn turn) before) in
    ap (λ xs. from_start turn (items_taken xs)) split
    ∙ (ap (from_start turn) (map-append (λ (s : Taken). s.item) (filter (in_turn turn) before) (t ∷ ts))
    ∙ (no_start turn old (items_taken (t ∷ ts))
    (All-map (IsNoStart turn) (λ (s : Taken). s.item) (filter (in_turn turn) before)
    (All-filter (in_turn turn) (λ s. IsNoStart turn s.item) before (all_unmap (λ (s : Taken). s.item) (IsNoStart turn) before none)))
    ∙ (ap (from_start turn) is
    ∙ cond-true (g.turn == turn) (group_items bus g) (from_start turn g.items) (eq-eqb g.turn turn same))))

module _ (bus capacity turn : ℕ) (os : List Offered) (taken : List Taken) (offered : AreOffers bus capacity os) (odd : IsAttached turn)
    (words : AreTaken turn taken) (low : All (λ o. o.attach ≤ turn) os) (all : items_taken taken ≡ put_of os) where
  f : Follows os
  f = (offers_grouped bus capacity os offered).0

  pub unstarted : turn_of os ≢ turn → (given taken turn ≡ []) × (ending turn os ≡ None)
  unstarted other =
      let bound : turn_of os ≤ turn = turn_bounded turn os low in (
        ⊎_elim
            (λ (n : (put_of os ≡ []) × (turn_of os ≡ 0)). given_nothing taken turn (subst (All (IsNoStart turn)) (sym (all ∙ n.0)) (All-nil (IsNoStart turn))))
            (λ (l : (closed : List Group) × (g : Group) × LastGroup bus os closed g).
            let is : l.1.turn ≡ turn_of os = l.2.turn_is in
            let less : l.1.turn < turn = omega arith in
            let older : All (λ (c : Group). c.turn < turn) l.0 = All-weaker (λ (c : Group). c.turn < l.1.turn) (λ c. c.turn < turn) (λ c b. omega arith) l.0 l.2.below in
            let one : All (λ (c : Group). c.turn < turn) (l.1 ∷ []) = All-cons (λ (c : Group). c.turn < turn) l.1 [] less (All-nil (λ (c : Group). c.turn < turn)) in
            let last : All (IsGroup os) (l.1 ∷ []) = All-cons (IsGroup os) l.1 [] l.2.last (All-nil (IsGroup os)) in
            given_nothing taken turn
            (subst (All (IsNoStart turn)) (sym (all ∙ l.2.joined))
            (other_groups turn bus os (l.0 ++ l.1 ∷ []) (All-append (IsGroup os) l.0 (l.1 ∷ []) l.2.each last)
            (All-append (λ (c : Group). c.turn < turn) l.0 (l.1 ∷ []) older one))))
            (offers_grouped bus capacity os offered).1,
        cond-false (turn_of os == turn) (gap_of (trailing os)) None (ne_eqb (turn_of os) turn other),
      )

  -- each number after the group is that of an offer refused in its turn
  rest_refused : (g : Group) (n : ℕ) → g.turn ≡ turn_of os → g.next + length (since_put os) ≡ length os → All (IsMissed (turn_of os)) (since_put os)
      → g.next ≤ n → n < length os → (d : Offered) → OfferWas outcome.Refused os g.turn n
  rest_refused g n is next missing above below d =
      let k : ℕ = n - g.next in
      let place : g.next + k ≡ n = omega arith in
      let inside : k < length (since_put os) = omega arith in
      let m = missing k d inside in
      (get_or (since_put os) k d, ap (slice_get os) (sym place) ∙ since_at os (since_put os) g.next k d f refl next inside, m.0 ∙ sym is, m.1)

  whole_turn : (closed : List Group) (g : Group) → LastGroup bus os closed g → turn_of os ≡ turn → IsWholeTurn bus os (given taken turn) (ending turn os) g
  whole_turn closed g l same =
      let missing : All (IsMissed (turn_of os)) (since_put os) = all_missed os turn odd same low f in
      let mine : g.turn ≡ turn = l.turn_is ∙ same in
      let older : All (λ (c : Group). c.turn < turn) closed = subst (λ t. All (λ (c : Group). c.turn < t) closed) mine l.below in
      let joined : items_taken taken ≡ flat_map (group_items bus) closed ++ group_items bus g =
      all ∙ (l.joined ∙ (flat_map-append (group_items bus) closed (g ∷ []) ∙ ap (λ xs. flat_map (group_items bus) closed ++ xs) (append-nil (group_items bus g)))) in
      let parts = map_split (λ (t : Taken). t.item) taken (flat_map (group_items bus) closed) (group_items bus g) joined in
      let gap : ending turn os ≡ gap_of (since_put os) =
      cond-true (turn_of os == turn) (gap_of (trailing os)) None (eq-eqb (turn_of os) turn same) ∙ ap gap_of (trailing_all os missing) in
      let rest = trailing_tiles os (since_put os) bus g.next (turn_of os) f refl l.next_is missing in
      record {
        whole =
            ap (λ ts. given ts turn) parts.2
            ∙ given_group turn bus os parts.0 parts.1 g (subst (AreTaken turn) parts.2 words)
            (subst (All (IsNoStart turn)) (sym parts.3) (other_groups turn bus os closed l.each older)) parts.4 mine;
        group = l.last;
        to_the_end =
            subst (λ m. Tiles (g.items ++ gap_item bus m) (readings_of os) g.number (length os)) (sym gap)
            (tiles_append g.items (gap_item bus (gap_of (since_put os))) (readings_of os) g.number g.next (length os) l.last.tiles rest.0);
        refused = λ n above below. rest_refused g n l.turn_is l.next_is missing above below l.last.starts.0;
      }

  pub started : turn_of os ≡ turn → (g : Group) × (g.turn ≡ turn) × IsWholeTurn bus os (given taken turn) (ending turn os) g
  started same =
      ⊎_elim
      (λ (n : (put_of os ≡ []) × (turn_of os ≡ 0)). absurd (let zero_turn : turn ≡ 0 = sym same ∙ n.1 in let even : turn % 2 ≡ 0 = ap (λ t. t % 2) zero_turn in omega arith))
      (λ (l : (closed : List Group) × (g : Group) × LastGroup bus os closed g). (l.1, l.2.turn_is ∙ same, whole_turn l.0 l.1 l.2 same))
      (offers_grouped bus capacity os offered).1

  gap_to : (since : List Offered) (g : Group) → since_put os ≡ since → g.next + length since ≡ length os → IsGapTo g.next (length os) (gap_of since)
  gap_to [] g is place = omega arith
  gap_to (q ∷ qs) g is place = ((gap_is os q qs g.next f is place).0, place, omega arith)

  -- the gap at the end, by the number after what was given
  pub ended_gap : turn_of os ≡ turn → (is_begun (given taken turn) ≡ true) × IsGapTo (next_of (given taken turn)) (length os) (ending turn os)
  ended_gap same =
      ⊎_elim
      (λ (n : (put_of os ≡ []) × (turn_of os ≡ 0)). absurd (let zero_turn : turn ≡ 0 = sym same ∙ n.1 in let even : turn % 2 ≡ 0 = ap (λ t. t % 2) zero_turn in omega arith))
      (λ (l : (closed : List Group) × (g : Group) × LastGroup bus os closed g).
      let whole = whole_turn l.0 l.1 l.2 same in
      let missing : All (IsMissed (turn_of os)) (since_put os) = all_missed os turn odd same low f in
      let gap : ending turn os ≡ gap_of (since_put os) =
      cond-true (turn_of os == turn) (gap_of (trailing os)) None (eq-eqb (turn_of os) turn same) ∙ ap gap_of (trailing_all os missing) in (
        ap is_begun whole.whole,
        subst (λ m. IsGapTo (next_of (given taken turn)) (length os) m) (sym gap)
            (subst (λ n. IsGapTo n (length os) (gap_of (since_put os))) (sym (ap next_of whole.whole ∙ l.2.ends)) (gap_to (since_put os) l.1 refl l.2.next_is)),
      ))
      (offers_grouped bus capacity os offered).1

-- items taken under other words do not change what was given
pub given_longer : (taken more : List Taken) (turn : ℕ) → All (λ t. t.attach ≢ turn) more → given (taken ++ more) turn ≡ given taken turn
given_longer taken more turn other =
    let none : filter (in_turn turn) more ≡ [] = filter_none (in_turn turn) more (λ k d below. let t : Taken = get_or more k d in ne_eqb t.attach turn (other k d below)) in
    let same : filter (in_turn turn) (taken ++ more) ≡ filter (in_turn turn) taken =
    filter-append (in_turn turn) taken more ∙ (ap (λ xs. filter (in_turn turn) taken ++ xs) none ∙ append-nil (filter (in_turn turn) taken)) in
    ap (λ xs. from_start turn (items_taken xs)) same

-- a group's turn is no higher than a word that no offer's word is above
pub turns_bounded : (a : ℕ) (os : List Offered) (g : Group) → IsGroup os g → All (λ o. o.attach ≤ a) os → g.turn ≤ a
turns_bounded a os g h low =
    let word : h.starts.0.attach ≡ g.turn = h.starts.2 in
    let bound : h.starts.0.attach ≤ a = all_get (λ (o : Offered). o.attach ≤ a) os g.number h.starts.0 low h.starts.1 in
    omega arith
