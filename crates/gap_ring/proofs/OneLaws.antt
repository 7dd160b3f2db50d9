-- There is one way to part items into groups, one way in which an offer ends, and the first turn begins at the first
-- record.
use Rattle.std.proofs.Common.{◌≡◌, ℕ, zero, suc, ◌+◌, ◌-◌, ◌<◌, ◌≤◌, ◌==◌, true, false, List, [], ◌∷◌, ◌++◌}
use Rattle.std.proofs.Common.{length, get_or, take, slice_get, flat_map, All, Contains, Option, Some, None, refl, sym, ap, ◌∙◌, subst}
use Rattle.std.proofs.Common.{arith, append-nil, append_assoc, ⊎_elim}
use Rattle.std.proofs.lemmas.Bool.{cases_lt}
use Rattle.std.proofs.lemmas.Option.{none-some, same_Some}
use Rattle.std.proofs.lemmas.List.Elements.{All-head, All-tail, All-weaker, All-contains}
use Rattle.std.specs.List.{range_with_len}
use Rattle.bench_model.specs.declared.reading.Reading.{Reading}
use Rattle.bench_model.specs.declared.reading.Item.{Item}
use Rattle.bench_model.specs.declared.reading.Item.TheVariants as item
use Rattle.gap_ring.specs.declared.entries.Outcome.{Outcome}
use Rattle.gap_ring.specs.declared.entries.Outcome.TheVariants as outcome
use Rattle.gap_ring.specs.declared.entries.Offered.{Offered}
use Rattle.gap_ring.specs.Offers.{IsAttached, IsDetached, IsHeadOf, puts, is_put, put_after, put_of, slots_free}
use Rattle.gap_ring.specs.Offers.{Ends, IsOffered, AreOffersAfter, AreOffers, readings_of}
use Rattle.gap_ring.specs.Tiles.{Tiles, IsFrom}
use Rattle.gap_ring.specs.Groups.{Group, group_items, OfferWas, IsGroup, AreGroups}
use Rattle.gap_ring.proofs.PlaceLaws.{all_pairs_tail, head_same, tail_same}

-- an item that is no Start
abbrev IsInner : Item → Type 0
IsInner (item.Start bus number turn) = ⊥
IsInner (item.Reading r) = Unit {0}
IsInner (item.Gap bus m) = Unit {0}
IsInner (item.End bus number) = Unit {0}

inner_from : (list : List Reading) (x : Item) → IsFrom list x → IsInner x
inner_from list (item.Start bus number turn) h = h
inner_from list (item.Reading r) h = tt
inner_from list (item.Gap bus m) h = tt
inner_from list (item.End bus number) h = tt

-- what begins with a Start, or is empty
abbrev BeginsAnew : List Item → Type 0
BeginsAnew [] = Unit {0}
BeginsAnew (x ∷ xs) = ¬ IsInner x

groups_begin : (bus : ℕ) (gs : List Group) → BeginsAnew (flat_map (group_items bus) gs)
groups_begin bus [] = tt
groups_begin bus (g ∷ gs) = λ h. h

-- a list is parted in one way where the second part begins anew
parted : (xs ys us vs : List Item) → All IsInner xs → All IsInner us → BeginsAnew ys → BeginsAnew vs → xs ++ ys ≡ us ++ vs → (xs ≡ us) × (ys ≡ vs)
parted [] ys [] vs h k b c e = (refl, e)
parted [] [] (u ∷ us) vs h k b c e = absurd (let n : 0 ≡ length (u ∷ (us ++ vs)) = ap length e in omega arith)
parted [] (y ∷ ys) (u ∷ us) vs h k b c e =
    absurd (b (subst IsInner (sym (head_same y u ys (us ++ vs) e)) (All-head IsInner u us k)))
parted (x ∷ xs) ys [] [] h k b c e = absurd (let n : length (x ∷ (xs ++ ys)) ≡ 0 = ap length e in omega arith)
parted (x ∷ xs) ys [] (v ∷ vs) h k b c e =
    absurd (c (subst IsInner (head_same x v (xs ++ ys) vs e) (All-head IsInner x xs h)))
parted (x ∷ xs) ys (u ∷ us) vs h k b c e =
    let rest = parted xs ys us vs (All-tail IsInner x xs h) (All-tail IsInner u us k) b c (tail_same x u (xs ++ ys) (us ++ vs) e) in
    let first : x ≡ u = head_same x u (xs ++ ys) (us ++ vs) e in
    ((λ i. first i ∷ rest.0 i), rest.1)

start_number : Item → ℕ
start_number (item.Start bus number turn) = number
start_number (item.Reading r) = 0
start_number (item.Gap bus m) = 0
start_number (item.End bus number) = 0

start_turn : Item → ℕ
start_turn (item.Start bus number turn) = turn
start_turn (item.Reading r) = 0
start_turn (item.Gap bus m) = 0
start_turn (item.End bus number) = 0

unfolding_number : (b n t c m u : ℕ) → item.Start b n t ≡ item.Start c m u → n ≡ m
unfolding start_number
unfolding_number b n t c m u e = ap start_number e

unfolding_turn : (b n t c m u : ℕ) → item.Start b n t ≡ item.Start c m u → t ≡ u
unfolding start_turn
unfolding_turn b n t c m u e = ap start_turn e

length_range : (a n : ℕ) → length (range_with_len a n) ≡ n
length_range a zero = refl
length_range a (suc n) = ap suc (length_range (a + 1) n)

-- the end of tiles
tiles_end : (items : List Item) (list : List Reading) (a b c : ℕ) → Tiles items list a b → Tiles items list a c → b ≡ c
tiles_end items list a b c h k =
    let same : b - a ≡ c - a = sym (length_range a (b - a)) ∙ (ap length (sym h.once ∙ k.once) ∙ length_range a (c - a)) in
    let low = h.order in
    let high = k.order in
    omega arith

pub one_grouping : (bus : ℕ) (os : List Offered) (items : List Item) (gs hs : List Group) → AreGroups bus os items gs → AreGroups bus os items hs → gs ≡ hs
one_grouping bus os items [] [] g h = refl
one_grouping bus os items [] (y ∷ hs) g h = absurd (let n : 0 ≡ length (group_items bus y ++ flat_map (group_items bus) hs) = ap length (sym g.joined ∙ h.joined) in omega arith)
one_grouping bus os items (x ∷ gs) [] g h = absurd (let n : length (group_items bus x ++ flat_map (group_items bus) gs) ≡ 0 = ap length (sym g.joined ∙ h.joined) in omega arith)
one_grouping bus os items (x ∷ gs) (y ∷ hs) g h =
    let F : List Group → List Item = flat_map (group_items bus) in
    let same : group_items bus x ++ F gs ≡ group_items bus y ++ F hs = sym g.joined ∙ h.joined in
    let start : item.Start bus x.number x.turn ≡ item.Start bus y.number y.turn =
    head_same (item.Start bus x.number x.turn) (item.Start bus y.number y.turn) (x.items ++ F gs) (y.items ++ F hs) same in
    let gx : IsGroup os x = All-head (IsGroup os) x gs g.each in
    let gy : IsGroup os y = All-head (IsGroup os) y hs h.each in
    let inner_x : All IsInner x.items = All-weaker (IsFrom (readings_of os)) IsInner (inner_from (readings_of os)) x.items gx.tiles.true_to in
    let inner_y : All IsInner y.items = All-weaker (IsFrom (readings_of os)) IsInner (inner_from (readings_of os)) y.items gy.tiles.true_to in
    let parts = parted x.items (F gs) y.items (F hs) inner_x inner_y (groups_begin bus gs) (groups_begin bus hs)
    (tail_same (item.Start bus x.number x.turn) (item.Start bus y.number y.turn) (x.items ++ F gs) (y.items ++ F hs) same) in
    let number : x.number ≡ y.number = unfolding_number bus x.number x.turn bus y.number y.turn start in
    let turn : x.turn ≡ y.turn = unfolding_turn bus x.number x.turn bus y.number y.turn start in
    let moved : Tiles y.items (readings_of os) y.number x.next =
    subst (λ n. Tiles y.items (readings_of os) n x.next) number (subst (λ xs. Tiles xs (readings_of os) x.number x.next) parts.0 gx.tiles) in
    let next : x.next ≡ y.next = tiles_end y.items (readings_of os) y.number x.next y.next moved gy.tiles in
    let rest : gs ≡ hs = one_grouping bus os (F gs) gs hs
    record { joined = refl; each = All-tail (IsGroup os) x gs g.each; turns_rise = all_pairs_tail (λ (a b : Group). a.turn < b.turn) x gs g.turns_rise }
    record { joined = parts.1; each = All-tail (IsGroup os) y hs h.each; turns_rise = all_pairs_tail (λ (a b : Group). a.turn < b.turn) y hs h.turns_rise } in
    λ i. record { number = number i; turn = turn i; next = next i; items = parts.0 i } ∷ rest i

-- how an offer ends is decided by the words that it loaded
pub one_end : (capacity attach : ℕ) (head : Option ℕ) (tail needed : ℕ) (a b : Outcome) → Ends capacity attach head tail needed a → Ends capacity attach head tail needed b → a ≡ b
one_end capacity attach head tail needed outcome.Put outcome.Put h k = refl
one_end capacity attach head tail needed outcome.Put outcome.Refused h k =
    absurd (let same : h.1.0 ≡ k.1.0 = same_Some h.1.0 k.1.0 (sym h.1.1 ∙ k.1.1) in
    let more : needed ≤ slots_free capacity k.1.0 tail = subst (λ n. needed ≤ slots_free capacity n tail) same h.1.3 in
    let less = k.1.3 in omega arith)
one_end capacity attach head tail needed outcome.Put outcome.Away h k = absurd (let x = h.0 in let y = k.0 in omega arith)
one_end capacity attach head tail needed outcome.Refused outcome.Put h k =
    absurd (let same : k.1.0 ≡ h.1.0 = same_Some k.1.0 h.1.0 (sym k.1.1 ∙ h.1.1) in
    let more : needed ≤ slots_free capacity h.1.0 tail = subst (λ n. needed ≤ slots_free capacity n tail) same k.1.3 in
    let less = h.1.3 in omega arith)
one_end capacity attach head tail needed outcome.Refused outcome.Refused h k = refl
one_end capacity attach head tail needed outcome.Refused outcome.Away h k = absurd (let x = h.0 in let y = k.0 in omega arith)
one_end capacity attach head tail needed outcome.Away outcome.Put h k = absurd (let x = h.0 in let y = k.0 in omega arith)
one_end capacity attach head tail needed outcome.Away outcome.Refused h k = absurd (let x = h.0 in let y = k.0 in omega arith)
one_end capacity attach head tail needed outcome.Away outcome.Away h k = refl

pub some_end_away : (capacity attach tail needed : ℕ) → IsDetached attach → (how : Outcome) × Ends capacity attach None tail needed how
some_end_away capacity attach tail needed even = (outcome.Away, (even, refl))

pub some_end : (capacity attach head tail needed : ℕ) → IsAttached attach → IsHeadOf capacity tail head → (how : Outcome) × Ends capacity attach (Some head) tail needed how
some_end capacity attach head tail needed odd fits =
    ⊎_elim
    (λ (h : slots_free capacity head tail < needed). (outcome.Refused, (odd, (head, refl, fits, h))))
    (λ (h : needed ≤ slots_free capacity head tail). (outcome.Put, (odd, (head, refl, fits, h))))
    (cases_lt (slots_free capacity head tail) needed)

-- each offer of a list is one to the ring, after those before it
pub offer_at : (bus capacity : ℕ) (before os : List Offered) (n : ℕ) (o : Offered) → AreOffersAfter bus capacity before os → slice_get os n ≡ Some o
    → IsOffered bus capacity (before ++ take n os) o
offer_at bus capacity before [] n o h there = absurd (none-some o there)
offer_at bus capacity before (p ∷ os) zero o h there =
    subst (λ b. IsOffered bus capacity b o) (sym (append-nil before)) (subst (IsOffered bus capacity before) (same_Some p o there) h.0)
offer_at bus capacity before (p ∷ os) (suc n) o h there =
    subst (λ b. IsOffered bus capacity b o) (append_assoc before (p ∷ []) (take n os)) (offer_at bus capacity (before ++ p ∷ []) os n o h.1 there)

-- the first record of a ring of two slots or more is put with its Start, where a taker is attached
first_put : (bus capacity : ℕ) (o : Offered) (how : Outcome) → 2 ≤ capacity → IsOffered bus capacity [] o → o.attach ≡ 1 → o.outcome ≡ how → how ≡ outcome.Put
first_put bus capacity o outcome.Put room h one e = refl
first_put bus capacity o outcome.Refused room h one e =
    absurd (
    let ends : Ends capacity o.attach o.head o.tail o.needed outcome.Refused = subst (λ w. Ends capacity o.attach o.head o.tail o.needed w) e h.ends in
    let tail : o.tail ≡ 0 = h.tail_is in
    let attach : (o.attach == 0) ≡ false = ap (λ n. n == 0) one in
    let needed : o.needed ≡ 2 = h.needed_is ∙ rw attach refl in
    let less = ends.1.3 in
    omega arith)
first_put bus capacity o outcome.Away room h one e =
    absurd (
    let ends : Ends capacity o.attach o.head o.tail o.needed outcome.Away = subst (λ w. Ends capacity o.attach o.head o.tail o.needed w) e h.ends in
    let even = ends.0 in
    omega arith)

-- what is put then
pub first_start : (bus capacity : ℕ) (o : Offered) (os : List Offered) → 2 ≤ capacity → AreOffers bus capacity (o ∷ os) → o.attach ≡ 1
    → (rest : List Item) × (put_of (o ∷ os) ≡ item.Start bus 0 1 ∷ item.Reading o.reading ∷ rest)
first_start bus capacity o os room h one =
    let put : is_put o ≡ true = ap puts (first_put bus capacity o o.outcome room h.0 one refl) in
    let attach : (o.attach == 0) ≡ false = ap (λ n. n == 0) one in
    let start : item.Start o.reading.bus o.reading.number o.attach ≡ item.Start bus 0 1 =
    ap (λ b. item.Start b o.reading.number o.attach) h.0.bus_is ∙ (ap (λ n. item.Start bus n o.attach) h.0.number_is ∙ ap (λ t. item.Start bus 0 t) one) in
    (put_after (o ∷ []) os, rw (put, attach) (ap (λ s. s ∷ item.Reading o.reading ∷ put_after (o ∷ []) os) start))

-- so the group of the first turn begins at the first record
first_of : (bus : ℕ) (os : List Offered) (items : List Item) (gs : List Group) (k : ℕ) (g : Group) (rest : List Item) → AreGroups bus os items gs
    → items ≡ item.Start bus 0 1 ∷ rest → k < length gs → get_or gs k g ≡ g → g.turn ≡ 1 → g.number ≡ 0
first_of bus os items [] k g rest h is below at one = absurd (omega arith)
first_of bus os items (x ∷ gs) zero g rest h is below at one =
    let F : List Group → List Item = flat_map (group_items bus) in
    let start : item.Start bus x.number x.turn ≡ item.Start bus 0 1 =
    head_same (item.Start bus x.number x.turn) (item.Start bus 0 1) (x.items ++ F gs) rest (sym h.joined ∙ is) in
    ap (λ (z : Group). z.number) (sym at) ∙ unfolding_number bus x.number x.turn bus 0 1 start
first_of bus os items (x ∷ gs) (suc k) g rest h is below at one =
    let F : List Group → List Item = flat_map (group_items bus) in
    let start : item.Start bus x.number x.turn ≡ item.Start bus 0 1 =
    head_same (item.Start bus x.number x.turn) (item.Start bus 0 1) (x.items ++ F gs) rest (sym h.joined ∙ is) in
    let turn : x.turn ≡ 1 = unfolding_turn bus x.number x.turn bus 0 1 start in
    let later : x.turn < (get_or gs k g).turn = h.turns_rise 0 (suc k) g (omega arith) below in
    let same : (get_or gs k g).turn ≡ g.turn = ap (λ (z : Group). z.turn) at in
    absurd (omega arith)

pub first_turn : (bus capacity : ℕ) (os : List Offered) (gs : List Group) (g : Group) → 2 ≤ capacity → AreOffers bus capacity os → AreGroups bus os (put_of os) gs
    → Contains gs g → g.turn ≡ 1 → g.number ≡ 0
first_turn bus capacity os gs g room h groups in_it one =
    by_place os gs g.number refl h groups in_it (All-contains (IsGroup os) gs g groups.each in_it).starts
  where
    by_place : (qs : List Offered) (hs : List Group) (n : ℕ) → g.number ≡ n → AreOffers bus capacity qs → AreGroups bus qs (put_of qs) hs → Contains hs g
        → OfferWas outcome.Put qs g.turn g.number → g.number ≡ 0
    by_place qs hs zero e h groups in_it starts = e
    by_place [] hs (suc n) e h groups in_it starts = absurd (none-some starts.0 starts.1)
    by_place (o ∷ qs) hs (suc n) e h groups in_it starts =
        let there : slice_get (o ∷ qs) (suc n) ≡ Some starts.0 = ap (slice_get (o ∷ qs)) (sym e) ∙ starts.1 in
        let that : IsOffered bus capacity (o ∷ take n qs) starts.0 = offer_at bus capacity [] (o ∷ qs) (suc n) starts.0 h there in
        let high : o.attach ≤ starts.0.attach = All-head (λ (p : Offered). p.attach ≤ starts.0.attach) o (take n qs) that.attach_rises in
        let word : starts.0.attach ≡ g.turn = starts.2 in
        let low : 1 ≤ o.attach = h.0.attach_low in
        let first : o.attach ≡ 1 = omega arith in
        let begins = first_start bus capacity o qs room h first in
        first_of bus (o ∷ qs) (put_of (o ∷ qs)) hs in_it.0 g (item.Reading o.reading ∷ begins.0) groups begins.1 in_it.1 in_it.2 one
