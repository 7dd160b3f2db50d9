-- The slots after a seat takes one, and after it gives one back.
use Rattle.std.proofs.Common.{◌≡◌, ◌≢◌, ◌⊎◌, ℕ, zero, suc, ◌+◌, ◌%◌, ◌<◌, ◌≤◌, true, false, true≢false, List, [], ◌∷◌, ◌++◌, length, map, replicate, set, slice_get}
use Rattle.std.proofs.Common.{Option, Some, None, refl, sym, ap, ◌∙◌, arith, inl, inr, ⊎_elim, length-set, length-append, get_or}
use Rattle.std.proofs.Math.Nat.{add-mod_right}
use Rattle.std.proofs.lemmas.Nat.{mod_below}
use Rattle.std.proofs.lemmas.Bool.{cases_order, cases_eq, cases_lt}
use Rattle.std.proofs.lemmas.Option.{none-some, slice_get_past, slice_get_within, slice_get-get_or}
use mathlib.Core.Option.{none, some, some-ne-none, some-injective}
use mathlib.Core.Option as maybe
use lib.ListN.{get_elem?}
use Rattle.atomic_table.proofs.Lists.{one_turn, set_here, set_else}
use Rattle.bench_model.specs.declared.reading.Item.{Item}
use Rattle.gap_ring.specs.declared.entries.Taken.{Taken}
use Rattle.gap_ring.specs.declared.view.Putting.{Putting}
use Rattle.gap_ring.specs.declared.view.Taking.{Taking}
use Rattle.gap_ring.specs.Rule.{Slots, IsOut, first_putting, first_taking}
use Rattle.gap_ring.proofs.PlaceLaws.{get_longer, get_last}

abbrev Homes : Type 0
Homes = List (maybe.Option (Option Item))

-- the places of different items are different
pub apart : (h a b n : ℕ) → a < n → b < n → a ≢ b → (h + a) % n ≢ (h + b) % n
apart h a b n low high other same =
    ⊎_elim
    (λ (e : a ≡ b). other e)
    (λ (o : (a < b) ⊎ (b < a)).
    ⊎_elim
    (λ (less : a < b). let e : h + a ≡ h + b = one_turn (h + a) (h + b) n (omega arith) (omega arith) same in other (omega arith))
    (λ (less : b < a). let e : h + b ≡ h + a = one_turn (h + b) (h + a) n (omega arith) (omega arith) (sym same) in other (omega arith))
    o)
    (cases_order a b)

abbrev nothing : Option Item
nothing = None

vacant_at : (n i : ℕ) → i < n → get_elem? (map some (replicate n nothing)) i ≡ some (some nothing)
vacant_at zero i h = absurd (omega arith)
vacant_at (suc n) zero h = refl
vacant_at (suc n) (suc i) h = vacant_at n i (omega arith)

-- at the start nothing waits, and each slot has nothing
pub slots_start : (bus : ℕ) (homes : Homes) (n : ℕ) → homes ≡ map some (replicate n None) → length homes ≡ n → Slots homes first_putting (first_taking bus) []
slots_start bus homes n is count k below =
    let inside : (0 + k) % length homes < n = let m = mod_below (0 + k) (length homes) (omega arith) in omega arith in
    inl (ap (λ (hs : Homes). get_elem? hs ((0 + k) % length homes)) is ∙ vacant_at n ((0 + k) % length homes) inside)

-- where the seats keep what they have
pub slots_same : (homes : Homes) (p p' : Putting) (t t' : Taking) (waiting : List Item) → Slots homes p t waiting → p'.holds_slot ≡ p.holds_slot → t'.hand ≡ t.hand
    → t'.taken ≡ t.taken → Slots homes p' t' waiting
slots_same homes p p' t t' waiting h slot hand taken k below =
    ⊎_elim
    (λ (e : get_elem? homes ((length t.taken + k) % length homes) ≡ some (some (slice_get waiting k))).
    inl (ap (λ (l : List Taken). get_elem? homes ((length l + k) % length homes)) taken ∙ e))
    (λ (o : IsOut p t waiting k).
    inr (⊎_elim
    (λ (x : (k ≡ 0) × ((x : Item) × (t.hand ≡ Some x))). inl (x.0, (x.1.0, hand ∙ x.1.1)))
    (λ (x : (k ≡ length waiting) × (p.holds_slot ≡ true)). inr (x.0, slot ∙ x.1))
    o))
    (h k below)

module _ (homes : Homes) (p p' : Putting) (t : Taking) (waiting : List Item) (h : Slots homes p t waiting) (room : length waiting < length homes) where
  abbrev tail_slot : ℕ
  tail_slot = (length t.taken + length waiting) % length homes

  tail_inside : tail_slot < length homes
  tail_inside = mod_below (length t.taken + length waiting) (length homes) (omega arith)

  -- the slot of the tail is at home, and has nothing
  pub tail_free : p.holds_slot ≡ false → ((x : Item) → t.hand ≡ Some x → slice_get waiting 0 ≡ Some x) → get_elem? homes tail_slot ≡ some (some None)
  tail_free home hand =
      ⊎_elim
      (λ (e : get_elem? homes tail_slot ≡ some (some (slice_get waiting (length waiting)))).
      e ∙ ap (λ (o : Option Item). some (some o)) (slice_get_past waiting (length waiting) (omega arith)))
      (λ (o : IsOut p t waiting (length waiting)).
      ⊎_elim
      (λ (x : (length waiting ≡ 0) × ((x : Item) × (t.hand ≡ Some x))).
      absurd (let inside = slice_get_within waiting 0 x.1.0 (hand x.1.0 x.1.1) in let empty = x.0 in omega arith))
      (λ (x : (length waiting ≡ length waiting) × (p.holds_slot ≡ true)). absurd (true≢false (sym x.1 ∙ home)))
      o)
      (h (length waiting) room)

  pub tail_taken : p.holds_slot ≡ false → p'.holds_slot ≡ true → Slots (set homes tail_slot none) p' t waiting
  tail_taken home slot k below =
      let count : length (set homes tail_slot none) ≡ length homes = length-set homes tail_slot none in
      let inside : k < length homes = omega arith in
      ⊎_elim
      (λ (e : k ≡ length waiting). inr (inr (e, slot)))
      (λ (other : k ≢ length waiting).
      ⊎_elim
      (λ (e : get_elem? homes ((length t.taken + k) % length homes) ≡ some (some (slice_get waiting k))).
      inl (ap (λ n. get_elem? (set homes tail_slot none) ((length t.taken + k) % n)) count
      ∙ (set_else homes tail_slot ((length t.taken + k) % length homes) none (apart (length t.taken) k (length waiting) (length homes) inside room other) ∙ e)))
      (λ (o : IsOut p t waiting k).
      inr (⊎_elim
      (λ (x : (k ≡ 0) × ((x : Item) × (t.hand ≡ Some x))). inl x)
      (λ (x : (k ≡ length waiting) × (p.holds_slot ≡ true)). absurd (other x.0))
      o))
      (h k inside))
      (cases_eq k (length waiting))

  pub tail_given : (x : Item) → p'.holds_slot ≡ false → Slots (set homes tail_slot (some (Some x))) p' t (waiting ++ x ∷ [])
  tail_given x slot k below =
      let full : Homes = set homes tail_slot (some (Some x)) in
      let count : length full ≡ length homes = length-set homes tail_slot (some (Some x)) in
      let inside : k < length homes = omega arith in
      let longer : length (waiting ++ x ∷ []) ≡ length waiting + 1 = length-append waiting (x ∷ []) in
      ⊎_elim
      (λ (e : k ≡ length waiting).
      inl (ap (λ n. get_elem? full ((length t.taken + k) % n)) count
      ∙ (ap (λ n. get_elem? full ((length t.taken + n) % length homes)) e
      ∙ (set_here homes tail_slot (some (Some x)) tail_inside
      ∙ ap (λ (o : Option Item). some (some o)) (sym (get_last waiting x k (sym e)))))))
      (λ (other : k ≢ length waiting).
      let same : slice_get (waiting ++ x ∷ []) k ≡ slice_get waiting k =
      ⊎_elim
      (λ (less : k < length waiting).
      get_longer waiting (x ∷ []) k (get_or waiting k x) (slice_get-get_or waiting k x less) ∙ sym (slice_get-get_or waiting k x less))
      (λ (more : length waiting ≤ k).
      slice_get_past (waiting ++ x ∷ []) k (omega arith) ∙ sym (slice_get_past waiting k more))
      (cases_lt k (length waiting)) in
      ⊎_elim
      (λ (e : get_elem? homes ((length t.taken + k) % length homes) ≡ some (some (slice_get waiting k))).
      inl (ap (λ n. get_elem? full ((length t.taken + k) % n)) count
      ∙ (set_else homes tail_slot ((length t.taken + k) % length homes) (some (Some x)) (apart (length t.taken) k (length waiting) (length homes) inside room other)
      ∙ (e ∙ ap (λ (o : Option Item). some (some o)) (sym same)))))
      (λ (o : IsOut p t waiting k).
      inr (⊎_elim
      (λ (y : (k ≡ 0) × ((y : Item) × (t.hand ≡ Some y))). inl y)
      (λ (y : (k ≡ length waiting) × (p.holds_slot ≡ true)). absurd (other y.0))
      o))
      (h k inside))
      (cases_eq k (length waiting))

module _ (homes : Homes) (p : Putting) (t t' : Taking) (x : Item) (rest : List Item) (h : Slots homes p t (x ∷ rest)) (room : length (x ∷ rest) ≤ length homes) where
  abbrev head_slot : ℕ
  head_slot = length t.taken % length homes

  head_inside : head_slot < length homes
  head_inside = mod_below (length t.taken) (length homes) (omega arith)

  at_head : (length t.taken + 0) % length homes ≡ head_slot
  at_head = let zero_more : length t.taken + 0 ≡ length t.taken = omega arith in ap (λ n. n % length homes) zero_more

  -- the slot of the head is at home, and has the oldest item
  pub head_full : t.hand ≡ None → get_elem? homes head_slot ≡ some (some (Some x))
  head_full empty =
      ⊎_elim
      (λ (e : get_elem? homes ((length t.taken + 0) % length homes) ≡ some (some (Some x))). ap (get_elem? homes) (sym at_head) ∙ e)
      (λ (o : IsOut p t (x ∷ rest) 0).
      ⊎_elim
      (λ (y : (0 ≡ 0) × ((y : Item) × (t.hand ≡ Some y))). absurd (none-some y.1.0 (sym empty ∙ y.1.1)))
      (λ (y : (0 ≡ length (x ∷ rest)) × (p.holds_slot ≡ true)). absurd (let e = y.0 in omega arith))
      o)
      (h 0 (omega arith))

  pub head_taken : t'.hand ≡ Some x → t'.taken ≡ t.taken → Slots (set homes head_slot none) p t' (x ∷ rest)
  head_taken hand taken k below =
      let count : length (set homes head_slot none) ≡ length homes = length-set homes head_slot none in
      let inside : k < length homes = omega arith in
      ⊎_elim
      (λ (e : k ≡ 0). inr (inl (e, (x, hand))))
      (λ (other : k ≢ 0).
      ⊎_elim
      (λ (e : get_elem? homes ((length t.taken + k) % length homes) ≡ some (some (slice_get (x ∷ rest) k))).
      inl (ap (λ (l : List Taken). get_elem? (set homes head_slot none) ((length l + k) % length (set homes head_slot none))) taken
      ∙ (ap (λ n. get_elem? (set homes head_slot none) ((length t.taken + k) % n)) count
      ∙ (set_else homes head_slot ((length t.taken + k) % length homes) none
      (λ s. apart (length t.taken) k 0 (length homes) inside (omega arith) other (s ∙ sym at_head))
      ∙ e))))
      (λ (o : IsOut p t (x ∷ rest) k).
      inr (⊎_elim
      (λ (y : (k ≡ 0) × ((y : Item) × (t.hand ≡ Some y))). absurd (other y.0))
      (λ (y : (k ≡ length (x ∷ rest)) × (p.holds_slot ≡ true)). inr y)
      o))
      (h k inside))
      (cases_eq k 0)

  pub head_given : t'.hand ≡ None → length t'.taken ≡ length t.taken + 1 → Slots (set homes head_slot (some None)) p t' rest
  head_given hand taken k below =
      let full : Homes = set homes head_slot (some None) in
      let count : length full ≡ length homes = length-set homes head_slot (some None) in
      let inside : k < length homes = omega arith in
      let next : length t'.taken + k ≡ length t.taken + suc k = omega arith in
      let place : (length t'.taken + k) % length full ≡ (length t.taken + suc k) % length homes =
      ap (λ n. n % length full) next ∙ ap (λ n. (length t.taken + suc k) % n) count in
      ⊎_elim
      (λ (last : suc k < length homes).
      ⊎_elim
      (λ (e : get_elem? homes ((length t.taken + suc k) % length homes) ≡ some (some (slice_get rest k))).
      inl (ap (get_elem? full) place
      ∙ (set_else homes head_slot ((length t.taken + suc k) % length homes) (some None)
      (λ s. apart (length t.taken) (suc k) 0 (length homes) last (omega arith) (λ z. omega arith) (s ∙ sym at_head))
      ∙ e)))
      (λ (o : IsOut p t (x ∷ rest) (suc k)).
      inr (⊎_elim
      (λ (y : (suc k ≡ 0) × ((y : Item) × (t.hand ≡ Some y))). absurd (let e = y.0 in omega arith))
      (λ (y : (suc k ≡ length (x ∷ rest)) × (p.holds_slot ≡ true)). inr (let e = y.0 in omega arith, y.1))
      o))
      (h (suc k) last))
      (λ (end : length homes ≤ suc k).
      let whole : suc k ≡ length homes = omega arith in
      let round : (length t.taken + suc k) % length homes ≡ head_slot =
      ap (λ n. (length t.taken + n) % length homes) whole ∙ add-mod_right (length t.taken) (length homes) in
      inl (ap (get_elem? full) (place ∙ round)
      ∙ (set_here homes head_slot (some None) head_inside
      ∙ ap (λ (o : Option Item). some (some o)) (sym (slice_get_past rest k (omega arith))))))
      (cases_lt (suc k) (length homes))
