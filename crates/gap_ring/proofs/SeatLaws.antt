-- Each seat knows its own part: after a step of one of them, after a split, and after a join.
use Rattle.std.proofs.Common.{◌≡◌, ◌≢◌, ◌⊎◌, ℕ, zero, suc, true, true≢false, List, [], ◌∷◌, ◌++◌, length, set}
use Rattle.std.proofs.Common.{refl, sym, ap, ◌∙◌, inl, inr, ⊎_elim, length-set}
use mathlib.Core.Option.{some, some-ne-none, some-injective}
use lib.ListN.{get_elem?}
use Rattle.atomic_table.proofs.Lists.{at_set, set_else}
use Rattle.gap_ring.specs.declared.view.Putting.{Putting}
use Rattle.gap_ring.specs.declared.view.Taking.{Taking}
use Rattle.gap_ring.specs.declared.view.View.{View}
use Rattle.gap_ring.specs.Rule.{first_view, first_putting, first_taking, Knows, EachSeat}
use Rattle.gap_ring.specs.Steps.{putter_side, taker_side, both_sides, spent_view}

at_end : (l : List View) (a b : View) (j : ℕ) → get_elem? (l ++ a ∷ []) j ≡ some b → (get_elem? l j ≡ some b) ⊎ ((j ≡ length l) × (a ≡ b))
at_end [] a b zero e = inr (refl, some-injective a b e)
at_end [] a b (suc j) e = absurd (some-ne-none b (sym e))
at_end (x ∷ xs) a b zero e = inl e
at_end (x ∷ xs) a b (suc j) e =
    ⊎_elim
    (λ (h : get_elem? xs j ≡ some b). inl h)
    (λ (h : (j ≡ length xs) × (a ≡ b)). inr (ap suc h.0, h.1))
    (at_end xs a b j e)

pub seats_start : (bus : ℕ) → EachSeat 0 0 first_putting (first_taking bus) (first_view bus ∷ [])
seats_start bus zero v e =
    let same : first_view bus ≡ v = some-injective (first_view bus) v e in
    ((λ _. (refl, ap (λ (u : View). u.putting) (sym same))), λ _. (refl, ap (λ (u : View). u.taking) (sym same)))
seats_start bus (suc j) v e = absurd (some-ne-none v (sym e))

module _ (putter taker : ℕ) (p : Putting) (t : Taking) (views : List View) (each : EachSeat putter taker p t views) where
  abbrev F : Putting → Taking → ℕ → View → Type 0
  F p' t' = Knows putter taker p' t'

  pub seats_after_put : (id : ℕ) (v : View) (p' : Putting) → get_elem? views id ≡ some v → v.puts ≡ true
      → EachSeat putter taker p' t (set views id (record v { putting = p' }))
  seats_after_put id v p' at may j u e =
      let mine = (each id v at).0 may in
      let w : View = record v { putting = p' } in
      ⊎_elim
      (λ (h : (j ≡ id) × (w ≡ u)). (
        (λ _. (h.0 ∙ mine.0, ap (λ (z : View). z.putting) (sym h.1))),
        λ takes. let old = (each id v at).1 (ap (λ (z : View). z.takes) h.1 ∙ takes) in (h.0 ∙ old.0, ap (λ (z : View). z.taking) (sym h.1) ∙ old.1),
      ))
      (λ (h : (j ≢ id) × (get_elem? views j ≡ some u)).
      ((λ puts. absurd (h.0 (((each j u h.1).0 puts).0 ∙ sym mine.0))), (each j u h.1).1))
      (at_set views id j w u e)

  pub seats_after_take : (id : ℕ) (v : View) (t' : Taking) → get_elem? views id ≡ some v → v.takes ≡ true
      → EachSeat putter taker p t' (set views id (record v { taking = t' }))
  seats_after_take id v t' at may j u e =
      let mine = (each id v at).1 may in
      let w : View = record v { taking = t' } in
      ⊎_elim
      (λ (h : (j ≡ id) × (w ≡ u)). (
        (λ puts. let old = (each id v at).0 (ap (λ (z : View). z.puts) h.1 ∙ puts) in (h.0 ∙ old.0, ap (λ (z : View). z.putting) (sym h.1) ∙ old.1)),
        λ _. (h.0 ∙ mine.0, ap (λ (z : View). z.taking) (sym h.1)),
      ))
      (λ (h : (j ≢ id) × (get_elem? views j ≡ some u)).
      ((each j u h.1).0, λ takes. absurd (h.0 (((each j u h.1).1 takes).0 ∙ sym mine.0))))
      (at_set views id j w u e)

  -- the new seat is the taker's
  pub seats_split : (id : ℕ) (v : View) → get_elem? views id ≡ some v → v.puts ≡ true → v.takes ≡ true
      → EachSeat putter (length views) p t (set views id (putter_side v) ++ taker_side v ∷ [])
  seats_split id v at puts takes j u e =
      let mine = each id v at in
      let left : View = putter_side v in
      let right : View = taker_side v in
      let count : length (set views id left) ≡ length views = length-set views id left in
      ⊎_elim
      (λ (here : get_elem? (set views id left) j ≡ some u).
      ⊎_elim
      (λ (h : (j ≡ id) × (left ≡ u)). (
        (λ _. (h.0 ∙ (mine.0 puts).0, ap (λ (z : View). z.putting) (sym h.1) ∙ (mine.0 puts).1)),
        λ is. absurd (true≢false (sym is ∙ ap (λ (z : View). z.takes) (sym h.1))),
      ))
      (λ (h : (j ≢ id) × (get_elem? views j ≡ some u)). (
        (λ is. absurd (h.0 (((each j u h.1).0 is).0 ∙ sym (mine.0 puts).0))),
        λ is. absurd (h.0 (((each j u h.1).1 is).0 ∙ sym (mine.1 takes).0)),
      ))
      (at_set views id j left u here))
      (λ (h : (j ≡ length (set views id left)) × (right ≡ u)). (
        (λ is. absurd (true≢false (sym is ∙ ap (λ (z : View). z.puts) (sym h.1)))),
        λ _. (h.0 ∙ count, ap (λ (z : View). z.taking) (sym h.1) ∙ (mine.1 takes).1),
      ))
      (at_end (set views id left) right u j e)

  -- the putter's seat is the taker's too
  pub seats_join : (id other : ℕ) (v w : View) → get_elem? views id ≡ some v → v.puts ≡ true → other ≢ id
      → get_elem? (set views id (both_sides v w)) other ≡ some w → w.takes ≡ true
      → EachSeat putter id p t (set (set views id (both_sides v w)) other spent_view)
  seats_join id other v w at puts apart there takes j u e =
      let both : View = both_sides v w in
      let mine = (each id v at).0 puts in
      let found : get_elem? views other ≡ some w = sym (set_else views id other both apart) ∙ there in
      let its = (each other w found).1 takes in
      ⊎_elim
      (λ (h : (j ≡ other) × (spent_view ≡ u)). (
        (λ is. absurd (true≢false (sym is ∙ ap (λ (z : View). z.puts) (sym h.1)))),
        λ is. absurd (true≢false (sym is ∙ ap (λ (z : View). z.takes) (sym h.1))),
      ))
      (λ (out : (j ≢ other) × (get_elem? (set views id both) j ≡ some u)).
      ⊎_elim
      (λ (h : (j ≡ id) × (both ≡ u)). (
        (λ _. (h.0 ∙ mine.0, ap (λ (z : View). z.putting) (sym h.1) ∙ mine.1)),
        λ _. (h.0, ap (λ (z : View). z.taking) (sym h.1) ∙ its.1),
      ))
      (λ (h : (j ≢ id) × (get_elem? views j ≡ some u)). (
        (λ is. absurd (h.0 (((each j u h.1).0 is).0 ∙ sym mine.0))),
        λ is. absurd (out.0 (((each j u h.1).1 is).0 ∙ sym its.0)),
      ))
      (at_set views id j both u out.1))
      (at_set (set views id both) other j spent_view u e)
