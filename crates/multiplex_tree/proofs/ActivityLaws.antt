-- Which signals are active, from parent to parent.
use Rattle.std.proofs.Common.{◌≡◌, ℕ, zero, suc, ◌+◌, ◌&&◌, ℤ, List, [], ◌∷◌, Bool, true, false, Option, Some, None, refl, ap, sym, ◌∙◌, add-one}
use Rattle.std.specs.Prelude.{IsTrue, ◌↔◌}
use Rattle.std.specs.Option.{is_none, IsNone, option_map}
use Rattle.std.proofs.Math.ListN.{replicate}
use Rattle.std.proofs.lemmas.List.{length-replicate}
use Rattle.multiplex_tree.specs.declared.mark.Parent.{Parent}
use Rattle.multiplex_tree.specs.Chain.{most_parents, signals_above, parent_in, ancestor, IsShallow}
use Rattle.multiplex_tree.specs.Activity.{parent_at, selects, IsActive, at_top, below, is_active_below, is_active_within, is_active}
use Rattle.multiplex_tree.specs.Trees.{IsTreeOver}
use Rattle.multiplex_tree.proofs.ChainLaws.{ancestor-first}

-- the signal that is a parent
pub signal_at : (parents : List (Option Parent)) (i : ℕ) → parent_in (signals_above parents) i ≡ option_map (λ p. p.signal) (parent_at parents i)
signal_at [] i = refl
signal_at (o ∷ os) zero = refl
signal_at (o ∷ os) (suc i) = signal_at os i

none_from : {X : Type 0} → (o : Option X) → is_none o ≡ true → o ≡ None
none_from None h = refl
none_from (Some x) h = cc

left : (a b : Bool) → (a && b) ≡ true → a ≡ true
left true b h = refl
left false b h = h

right : (a b : Bool) → (a && b) ≡ true → b ≡ true
right true b h = h
right false b h = cc

-- one step less is left above the parent
ends_above : (parents : List (Option Parent)) (n i : ℕ) (p : Parent) → parent_at parents i ≡ Some p →
    IsNone (ancestor (signals_above parents) (suc n) i) → IsNone (ancestor (signals_above parents) n p.signal)
ends_above parents n i p e h = rw (ancestor-first (signals_above parents) n i, signal_at parents i, e) at h

active_by : (parents : List (Option Parent)) (raws : List (Option ℤ)) (n i : ℕ) →
    ((j : ℕ) → IsNone (ancestor (signals_above parents) (suc n) j) → is_active_within n parents raws j ≡ true → IsActive parents raws j) →
    (o : Option Parent) → parent_at parents i ≡ o → IsNone (ancestor (signals_above parents) (suc (suc n)) i) →
    is_active_below raws (is_active_within n parents raws) o ≡ true → IsActive parents raws i
active_by parents raws n i above None e ends h = at_top e
active_by parents raws n i above (Some p) e ends h =
    below p e (above p.signal (ends_above parents (suc n) i p e ends) (left _ _ h)) (right (is_active_within n parents raws p.signal) _ h)

-- the test holds only of active signals
pub active_of_test : (parents : List (Option Parent)) (raws : List (Option ℤ)) (n i : ℕ) → IsNone (ancestor (signals_above parents) (suc n) i) →
    is_active_within n parents raws i ≡ true → IsActive parents raws i
unfolding is_active_within
active_of_test parents raws zero i ends h = at_top (none_from _ h)
active_of_test parents raws (suc n) i ends h = active_by parents raws n i (active_of_test parents raws n) (parent_at parents i) refl ends h

both : (a b : Bool) → a ≡ true → b ≡ true → (a && b) ≡ true
both true b h k = k
both false b h k = cc

-- and of all of them
pub test_of_active : (parents : List (Option Parent)) (raws : List (Option ℤ)) (n i : ℕ) → IsNone (ancestor (signals_above parents) (suc n) i) →
    IsActive parents raws i → is_active_within n parents raws i ≡ true
unfolding is_active_within ancestor
test_of_active parents raws zero i ends (at_top e) = rw e refl
test_of_active parents raws (suc n) i ends (at_top e) = rw e refl
test_of_active parents raws zero i ends (below p e a s) = absurd (let some : IsNone (Some p.signal) = rw (signal_at parents i, e) at ends in cc)
test_of_active parents raws (suc n) i ends (below p e a s) =
    rw e (both _ _ (test_of_active parents raws n p.signal (ends_above parents (suc n) i p e ends) a) s)

-- the test is the relation
pub test_is_relation : (parents : List (Option Parent)) (raws : List (Option ℤ)) (i : ℕ) (b : Bool) → IsShallow (signals_above parents) →
    b ≡ is_active parents raws i → IsTrue b ↔ IsActive parents raws i
test_is_relation parents raws i b shallow e =
    (λ h. active_of_test parents raws most_parents i (shallow i) (sym e ∙ h), λ a. e ∙ test_of_active parents raws most_parents i (shallow i) a)

-- a signal without parent
pub top : (parents : List (Option Parent)) (raws : List (Option ℤ)) (n i : ℕ) → parent_at parents i ≡ None → is_active_within n parents raws i ≡ true
unfolding is_active_within
top parents raws zero i e = rw e refl
top parents raws (suc n) i e = rw e refl

and_true : (a b : Bool) → b ≡ true → (a && b) ≡ a
and_true true b h = h
and_true false b h = refl

and_false : (a b : Bool) → b ≡ false → (a && b) ≡ false
and_false true b h = h
and_false false b h = refl

-- a parent that selects the signal decides for it
pub selected : (parents : List (Option Parent)) (raws : List (Option ℤ)) (n m i : ℕ) (p : Parent) → m ≡ n + 1 →
    parent_at parents i ≡ Some p → selects raws p ≡ true →
    is_active_within m parents raws i ≡ is_active_within n parents raws p.signal
unfolding is_active_within
selected parents raws n m i p h e s = rw (h, add-one n) (rw e (and_true _ _ s))

-- one that doesn't select it leaves it inactive
pub passed_over : (parents : List (Option Parent)) (raws : List (Option ℤ)) (n m i : ℕ) (p : Parent) → m ≡ n + 1 →
    parent_at parents i ≡ Some p → selects raws p ≡ false → is_active_within m parents raws i ≡ false
unfolding is_active_within
passed_over parents raws n m i p h e s = rw (h, add-one n) (rw e (and_false _ _ s))

-- the way up
pub way_up : (parents : List (Option Parent)) (k signal place : ℕ) (p : Parent) → ancestor (signals_above parents) k signal ≡ Some place →
    parent_at parents place ≡ Some p → ancestor (signals_above parents) (k + 1) signal ≡ Some p.signal
unfolding ancestor
way_up parents k signal place p way e = rw add-one (rw way (signal_at parents place ∙ ap (option_map (λ q. q.signal)) e))

no_parent : (o : Option Parent) → IsNone (option_map (λ p. p.signal) o) → o ≡ None
no_parent None h = refl
no_parent (Some p) h = cc

-- after as many parents as there may be there is none
pub way_end : (parents : List (Option Parent)) (signal place : ℕ) → IsShallow (signals_above parents) →
    ancestor (signals_above parents) most_parents signal ≡ Some place → parent_at parents place ≡ None
unfolding ancestor
way_end parents signal place shallow way = no_parent _ (rw (way, signal_at parents place) at (shallow signal))

-- so a signal that is reached by so many steps is active
pub active_at_end : (parents : List (Option Parent)) (raws : List (Option ℤ)) (k n signal place : ℕ) → k ≡ most_parents →
    IsShallow (signals_above parents) → ancestor (signals_above parents) k signal ≡ Some place → is_active_within n parents raws place ≡ true
active_at_end parents raws k n signal place e shallow way = top parents raws n place (way_end parents signal place shallow (rw e at way))

-- the levels above the parents tell the same, where those of their parents do
same_below : (parents : List (Option Parent)) (raws : List (Option ℤ)) (n i : ℕ) →
    ((j : ℕ) → IsNone (ancestor (signals_above parents) (suc n) j) → is_active_within n parents raws j ≡ is_active_within (suc n) parents raws j) →
    (o : Option Parent) → parent_at parents i ≡ o → IsNone (ancestor (signals_above parents) (suc (suc n)) i) →
    is_active_below raws (is_active_within n parents raws) o ≡ is_active_below raws (is_active_within (suc n) parents raws) o
same_below parents raws n i same None e ends = refl
same_below parents raws n i same (Some p) e ends =
    ap (λ (b : Bool). b && selects raws p) (same p.signal (ends_above parents (suc n) i p e ends))

-- where no more than n parents are above a signal, n levels tell as much as more
one_level_more : (parents : List (Option Parent)) (raws : List (Option ℤ)) (n i : ℕ) → IsNone (ancestor (signals_above parents) (suc n) i) →
    is_active_within n parents raws i ≡ is_active_within (suc n) parents raws i
unfolding is_active_within ancestor
one_level_more parents raws zero i ends = let e : parent_at parents i ≡ None = no_parent _ (rw (signal_at parents i) at ends) in rw e refl
one_level_more parents raws (suc n) i ends =
    same_below parents raws n i (one_level_more parents raws n) (parent_at parents i) refl ends

-- the parent decides with its own raw value
pub active_below : (parents : List (Option Parent)) (raws : List (Option ℤ)) (n i : ℕ) (p : Parent) → IsNone (ancestor (signals_above parents) (suc (suc n)) i) →
    parent_at parents i ≡ Some p → is_active_within (suc n) parents raws i ≡ (is_active_within (suc n) parents raws p.signal && selects raws p)
unfolding is_active_within
active_below parents raws n i p ends e =
    rw e (ap (λ (b : Bool). b && selects raws p) (one_level_more parents raws n p.signal (ends_above parents (suc n) i p e ends)))

-- signals without parents
none_at : (n i : ℕ) → parent_at (replicate n None) i ≡ None
none_at zero i = refl
none_at (suc n) zero = refl
none_at (suc n) (suc i) = none_at n i

pub active_without_parents : (n : ℕ) (raws : List (Option ℤ)) (i : ℕ) → is_active (replicate n None) raws i ≡ true
active_without_parents n raws i = top (replicate n None) raws most_parents i (none_at n i)

none_above : (n i : ℕ) → parent_in (signals_above (replicate n None)) i ≡ None
none_above n i = rw (signal_at (replicate n None) i, none_at n i) refl

pub tree_without_parents : (n : ℕ) → IsTreeOver n (replicate n None)
tree_without_parents n = record {
  number = length-replicate n None;
  within = λ i p e. absurd (let none : parent_at (replicate n None) i ≡ None = none_at n i in cc);
  shallow = λ i. rw (ancestor-first (signals_above (replicate n None)) most_parents i, none_above n i) refl;
}
