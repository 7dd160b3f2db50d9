-- Marks and links have one tree, or else one fault.
use Rattle.std.proofs.Common.{◌≡◌, ℕ, ◌<◌, List, length, Option, None, Result, Ok, Err, sym, ◌∙◌, ap, refl, subst, inl, inr}
use Rattle.std.proofs.Math.Nat.{eq-or-lt_of_le}
use Rattle.std.proofs.lemmas.Bool.Decides.{leb_tells}
use Rattle.std.proofs.lemmas.List.{ext_get_or}
use Rattle.multiplex_tree.specs.declared.fault.MuxWhy.{MuxWhy}
use Rattle.multiplex_tree.specs.declared.fault.MuxWhy.TheVariants.{NoParent, Ambiguous, Cycle, Deep}
use Rattle.multiplex_tree.specs.declared.fault.MuxFault.{MuxFault}
use Rattle.multiplex_tree.specs.declared.fault.MuxFault.TheVariants.{At, Memory}
use Rattle.multiplex_tree.specs.declared.tree.Tree.{Tree}
use Rattle.std.specs.Prelude.{◌⊎◌, IfOk, IfErr, IsOkAnd, IsErrOf}
use Rattle.multiplex_tree.specs.declared.mark.Mark.{Mark}
use Rattle.multiplex_tree.specs.declared.mark.Link.{Link}
use Rattle.multiplex_tree.specs.declared.mark.Parent.{Parent}
use Rattle.multiplex_tree.specs.Parents.{AreParents, parent_by_rules}
use Rattle.multiplex_tree.specs.Chain.{signals_above, NeverEnds, Ends}
use Rattle.multiplex_tree.proofs.ChainLaws.{some_none, ends_of_none}
use Rattle.multiplex_tree.specs.Fault.{IsTree, IsFault, IsFirstUnresolved, IsFirstCycle, IsFirstDeep}

same_ok : (x y : Option Parent) (r : Result (Option Parent) MuxWhy) → r ≡ Ok x → r ≡ Ok y → x ≡ y
same_ok x y r h k = cc

same_by : (s t : ℕ) → (s < t → ⊥) → (t < s → ⊥) → s ≡ t
same_by s t f g =
    elim (leb_tells s t) [
      | inl le ↦ elim (eq-or-lt_of_le le.1) [ inl e ↦ e | inr lt ↦ absurd (f lt) ]
      | inr lt ↦ absurd (g lt.1)
    ]

module _ (marks : List Mark) (links : List Link) where
  -- the parents are these alone
  pub same_parents : (a b : List (Option Parent)) → AreParents marks links a → AreParents marks links b → a ≡ b
  same_parents a b h k =
      ext_get_or None a b (h.number ∙ sym k.number)
      (λ i less. let within : i < length marks = rw h.number at less in same_ok _ _ _ (h.each i within) (k.each i within))

  pub same_tree : (a b : List (Option Parent)) → IsTree marks links a → IsTree marks links b → a ≡ b
  same_tree a b h k = same_parents a b h.parents k.parents

  not_unresolved : (a : List (Option Parent)) (s : ℕ) (why : MuxWhy) → AreParents marks links a → IsFirstUnresolved marks links s why → ⊥
  not_unresolved a s why h f = let e = sym (h.each s f.within) ∙ f.unresolved in cc

  -- a tree has no fault
  pub tree_without_fault : (a : List (Option Parent)) (s : ℕ) (why : MuxWhy) → IsTree marks links a → ¬ IsFault marks links (At s why)
  tree_without_fault a s NoParent h f = not_unresolved a s NoParent h.parents f
  tree_without_fault a s Ambiguous h f = not_unresolved a s Ambiguous h.parents f
  tree_without_fault a s Cycle h f =
      let e : a ≡ f.parents = same_parents a f.parents h.parents f.are_parents in
      f.chains.endless (ends_of_none (signals_above f.parents) 9 s ((rw e at h.shallow) s))
  tree_without_fault a s Deep h f =
      let e : a ≡ f.parents = same_parents a f.parents h.parents f.are_parents in
      some_none _ f.chains.deep ((rw e at h.shallow) s)

  earlier : (s t : ℕ) (why because : MuxWhy) → IsFirstUnresolved marks links s why → IsFirstUnresolved marks links t because → s < t → ⊥
  earlier s t why because f g less = let ok = rw f.unresolved at (g.first s less) in cc

  same_unresolved : (s t : ℕ) (why because : MuxWhy) → IsFirstUnresolved marks links s why → IsFirstUnresolved marks links t because → (s ≡ t) × (why ≡ because)
  same_unresolved s t why because f g =
      let e : s ≡ t = same_by s t (earlier s t why because f g) (earlier t s because why g f) in
      (e, (let here = sym f.unresolved ∙ ap (parent_by_rules marks links) e ∙ g.unresolved in cc))

never_and_ends : (ups : List (Option ℕ)) (s : ℕ) → NeverEnds ups s → Ends ups s → ⊥
never_and_ends ups s never ends = never ends

same_cycle : (ups : List (Option ℕ)) (s t : ℕ) → IsFirstCycle ups s → IsFirstCycle ups t → s ≡ t
same_cycle ups s t f g = same_by s t (λ less. never_and_ends ups s f.endless (g.first s less)) (λ less. never_and_ends ups t g.endless (f.first t less))

same_deep : (ups : List (Option ℕ)) (s t : ℕ) → IsFirstDeep ups s → IsFirstDeep ups t → s ≡ t
same_deep ups s t f g = same_by s t (λ less. some_none _ f.deep (g.first s less)) (λ less. some_none _ g.deep (f.first t less))

module _ (marks : List Mark) (links : List Link) where
  -- the fault is this alone
  pub same_fault : (s t : ℕ) (why because : MuxWhy) → IsFault marks links (At s why) → IsFault marks links (At t because) → (s ≡ t) × (why ≡ because)
  same_fault s t NoParent NoParent f g = same_unresolved marks links s t NoParent NoParent f g
  same_fault s t NoParent Ambiguous f g = same_unresolved marks links s t NoParent Ambiguous f g
  same_fault s t Ambiguous NoParent f g = same_unresolved marks links s t Ambiguous NoParent f g
  same_fault s t Ambiguous Ambiguous f g = same_unresolved marks links s t Ambiguous Ambiguous f g
  same_fault s t NoParent Cycle f g = absurd (not_unresolved marks links g.parents s NoParent g.are_parents f)
  same_fault s t NoParent Deep f g = absurd (not_unresolved marks links g.parents s NoParent g.are_parents f)
  same_fault s t Ambiguous Cycle f g = absurd (not_unresolved marks links g.parents s Ambiguous g.are_parents f)
  same_fault s t Ambiguous Deep f g = absurd (not_unresolved marks links g.parents s Ambiguous g.are_parents f)
  same_fault s t Cycle NoParent f g = absurd (not_unresolved marks links f.parents t NoParent f.are_parents g)
  same_fault s t Cycle Ambiguous f g = absurd (not_unresolved marks links f.parents t Ambiguous f.are_parents g)
  same_fault s t Deep NoParent f g = absurd (not_unresolved marks links f.parents t NoParent f.are_parents g)
  same_fault s t Deep Ambiguous f g = absurd (not_unresolved marks links f.parents t Ambiguous f.are_parents g)
  same_fault s t Cycle Cycle f g =
      let e : g.parents ≡ f.parents = same_parents marks links g.parents f.parents g.are_parents f.are_parents in
      (same_cycle (signals_above f.parents) s t f.chains (subst (λ (ps : List (Option Parent)). IsFirstCycle (signals_above ps) t) e g.chains), refl)
  same_fault s t Deep Deep f g =
      let e : g.parents ≡ f.parents = same_parents marks links g.parents f.parents g.are_parents f.are_parents in
      (same_deep (signals_above f.parents) s t f.chains (subst (λ (ps : List (Option Parent)). IsFirstDeep (signals_above ps) t) e g.chains), refl)
  same_fault s t Cycle Deep f g =
      let e : g.parents ≡ f.parents = same_parents marks links g.parents f.parents g.are_parents f.are_parents in
      let deep : IsFirstDeep (signals_above f.parents) t = subst (λ (ps : List (Option Parent)). IsFirstDeep (signals_above ps) t) e g.chains in
      absurd (never_and_ends (signals_above f.parents) s f.chains.endless (deep.ends s))
  same_fault s t Deep Cycle f g =
      let e : f.parents ≡ g.parents = same_parents marks links f.parents g.parents f.are_parents g.are_parents in
      let deep : IsFirstDeep (signals_above g.parents) s = subst (λ (ps : List (Option Parent)). IsFirstDeep (signals_above ps) s) e f.chains in
      absurd (never_and_ends (signals_above g.parents) t g.chains.endless (deep.ends t))

module _ (marks : List Mark) (links : List Link) where
  -- an answer that is true of marks and links is the tree that they have, or out of memory
  pub tree_answered : (r : Result Tree MuxFault) → IfOk r (λ t. IsTree marks links t.parents) → IfErr r (IsFault marks links) →
      (parents : List (Option Parent)) → IsTree marks links parents → IsOkAnd r (λ t. t.parents ≡ parents) ⊎ IsErrOf r Memory
  tree_answered (Ok t) h f parents k = inl (same_tree marks links t.parents parents h k)
  tree_answered (Err Memory) h f parents k = inr refl
  tree_answered (Err (At s why)) h f parents k = absurd (tree_without_fault marks links parents s why k f)

  -- or their fault
  pub fault_answered : (r : Result Tree MuxFault) → IfOk r (λ t. IsTree marks links t.parents) → IfErr r (IsFault marks links) →
      (signal : ℕ) (why : MuxWhy) → IsFault marks links (At signal why) → IsErrOf r (At signal why) ⊎ IsErrOf r Memory
  fault_answered (Ok t) h f signal why k = absurd (tree_without_fault marks links t.parents signal why h k)
  fault_answered (Err Memory) h f signal why k = inr refl
  fault_answered (Err (At s because)) h f signal why k =
      let same = same_fault marks links s signal because why f k in
      inl (rw same.0 (rw same.1 refl))
