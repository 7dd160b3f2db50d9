-- The trees over n signals are those that marks of n signals and links among them make.
use Rattle.std.proofs.Common.{◌≡◌, ℕ, zero, suc, ◌+◌, ◌<◌, ◌≤◌, List, [], ◌∷◌, map, length, get_or, Bool, true, false, Option, Some, None, Result, Ok, Err, if◌then◌else◌, refl, ap, sym, ◌∙◌, arith, eqb, inl, inr}
use Rattle.std.proofs.lemmas.Bool.Decides.{eqb_tells}
use Rattle.std.proofs.lemmas.List.{append-nil}
use Rattle.std.proofs.lemmas.List.Elements.{All-nil, All-cons}
use Rattle.std.specs.List.{AllByRecursion}
use Rattle.std.specs.Option.{option_map}
use Rattle.std.specs.Prelude.{slice_get, All, IfOk}
use Rattle.multiplex_tree.specs.declared.fault.MuxWhy.TheVariants.{NoParent, Ambiguous}
use Rattle.multiplex_tree.specs.declared.fault.MuxFault.{MuxFault}
use Rattle.multiplex_tree.specs.declared.tree.Tree.{Tree}
use Rattle.multiplex_tree.specs.declared.mark.Mark.{Mark}
use Rattle.multiplex_tree.specs.declared.mark.Link.{Link}
use Rattle.multiplex_tree.specs.declared.mark.Parent.{Parent}
use Rattle.multiplex_tree.specs.declared.mark.Range.{Range}
use Rattle.multiplex_tree.specs.Parents.{parent_by_rules, grouped_parent, group_at, links_to, is_multiplexor, is_selector, selectors_from, selectors, only, parent_of_group, named_parent, some_parent}
use Rattle.multiplex_tree.specs.Activity.{parent_at}
use Rattle.multiplex_tree.specs.Fault.{IsTree}
use Rattle.multiplex_tree.specs.Trees.{IsTreeOver}

get_or-parent_at : (os : List (Option Parent)) (i : ℕ) → get_or os i None ≡ parent_at os i
get_or-parent_at [] i = refl
get_or-parent_at (o ∷ os) zero = refl
get_or-parent_at (o ∷ os) (suc i) = get_or-parent_at os i

has_parent_within : (os : List (Option Parent)) (i : ℕ) (p : Parent) → parent_at os i ≡ Some p → i < length os
has_parent_within [] i p e = cc
has_parent_within (o ∷ os) zero p e = omega arith
has_parent_within (o ∷ os) (suc i) p e = omega (arith, has_parent_within os i p e)

multiplexor_within : (marks : List Mark) (i : ℕ) → is_multiplexor (slice_get marks i) ≡ true → i < length marks
multiplexor_within [] i e = cc
multiplexor_within (m ∷ ms) zero e = omega arith
multiplexor_within (m ∷ ms) (suc i) e = omega (arith, multiplexor_within ms i e)

-- each of these numbers is below k
abbrev AllBelow : ℕ → List ℕ → Type 0
AllBelow k ns = AllByRecursion (λ n. n < k) ns

selectors_within : (marks : List Mark) (at k : ℕ) → at + length marks ≤ k → AllBelow k (selectors_from at marks)
unfolding selectors_from
selectors_within [] at k h = tt
selectors_within (m ∷ ms) at k h =
    elim (is_selector m) as (λ (b : Bool). AllBelow k (if b then at ∷ selectors_from (at + 1) ms else selectors_from (at + 1) ms)) [
      | true ↦ (omega arith, selectors_within ms (at + 1) k (omega arith))
      | false ↦ selectors_within ms (at + 1) k (omega arith)
    ]

made_within : (q : Parent) (p : Parent) (k : ℕ) → q.signal < k → q ≡ p → p.signal < k
made_within q p k h e = let same : q.signal ≡ p.signal = ap (λ (r : Parent). r.signal) e in omega arith

only_within : (ss : List ℕ) (n k : ℕ) (p : Parent) → AllBelow k ss → some_parent (parent_of_group n (only ss)) ≡ Ok (Some p) → p.signal < k
only_within [] n k p h e = cc
only_within (s ∷ []) n k p h e = made_within (record { signal = s; ranges = record { low = n; high = n } ∷ [] }) p k h.0 (cc)
only_within (s ∷ t ∷ ss) n k p h e = cc

chosen_within : (b : Bool) (q p : Parent) (k : ℕ) → (b ≡ true → q.signal < k) → some_parent (if b then Ok q else Err NoParent) ≡ Ok (Some p) → p.signal < k
chosen_within true q p k h e = made_within q p k (h refl) (cc)
chosen_within false q p k h e = cc

named_within : (marks : List Mark) (parent : Option ℕ) (ranges : List Range) (same : Bool) (p : Parent) →
    some_parent (if same then named_parent marks parent ranges else Err Ambiguous) ≡ Ok (Some p) → p.signal < length marks
named_within marks (Some q) ranges true p e =
    chosen_within (is_multiplexor (slice_get marks q)) (record { signal = q; ranges = ranges }) p (length marks) (multiplexor_within marks q) e
named_within marks None ranges true p e = cc
named_within marks parent ranges false p e = cc

-- a parent by the rules is one of the signals
grouped_within : (marks : List Mark) (links : List Link) (group : Option ℕ) (p : Parent) → grouped_parent marks links group ≡ Ok (Some p) → p.signal < length marks
grouped_within marks links None p e = cc
grouped_within marks [] (Some n) p e = only_within (selectors marks) n (length marks) p (selectors_within marks 0 (length marks) (omega arith)) e
grouped_within marks (l ∷ ls) (Some n) p e = named_within marks l.parent _ _ p e

-- the tree of marks is one over as many signals
pub tree_over : (marks : List Mark) (links : List Link) (parents : List (Option Parent)) → IsTree marks links parents → IsTreeOver (length marks) parents
tree_over marks links parents tree = record {
  number = tree.parents.number;
  within = λ i p e.
      let less : i < length parents = has_parent_within parents i p e in
      let here : i < length marks = omega (arith, tree.parents.number) in
      grouped_within marks (links_to i links) (group_at marks i) p (tree.parents.each i here ∙ ap Ok (get_or-parent_at parents i ∙ e));
  shallow = tree.shallow;
}

-- marks and links that make a tree: each signal is a multiplexor, those with a parent are in group 0 and have one link
abbrev mark_for : Option Parent → Mark
mark_for None = record { multiplexor = true; group = None }
mark_for (Some p) = record { multiplexor = true; group = Some 0 }

abbrev marks_for : List (Option Parent) → List Mark
marks_for parents = map mark_for parents

abbrev link_for : ℕ → Option Parent → List Link
link_for i None = []
link_for i (Some p) = record { child = i; parent = Some p.signal; ranges = p.ranges } ∷ []

links_for : ℕ → List (Option Parent) → List Link
links_for at [] = []
links_for at (None ∷ os) = links_for (suc at) os
links_for at (Some p ∷ os) = record { child = at; parent = Some p.signal; ranges = p.ranges } ∷ links_for (suc at) os

other : (a b : ℕ) → (a ≡ b → ⊥) → eqb a b ≡ false
other a b h = elim (eqb_tells a b) [ inl same ↦ absurd (h same.1) | inr apart ↦ apart.0 ]

itself : (a b : ℕ) → a ≡ b → eqb a b ≡ true
itself a b h = elim (eqb_tells a b) [ inl same ↦ same.0 | inr apart ↦ absurd (apart.1 h) ]

no_link_before : (os : List (Option Parent)) (at i : ℕ) → i < at → links_to i (links_for at os) ≡ []
unfolding links_for
no_link_before [] at i h = refl
no_link_before (None ∷ os) at i h = no_link_before os (suc at) i (omega arith)
no_link_before (Some p ∷ os) at i h = let apart : eqb at i ≡ false = other at i (omega arith) in rw apart (no_link_before os (suc at) i (omega arith))

link_of_its_own : (os : List (Option Parent)) (at i j : ℕ) → j ≡ at + i → links_to j (links_for at os) ≡ link_for j (parent_at os i)
unfolding links_for
link_of_its_own [] at i j e = refl
link_of_its_own (None ∷ os) at zero j e = no_link_before os (suc at) j (omega arith)
link_of_its_own (Some p ∷ os) at zero j e =
    let same : at ≡ j = omega arith in
    let here : eqb at j ≡ true = itself at j same in
    rw here (rw (no_link_before os (suc at) j (omega arith)) (rw same refl))
link_of_its_own (None ∷ os) at (suc i) j e = link_of_its_own os (suc at) i j (omega arith)
link_of_its_own (Some p ∷ os) at (suc i) j e =
    let apart : eqb at j ≡ false = other at j (omega arith) in
    rw apart (link_of_its_own os (suc at) i j (omega arith))

number_for : (os : List (Option Parent)) → length (marks_for os) ≡ length os
number_for [] = refl
number_for (o ∷ os) = ap suc (number_for os)

group_for : (os : List (Option Parent)) (i : ℕ) → group_at (marks_for os) i ≡ option_map (λ p. 0) (parent_at os i)
group_for [] i = refl
group_for (None ∷ os) zero = refl
group_for (Some p ∷ os) zero = refl
group_for (o ∷ os) (suc i) = group_for os i

multiplexor_for : (os : List (Option Parent)) (i : ℕ) → i < length os → is_multiplexor (slice_get (marks_for os) i) ≡ true
multiplexor_for [] i h = absurd (omega arith)
multiplexor_for (None ∷ os) zero h = refl
multiplexor_for (Some p ∷ os) zero h = refl
multiplexor_for (o ∷ os) (suc i) h = multiplexor_for os i (omega arith)

parent_for : (marks : List Mark) (i : ℕ) (o : Option Parent) → ((p : Parent) → o ≡ Some p → is_multiplexor (slice_get marks p.signal) ≡ true) →
    grouped_parent marks (link_for i o) (option_map (λ p. 0) o) ≡ Ok o
parent_for marks i None h = refl
parent_for marks i (Some p) h = let there = h p refl in rw there (rw (append-nil p.ranges) refl)

children_for : (os : List (Option Parent)) (at n : ℕ) → at + length os ≤ n → All (λ (l : Link). l.child < n) (links_for at os)
unfolding links_for
children_for [] at n h = All-nil (λ (l : Link). l.child < n)
children_for (None ∷ os) at n h = children_for os (suc at) n (omega arith)
children_for (Some p ∷ os) at n h = All-cons (λ (l : Link). l.child < n) _ _ (omega arith) (children_for os (suc at) n (omega arith))

rule_for : (n : ℕ) (parents : List (Option Parent)) → IsTreeOver n parents → (i : ℕ) →
    parent_by_rules (marks_for parents) (links_for 0 parents) i ≡ Ok (get_or parents i None)
rule_for n parents tree i =
    let link : links_to i (links_for 0 parents) ≡ link_for i (parent_at parents i) = link_of_its_own parents 0 i i (omega arith) in
    rw (link, group_for parents i, get_or-parent_at parents i)
    (parent_for (marks_for parents) i (parent_at parents i)
    (λ p e. multiplexor_for parents p.signal (let less : p.signal < n = tree.within i p e in omega (arith, tree.number))))

-- a tree over n signals is made by them
pub tree_made : (n : ℕ) (parents : List (Option Parent)) → IsTreeOver n parents →
    (marks : List Mark) × (links : List Link) × (length marks ≡ n) × All (λ l. l.child < n) links × IsTree marks links parents
tree_made n parents tree = (
  marks_for parents,
  links_for 0 parents,
  number_for parents ∙ tree.number,
  children_for parents 0 n (omega (arith, tree.number)),
  record {
    parents = record { number = sym (number_for parents); each = λ i h. rule_for n parents tree i };
    shallow = tree.shallow;
  },
)

-- what is answered is a tree over the signals
pub resolved_over : (marks : List Mark) (links : List Link) (r : Result Tree MuxFault) → IfOk r (λ t. IsTree marks links t.parents) →
    IfOk r (λ t. IsTreeOver (length marks) t.parents)
resolved_over marks links (Ok t) h = tree_over marks links t.parents h
resolved_over marks links (Err fault) h = tt
