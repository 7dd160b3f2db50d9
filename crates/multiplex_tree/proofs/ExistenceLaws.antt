-- Marks and links have a tree, or else a fault.
use Rattle.std.proofs.Common.{◌≡◌, ℕ, zero, suc, ◌+◌, ◌<◌, List, [], ◌∷◌, ◌++◌, length, get_or, Option, Some, None, Result, Ok, Err, refl, ◌∙◌, arith, ◌⊎◌, inl, inr, add-one, below_more}
use Rattle.std.proofs.lemmas.Bool.Decides.{leb_tells}
use Rattle.std.specs.Option.{IsNone}
use Rattle.std.specs.Prelude.{IsOk}
use Rattle.multiplex_tree.specs.declared.fault.MuxWhy.{MuxWhy}
use Rattle.multiplex_tree.specs.declared.fault.MuxWhy.TheVariants.{Cycle, Deep}
use Rattle.multiplex_tree.specs.declared.fault.MuxFault.TheVariants.{At}
use Rattle.multiplex_tree.specs.declared.mark.Mark.{Mark}
use Rattle.multiplex_tree.specs.declared.mark.Link.{Link}
use Rattle.multiplex_tree.specs.declared.mark.Parent.{Parent}
use Rattle.multiplex_tree.specs.Parents.{AreParents, parent_by_rules}
use Rattle.multiplex_tree.specs.Chain.{signals_above, ancestor, IsShallow}
use Rattle.multiplex_tree.specs.FarAbove.{IsFirstSome}
use Rattle.multiplex_tree.specs.Fault.{IsTree, IsFault, IsFirstCycle, IsFirstDeep}
use Rattle.multiplex_tree.proofs.ChainLaws.{none_past, never_ends, ends_of_none}
use Rattle.multiplex_tree.proofs.ParentLaws.{parents-more, length-more, fault_of_unresolved}

none_or_some : (f : ℕ → Option ℕ) (n : ℕ) (o : Option ℕ) → f n ≡ o → ((i : ℕ) → i < n → IsNone (f i)) →
    ((i : ℕ) → i < suc n → IsNone (f i)) ⊎ ((s : ℕ) × IsFirstSome (suc n) f s)
none_or_some f n None e none = inl (λ i h. below_more (λ j. IsNone (f j)) n none (rw e refl) i (omega arith))
none_or_some f n (Some x) e none = inr (n, record { within = omega arith; here = rw e refl; first = none })

-- at none of the first n places there is something, or there is a first such place
first_or_none : (f : ℕ → Option ℕ) (n : ℕ) → ((i : ℕ) → i < n → IsNone (f i)) ⊎ ((s : ℕ) × IsFirstSome n f s)
first_or_none f zero = inl (λ i h. absurd (omega arith))
first_or_none f (suc n) =
    elim (first_or_none f n) [
      | inl none ↦ none_or_some f n (f n) refl none
      | inr found ↦ inr (found.0, record { within = omega (arith, found.1.within); here = found.1.here; first = found.1.first })
    ]

-- where no signal among them has a place so far above it, none has
none_anywhere : (ups : List (Option ℕ)) (n : ℕ) → 0 < n → ((i : ℕ) → i < length ups → IsNone (ancestor ups n i)) → (i : ℕ) → IsNone (ancestor ups n i)
none_anywhere ups n some none i =
    elim (leb_tells (length ups) i) [
      | inl past ↦ none_past ups n i some past.1
      | inr within ↦ none i within.1
    ]

-- the chains have no fault, or one that never ends, or one too long
chains_or_fault : (ups : List (Option ℕ)) → IsShallow ups ⊎ (((s : ℕ) × IsFirstCycle ups s) ⊎ ((s : ℕ) × IsFirstDeep ups s))
chains_or_fault ups =
    elim (first_or_none (ancestor ups 9) (length ups)) [
      | inl none ↦ inl (none_anywhere ups 9 (omega arith) none)
      | inr deep ↦ inr (
          elim (first_or_none (ancestor ups (length ups + 1)) (length ups)) [
            | inl none ↦ inr (
              deep.0,
              record {
                within = deep.1.within;
                deep = deep.1.here;
                first = deep.1.first;
                ends = λ i. ends_of_none ups (length ups + 1) i (none_anywhere ups (length ups + 1) (omega arith) none i);
              },
            )
            | inr endless ↦ inl (
              endless.0,
              record {
                within = endless.1.within;
                endless = never_ends ups (length ups + 1) endless.0 (omega arith) endless.1.here;
                first = λ i h. ends_of_none ups (length ups + 1) i (endless.1.first i h);
              },
            )
          ])
    ]

-- the first n signals have these parents
record AreFirstParents (marks : List Mark) (links : List Link) (n : ℕ) (parents : List (Option Parent)) : Type 0 where
  number : length parents ≡ n
  each : (i : ℕ) → i < n → parent_by_rules marks links i ≡ Ok (get_or parents i None)

-- of the first n signals this is the first whose parent is missing or ambiguous, and which of both
record IsFirstUnresolvedOf (marks : List Mark) (links : List Link) (n signal : ℕ) (why : MuxWhy) : Type 0 where
  within : signal < n
  unresolved : parent_by_rules marks links signal ≡ Err why
  first : (i : ℕ) → i < signal → IsOk (parent_by_rules marks links i)

module _ (marks : List Mark) (links : List Link) where
  one_more_parent : (n : ℕ) (r : Result (Option Parent) MuxWhy) → parent_by_rules marks links n ≡ r →
      (parents : List (Option Parent)) → AreFirstParents marks links n parents →
      ((ps : List (Option Parent)) × AreFirstParents marks links (suc n) ps) ⊎ ((s : ℕ) × (why : MuxWhy) × IsFirstUnresolvedOf marks links (suc n) s why)
  one_more_parent n (Ok parent) e parents so_far = inl (
    parents ++ parent ∷ [],
    record {
      number = length-more parents parent n so_far.number ∙ add-one n;
      each = λ i h. parents-more marks links parents n parent so_far.number so_far.each e i (omega arith);
    },
  )
  one_more_parent n (Err why) e parents so_far = inr (
    n,
    why,
    record {
      within = omega arith;
      unresolved = e;
      first = λ i h. rw (so_far.each i h) refl;
    },
  )

  parents_or_unresolved : (n : ℕ) →
      ((ps : List (Option Parent)) × AreFirstParents marks links n ps) ⊎ ((s : ℕ) × (why : MuxWhy) × IsFirstUnresolvedOf marks links n s why)
  parents_or_unresolved zero = inl ([], record { number = refl; each = λ i h. absurd (omega arith) })
  parents_or_unresolved (suc n) =
      elim (parents_or_unresolved n) [
        | inl so_far ↦ one_more_parent n (parent_by_rules marks links n) refl so_far.0 so_far.1
        | inr unresolved ↦ inr (
          unresolved.0,
          unresolved.1,
          record {
            within = omega (arith, unresolved.2.within);
            unresolved = unresolved.2.unresolved;
            first = unresolved.2.first;
          },
        )
      ]

  of_parents : (parents : List (Option Parent)) → AreParents marks links parents →
      ((t : List (Option Parent)) × IsTree marks links t) ⊎ ((s : ℕ) × (why : MuxWhy) × IsFault marks links (At s why))
  of_parents parents are =
      elim (chains_or_fault (signals_above parents)) [
        | inl shallow ↦ inl (parents, record { parents = are; shallow = shallow })
        | inr fault ↦ inr (
            elim fault [
              | inl cycle ↦ (cycle.0, Cycle, record { parents = parents; are_parents = are; chains = cycle.1 })
              | inr deep ↦ (deep.0, Deep, record { parents = parents; are_parents = are; chains = deep.1 })
            ])
      ]

  pub tree_or_fault : ((t : List (Option Parent)) × IsTree marks links t) ⊎ ((s : ℕ) × (why : MuxWhy) × IsFault marks links (At s why))
  tree_or_fault =
      elim (parents_or_unresolved (length marks)) [
        | inl found ↦ of_parents found.0 (record { number = found.1.number; each = found.1.each })
        | inr unresolved ↦ inr (
          unresolved.0,
          unresolved.1,
          fault_of_unresolved marks links unresolved.0 unresolved.1 (record {
            within = unresolved.2.within;
            unresolved = unresolved.2.unresolved;
            first = unresolved.2.first;
          }),
        )
      ]
