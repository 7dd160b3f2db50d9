-- What `resolve` answers: the tree where no signal has a fault, else the first fault by its kind.
use Rattle.std.specs.Prelude.{◌≡◌, ℕ, ◌+◌, ◌<◌, List, length, Option, Err, IsOk, IsNone}
use Rattle.multiplex_tree.specs.declared.fault.MuxWhy.{MuxWhy}
use Rattle.multiplex_tree.specs.declared.fault.MuxWhy.TheVariants.{NoParent, Ambiguous, Cycle, Deep}
use Rattle.multiplex_tree.specs.declared.fault.MuxFault.{MuxFault}
use Rattle.multiplex_tree.specs.declared.fault.MuxFault.TheVariants.{At, Memory}
use Rattle.multiplex_tree.specs.declared.mark.Mark.{Mark}
use Rattle.multiplex_tree.specs.declared.mark.Link.{Link}
use Rattle.multiplex_tree.specs.declared.mark.Parent.{Parent}
use Rattle.multiplex_tree.specs.Parents.{AreParents, parent_by_rules}
use Rattle.multiplex_tree.specs.Chain.{most_parents, signals_above, ancestor, NeverEnds, Ends, IsDeep, IsShallow}

-- the parents of all signals, with no more above each than there may be
pub record IsTree (marks : List Mark) (links : List Link) (tree : List (Option Parent)) : Type 0 where
  pub parents : AreParents marks links tree
  pub shallow : IsShallow (signals_above tree)

-- the first signal whose parent is missing or ambiguous, and which of both
pub record IsFirstUnresolved (marks : List Mark) (links : List Link) (signal : ℕ) (why : MuxWhy) : Type 0 where
  pub within : signal < length marks
  pub unresolved : parent_by_rules marks links signal ≡ Err why
  pub first : (i : ℕ) → i < signal → IsOk (parent_by_rules marks links i)

-- the first signal whose chain of parents never ends
pub record IsFirstCycle (ups : List (Option ℕ)) (signal : ℕ) : Type 0 where
  pub within : signal < length ups
  pub endless : NeverEnds ups signal
  pub first : (i : ℕ) → i < signal → Ends ups i

-- each chain ends, and this is the first signal with too many parents above it
pub record IsFirstDeep (ups : List (Option ℕ)) (signal : ℕ) : Type 0 where
  pub within : signal < length ups
  pub deep : IsDeep ups signal
  pub first : (i : ℕ) → i < signal → IsNone (ancestor ups (most_parents + 1) i)
  pub ends : (i : ℕ) → Ends ups i

-- a fault of the chains of parents; out of memory may come, too
abbrev pub IsChainFault : List (Option ℕ) → MuxFault → Type 0
IsChainFault ups (At signal NoParent) = ⊥
IsChainFault ups (At signal Ambiguous) = ⊥
IsChainFault ups (At signal Cycle) = IsFirstCycle ups signal
IsChainFault ups (At signal Deep) = IsFirstDeep ups signal
IsChainFault ups Memory = Unit {0}

-- each signal has one parent or none, and the chains of these parents have the fault
pub record HasChainFault (marks : List Mark) (links : List Link) (fault : MuxFault) : Type 0 where
  pub parents : List (Option Parent)
  pub are_parents : AreParents marks links parents
  pub chains : IsChainFault (signals_above parents) fault

-- the fault of marks and links: the first signal whose parent is missing or ambiguous, else the first whose chain
-- of parents never ends, else the first with too many parents above it; out of memory may come, too
abbrev pub IsFault : List Mark → List Link → MuxFault → Type 0
IsFault marks links (At signal NoParent) = IsFirstUnresolved marks links signal NoParent
IsFault marks links (At signal Ambiguous) = IsFirstUnresolved marks links signal Ambiguous
IsFault marks links (At signal Cycle) = HasChainFault marks links (At signal Cycle)
IsFault marks links (At signal Deep) = HasChainFault marks links (At signal Deep)
IsFault marks links Memory = Unit {0}
