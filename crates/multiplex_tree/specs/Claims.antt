-- What the code keeps of the links to each signal, and the parent that follows from it.
use Rattle.std.specs.Prelude.{◌≡◌, ℕ, List, [], ◌∷◌, Option, Some, None, Result, Ok, Err, if◌then◌else◌}
use Rattle.std.specs.List.{list_all, flat_map}
use Rattle.multiplex_tree.specs.declared.claim.Claim.{Claim}
use Rattle.multiplex_tree.specs.declared.claim.Claim.TheVariants.{Unlinked, Linked, Divided}
use Rattle.multiplex_tree.specs.declared.fault.MuxWhy.{MuxWhy}
use Rattle.multiplex_tree.specs.declared.fault.MuxWhy.TheVariants.{Ambiguous}
use Rattle.multiplex_tree.specs.declared.mark.Mark.{Mark}
use Rattle.multiplex_tree.specs.declared.mark.Link.{Link}
use Rattle.multiplex_tree.specs.declared.mark.Parent.{Parent}
use Rattle.multiplex_tree.specs.declared.parents.ParentFault.{ParentFault}
use Rattle.multiplex_tree.specs.declared.parents.ParentFault.TheVariants.{Why, Memory}
use Rattle.multiplex_tree.specs.Parents.{is_same_parent, selectors, only, parent_of_group, named_parent, some_parent}

-- what the links to one signal say together: their parent, where they name one parent, and their ranges in order
abbrev pub claim_of : List Link → Claim
claim_of [] = Unlinked
claim_of (l ∷ ls) =
    if list_all (λ k. is_same_parent k.parent l.parent) ls
    then Linked l.parent (flat_map (λ k. k.ranges) (l ∷ ls))
    else Divided

-- the parent of a signal in group n whose links claim this
abbrev pub claimed_parent : List Mark → ℕ → Claim → Result Parent MuxWhy
claimed_parent marks n Unlinked = parent_of_group n (only (selectors marks))
claimed_parent marks n (Linked parent ranges) = named_parent marks parent ranges
claimed_parent marks n Divided = Err Ambiguous

-- the same of a signal that may have no group
abbrev pub marked_parent : List Mark → Claim → Option ℕ → Result (Option Parent) MuxWhy
marked_parent marks claim None = Ok None
marked_parent marks claim (Some n) = some_parent (claimed_parent marks n claim)

-- the fault says why no parent was found; out of memory may come, too
abbrev pub IsWhyOf : {X : Type 0} → Result X MuxWhy → ParentFault → Type 0
IsWhyOf found (Why why) = found ≡ Err why
IsWhyOf found Memory = Unit {0}
