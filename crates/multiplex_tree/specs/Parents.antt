-- The parent of each signal, after extended multiplexing in the DBC format: multiplexer indicators and SG_MUL_VAL_.
use Rattle.std.specs.Prelude.{◌≡◌, ℕ, ◌+◌, ◌<◌, ◌==◌, ◌&&◌, Bool, true, false, List, [], ◌∷◌, filter, length, Option, Some, None, is_none, Result, Ok, Err, slice_get, slice_index_or, option_and_then, if◌then◌else◌}
use Rattle.std.specs.List.{list_all, flat_map}
use Rattle.multiplex_tree.specs.declared.fault.MuxWhy.{MuxWhy}
use Rattle.multiplex_tree.specs.declared.fault.MuxWhy.TheVariants.{NoParent, Ambiguous}
use Rattle.multiplex_tree.specs.declared.mark.Mark.{Mark}
use Rattle.multiplex_tree.specs.declared.mark.Link.{Link}
use Rattle.multiplex_tree.specs.declared.mark.Range.{Range}
use Rattle.multiplex_tree.specs.declared.mark.Parent.{Parent}

-- whether two links name the same parent, or none both
abbrev pub is_same_parent : Option ℕ → Option ℕ → Bool
is_same_parent (Some a) (Some b) = a == b
is_same_parent None None = true
is_same_parent (Some a) None = false
is_same_parent None (Some b) = false

-- the links to a signal, in order
abbrev pub links_to : ℕ → List Link → List Link
links_to i links = filter (λ l. l.child == i) links

-- whether a mark is that of a multiplexor without group, `M`
abbrev pub is_selector : Mark → Bool
is_selector m = m.multiplexor && is_none m.group

-- the places of the multiplexors without group, where the first mark is that of the signal at
unfoldable pub selectors_from : ℕ → List Mark → List ℕ
selectors_from at [] = []
selectors_from at (m ∷ marks) = if is_selector m then at ∷ selectors_from (at + 1) marks else selectors_from (at + 1) marks

-- the multiplexors without group
abbrev pub selectors : List Mark → List ℕ
selectors marks = selectors_from 0 marks

-- the one signal of a list
abbrev pub only : List ℕ → Result ℕ MuxWhy
only [] = Err NoParent
only (s ∷ []) = Ok s
only (s ∷ t ∷ ss) = Err Ambiguous

-- whether a signal is there and is a multiplexor
abbrev pub is_multiplexor : Option Mark → Bool
is_multiplexor (Some m) = m.multiplexor
is_multiplexor None = false

-- a signal as the parent of group n
abbrev pub parent_of_group : ℕ → Result ℕ MuxWhy → Result Parent MuxWhy
parent_of_group n (Ok s) = Ok (record { signal = s; ranges = record { low = n; high = n } ∷ [] })
parent_of_group n (Err why) = Err why

-- the parent that links name, with their ranges
abbrev pub named_parent : List Mark → Option ℕ → List Range → Result Parent MuxWhy
named_parent marks (Some p) ranges =
    if is_multiplexor (slice_get marks p) then Ok (record { signal = p; ranges = ranges }) else Err NoParent
named_parent marks None ranges = Err NoParent

-- the parent of a signal in group n with these links to it: the one that all name, with the ranges of all in order;
-- without links it is the one multiplexor without group
abbrev pub linked_parent : List Mark → ℕ → List Link → Result Parent MuxWhy
linked_parent marks n [] = parent_of_group n (only (selectors marks))
linked_parent marks n (l ∷ ls) =
    if list_all (λ k. is_same_parent k.parent l.parent) ls
    then named_parent marks l.parent (flat_map (λ k. k.ranges) (l ∷ ls))
    else Err Ambiguous

abbrev pub some_parent : Result Parent MuxWhy → Result (Option Parent) MuxWhy
some_parent (Ok p) = Ok (Some p)
some_parent (Err why) = Err why

-- the same of a signal that may have no group: then it has no parent, and links to it are passed over
abbrev pub grouped_parent : List Mark → List Link → Option ℕ → Result (Option Parent) MuxWhy
grouped_parent marks links None = Ok None
grouped_parent marks links (Some n) = some_parent (linked_parent marks n links)

-- the group of a signal
abbrev pub group_at : List Mark → ℕ → Option ℕ
group_at marks i = option_and_then (λ m. m.group) (slice_get marks i)

-- the parent of a signal, where it has one; or why it has not one
abbrev pub parent_by_rules : List Mark → List Link → ℕ → Result (Option Parent) MuxWhy
parent_by_rules marks links i = grouped_parent marks (links_to i links) (group_at marks i)

-- each signal has one parent or none, and these are they
pub record AreParents (marks : List Mark) (links : List Link) (parents : List (Option Parent)) : Type 0 where
  pub number : length parents ≡ length marks
  pub each : (i : ℕ) → i < length marks → parent_by_rules marks links i ≡ Ok (slice_index_or parents i None)
