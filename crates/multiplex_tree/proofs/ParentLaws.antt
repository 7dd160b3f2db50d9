-- The rules for parents, signal after signal.
use Rattle.std.proofs.Common.{◌≡◌, ℕ, zero, suc, ◌+◌, ◌<◌, ◌≤◌, List, [], ◌∷◌, ◌++◌, drop, length, get_or, Bool, true, false, Option, Some, None, Result, Ok, Err, if◌then◌else◌, refl, ap, sym, ◌∙◌, arith, add-one}
use Rattle.std.proofs.Common.{below_more}
use Rattle.std.proofs.Math.ListN.{get_or-append}
use Rattle.std.proofs.Common.{length-append}
use Rattle.std.proofs.Math.Seq.{drop-cons, get_or-append_seam}
use Rattle.std.specs.List.{list_all, flat_map}
use Rattle.std.specs.Option.{option_to_list, ok_or, is_some}
use Rattle.multiplex_tree.specs.declared.claim.Claim.{Claim}
use Rattle.multiplex_tree.specs.declared.claim.Claim.TheVariants.{Unlinked, Linked, Divided}
use Rattle.multiplex_tree.specs.declared.fault.MuxWhy.{MuxWhy}
use Rattle.multiplex_tree.specs.declared.fault.MuxWhy.TheVariants.{NoParent, Ambiguous, Cycle, Deep}
use Rattle.multiplex_tree.specs.declared.fault.MuxFault.TheVariants.{At}
use Rattle.multiplex_tree.specs.declared.mark.Mark.{Mark}
use Rattle.multiplex_tree.specs.declared.mark.Link.{Link}
use Rattle.multiplex_tree.specs.declared.mark.Parent.{Parent}
use Rattle.multiplex_tree.specs.declared.mark.Range.{Range}
use Rattle.multiplex_tree.specs.Parents.{is_selector, selectors_from, only, parent_of_group, named_parent, some_parent, grouped_parent, is_same_parent, group_at, parent_by_rules, links_to}
use Rattle.multiplex_tree.specs.Claims.{claim_of, claimed_parent, marked_parent}
use Rattle.multiplex_tree.specs.Fault.{IsFirstUnresolved, IsFault}

-- the selectors from a mark on
pub selectors-here : (marks : List Mark) (at : ℕ) (d : Mark) → at < length marks → is_selector (get_or marks at d) ≡ true →
    selectors_from at (drop at marks) ≡ at ∷ selectors_from (at + 1) (drop (at + 1) marks)
unfolding selectors_from
selectors-here marks at d h s = rw (drop-cons marks at d h) (rw s (rw (add-one at) refl))

pub selectors-past : (marks : List Mark) (at : ℕ) (d : Mark) → at < length marks → is_selector (get_or marks at d) ≡ false →
    selectors_from at (drop at marks) ≡ selectors_from (at + 1) (drop (at + 1) marks)
unfolding selectors_from
selectors-past marks at d h s = rw (drop-cons marks at d h) (rw s (rw (add-one at) refl))

drop-all : (marks : List Mark) (at : ℕ) → length marks ≤ at → drop at marks ≡ []
drop-all [] zero h = refl
drop-all [] (suc at) h = refl
drop-all (m ∷ ms) zero h = absurd (omega arith)
drop-all (m ∷ ms) (suc at) h = drop-all ms at (omega arith)

pub selectors-end : (marks : List Mark) (at : ℕ) → length marks ≤ at → selectors_from at (drop at marks) ≡ []
unfolding selectors_from
selectors-end marks at h = rw (drop-all marks at h) refl

-- a second one
pub two_selectors : (found : Option ℕ) (at : ℕ) (rest : List ℕ) → true ≡ is_some found → only (option_to_list found ++ at ∷ rest) ≡ Err Ambiguous
two_selectors (Some s) at rest h = refl
two_selectors None at rest h = cc

-- the first one
pub first_selector : (found : Option ℕ) (at : ℕ) (rest : List ℕ) → false ≡ is_some found → option_to_list found ++ at ∷ rest ≡ option_to_list (Some at) ++ rest
first_selector (Some s) at rest h = cc
first_selector None at rest h = refl

-- no second one
pub one_selector : (found : Option ℕ) → ok_or found NoParent ≡ only (option_to_list found ++ [])
one_selector (Some s) = refl
one_selector None = refl

pub get_or-any : {X : Type 0} → (xs : List X) (i : ℕ) (d e : X) → i < length xs → get_or xs i d ≡ get_or xs i e
get_or-any [] i d e h = absurd (omega arith)
get_or-any (x ∷ xs) zero d e h = refl
get_or-any (x ∷ xs) (suc i) d e h = get_or-any xs i d e (omega arith)

group_at-get_or : (marks : List Mark) (i : ℕ) (d : Mark) → i < length marks → group_at marks i ≡ (get_or marks i d).group
group_at-get_or [] i d h = absurd (omega arith)
group_at-get_or (m ∷ ms) zero d h = refl
group_at-get_or (m ∷ ms) (suc i) d h = group_at-get_or ms i d (omega arith)

claim_parent : (marks : List Mark) (n : ℕ) (parent : Option ℕ) (ranges : List Range) (same : Bool) →
    some_parent (claimed_parent marks n (if same then Linked parent ranges else Divided))
    ≡ some_parent (if same then named_parent marks parent ranges else Err Ambiguous)
claim_parent marks n parent ranges true = refl
claim_parent marks n parent ranges false = refl

-- what the code keeps of the links to a signal tells its parent as the links do
pub claim_tells : (marks : List Mark) (links : List Link) (group : Option ℕ) → marked_parent marks (claim_of links) group ≡ grouped_parent marks links group
claim_tells marks links None = refl
claim_tells marks [] (Some n) = refl
claim_tells marks (l ∷ ls) (Some n) =
    claim_parent marks n l.parent (flat_map (λ k. k.ranges) (l ∷ ls)) (list_all (λ k. is_same_parent k.parent l.parent) ls)

-- what the claim on a signal makes of its mark is its parent by the rules
pub rule_here : (marks : List Mark) (links : List Link) (claims : List Claim) (i : ℕ) (d : Mark) (e claim : Claim) (found : Result (Option Parent) MuxWhy) →
    i < length marks → i < length claims → claim ≡ get_or claims i e → get_or claims i Unlinked ≡ claim_of (links_to i links) →
    found ≡ marked_parent marks claim (get_or marks i d).group → parent_by_rules marks links i ≡ found
rule_here marks links claims i d e claim found h k is was made =
    sym (claim_tells marks (links_to i links) (group_at marks i))
    ∙ rw (group_at-get_or marks i d h)
    (rw (sym (is ∙ get_or-any claims i e Unlinked k ∙ was)) (sym made))

not_chosen : (b : Bool) (p : Parent) (why : MuxWhy) → (why ≡ NoParent → ⊥) → some_parent (if b then Ok p else Err NoParent) ≡ Err why → ⊥
not_chosen true p why h e = cc
not_chosen false p why h e = h (cc)

not_only : (ss : List ℕ) (n : ℕ) (why : MuxWhy) → (why ≡ NoParent → ⊥) → (why ≡ Ambiguous → ⊥) → some_parent (parent_of_group n (only ss)) ≡ Err why → ⊥
not_only [] n why h k e = h (cc)
not_only (s ∷ []) n why h k e = cc
not_only (s ∷ t ∷ ss) n why h k e = k (cc)

not_named : (marks : List Mark) (parent : Option ℕ) (ranges : List Range) (same : Bool) (why : MuxWhy) → (why ≡ NoParent → ⊥) → (why ≡ Ambiguous → ⊥) →
    some_parent (if same then named_parent marks parent ranges else Err Ambiguous) ≡ Err why → ⊥
not_named marks (Some p) ranges true why h k e = not_chosen _ _ why h e
not_named marks None ranges true why h k e = h (cc)
not_named marks parent ranges false why h k e = k (cc)

-- the rules know two faults
rule_fault : (marks : List Mark) (links : List Link) (group : Option ℕ) (why : MuxWhy) → (why ≡ NoParent → ⊥) → (why ≡ Ambiguous → ⊥) →
    grouped_parent marks links group ≡ Err why → ⊥
rule_fault marks links None why h k e = cc
rule_fault marks [] (Some n) why h k e = not_only _ n why h k e
rule_fault marks (l ∷ ls) (Some n) why h k e = not_named marks l.parent _ _ why h k e

pub fault_of_unresolved : (marks : List Mark) (links : List Link) (signal : ℕ) (why : MuxWhy) → IsFirstUnresolved marks links signal why → IsFault marks links (At signal why)
fault_of_unresolved marks links signal NoParent first = first
fault_of_unresolved marks links signal Ambiguous first = first
fault_of_unresolved marks links signal Cycle first = absurd (rule_fault marks (links_to signal links) (group_at marks signal) Cycle (λ e. cc) (λ e. cc) first.unresolved)
fault_of_unresolved marks links signal Deep first = absurd (rule_fault marks (links_to signal links) (group_at marks signal) Deep (λ e. cc) (λ e. cc) first.unresolved)

pub length-more : {X : Type 0} → (xs : List X) (x : X) (n : ℕ) → length xs ≡ n → length (xs ++ x ∷ []) ≡ n + 1
length-more xs x n e = simp length-append (omega arith)

-- one more parent
pub parents-more : (marks : List Mark) (links : List Link) (parents : List (Option Parent)) (n : ℕ) (parent : Option Parent) → length parents ≡ n →
    ((i : ℕ) → i < n → parent_by_rules marks links i ≡ Ok (get_or parents i None)) → parent_by_rules marks links n ≡ Ok parent →
    (i : ℕ) → i < n + 1 → parent_by_rules marks links i ≡ Ok (get_or (parents ++ parent ∷ []) i None)
parents-more marks links parents n parent e before here =
    let last : get_or (parents ++ parent ∷ []) n None ≡ parent = rw (← e) (get_or-append_seam parents parent [] None) in
    below_more (λ i. parent_by_rules marks links i ≡ Ok (get_or (parents ++ parent ∷ []) i None)) n
    (λ i h. let within : i < length parents = omega arith in before i h ∙ ap Ok (sym (get_or-append parents (parent ∷ []) None i within)))
    (here ∙ ap Ok (sym last))
