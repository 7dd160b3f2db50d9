-- How far chains of parents reach.
use Rattle.std.proofs.Common.{◌≡◌, ℕ, zero, suc, ◌+◌, ◌<◌, ◌≤◌, List, [], ◌∷◌, length, Bool, true, false, Option, Some, None, refl, ap, sym, ◌∙◌, arith, add-zero, ◌⊎◌, inl, inr, map, ◌*◌, ◌-◌, below_more}
use Rattle.std.proofs.Math.Nat.{eq-or-lt_of_le}
use Rattle.std.proofs.lemmas.Bool.Decides.{leb_tells}
use Rattle.std.proofs.lemmas.List.{length-map}
use Rattle.std.specs.Option.{is_some, IsSome, IsNone, option_flatten, option_and_then}
use Rattle.std.specs.Prelude.{slice_get, ◌↔◌}
use Rattle.multiplex_tree.specs.Chain.{parent_in, next_up, ancestor, Ends, at_end, further_up, NeverEnds}
use Rattle.multiplex_tree.specs.FarAbove.{AreAncestors, AreFarAbove, IsFirstSome}
use Rattle.multiplex_tree.specs.Fault.{IsFirstCycle}

-- some steps at the foot of a chain and the rest
pub ancestor-add : (ups : List (Option ℕ)) (a b i : ℕ) → ancestor ups (a + b) i ≡ option_and_then (ancestor ups b) (ancestor ups a i)
unfolding ancestor
ancestor-add ups a zero i =
    rw add-zero (elim (ancestor ups a i) as (λ (o : Option ℕ). o ≡ option_and_then (λ j. Some j) o) [ None ↦ refl | Some j ↦ refl ])
ancestor-add ups a (suc b) i =
    let more : a + suc b ≡ suc (a + b) = omega arith in
    rw more (ap (next_up ups) (ancestor-add ups a b i)
    ∙ (elim (ancestor ups a i) as (λ (o : Option ℕ). next_up ups (option_and_then (ancestor ups b) o) ≡ option_and_then (λ j. next_up ups (ancestor ups b j)) o) [ None ↦ refl | Some j ↦ refl ]))

-- the first step
pub ancestor-first : (ups : List (Option ℕ)) (n i : ℕ) → ancestor ups (suc n) i ≡ option_and_then (ancestor ups n) (parent_in ups i)
unfolding ancestor
ancestor-first ups zero i = elim (parent_in ups i) as (λ (o : Option ℕ). o ≡ option_and_then (λ j. Some j) o) [ None ↦ refl | Some j ↦ refl ]
ancestor-first ups (suc n) i =
    ap (next_up ups) (ancestor-first ups n i)
    ∙ (elim (parent_in ups i) as (λ (o : Option ℕ). next_up ups (option_and_then (ancestor ups n) o) ≡ option_and_then (λ j. next_up ups (ancestor ups n j)) o) [ None ↦ refl | Some j ↦ refl ])

-- whether the chain of a signal reaches the n-th signal above
abbrev pub reaches : List (Option ℕ) → ℕ → ℕ → Bool
reaches ups n i = is_some (ancestor ups n i)

next_of_none : (ups : List (Option ℕ)) (o : Option ℕ) → is_some (next_up ups o) ≡ true → is_some o ≡ true
next_of_none ups None h = cc
next_of_none ups (Some j) h = refl

-- a chain that reaches far reaches all before
reaches-pred : (ups : List (Option ℕ)) (n i : ℕ) → reaches ups (suc n) i ≡ true → reaches ups n i ≡ true
unfolding ancestor
reaches-pred ups n i h = next_of_none ups (ancestor ups n i) h

pub reaches-less : (ups : List (Option ℕ)) (n k i : ℕ) → reaches ups (k + n) i ≡ true → reaches ups n i ≡ true
reaches-less ups n zero i h = let e : zero + n ≡ n = omega arith in rw e at h
reaches-less ups n (suc k) i h = let e : suc k + n ≡ suc (k + n) = omega arith in reaches-less ups n k i (reaches-pred ups (k + n) i (rw e at h))

past_end : (ups : List (Option ℕ)) (i : ℕ) → length ups ≤ i → slice_get ups i ≡ None
past_end [] i h = refl
past_end (u ∷ us) zero h = absurd (omega arith)
past_end (u ∷ us) (suc i) h = past_end us i (omega arith)

-- a signal that is not there has nothing above it
past_reaches : (ups : List (Option ℕ)) (n i : ℕ) → length ups ≤ i → reaches ups (suc n) i ≡ false
past_reaches ups n i h = rw (ancestor-first ups n i) (rw (past_end ups i h) refl)

-- the chains that reach the n-th signal above all reach the next one, too
abbrev Stays : List (Option ℕ) → ℕ → Type 0
Stays ups n = (i : ℕ) → reaches ups n i ≡ true → reaches ups (suc n) i ≡ true

bound : (ups : List (Option ℕ)) (n : ℕ) (o : Option ℕ) → ((j : ℕ) → reaches ups n j ≡ true → reaches ups (suc n) j ≡ true) →
    is_some (option_and_then (ancestor ups n) o) ≡ true → is_some (option_and_then (ancestor ups (suc n)) o) ≡ true
bound ups n None more h = cc
bound ups n (Some j) more h = more j h

stays-suc : (ups : List (Option ℕ)) (n : ℕ) → Stays ups n → Stays ups (suc n)
stays-suc ups n more i h = rw (ancestor-first ups (suc n) i) (bound ups n (parent_in ups i) more (rw (ancestor-first ups n i) at h))

stays-add : (ups : List (Option ℕ)) (n k : ℕ) → Stays ups n → Stays ups (k + n)
stays-add ups n zero more = let e : zero + n ≡ n = omega arith in rw e more
stays-add ups n (suc k) more = let e : suc k + n ≡ suc (k + n) = omega arith in rw e (stays-suc ups (k + n) (stays-add ups n k more))

reaches-on : (ups : List (Option ℕ)) (n k i : ℕ) → Stays ups n → reaches ups n i ≡ true → reaches ups (k + n) i ≡ true
reaches-on ups n zero i more h = let e : zero + n ≡ n = omega arith in rw e h
reaches-on ups n (suc k) i more h = let e : suc k + n ≡ suc (k + n) = omega arith in rw e (stays-add ups n k more i (reaches-on ups n k i more h))

-- how many of the first n numbers pass a test
one_if : Bool → ℕ
one_if true = 1
one_if false = 0

count : (ℕ → Bool) → ℕ → ℕ
count p zero = 0
count p (suc n) = count p n + one_if (p n)

count-le : (p : ℕ → Bool) (n : ℕ) → count p n ≤ n
unfolding count one_if
count-le p zero = omega arith
count-le p (suc n) = elim (p n) as (λ b. count p n + one_if b ≤ suc n) [ true ↦ omega (arith, count-le p n) | false ↦ omega (arith, count-le p n) ]

one_if-le : (a b : Bool) → (b ≡ true → a ≡ true) → one_if b ≤ one_if a
unfolding one_if
one_if-le true true f = omega arith
one_if-le true false f = omega arith
one_if-le false true f = absurd (let e : false ≡ true = f refl in cc)
one_if-le false false f = omega arith

count-mono : (p q : ℕ → Bool) → ((i : ℕ) → q i ≡ true → p i ≡ true) → (n : ℕ) → count q n ≤ count p n
unfolding count
count-mono p q f zero = omega arith
count-mono p q f (suc n) = omega (arith, count-mono p q f n, one_if-le (p n) (q n) (f n))

-- a number that passes counts
count-some : (p : ℕ → Bool) (n i : ℕ) → i < n → p i ≡ true → 1 ≤ count p n
unfolding count one_if
count-some p zero i h e = absurd (omega arith)
count-some p (suc n) i h e =
    elim (eq-or-lt_of_le (let k : i ≤ n = omega arith in k)) [
      | inl same ↦ (let here : p n ≡ true = rw (← same) e in rw here (omega arith))
      | inr less ↦ omega (arith, count-some p n i less e)
    ]

-- each of the first n numbers that passes one test passes another
abbrev Same : (ℕ → Bool) → (ℕ → Bool) → ℕ → Type 0
Same p q n = (i : ℕ) → i < n → p i ≡ true → q i ≡ true

same-suc : (p q : ℕ → Bool) (n : ℕ) → Same p q n → (p n ≡ true → q n ≡ true) → Same p q (suc n)
same-suc p q n before here i h = below_more (λ j. p j ≡ true → q j ≡ true) n before here i (omega arith)

last_one : (a b : Bool) (x y : ℕ) → y ≤ x → (a ≡ true → b ≡ true) ⊎ (y + one_if b + 1 ≤ x + one_if a)
unfolding one_if
last_one true true x y h = inl (λ e. refl)
last_one true false x y h = inr (omega arith)
last_one false b x y h = inl (λ e. cc)

same_or_fewer-suc : (p q : ℕ → Bool) (n : ℕ) → Same p q n → (p n ≡ true → q n ≡ true) ⊎ (count q n + one_if (q n) + 1 ≤ count p n + one_if (p n)) →
    Same p q (suc n) ⊎ (count q (suc n) + 1 ≤ count p (suc n))
unfolding count
same_or_fewer-suc p q n same (inl here) = inl (same-suc p q n same here)
same_or_fewer-suc p q n same (inr fewer) = inr fewer

-- where a test is the stricter one, both pass the same numbers, or it passes fewer
same_or_fewer : (p q : ℕ → Bool) → ((i : ℕ) → q i ≡ true → p i ≡ true) → (n : ℕ) → Same p q n ⊎ (count q n + 1 ≤ count p n)
unfolding count
same_or_fewer p q f zero = inl (λ i h e. absurd (omega arith))
same_or_fewer p q f (suc n) =
    elim (same_or_fewer p q f n) [
      | inl same ↦ same_or_fewer-suc p q n same (last_one (p n) (q n) (count p n) (count q n) (count-mono p q f n))
      | inr fewer ↦ inr (omega (arith, one_if-le (p n) (q n) (f n)))
    ]

stays_of_same : (ups : List (Option ℕ)) (n : ℕ) → Same (reaches ups (suc n)) (reaches ups (suc (suc n))) (length ups) → Stays ups (suc n)
stays_of_same ups n same i h =
    elim (leb_tells (length ups) i) [
      | inl past ↦ (let none : reaches ups (suc n) i ≡ false = past_reaches ups n i past.1 in absurd (let e : false ≡ true = sym none ∙ h in cc))
      | inr within ↦ same i within.1 h
    ]

stays_from : (ups : List (Option ℕ)) (n : ℕ) → Same (reaches ups (suc n)) (reaches ups (suc (suc n))) (length ups) ⊎ (count (reaches ups (suc (suc n))) (length ups) + 1 ≤ count (reaches ups (suc n)) (length ups)) →
    count (reaches ups (suc n)) (length ups) + n ≤ length ups →
    ((j : ℕ) × (j ≤ suc n) × Stays ups (suc j)) ⊎ (count (reaches ups (suc (suc n))) (length ups) + suc n ≤ length ups)
stays_from ups n (inl same) few = inl (n, omega arith, stays_of_same ups n same)
stays_from ups n (inr fewer) few = inr (omega arith)

-- either the chains that reach somewhere reach one farther, or few are left
stays_or_few : (ups : List (Option ℕ)) (n : ℕ) → ((j : ℕ) × (j ≤ n) × Stays ups (suc j)) ⊎ (count (reaches ups (suc n)) (length ups) + n ≤ length ups)
stays_or_few ups zero = inr (omega (arith, count-le (reaches ups (suc zero)) (length ups)))
stays_or_few ups (suc n) =
    elim (stays_or_few ups n) [
      | inl found ↦ inl (found.0, omega (arith, found.1), found.2)
      | inr few ↦ stays_from ups n (same_or_fewer (reaches ups (suc n)) (reaches ups (suc (suc n))) (reaches-pred ups (suc n)) (length ups)) few
    ]

within_of_reach : (ups : List (Option ℕ)) (n i : ℕ) → reaches ups (suc n) i ≡ true → i < length ups
within_of_reach ups n i h =
    elim (leb_tells (length ups) i) [
      | inl past ↦ (let none : reaches ups (suc n) i ≡ false = past_reaches ups n i past.1 in absurd (let e : false ≡ true = sym none ∙ h in cc))
      | inr within ↦ within.1
    ]

-- a chain with more parents than there are signals reaches any number of them
reaches_all : (ups : List (Option ℕ)) (m i : ℕ) → length ups < m → reaches ups m i ≡ true → (k : ℕ) → reaches ups k i ≡ true
reaches_all ups m i h far k =
    let n = length ups in
    let split : (m - suc n) + suc n ≡ m = omega arith in
    let here : reaches ups (suc n) i ≡ true = reaches-less ups (suc n) (m - suc n) i (rw split far) in
    elim (stays_or_few ups n) [
      | inl found ↦ (
          let back : (n - found.0) + suc found.0 ≡ suc n = omega (arith, found.1) in
          let low : reaches ups (suc found.0) i ≡ true = reaches-less ups (suc found.0) (n - found.0) i (rw back here) in
          let turned : k + suc found.0 ≡ suc found.0 + k = omega arith in
          reaches-less ups k (suc found.0) i (rw turned at (reaches-on ups (suc found.0) k i found.2 low)))
      | inr few ↦ absurd (omega (arith, few, count-some (reaches ups (suc n)) n i (within_of_reach ups n i here) here))
    ]

pub some_none : (o : Option ℕ) → IsSome o → IsNone o → ⊥
some_none None s n = cc
some_none (Some x) s n = cc

ends_by : (ups : List (Option ℕ)) (n i : ℕ) → ((j : ℕ) → IsNone (ancestor ups n j) → Ends ups j) →
    (o : Option ℕ) → parent_in ups i ≡ o → IsNone (option_and_then (ancestor ups n) o) → Ends ups i
ends_by ups n i above None e h = at_end e
ends_by ups n i above (Some p) e h = further_up p e (above p h)

-- a chain that does not reach some number of parents ends
pub ends_of_none : (ups : List (Option ℕ)) (n i : ℕ) → IsNone (ancestor ups n i) → Ends ups i
unfolding ancestor
ends_of_none ups zero i h = absurd (let none : IsNone (Some i) = h in cc)
ends_of_none ups (suc n) i h = ends_by ups n i (ends_of_none ups n) (parent_in ups i) refl (rw (ancestor-first ups n i) at h)

-- and one that ends does not reach some number of them
pub none_of_ends : (ups : List (Option ℕ)) (i : ℕ) → Ends ups i → (n : ℕ) × IsNone (ancestor ups n i)
none_of_ends ups i (at_end e) = (suc zero, rw (ancestor-first ups zero i) (rw e refl))
none_of_ends ups i (further_up p e above) =
    let up : (n : ℕ) × IsNone (ancestor ups n p) = none_of_ends ups p above in
    (suc up.0, rw (ancestor-first ups up.0 i) (rw e up.1))

some_unless : (o : Option ℕ) → (IsNone o → ⊥) → IsSome o
some_unless None h = absurd (h refl)
some_unless (Some x) h = refl

-- a chain never ends exactly where it reaches any number of parents
pub never_ends_is_reaching : (ups : List (Option ℕ)) (i : ℕ) → NeverEnds ups i ↔ ((n : ℕ) → IsSome (ancestor ups n i))
never_ends_is_reaching ups i = (
  λ never n. some_unless (ancestor ups n i) (λ none. never (ends_of_none ups n i none)),
  λ all ends. let up : (n : ℕ) × IsNone (ancestor ups n i) = none_of_ends ups i ends in some_none _ (all up.0) up.1,
)

-- a chain with more parents than there are signals never ends
pub never_ends : (ups : List (Option ℕ)) (m i : ℕ) → length ups < m → reaches ups m i ≡ true → NeverEnds ups i
never_ends ups m i h far = (never_ends_is_reaching ups i).1 (reaches_all ups m i h far)

-- nothing is above a signal that is not there
pub none_past : (ups : List (Option ℕ)) (n i : ℕ) → 0 < n → length ups ≤ i → IsNone (ancestor ups n i)
none_past ups zero i some h = absurd (omega arith)
none_past ups (suc n) i some h = rw (ancestor-first ups n i) (rw (past_end ups i h) refl)

flatten-map : (f : Option ℕ → Option ℕ) → f None ≡ None → (xs : List (Option ℕ)) (i : ℕ) → option_flatten (slice_get (map f xs) i) ≡ f (option_flatten (slice_get xs i))
flatten-map f none [] i = sym none
flatten-map f none (x ∷ xs) zero = refl
flatten-map f none (x ∷ xs) (suc i) = flatten-map f none xs i

next-ancestor : (ups far : List (Option ℕ)) (m : ℕ) → ((i : ℕ) → parent_in far i ≡ ancestor ups m i) → (o : Option ℕ) → next_up far o ≡ option_and_then (ancestor ups m) o
next-ancestor ups far m each None = refl
next-ancestor ups far m each (Some j) = each j

-- twice as far above
pub ancestors-twice : (ups far twice : List (Option ℕ)) (m : ℕ) → AreAncestors ups m far → twice ≡ map (next_up far) far → AreAncestors ups (m * 2) twice
ancestors-twice ups far twice m h e = record {
  number = rw e (simp length-map h.number);
  each = λ i. rw e (
      flatten-map (next_up far) refl far i ∙ ap (next_up far) (h.each i) ∙ next-ancestor ups far m h.each (ancestor ups m i)
      ∙ sym (ancestor-add ups m m i) ∙ ap (λ (n : ℕ). ancestor ups n i) (let double : m + m ≡ m * 2 = omega arith in double));
}

-- the parents themselves are one step above
pub ancestors-one : (ups : List (Option ℕ)) → AreAncestors ups 1 ups
unfolding ancestor
ancestors-one ups = record { number = refl; each = λ i. refl }

-- the first signal that has one so far above it is the first whose chain never ends
pub first_cycle : (ups far read : List (Option ℕ)) (signal : ℕ) → read ≡ far → AreFarAbove ups far → IsFirstSome (length read) (parent_in read) signal → IsFirstCycle ups signal
first_cycle ups far read signal same h found =
    let there : reaches ups h.steps signal ≡ true = rw (← h.are_ancestors.each signal) (rw (← same) found.here) in
    record {
      within = rw (← h.are_ancestors.number) (rw (← same) found.within);
      endless = never_ends ups h.steps signal h.many there;
      first = λ i less. ends_of_none ups h.steps i (rw (← h.are_ancestors.each i) (rw (← same) (found.first i less)));
    }

-- where no signal has one so far above it, each chain ends
pub all_end : (ups far read : List (Option ℕ)) → read ≡ far → AreFarAbove ups far → ((i : ℕ) → IsNone (parent_in read i)) → (i : ℕ) → Ends ups i
all_end ups far read same h none i = ends_of_none ups h.steps i (rw (← h.are_ancestors.each i) (rw (← same) (none i)))
