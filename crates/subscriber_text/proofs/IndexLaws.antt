-- A binary search in an ordered list of wants finds what a look at each of them finds.
use Rattle.std.proofs.Common.{◌≡◌, ℕ, ◌+◌, ◌<◌, Bool, false, List, [], ◌∷◌, length, get_or, Ok, Err, Result, refl, sym, ap, ◌∙◌, arith, inl, inr, map}
use Rattle.std.specs.declared.alloc.Global.{Global}
use Rattle.std.specs.Prelude.{Vec, is_ok, ◌==◌, Option, Some, None}
use Rattle.std.specs.List.{list_any}
use Rattle.std.specs.List.Sorted.{IsSorted, IsSortedBy, IsBinarySearchResult, IsNonDecreasingBy, IsSearchInRange}
use Rattle.std.specs.Ordering.{nat_cmp, ordering_then, is_lt, is_eq, ordering_index}
use Rattle.std.specs.Option.{option_cmp}
use Rattle.std.specs.Cmp.{IsTotalOrder, tied_then}
use Rattle.std.specs.Cmp.Lexicographic.{slice_cmp, options_total}
use Rattle.std.specs.declared.cmp.Ordering.{Ordering}
use Rattle.std.specs.declared.cmp.Ordering.TheVariants.{Less, Equal, Greater}
use Rattle.std.proofs.lemmas.Bool.{cases_lt}
use Rattle.std.proofs.lemmas.Bool.Decides.{nat_tests}
use Rattle.std.proofs.lemmas.Cmp.{nat_cmp_total, nat_list_cmp_total, on_total, then_total}
use Rattle.std.proofs.lemmas.List.{get_or-map, length-map}
use Rattle.std.proofs.lemmas.List.Folds.{list_any_none, list_any_at}
use Rattle.std.proofs.lemmas.List.Sorted.{searchable_from_sorted}
use Rattle.std.proofs.lemmas.Map.Text.{is_eq-slice_cmp}
use Rattle.subscriber_text.specs.Wants.{Want, same_name, names_message, names_signal}
use Rattle.subscriber_text.specs.WantView.{name_view, want_view, wants_view, name_cmp, message_key, key_cmp, message_cmp, want_cmp}
use Rattle.subscriber_text.specs.declared.want.NamedWant.{NamedWant}

-- what a search answers is whether an element is equal
pub searched_any : {X : Type 0} (ord : X → Ordering) (xs : List X) (r : Result ℕ ℕ) → IsSearchInRange r (length xs) → IsBinarySearchResult ord xs r
    → IsNonDecreasingBy (λ y. ordering_index (ord y)) xs → is_ok r ≡ list_any (λ y. is_eq (ord y)) xs
searched_any ord [] (Ok i) range found rises = absurd (omega arith)
searched_any ord (x ∷ xs) (Ok i) range found rises = sym (list_any_at (λ y. is_eq (ord y)) (x ∷ xs) i x range (ap is_eq (found x)))
searched_any ord xs (Err i) range found rises =
    let parts = found rises in
    sym (list_any_none (λ y. is_eq (ord y)) xs (λ k d lt.
    elim (cases_lt k i) [
      | inl below ↦ ap is_eq (parts.0 k d (omega arith) below)
      | inr above ↦ ap is_eq (parts.1 k d above lt)
    ]))

-- tests that agree at each element answer alike
pub any_alike : {X Y : Type 0} (f : X → Y) (p : X → Bool) (q : Y → Bool) → ((x : X) → p x ≡ q (f x)) → (xs : List X) → list_any p xs ≡ list_any q (map f xs)
any_alike f p q same [] = refl
any_alike f p q same (x ∷ xs) = rw (same x, any_alike f p q same xs) refl

-- an order of values is one of what is seen of them, and the other way round
pub sorted_map : {X Y : Type 0} (f : X → Y) (lt : X → X → Bool) (lt' : Y → Y → Bool) → ((a b : X) → lt a b ≡ lt' (f a) (f b)) → (xs : List X) → IsSortedBy lt xs → IsSortedBy lt' (map f xs)
sorted_map f lt lt' same [] sorted = λ k d low high. absurd (omega arith)
sorted_map f lt lt' same (x ∷ xs) sorted = λ k d low high.
    let within : k + 1 < length (x ∷ xs) = omega (arith, length-map (x ∷ xs) f) in
    let later : get_or (map f (x ∷ xs)) (k + 1) d ≡ f (get_or (x ∷ xs) (k + 1) x) = get_or-map f (x ∷ xs) (k + 1) x d within in
    let earlier : get_or (map f (x ∷ xs)) k d ≡ f (get_or (x ∷ xs) k x) = get_or-map f (x ∷ xs) k x d (omega (arith, within)) in
    rw (later, earlier) (sym (same (get_or (x ∷ xs) (k + 1) x) (get_or (x ∷ xs) k x)) ∙ sorted k x low within)

-- a list that is in order by more is in order by less
pub sorted_weaker : {X : Type 0} (lt lt' : X → X → Bool) → ((a b : X) → lt a b ≡ false → lt' a b ≡ false) → (xs : List X) → IsSortedBy lt xs → IsSortedBy lt' xs
sorted_weaker lt lt' weaker xs sorted = λ k d low high. weaker (get_or xs (k + 1) d) (get_or xs k d) (sorted k d low high)

pub then_not_less : (a b : Ordering) → is_lt (ordering_then a b) ≡ false → is_lt a ≡ false
then_not_less Less b e = absurd cc
then_not_less Equal b e = refl
then_not_less Greater b e = refl

-- the orders are total
pub name_total : IsTotalOrder name_cmp
name_total = options_total nat_list_cmp_total

pub key_total : IsTotalOrder key_cmp
key_total = then_total (on_total (λ (p : ℕ × Option (List ℕ)). p.0) nat_cmp_total) (on_total (λ (p : ℕ × Option (List ℕ)). p.1) name_total)

pub want_total : IsTotalOrder want_cmp
want_total = then_total (on_total message_key key_total) (on_total (λ (w : Want). w.signal) name_total)

-- what is equal in order has the same names
pub nat_cmp-tied : (a b : ℕ) → is_eq (nat_cmp a b) ≡ (a == b)
nat_cmp-tied a b = grind (arith, nat_tests)

pub name_cmp-tied : (a b : Option (List ℕ)) → is_eq (name_cmp a b) ≡ same_name a b
name_cmp-tied None None = refl
name_cmp-tied None (Some b) = refl
name_cmp-tied (Some a) None = refl
name_cmp-tied (Some a) (Some b) = is_eq-slice_cmp a b

pub message_cmp-tied : (bus : ℕ) (message : Option (List ℕ)) (w : Want) → is_eq (message_cmp w (bus, message)) ≡ names_message bus message w
message_cmp-tied bus message w =
    sym (tied_then (nat_cmp w.bus bus) (name_cmp w.message message)) ∙ rw (nat_cmp-tied w.bus bus, name_cmp-tied w.message message) refl

pub want_cmp-tied : (bus : ℕ) (message signal : Option (List ℕ)) (w : Want) → is_eq (want_cmp w (record { bus = bus; message = message; signal = signal })) ≡ names_signal bus message signal w
want_cmp-tied bus message signal w =
    sym (tied_then (message_cmp w (bus, message)) (name_cmp w.signal signal)) ∙ rw (message_cmp-tied bus message w, name_cmp-tied w.signal signal) refl

-- a search of ordered values by a part of what is seen of them
pub found_by : {X K : Type 0} (R : K → K → Ordering) → IsTotalOrder R → (part : X → K) (view : X → Want) (key : K) (test : Want → Bool)
    → ((x : X) → is_eq (R (part x) key) ≡ test (view x)) → (xs : List X) (r : Result ℕ ℕ)
    → IsSortedBy (λ a b. is_lt (R (part a) (part b))) xs → IsSearchInRange r (length xs) → IsBinarySearchResult (λ x. R (part x) key) xs r
    → is_ok r ≡ list_any test (map view xs)
found_by R total part view key test tied xs r sorted range found =
    searched_any (λ x. R (part x) key) xs r range found (searchable_from_sorted total part xs key sorted) ∙ any_alike view (λ x. is_eq (R (part x) key)) test tied xs

-- in order by what is seen: then in order by a part of it
pub sorted_by_part : {X Y : Type 0} (view : X → Y) (lt' : Y → Y → Bool) (lt : X → X → Bool) → ((a b : X) → lt' (view a) (view b) ≡ false → lt a b ≡ false) → (xs : List X)
    → IsSortedBy lt' (map view xs) → IsSortedBy lt xs
sorted_by_part view lt' lt weaker xs sorted = λ k d low high.
    let within : k + 1 < length (map view xs) = omega (arith, high, length-map xs view) in
    let later : get_or (map view xs) (k + 1) (view d) ≡ view (get_or xs (k + 1) d) = get_or-map view xs (k + 1) d (view d) high in
    let earlier : get_or (map view xs) k (view d) ≡ view (get_or xs k d) = get_or-map view xs k d (view d) (omega (arith, high)) in
    weaker (get_or xs (k + 1) d) (get_or xs k d) (rw (later, earlier) at (sorted k (view d) low within))

-- wants in order are in order by their bus, and by their bus and message
pub sorted_by_bus : (wants : List NamedWant) → IsSorted want_cmp (wants_view wants) → IsSortedBy (λ a b. is_lt (nat_cmp a.bus b.bus)) wants
sorted_by_bus wants sorted = sorted_by_part want_view (λ a b. is_lt (want_cmp a b)) (λ a b. is_lt (nat_cmp a.bus b.bus))
    (λ a b h. then_not_less (nat_cmp a.bus b.bus) (name_cmp (name_view a.message) (name_view b.message))
    (then_not_less (message_cmp (want_view a) (message_key (want_view b))) (name_cmp (name_view a.signal) (name_view b.signal)) h)) wants sorted

pub sorted_by_message : (wants : List NamedWant) → IsSorted want_cmp (wants_view wants)
    → IsSortedBy (λ a b. is_lt (key_cmp (message_key (want_view a)) (message_key (want_view b)))) wants
sorted_by_message wants sorted = sorted_by_part want_view (λ a b. is_lt (want_cmp a b)) (λ a b. is_lt (key_cmp (message_key (want_view a)) (message_key (want_view b))))
    (λ a b h. then_not_less (message_cmp (want_view a) (message_key (want_view b))) (name_cmp (name_view a.signal) (name_view b.signal)) h) wants sorted

pub sorted_by_want : (wants : List NamedWant) → IsSorted want_cmp (wants_view wants) → IsSortedBy (λ a b. is_lt (want_cmp (want_view a) (want_view b))) wants
sorted_by_want wants sorted = sorted_by_part want_view (λ a b. is_lt (want_cmp a b)) (λ a b. is_lt (want_cmp (want_view a) (want_view b))) (λ a b h. h) wants sorted

-- the derived order of wants is that of what is seen of them
then_assoc : (a b c : Ordering) → ordering_then a (ordering_then b c) ≡ ordering_then (ordering_then a b) c
then_assoc Less b c = refl
then_assoc Equal b c = refl
then_assoc Greater b c = refl

name_order : (p q : Option (Vec ℕ Global)) → option_cmp (λ x y. slice_cmp nat_cmp x.items y.items) p q ≡ name_cmp (name_view p) (name_view q)
name_order None None = refl
name_order None (Some q) = refl
name_order (Some p) None = refl
name_order (Some p) (Some q) = refl

abbrev pub derived_cmp : NamedWant → NamedWant → Ordering
derived_cmp a b =
    ordering_then (nat_cmp a.bus b.bus)
    (ordering_then (option_cmp (λ x y. slice_cmp nat_cmp x.items y.items) a.message b.message) (option_cmp (λ x y. slice_cmp nat_cmp x.items y.items) a.signal b.signal))

pub derived_order : (a b : NamedWant) → derived_cmp a b ≡ want_cmp (want_view a) (want_view b)
derived_order a b =
    rw (name_order a.message b.message, name_order a.signal b.signal)
    (then_assoc (nat_cmp a.bus b.bus) (name_cmp (name_view a.message) (name_view b.message)) (name_cmp (name_view a.signal) (name_view b.signal)))
