-- The first position that an index has for a number is that of the first message of the number.
use Rattle.std.proofs.Common.{◌≡◌, ◌∙◌, ℕ, zero, suc, ◌+◌, ◌*◌, ◌<◌, Bool, true, false, List, [], ◌∷◌, length, get_or, Option, Some, None, find, refl, ap, sym, arith}
use Rattle.std.specs.Prelude.{slice_get, slice_index, ◌==◌, ◌&&◌, if◌then◌else◌}
use Rattle.std.specs.List.{Contains}
use Rattle.std.proofs.lemmas.Bool.{eqb-true, eq-eqb}
use Rattle.std.proofs.lemmas.List.Sorted.{Contains-permutation, IsPermutation-sym}
use Rattle.std.proofs.lemmas.Option.{slice_get_within}
use Rattle.bench_model.specs.declared.database.Key.{Key}
use Rattle.bench_model.specs.declared.database.Message.{Message}
use Rattle.bench_model.specs.Meaning.{group_of, same_bool, has_key, is_in_group}
use Rattle.image_words.specs.Index.{extended_from, position_span, key_number, key_entries, group_entries, IsIndexOf}
use Rattle.image_words.specs.Found.{IsFirstPosition, IsFoundAt}

-- ---- entries by any number of a message

entry_list : Option ℕ → ℕ → List ℕ → List ℕ
entry_list (Some n) position rest = (n * position_span + position) ∷ rest
entry_list None position rest = rest

entries_by : (Message → Option ℕ) → ℕ → List Message → List ℕ
entries_by number position [] = []
entries_by number position (m ∷ ms) = entry_list (number m) position (entries_by number (suc position) ms)

number_by_key : Message → Option ℕ
number_by_key m = Some (key_number m.key)

group_if : Bool → ℕ → Option ℕ
group_if true id = Some (group_of id)
group_if false id = None

number_by_group : Message → Option ℕ
number_by_group m = group_if m.key.extended m.key.id

keys_are : (position : ℕ) (ms : List Message) → key_entries position ms ≡ entries_by number_by_key position ms
unfolding key_entries entries_by entry_list number_by_key
keys_are position [] = refl
keys_are position (m ∷ ms) = ap (λ (rest : List ℕ). (key_number m.key * position_span + position) ∷ rest) (keys_are (suc position) ms)

group_step : (extended : Bool) (id position : ℕ) (rest : List ℕ) →
    (if extended then (group_of id * position_span + position) ∷ rest else rest) ≡ entry_list (group_if extended id) position rest
unfolding entry_list group_if
group_step true id position rest = refl
group_step false id position rest = refl

groups_are : (position : ℕ) (ms : List Message) → group_entries position ms ≡ entries_by number_by_group position ms
unfolding group_entries entries_by number_by_group
groups_are position [] = refl
groups_are position (m ∷ ms) =
    group_step m.key.extended m.key.id position (group_entries (suc position) ms)
    ∙ ap (entry_list (group_if m.key.extended m.key.id) position) (groups_are (suc position) ms)

-- ---- each message of a number has an entry, and each entry is a message's

here : (xs : List ℕ) (x : ℕ) → Contains (x ∷ xs) x
here xs x = (0, omega arith, refl)

there : (xs : List ℕ) (x y : ℕ) → Contains xs y → Contains (x ∷ xs) y
there xs x y c = (suc c.0, omega (arith, c.1), c.2)

behind : (entry : Option ℕ) (position : ℕ) (rest : List ℕ) (y : ℕ) → Contains rest y → Contains (entry_list entry position rest) y
unfolding entry_list
behind (Some n) position rest y c = there rest (n * position_span + position) y c
behind None position rest y c = c

covered : (number : Message → Option ℕ) (ms : List Message) (p q : ℕ) (m : Message) (n : ℕ) → slice_get ms q ≡ Some m → number m ≡ Some n →
    Contains (entries_by number p ms) (n * position_span + (p + q))
unfolding entries_by entry_list
covered number [] p q m n e f = cc
covered number (x ∷ ms) p zero m n e f =
    let same : number x ≡ Some n = (let one : x ≡ m = cc in ap number one ∙ f) in
    let place : n * position_span + p ≡ n * position_span + (p + 0) = omega arith in
    rw (same, ← place) (here (entries_by number (suc p) ms) (n * position_span + p))
covered number (x ∷ ms) p (suc q) m n e f =
    let place : n * position_span + (suc p + q) ≡ n * position_span + (p + suc q) = omega arith in
    rw (← place) (behind (number x) p (entries_by number (suc p) ms) (n * position_span + (suc p + q)) (covered number ms (suc p) q m n e f))

-- what an entry says
record IsOf (number : Message → Option ℕ) (ms : List Message) (p y : ℕ) : Type 0 where
  q : ℕ
  m : Message
  n : ℕ
  at : slice_get ms q ≡ Some m
  its : number m ≡ Some n
  value : y ≡ n * position_span + (p + q)

later : (number : Message → Option ℕ) (x : Message) (ms : List Message) (p y : ℕ) → IsOf number ms (suc p) y → IsOf number (x ∷ ms) p y
later number x ms p y o = record { q = suc o.q; m = o.m; n = o.n; at = o.at; its = o.its; value = omega (arith, o.value) }

only_in : (number : Message → Option ℕ) (x : Message) (ms : List Message) (p y : ℕ) (entry : Option ℕ) → number x ≡ entry →
    Contains (entry_list entry p (entries_by number (suc p) ms)) y → (Contains (entries_by number (suc p) ms) y → IsOf number ms (suc p) y) →
    IsOf number (x ∷ ms) p y
unfolding entry_list
only_in number x ms p y None e c rest = later number x ms p y (rest c)
only_in number x ms p y (Some n) e (zero, h, v) rest = record { q = 0; m = x; n = n; at = refl; its = e; value = omega (arith, v) }
only_in number x ms p y (Some n) e (suc k, h, v) rest = later number x ms p y (rest (k, omega (arith, h), v))

only : (number : Message → Option ℕ) (ms : List Message) (p y : ℕ) → Contains (entries_by number p ms) y → IsOf number ms p y
unfolding entries_by
only number [] p y c = absurd (omega (arith, c.1))
only number (x ∷ ms) p y c = only_in number x ms p y (number x) refl c (only number ms (suc p) y)

-- ---- the first message

first_in : {X : Type 0} (p : X → Bool) (xs : List X) (i : ℕ) (x : X) → slice_get xs i ≡ Some x → p x ≡ true →
    ((q : ℕ) (y : X) → q < i → slice_get xs q ≡ Some y → p y ≡ false) → find p xs ≡ Some x
first_in p [] i x e h none = cc
first_in p (y ∷ xs) zero x e h none = let same : y ≡ x = cc in rw same (rw h refl)
first_in p (y ∷ xs) (suc i) x e h none =
    let some : 0 < suc i = omega arith in
    let fails : p y ≡ false = none 0 y some refl in
    rw fails (first_in p xs i x e h (λ q z less at. none (suc q) z (omega (arith, less)) at))

none_in : {X : Type 0} (p : X → Bool) (xs : List X) → ((q : ℕ) (y : X) → slice_get xs q ≡ Some y → p y ≡ false) → find p xs ≡ None
none_in p [] none = refl
none_in p (y ∷ xs) none =
    let fails : p y ≡ false = none 0 y refl in
    rw fails (none_in p xs (λ q z at. none (suc q) z at))

pub not_true : (b : Bool) → (b ≡ true → ⊥) → b ≡ false
not_true true h = absurd (h refl)
not_true false h = refl

same_default : (xs : List ℕ) (i d : ℕ) → i < length xs → get_or xs i d ≡ get_or xs i 0
same_default [] i d h = absurd (omega (arith, h))
same_default (x ∷ xs) zero d h = refl
same_default (x ∷ xs) (suc i) d h = same_default xs i d (omega (arith, h))

-- a test that a message passes exactly where it has this number
record IsTestOf (number : Message → Option ℕ) (ms : List Message) (n : ℕ) (test : Message → Bool) : Type 0 where
  passes : (q : ℕ) (m : Message) → slice_get ms q ≡ Some m → test m ≡ true → number m ≡ Some n
  back : (q : ℕ) (m : Message) → slice_get ms q ≡ Some m → number m ≡ Some n → test m ≡ true

entry_there : (number : Message → Option ℕ) (ms : List Message) (index : List ℕ) (q : ℕ) (m : Message) (n : ℕ) → IsIndexOf (entries_by number 0 ms) index →
    slice_get ms q ≡ Some m → number m ≡ Some n → (j : ℕ) × (j < length index) × (slice_index index j ≡ n * position_span + q)
entry_there number ms index q m n is e f =
    let c = Contains-permutation (entries_by number 0 ms) index (n * position_span + (0 + q)) is.same (covered number ms 0 q m n e f) in
    let value : slice_index index c.0 ≡ n * position_span + (0 + q) = sym (same_default index c.0 (n * position_span + (0 + q)) c.1) ∙ c.2 in
    (c.0, c.1, omega (arith, value))

entry_is : (number : Message → Option ℕ) (ms : List Message) (index : List ℕ) (j : ℕ) → IsIndexOf (entries_by number 0 ms) index → j < length index →
    IsOf number ms 0 (slice_index index j)
entry_is number ms index j is h =
    only number ms 0 (slice_index index j)
    (Contains-permutation index (entries_by number 0 ms) (slice_index index j) (IsPermutation-sym (entries_by number 0 ms) index is.same)
    (j, h, same_default index j (slice_index index j) h))

found : (number : Message → Option ℕ) (ms : List Message) (index : List ℕ) (n : ℕ) (test : Message → Bool) (result : Option ℕ) →
    IsIndexOf (entries_by number 0 ms) index → length ms < position_span → IsTestOf number ms n test → IsFirstPosition index n result →
    IsFoundAt ms result (find test ms)
found number ms index n test None is short t first =
    let none : find test ms ≡ None = none_in test ms (λ q y at. not_true (test y) (λ passed.
    let entry = entry_there number ms index q y n is at (t.passes q y at passed) in
    let within = slice_get_within ms q y at in
    first entry.0 entry.1 (omega (arith, entry.2, within, short)))) in
    rw none tt
found number ms index n test (Some position) is short t first =
    let of = entry_is number ms index first.at is first.within in
    let within = slice_get_within ms of.q of.m of.at in
    let same_number : of.n ≡ n = omega (arith, of.value, first.number_is, within, short) in
    let place : position ≡ of.q = omega (arith, of.value, first.position_is, within, short) in
    let passed : test of.m ≡ true = t.back of.q of.m of.at (of.its ∙ ap Some same_number) in
    let is_first : find test ms ≡ Some of.m = first_in test ms of.q of.m of.at passed (λ q y less at. not_true (test y) (λ other.
    let entry = entry_there number ms index q y n is at (t.passes q y at other) in
    let inside = slice_get_within ms q y at in
    let least = first.least entry.0 entry.1 (omega (arith, entry.2, inside, short)) in
    omega (arith, least, entry.2, inside, short, place, less))) in
    rw is_first (ap (slice_get ms) place ∙ of.at)

-- ---- by keys, and by parameter groups

and_both : (a b : Bool) → (a && b) ≡ true → (a ≡ true) × (b ≡ true)
and_both true b h = (refl, h)
and_both false b h = cc

same_key : (a b : Bool) (i j : ℕ) → (same_bool a b && (i == j)) ≡ true →
    (if a then i + extended_from else i) ≡ (if b then j + extended_from else j)
same_key true true i j h = ap (λ (k : ℕ). k + extended_from) (eqb-true i j h)
same_key false false i j h = eqb-true i j h
same_key true false i j h = cc
same_key false true i j h = cc

key_back : (a b : Bool) (i j : ℕ) → i < extended_from → j < extended_from → (if a then i + extended_from else i) ≡ (if b then j + extended_from else j) →
    (same_bool a b && (i == j)) ≡ true
key_back true true i j h k e = eq-eqb i j (omega (arith, e))
key_back false false i j h k e = eq-eqb i j e
key_back true false i j h k e = absurd (omega (arith, h, k, e))
key_back false true i j h k e = absurd (omega (arith, h, k, e))

some_is : (a b : ℕ) → Some a ≡ Some b → a ≡ b
some_is a b e = cc

pub found_by_key : (ms : List Message) (index : List ℕ) (key : Key) (result : Option ℕ) → IsIndexOf (key_entries 0 ms) index → length ms < position_span →
    key.id < extended_from → ((q : ℕ) (m : Message) → slice_get ms q ≡ Some m → m.key.id < extended_from) →
    IsFirstPosition index (key_number key) result → IsFoundAt ms result (find (has_key key) ms)
unfolding number_by_key
found_by_key ms index key result is short small each first =
    found number_by_key ms index (key_number key) (has_key key) result (rw (keys_are 0 ms) at is) short
    (record {
      passes = λ q m at passed. ap Some (same_key m.key.extended key.extended m.key.id key.id passed);
      back = λ q m at e. key_back m.key.extended key.extended m.key.id key.id (each q m at) small (some_is _ _ e);
    }) first

in_group : (extended : Bool) (id pgn : ℕ) → (extended && (group_of id == pgn)) ≡ true → group_if extended id ≡ Some pgn
unfolding group_if
in_group true id pgn h = ap Some (eqb-true (group_of id) pgn h)
in_group false id pgn h = cc

group_back : (extended : Bool) (id pgn : ℕ) → group_if extended id ≡ Some pgn → (extended && (group_of id == pgn)) ≡ true
unfolding group_if
group_back true id pgn e = eq-eqb (group_of id) pgn (some_is _ _ e)
group_back false id pgn e = cc

pub found_by_group : (ms : List Message) (index : List ℕ) (pgn : ℕ) (result : Option ℕ) → IsIndexOf (group_entries 0 ms) index → length ms < position_span →
    IsFirstPosition index pgn result → IsFoundAt ms result (find (is_in_group pgn) ms)
unfolding number_by_group
found_by_group ms index pgn result is short first =
    found number_by_group ms index pgn (is_in_group pgn) result (rw (groups_are 0 ms) at is) short
    (record {
      passes = λ q m at passed. in_group m.key.extended m.key.id pgn passed;
      back = λ q m at e. group_back m.key.extended m.key.id pgn e;
    }) first
