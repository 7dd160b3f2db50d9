-- The first change of a bus, and the changes that are left without it.
use Rattle.std.proofs.Common.{◌≡◌, ◌∙◌, sym, ap, ℕ, zero, suc, ◌+◌, ◌<◌, ◌≢◌, List, [], ◌∷◌, ◌++◌, Bool, true, false, cond, length, get_or, take, drop, find, position, map, All, refl, arith, Option, Some, None, ltb, inl, inr}
use Rattle.std.proofs.lemmas.List.Quantifiers.{position-Some}
use Rattle.std.proofs.lemmas.List.Folds.{find_at}
use Rattle.std.proofs.lemmas.Bool.{ltb-false, eqb-true}
use Rattle.std.proofs.lemmas.Bool.Decides.{eqb_tells}
use Rattle.std.proofs.lemmas.Option.{slice_get_past}
use Rattle.std.proofs.lemmas.List.Elements.{All-head, All-tail, All-cons}
use Rattle.std.specs.List.{remove, position_or_len, enumerate_from}
use Rattle.bench_model.specs.declared.replace.Change.{Change}
use Rattle.bench_model.specs.declared.database.Database.{Database}
use Rattle.bench_model.specs.declared.database.Bus.{Bus}
use Rattle.bench_model.specs.declared.database.Bench.{Bench}
use Rattle.bench_model.specs.Check.{IsValid}
use Rattle.bench_model.specs.ValidBench.{IsValidBench, HasBusesOf}
use Rattle.bench_model.specs.Replaced.{names_bus, database_after, bus_after, bench_after}

first_found : {X : Type 0} (p : X → Bool) (xs : List X) (k : ℕ) (x : X) → k < length xs → x ≡ get_or xs k x → p x ≡ true →
    ((j : ℕ) → j < k → p (get_or xs j x) ≡ false) → find p xs ≡ Some x
first_found p [] k x h e passes before = absurd (omega arith)
first_found p (y ∷ ys) zero x h e passes before = rw (← e) (rw passes refl)
first_found p (y ∷ ys) (suc k) x h e passes before =
    let first : p y ≡ false = before zero (omega arith) in
    rw first (first_found p ys k x (omega arith) e passes (λ j g. before (suc j) (omega arith)))

-- what is at the first place that passes is found
pub found_at : {X : Type 0} (p : X → Bool) (xs : List X) (k : ℕ) (x : X) → position p xs ≡ Some k → x ≡ get_or xs k x → find p xs ≡ Some x
found_at p xs k x at e =
    let first = position-Some p xs k x at in
    first_found p xs k x first.0 e (rw (← e) at first.1) first.2

none_past : {X : Type 0} (p : X → Bool) (xs : List X) (within : Bool) → ltb (position_or_len p xs) (length xs) ≡ within →
    cond within (Some (position_or_len p xs)) None ≡ None → find p xs ≡ None
none_past p xs true e none = cc
none_past p xs false e none = find_at p xs ∙ slice_get_past xs (position_or_len p xs) (ltb-false _ _ e)

-- where no place passes, nothing is found
pub found_nowhere : {X : Type 0} (p : X → Bool) (xs : List X) → position p xs ≡ None → find p xs ≡ None
found_nowhere p xs none = none_past p xs _ refl none

-- without an element that does not pass, the same is found
pub found_without : {X : Type 0} (q : X → Bool) (xs : List X) (k : ℕ) (x : X) → k < length xs → x ≡ get_or xs k x → q x ≡ false → find q (remove xs k) ≡ find q xs
found_without q [] k x h e fails = absurd (omega arith)
found_without q (y ∷ ys) zero x h e fails = rw (← e) (rw fails refl)
found_without q (y ∷ ys) (suc k) x h e fails = ap (λ o. cond (q y) (Some y) o) (found_without q ys k x (omega arith) e fails)

-- a change of this bus does not name another one
pub names_no_other : (place other : ℕ) (c : Change) → names_bus place c ≡ true → other ≢ place → names_bus other c ≡ false
names_no_other place other c e different =
    elim (eqb_tells c.bus other) [
      | inl same ↦ absurd (different (sym same.1 ∙ eqb-true c.bus place e))
      | inr apart ↦ apart.0
    ]

-- the database that was taken out, and the changes that are left
pub taken_out : (own d : Database) (changes changes' : List Change) (place k : ℕ) (c : Change) → changes' ≡ changes → Some k ≡ position (names_bus place) changes' →
    c ≡ get_or changes k c → d ≡ c.database.database → d ≡ database_after own (find (names_bus place) changes)
taken_out own d changes changes' place k c same at e is =
    rw (found_at (names_bus place) changes k c (sym (rw same at at)) e) is

pub left_without : (changes changes' left : List Change) (place k other : ℕ) (c : Change) → changes' ≡ changes → Some k ≡ position (names_bus place) changes' →
    c ≡ get_or changes k c → left ≡ remove changes k → other ≢ place → find (names_bus other) left ≡ find (names_bus other) changes
left_without changes changes' left place k other c same at e is different =
    let first = position-Some (names_bus place) changes k c (sym (rw same at at)) in
    rw is (found_without (names_bus other) changes k c first.0 e (names_no_other place other c (rw (← e) at first.1) different))

pub unnamed : (own d : Database) (changes changes' : List Change) (place : ℕ) → changes' ≡ changes → None ≡ position (names_bus place) changes' →
    d ≡ own → d ≡ database_after own (find (names_bus place) changes)
unnamed own d changes changes' place same none is = rw (found_nowhere (names_bus place) changes (sym (rw same at none))) is

changed_valid : (own : Database) (o : Option Change) → IsValid own → IsValid (database_after own o)
changed_valid own (Some c) h = c.database.valid
changed_valid own None h = h

buses_valid : (changes : List Change) (n : ℕ) (buses : List Bus) → All (λ (b : Bus). IsValid b.database) buses →
    All (λ (b : Bus). IsValid b.database) (map (bus_after changes) (enumerate_from n buses))
buses_valid changes n [] h = λ k d past. absurd (omega arith)
buses_valid changes n (b ∷ bs) h =
    All-cons (λ (b : Bus). IsValid b.database) (bus_after changes (n, b)) (map (bus_after changes) (enumerate_from (n + 1) bs))
    (changed_valid b.database (find (names_bus n) changes) (All-head (λ (b : Bus). IsValid b.database) b bs h))
    (buses_valid changes (n + 1) bs (All-tail (λ (b : Bus). IsValid b.database) b bs h))

-- names and kinds stay
same_number : (changes : List Change) (n : ℕ) (buses : List Bus) → length (map (bus_after changes) (enumerate_from n buses)) ≡ length buses
same_number changes n [] = refl
same_number changes n (b ∷ bs) = ap suc (same_number changes (n + 1) bs)

same_name : (changes : List Change) (n : ℕ) (buses : List Bus) (i : ℕ) (d : Bus) →
    (get_or (map (bus_after changes) (enumerate_from n buses)) i d).name ≡ (get_or buses i d).name
same_name changes n [] i d = refl
same_name changes n (b ∷ bs) zero d = refl
same_name changes n (b ∷ bs) (suc i) d = same_name changes (n + 1) bs i d

same_kind : (changes : List Change) (n : ℕ) (buses : List Bus) (i : ℕ) (d : Bus) →
    (get_or (map (bus_after changes) (enumerate_from n buses)) i d).kind ≡ (get_or buses i d).kind
same_kind changes n [] i d = refl
same_kind changes n (b ∷ bs) zero d = refl
same_kind changes n (b ∷ bs) (suc i) d = same_kind changes (n + 1) bs i d

pub kept_buses : (changes : List Change) (bench : Bench) → HasBusesOf (bench_after bench changes) bench
kept_buses changes bench = record {
  number = same_number changes 0 bench.buses;
  each = same_name changes 0 bench.buses;
  kinds = same_kind changes 0 bench.buses;
}

-- the databases of a bench stay valid, and so does the bench
pub kept_databases : (changes : List Change) (bench : Bench) → All (λ (b : Bus). IsValid b.database) bench.buses →
    All (λ (b : Bus). IsValid b.database) (bench_after bench changes).buses
kept_databases changes bench valid = buses_valid changes 0 bench.buses valid

pub kept_valid : (changes : List Change) (bench : Bench) → IsValidBench bench → IsValidBench (bench_after bench changes)
kept_valid changes bench v =
    let kept = kept_buses changes bench in
    let databases = kept_databases changes bench (λ k d h. (v.valid k d h).database) in
    record {
      some_buses = omega (arith, v.some_buses, kept.number);
      buses = omega (arith, v.buses, kept.number);
      names = λ i j d h g. λ same. v.names i j d h (omega (arith, kept.number)) (sym (kept.each i d) ∙ same ∙ kept.each j d);
      valid = λ k d h.
          let within : k < length bench.buses = omega (arith, kept.number) in
          let old = v.valid k d within in
          record {
            some_bytes = rw (kept.each k d) old.some_bytes;
            bytes = rw (kept.each k d) old.bytes;
            database = databases k d h;
          };
    }

-- the same of what the code has made
pub made : (old after made' : List Bus) (changes : List Change) (bench : Bench) → old ≡ bench.buses →
    made' ≡ map (bus_after changes) (enumerate_from 0 old) → after ≡ made' → after ≡ (bench_after bench changes).buses
made old after made' changes bench same by is = is ∙ by ∙ ap (λ (bs : List Bus). map (bus_after changes) (enumerate_from 0 bs)) same
