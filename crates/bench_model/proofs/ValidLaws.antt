-- The messages of a valid database can be decoded.
use Rattle.std.proofs.Common.{◌≡◌, ℕ, ◌+◌, ◌≤◌, List, [], ◌∷◌, ◌++◌, All, Bool, true, false, not, ◌&&◌, cond, leb, refl, arith}
use Rattle.std.proofs.lemmas.Bool.{leb-true, not-false}
use Rattle.std.proofs.lemmas.List.{nil_from_length}
use Rattle.std.proofs.lemmas.List.Elements.{All-cons}
use Rattle.std.specs.List.{flat_map, enumerate_from}
use Rattle.bench_model.specs.declared.fault.CheckWhy.TheVariants.{Size}
use Rattle.bench_model.specs.declared.database.Signal.{Signal}
use Rattle.bench_model.specs.declared.database.Message.{Message}
use Rattle.bench_model.specs.declared.database.Database.{Database}
use Rattle.bench_model.specs.Limits.{most_bits, last_start}
use Rattle.bench_model.specs.Check.{signal_breaks, signal_faults, own_faults, message_faults, faults_by, all_faults, IsValid}
use Rattle.bench_model.specs.Decodable.{IsDecodable}

pub left_empty : {X : Type 0} (xs ys : List X) → xs ++ ys ≡ [] → xs ≡ []
left_empty [] ys e = refl
left_empty (x ∷ xs) ys e = cc

pub right_empty : {X : Type 0} (xs ys : List X) → xs ++ ys ≡ [] → ys ≡ []
right_empty [] ys e = e
right_empty (x ∷ xs) ys e = cc

-- where the elements of a list give nothing, each has what giving nothing says
pub all_of_none : {X Y : Type 0} (f : ℕ × X → List Y) (P : X → Type 0) → ((i : ℕ) (x : X) → f (i, x) ≡ [] → P x) →
    (n : ℕ) (xs : List X) → flat_map f (enumerate_from n xs) ≡ [] → All P xs
all_of_none f P g n [] e = λ k d h. absurd (omega arith)
all_of_none f P g n (x ∷ xs) e =
    All-cons P x xs (g n x (left_empty (f (n, x)) (flat_map f (enumerate_from (n + 1) xs)) e))
    (all_of_none f P g (n + 1) xs (right_empty (f (n, x)) (flat_map f (enumerate_from (n + 1) xs)) e))

-- a fault that is left out is none
unbroken : {X : Type 0} (b : Bool) (x : X) → cond b (x ∷ []) [] ≡ [] → b ≡ false
unbroken true x e = cc
unbroken false x e = refl

first_true : (a b : Bool) → (a && b) ≡ true → a ≡ true
first_true true b e = refl
first_true false b e = cc

second_true : (a b : Bool) → (a && b) ≡ true → b ≡ true
second_true true b e = e
second_true false b e = cc

record IsSized (s : Signal) : Type 0 where
  some_bits : 1 ≤ s.size
  size : s.size ≤ most_bits
  start : s.start ≤ last_start

sized : (s : Signal) → not ((leb 1 s.size && leb s.size most_bits) && leb s.start last_start) ≡ false → IsSized s
sized s e =
    let all = not-false _ e in
    let bits = first_true (leb 1 s.size && leb s.size most_bits) (leb s.start last_start) all in
    record {
      some_bits = leb-true 1 s.size (first_true (leb 1 s.size) (leb s.size most_bits) bits);
      size = leb-true s.size most_bits (second_true (leb 1 s.size) (leb s.size most_bits) bits);
      start = leb-true s.start last_start (second_true (leb 1 s.size && leb s.size most_bits) (leb s.start last_start) all);
    }

sized_signals : (ms : List Message) (i : ℕ) (m : Message) → message_faults Size ms (i, m) ≡ [] → All IsSized m.signals
unfolding message_faults
sized_signals ms i m e =
    all_of_none (signal_faults Size m) IsSized (λ j s none. sized s (unbroken (signal_breaks Size m j s) _ none)) 0 m.signals
    (right_empty (own_faults Size ms i m) (flat_map (signal_faults Size m) (enumerate_from 0 m.signals)) e)

-- no fault by the first rule
no_size_fault : (ms : List Message) → faults_by ms Size ≡ [] → All (λ (m : Message). All IsSized m.signals) ms
unfolding faults_by
no_size_fault ms e = all_of_none (message_faults Size ms) (λ (m : Message). All IsSized m.signals) (λ i m none. sized_signals ms i m none) 0 ms e

pub decodable : (d : Database) → IsValid d → All IsDecodable d.messages
decodable d v = λ k e h.
    let made = v.made k e h in
    let sizes = no_size_fault d.messages (left_empty (faults_by d.messages Size) _ (nil_from_length (all_faults d.messages) v.faultless)) k e h in
    record {
      tree = made.tree;
      signals = λ j s g. record {
        some_bits = (sizes j s g).some_bits;
        size = (sizes j s g).size;
        start = (sizes j s g).start;
        coding = made.codings j s g;
      };
    }
