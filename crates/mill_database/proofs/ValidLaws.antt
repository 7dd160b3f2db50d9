-- The generated database keeps each rule of a valid one.
use Rattle.std.proofs.Common.{◌≡◌, ℕ, zero, suc, ◌+◌, ◌<◌, ◌≤◌, Bool, true, false, List, [], ◌∷◌, ◌++◌, length, get_or, sym, refl, ap, ◌∙◌, subst, arith, length-append}
use Rattle.std.specs.Prelude.{Option, Some, None, All, AllPairs, ◌≢◌, map, replicate, codes, decimal, pos, negsuc}
use Rattle.std.specs.List.{range_with_len}
use Rattle.std.proofs.lemmas.List.Elements.{All-nil, All-cons, All-from_recursion}
use Rattle.std.proofs.lemmas.List.Kept.{AllPairs-cons}
use Rattle.std.proofs.lemmas.List.FromFn.{length-map-range_with_len, get_or-map-range_with_len, length-range_with_len, get_or-range_with_len}
use Rattle.std.proofs.lemmas.Option.{none-some}
use Rattle.std.proofs.lemmas.Fmt.{length-decimal-le}
use Rattle.multiplex_tree.specs.declared.mark.Parent.{Parent}
use Rattle.multiplex_tree.specs.Activity.{parent_at}
use Rattle.multiplex_tree.specs.Trees.{IsTreeOver}
use Rattle.exact_scale.specs.declared.scaling.Scale.{Scale}
use Rattle.exact_scale.specs.Limits.{IsScale}
use Rattle.bench_model.specs.declared.database.Label.{Label}
use Rattle.bench_model.specs.declared.database.Order.{Order}
use Rattle.bench_model.specs.declared.database.Order.TheVariants.{Intel, Motorola}
use Rattle.bench_model.specs.declared.database.Signal.{Signal}
use Rattle.bench_model.specs.declared.database.Message.{Message}
use Rattle.bench_model.specs.declared.database.Database.{Database}
use Rattle.bench_model.specs.Limits.{IsLabel, IsCoding, IsMade, IsMadeDatabase, last_start}
use Rattle.bench_model.specs.Rules.{IsName, IsShortText, KeepsSignalRules, KeepsMessageRules, KeepsRules}
use Rattle.bench_model.specs.Check.{IsValid}
use Rattle.mill_database.specs.GeneratedText.{message_count, id_of, message_name}
use Rattle.mill_database.specs.GeneratedDatabase.{signal, scale, generated_signals, generated_message, generated_database}
use Rattle.mill_database.proofs.ScaleLaws.{narrow_half, narrow_forty, narrow_quarter, narrow_one}

four : (P : Signal → Type 0) (a b c d : Signal) → P a → P b → P c → P d → All P (a ∷ b ∷ c ∷ d ∷ [])
four P a b c d p q r s = All-from_recursion P (a ∷ b ∷ c ∷ d ∷ []) (p, (q, (r, (s, tt))))

abbrev first : Signal
first = signal (codes "S0") 0 Intel false (scale (pos 5) (pos 0) 1)

abbrev second : Signal
second = signal (codes "S1") 16 Intel true (scale (pos 1) (negsuc 39) 0)

abbrev third : Signal
third = signal (codes "S2") 39 Motorola false (scale (pos 25) (pos 0) 2)

abbrev fourth : Signal
fourth = signal (codes "S3") 55 Motorola true (scale (pos 1) (pos 0) 0)

coding_is : (s : Scale) → IsScale s → IsScale s × All IsLabel []
coding_is s narrow = (narrow, All-nil IsLabel)

message_is_made : ((n : ℕ) → IsTreeOver n (replicate n None)) → (j : ℕ) → IsMade (generated_message j)
message_is_made tree j = record {
  tree = tree 4;
  codings = four (λ (s : Signal). IsCoding s.coding) first second third fourth (coding_is (scale (pos 5) (pos 0) 1) narrow_half) (coding_is (scale (pos 1) (negsuc 39) 0) narrow_forty)
      (coding_is (scale (pos 25) (pos 0) 2) narrow_quarter) (coding_is (scale (pos 1) (pos 0) 0) narrow_one);
}

keeps_signal : (name : List ℕ) (start : ℕ) (order : Order) (signed : Bool) (s : Scale) → 1 ≤ length name → length name ≤ 2 → start ≤ 55 → KeepsSignalRules (signal name start order signed s)
keeps_signal name start order signed s some short early = record {
  some_bits = omega arith;
  size = omega arith;
  start = omega arith;
  no_float = refl;
  name = record { some_bytes = some; bytes = omega arith };
  coding = (omega arith, omega arith, All-nil (λ (l : Label). IsShortText l.text));
}

other_names : (a b : List ℕ) → get_or a 1 0 < get_or b 1 0 → a ≢ b
other_names a b less e = let same : get_or a 1 0 ≡ get_or b 1 0 = ap (λ s. get_or s 1 0) e in omega arith

two_of : (P : Signal → Type 0) (a b : Signal) → P a → P b → All P (a ∷ b ∷ [])
two_of P a b p q = All-from_recursion P (a ∷ b ∷ []) (p, (q, tt))

three_of : (P : Signal → Type 0) (a b c : Signal) → P a → P b → P c → All P (a ∷ b ∷ c ∷ [])
three_of P a b c p q r = All-from_recursion P (a ∷ b ∷ c ∷ []) (p, (q, (r, tt)))

names_differ : AllPairs (λ (a b : Signal). a.name ≢ b.name) generated_signals
names_differ =
    let R : Signal → Signal → Type 0 = λ (a b : Signal). a.name ≢ b.name in
    let last : AllPairs R (fourth ∷ []) = AllPairs-cons R fourth [] (All-nil (R fourth)) (λ i j d less within. absurd (omega arith)) in
    let two : AllPairs R (third ∷ fourth ∷ []) = AllPairs-cons R third (fourth ∷ [])
    (All-from_recursion (R third) (fourth ∷ []) (other_names (codes "S2") (codes "S3") (omega arith), tt)) last in
    let three : AllPairs R (second ∷ third ∷ fourth ∷ []) = AllPairs-cons R second (third ∷ fourth ∷ [])
    (two_of (R second) third fourth (other_names (codes "S1") (codes "S2") (omega arith)) (other_names (codes "S1") (codes "S3") (omega arith))) two in
    AllPairs-cons R first (second ∷ third ∷ fourth ∷ [])
    (three_of (R first) second third fourth (other_names (codes "S0") (codes "S1") (omega arith)) (other_names (codes "S0") (codes "S2") (omega arith)) (other_names (codes "S0") (codes "S3") (omega arith))) three

no_parent : (j : ℕ) (p : Parent) → parent_at (replicate 4 None) j ≡ Some p → ⊥
no_parent zero p e = none-some p e
no_parent (suc zero) p e = none-some p e
no_parent (suc (suc zero)) p e = none-some p e
no_parent (suc (suc (suc zero))) p e = none-some p e
no_parent (suc (suc (suc (suc j)))) p e = none-some p e

keeps_message : (j : ℕ) → j < 1000 → KeepsMessageRules (generated_message j)
keeps_message j small = record {
  bytes = omega arith;
  name = record { some_bytes = omega arith; bytes = omega (arith, length-decimal-le 3 j (omega arith) small (omega arith)) };
  count = omega arith;
  names = names_differ;
  signals = four KeepsSignalRules first second third fourth
      (keeps_signal (codes "S0") 0 Intel false (scale (pos 5) (pos 0) 1) (omega arith) (omega arith) (omega arith))
      (keeps_signal (codes "S1") 16 Intel true (scale (pos 1) (negsuc 39) 0) (omega arith) (omega arith) (omega arith))
      (keeps_signal (codes "S2") 39 Motorola false (scale (pos 25) (pos 0) 2) (omega arith) (omega arith) (omega arith))
      (keeps_signal (codes "S3") 55 Motorola true (scale (pos 1) (pos 0) 0) (omega arith) (omega arith) (omega arith));
  ranges = λ i p within e. absurd (no_parent i p e);
}

-- each message of a range
each_message : (P : Message → Type 0) (a n : ℕ) → ((j : ℕ) → j < a + n → P (generated_message j)) → All P (map generated_message (range_with_len a n))
each_message P a zero each = All-nil P
each_message P a (suc n) each = All-cons P (generated_message a) (map generated_message (range_with_len (a + 1) n)) (each a (omega arith)) (each_message P (a + 1) n (λ j less. each j (omega arith)))

-- each later one
later : (P : Message → Type 0) (a n : ℕ) → ((j : ℕ) → a ≤ j → P (generated_message j)) → All P (map generated_message (range_with_len a n))
later P a zero each = All-nil P
later P a (suc n) each = All-cons P (generated_message a) (map generated_message (range_with_len (a + 1) n)) (each a (omega arith)) (later P (a + 1) n (λ j more. each j (omega arith)))

keys_differ : (a n : ℕ) → AllPairs (λ (x y : Message). x.key ≢ y.key) (map generated_message (range_with_len a n))
keys_differ a zero = λ i j d less within. absurd (omega arith)
keys_differ a (suc n) =
    let R : Message → Message → Type 0 = λ (x y : Message). x.key ≢ y.key in
    AllPairs-cons R (generated_message a) (map generated_message (range_with_len (a + 1) n)) (later (R (generated_message a)) (a + 1) n
    (λ j more e. let same : id_of a ≡ id_of j = ap (λ k. k.id) e in omega arith)) (keys_differ (a + 1) n)

pub is_made : ((n : ℕ) → IsTreeOver n (replicate n None)) → IsMadeDatabase generated_database
unfolding generated_database
is_made tree = each_message IsMade 0 message_count (λ j less. message_is_made tree j)

pub keeps_rules : KeepsRules generated_database
unfolding generated_database
keeps_rules = record {
  count = omega (arith, length-map-range_with_len generated_message 0 message_count);
  keys = keys_differ 0 message_count;
  messages = each_message KeepsMessageRules 0 message_count (λ j less. keeps_message j (omega arith));
}
