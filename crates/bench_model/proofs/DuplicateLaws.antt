-- The sets of keys and names have what the messages and signals so far have.
use Rattle.std.proofs.Common.{◌≡◌, ◌∙◌, sym, ap, ℕ, ◌+◌, ◌<◌, List, [], ◌∷◌, length, get_or, take, Bool, true, false, not, ◌||◌, ◌&&◌, cond, eqb, refl, arith}
use Rattle.std.specs.Borrow.{Bor}
use Rattle.std.specs.List.{list_any, flat_map, enumerate_from}
use Rattle.std.specs.Str.{bytes_eq}
use Rattle.std.specs.Ordering.{ordering_then, bool_cmp, nat_cmp, is_eq}
use Rattle.std.specs.Cmp.Lexicographic.{slice_cmp}
use Rattle.std.specs.BTreeSet.{BTreeSet, IsEmpty}
use Rattle.std.proofs.lemmas.Bool.Decides.{nat_tests}
use Rattle.std.proofs.lemmas.Cmp.{same_from_slice_cmp}
use Rattle.std.proofs.lemmas.List.Folds.{list_any_more}
use Rattle.bench_model.specs.declared.database.Key.{Key}
use Rattle.bench_model.specs.declared.database.Signal.{Signal}
use Rattle.bench_model.specs.declared.database.Message.{Message}
use Rattle.bench_model.specs.Meaning.{same_bool, has_key}
use Rattle.bench_model.specs.declared.fault.CheckWhy.TheVariants.{DuplicateMessage}
use Rattle.bench_model.specs.Check.{has_name, message_breaks, signal_faults, message_faults}
use Rattle.bench_model.specs.Seen.{is_key_seen, is_name_seen}

same_number : (m n : ℕ) → is_eq (nat_cmp m n) ≡ eqb m n
same_number m n = grind (arith, nat_tests)

-- keys compare as equal where they are the same
pub same_key : (a b : Bool) (m n : ℕ) →
    is_eq (ordering_then (bool_cmp a b) (nat_cmp m n)) ≡ (same_bool a b && eqb m n)
same_key true true m n = same_number m n
same_key true false m n = refl
same_key false true m n = refl
same_key false false m n = same_number m n

-- and names where they have the same bytes
pub same_name : (xs ys : List ℕ) → is_eq (slice_cmp nat_cmp xs ys) ≡ bytes_eq xs ys
same_name xs ys =
    same_from_slice_cmp nat_cmp is_eq bytes_eq refl (λ _ _. refl) (λ _ _. refl)
    (λ x y xs ys o h. grind (arith, nat_tests)) xs ys
    (slice_cmp nat_cmp xs ys) refl

-- one more in a set
pub one_more : (b c seen : Bool) → b ≡ c → cond b true seen ≡ (seen || c)
one_more true c true h = refl
one_more true c false h = h
one_more false c true h = refl
one_more false c false h = h

-- the keys of the messages before this place
pub record AreKeysSeen (seen : BTreeSet (Bool × ℕ)) (ms : List Message) (i : ℕ) : Type 0 where
  pub each : (key : Key) → is_key_seen seen key ≡ list_any (has_key key) (take i ms)

pub keys_begin : (seen : BTreeSet (Bool × ℕ)) (ms : List Message) → IsEmpty seen → AreKeysSeen seen ms 0
keys_begin seen ms none = record { each = λ key. rw none refl }

pub keys_go_on : (old new : BTreeSet (Bool × ℕ)) (ms : List Message) (i : ℕ) (m : Message) →
    AreKeysSeen old ms i → i < length ms →
    m ≡ get_or ms i m → ((key : Key) → is_key_seen new key ≡ (is_key_seen old key || has_key key m)) →
    AreKeysSeen new ms (i + 1)
keys_go_on old new ms i m before h is added = record {
  each = λ key.
      added key ∙ ap (λ b. b || has_key key m) (before.each key)
      ∙ ap (λ (y : Message). list_any (has_key key) (take i ms) || has_key key y) is
      ∙ sym (list_any_more (has_key key) ms i m h);
}

-- the names of the signals before this place
pub record AreNamesSeen (seen : BTreeSet (Bor (List ℕ))) (ss : List Signal) (j : ℕ) : Type 0 where
  pub each : (name : List ℕ) → is_name_seen seen name ≡ list_any (has_name name) (take j ss)

pub names_begin : (seen : BTreeSet (Bor (List ℕ))) (ss : List Signal) → IsEmpty seen → AreNamesSeen seen ss 0
names_begin seen ss none = record { each = λ name. rw none refl }

pub names_go_on : (old new : BTreeSet (Bor (List ℕ))) (xs ss : List Signal) (j : ℕ) (s : Signal) → xs ≡ ss →
    AreNamesSeen old ss j →
    j < length xs → s ≡ get_or xs j s →
    ((name : List ℕ) → is_name_seen new name ≡ (is_name_seen old name || has_name name s)) →
    AreNamesSeen new ss (j + 1)
names_go_on old new xs ss j s same before h is added =
    let within : j < length ss = rw same at h in
    let there_is : s ≡ get_or ss j s = is ∙ ap (λ (ys : List Signal). get_or ys j s) same in
    record {
      each = λ name.
          added name ∙ ap (λ b. b || has_name name s) (before.each name)
          ∙ ap (λ (y : Signal). list_any (has_name name) (take j ss) || has_name name y) there_is
          ∙ sym (list_any_more (has_name name) ss j s within);
    }

-- what the set says of the next one
pub is_second : (seen named new : Bool) → new ≡ not seen → new ≡ false → seen ≡ named → named ≡ true
is_second true named new e f g = sym g
is_second false named new e f g = cc

pub is_first : (seen named new : Bool) → new ≡ not seen → new ≡ true → seen ≡ named → named ≡ false
is_first true named new e f g = cc
is_first false named new e f g = sym g

-- by the rule of keys no signal has a fault
no_signal_breaks : (m : Message) (n : ℕ) (ss : List Signal) →
    flat_map (signal_faults DuplicateMessage m) (enumerate_from n ss) ≡ []
no_signal_breaks m n [] = refl
no_signal_breaks m n (s ∷ ss) = no_signal_breaks m (n + 1) ss

pub key_is_new : (ms : List Message) (i : ℕ) (m : Message) → message_breaks DuplicateMessage ms i m ≡ false →
    message_faults DuplicateMessage ms (i, m) ≡ []
unfolding message_faults
key_is_new ms i m h = rw h (no_signal_breaks m 0 m.signals)
