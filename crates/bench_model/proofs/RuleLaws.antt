-- A database without a fault keeps the rules over whole lists, and one that keeps them has no fault.
use Rattle.std.proofs.Common.{◌≡◌, ◌∙◌, sym, ap, ℕ, ◌<◌, ◌≤◌, List, [], ◌∷◌, All, length, get_or, take, Bool, true, false, not, ◌&&◌, eqb, leb, ltb, Some, None, Option, refl, arith}
use Rattle.std.specs.Prelude.{AllPairs, ◌≢◌}
use Rattle.std.specs.List.{list_any, list_all}
use Rattle.std.proofs.lemmas.Bool.{and_parts, and_from, or_parts, or_from, not-false, not_from_true, ltb-false, le-ltb, leb-true, le-leb, eqb-true, eq-eqb, both_ways, false_from_ne_true}
use Rattle.std.proofs.lemmas.List.{length-take-le, get_or-take, get_or_default}
use Rattle.std.proofs.lemmas.List.Folds.{list_any_at, list_any_none}
use Rattle.std.proofs.lemmas.List.Sums.{AllPass-from_list_all, list_all-from_AllPass}
use Rattle.std.proofs.lemmas.Slice.Eq.{bytes_eq-Decides}
use Rattle.multiplex_tree.specs.declared.mark.Parent.{Parent}
use Rattle.multiplex_tree.specs.Activity.{parent_at}
use Rattle.bench_model.specs.declared.fault.CheckWhy.TheVariants.{Size, DuplicateMessage, DuplicateSignal, Float, Limit}
use Rattle.bench_model.specs.declared.database.Key.{Key}
use Rattle.bench_model.specs.declared.database.Label.{Label}
use Rattle.bench_model.specs.declared.database.Entry.{Entry}
use Rattle.bench_model.specs.declared.database.Entry.TheVariants as entry
use Rattle.bench_model.specs.declared.database.Coding.{Coding}
use Rattle.bench_model.specs.declared.database.Coding.TheVariants.{Scaled, Listed}
use Rattle.bench_model.specs.declared.database.Signal.{Signal}
use Rattle.bench_model.specs.declared.database.Message.{Message}
use Rattle.bench_model.specs.declared.database.Database.{Database}
use Rattle.bench_model.specs.Meaning.{same_bool, has_key}
use Rattle.bench_model.specs.Limits.{most_messages, most_signals, most_choices, longest_name, longest_text, longest_message, most_bits, last_start, IsMadeDatabase}
use Rattle.bench_model.specs.Check.{is_name, is_text, is_text_or_none, has_short_text, is_small, has_few_ranges, has_name, IsValid}
use Rattle.bench_model.specs.Rules.{IsName, IsShortText, IsShortIfThere, HasShortText, IsSmall, KeepsSignalRules, KeepsMessageRules, KeepsRules}
use Rattle.bench_model.proofs.UnbrokenLaws.{IsUnbroken, IsUnbrokenMessage, left_out, out, all_unbroken, all_faultless}

-- ---- names and texts
name_kept : (t : List ℕ) → is_name t ≡ true → IsName t
name_kept t h = let p = and_parts (leb 1 (length t)) (leb (length t) longest_name) h in
    record { some_bytes = leb-true 1 (length t) p.0; bytes = leb-true (length t) longest_name p.1 }

name_passes : (t : List ℕ) → IsName t → is_name t ≡ true
name_passes t h = and_from _ _ (le-leb 1 (length t) h.some_bytes) (le-leb (length t) longest_name h.bytes)

text_kept : (t : List ℕ) → is_text t ≡ true → IsShortText t
text_kept t h = leb-true (length t) longest_text h

text_passes : (t : List ℕ) → IsShortText t → is_text t ≡ true
text_passes t h = le-leb (length t) longest_text h

text_if_there : (t : Option (List ℕ)) → is_text_or_none t ≡ true → IsShortIfThere t
text_if_there None h = tt
text_if_there (Some t) h = text_kept t h

text_if_there_passes : (t : Option (List ℕ)) → IsShortIfThere t → is_text_or_none t ≡ true
text_if_there_passes None h = refl
text_if_there_passes (Some t) h = text_passes t h

entry_kept : (e : Entry) → has_short_text e ≡ true → HasShortText e
entry_kept (entry.Logical raw text) h = text_if_there text h
entry_kept (entry.Physical low high scale unit) h = text_kept unit h
entry_kept entry.Plain h = tt

entry_passes : (e : Entry) → HasShortText e → has_short_text e ≡ true
entry_passes (entry.Logical raw text) h = text_if_there_passes text h
entry_passes (entry.Physical low high scale unit) h = text_passes unit h
entry_passes entry.Plain h = refl

all_kept : {X : Type 0} (p : X → Bool) (P : X → Type 0) → ((x : X) → p x ≡ true → P x) → (xs : List X) →
    list_all p xs ≡ true → All P xs
all_kept p P g xs h = λ k d l. g (get_or xs k d) (AllPass-from_list_all p xs h k d l)

all_pass : {X : Type 0} (p : X → Bool) (P : X → Type 0) → ((x : X) → P x → p x ≡ true) → (xs : List X) →
    All P xs → list_all p xs ≡ true
all_pass p P g xs h = list_all-from_AllPass p xs (λ k d l. g (get_or xs k d) (h k d l))

coding_kept : (coding : Coding) → is_small coding ≡ true → IsSmall coding
coding_kept (Scaled scale unit labels) h =
    let p = and_parts (is_text unit && leb (length labels) most_choices)
    (list_all (λ (l : Label). is_text l.text) labels) h in
    let q = and_parts (is_text unit) (leb (length labels) most_choices) p.0 in (
      text_kept unit q.0,
      leb-true (length labels) most_choices q.1,
      all_kept (λ (l : Label). is_text l.text) (λ (l : Label). IsShortText l.text)
          (λ l. text_kept l.text) labels p.1,
    )
coding_kept (Listed entries) h =
    let p = and_parts (leb (length entries) most_choices) (list_all has_short_text entries) h in
    (leb-true (length entries) most_choices p.0, all_kept has_short_text HasShortText entry_kept entries p.1)

coding_passes : (coding : Coding) → IsSmall coding → is_small coding ≡ true
coding_passes (Scaled scale unit labels) h =
    and_from _ _ (and_from _ _ (text_passes unit h.0) (le-leb (length labels) most_choices h.1))
    (all_pass (λ (l : Label). is_text l.text) (λ (l : Label). IsShortText l.text)
    (λ l. text_passes l.text) labels h.2)
coding_passes (Listed entries) h =
    and_from _ _ (le-leb (length entries) most_choices h.0)
    (all_pass has_short_text HasShortText entry_passes entries h.1)

few_kept : (o : Option Parent) (p : Parent) → has_few_ranges o ≡ true → o ≡ Some p →
    length p.ranges ≤ most_choices
few_kept o p h e = let few : leb (length p.ranges) most_choices ≡ true = rw e at h in
    leb-true (length p.ranges) most_choices few

few_pass : (o : Option Parent) → ((p : Parent) → o ≡ Some p → length p.ranges ≤ most_choices) →
    has_few_ranges o ≡ true
few_pass None h = refl
few_pass (Some p) h = le-leb (length p.ranges) most_choices (h p refl)

-- ---- elements that differ from those before them
differ : {X : Type 0} (same : X → X → Bool) (xs : List X) (i j : ℕ) (d : X) →
    list_any (same (get_or xs j d)) (take j xs) ≡ false →
    i < j → j < length xs → same (get_or xs j d) (get_or xs i d) ≡ true → ⊥
differ same xs i j d none before within is_same =
    let short : length (take j xs) ≡ j = length-take-le j xs (omega arith) in
    both_ways (list_any (same (get_or xs j d)) (take j xs)) none
    (list_any_at (same (get_or xs j d)) (take j xs) i d (rw short before)
    (rw (get_or-take j xs i d before) is_same))

none_before : {X : Type 0} (same : X → X → Bool) (xs : List X) (j : ℕ) (d : X) → j < length xs →
    ((i : ℕ) → i < j → same (get_or xs j d) (get_or xs i d) ≡ true → ⊥) →
    list_any (same (get_or xs j d)) (take j xs) ≡ false
none_before same xs j d within apart =
    let short : length (take j xs) ≡ j = length-take-le j xs (omega arith) in
    list_any_none (same (get_or xs j d)) (take j xs) (λ i e h.
    let before : i < j = rw short at h in
    let there_is : get_or (take j xs) i e ≡ get_or xs i d = get_or-take j xs i e before
    ∙ get_or_default xs i e d (omega arith) in
    rw there_is (false_from_ne_true _ (apart i before)))

bool_is_itself : (b : Bool) → same_bool b b ≡ true
bool_is_itself true = refl
bool_is_itself false = refl

same_bools : (a b : Bool) → same_bool a b ≡ true → a ≡ b
same_bools true true e = refl
same_bools true false e = cc
same_bools false true e = cc
same_bools false false e = refl

key_is_same : (a b : Message) → a.key ≡ b.key → has_key b.key a ≡ true
key_is_same a b e =
    and_from (same_bool a.key.extended b.key.extended) (eqb a.key.id b.key.id)
    (ap (λ (k : Key). same_bool a.key.extended k.extended) (sym e) ∙ bool_is_itself a.key.extended)
    (eq-eqb a.key.id b.key.id (ap (λ (k : Key). k.id) e))

same_key : (a b : Message) → has_key b.key a ≡ true → a.key ≡ b.key
same_key a b e =
    let p = and_parts (same_bool a.key.extended b.key.extended) (eqb a.key.id b.key.id) e in
    let extended = same_bools a.key.extended b.key.extended p.0 in
    let id = eqb-true a.key.id b.key.id p.1 in
    λ t. record { extended = extended t; id = id t }

-- ---- what each rule says of a message and of its signals
signal_kept : (m : Message) (j : ℕ) (s : Signal) →
    not ((leb 1 s.size && leb s.size most_bits) && leb s.start last_start) ≡ false → s.float ≡ false →
    not ((is_name s.name && is_small s.coding) && has_few_ranges (parent_at m.tree.parents j)) ≡ false →
    KeepsSignalRules s
signal_kept m j s sizes floats limits =
    let size = and_parts (leb 1 s.size && leb s.size most_bits) (leb s.start last_start)
    (not-false _ sizes) in
    let bits = and_parts (leb 1 s.size) (leb s.size most_bits) size.0 in
    let limit = and_parts (is_name s.name && is_small s.coding) (has_few_ranges (parent_at m.tree.parents j))
    (not-false _ limits) in
    let small = and_parts (is_name s.name) (is_small s.coding) limit.0 in
    record {
      some_bits = leb-true 1 s.size bits.0;
      size = leb-true s.size most_bits bits.1;
      start = leb-true s.start last_start size.1;
      no_float = floats;
      name = name_kept s.name small.0;
      coding = coding_kept s.coding small.1;
    }

ranges_kept : (m : Message) (j : ℕ) (s : Signal) (p : Parent) →
    not ((is_name s.name && is_small s.coding) && has_few_ranges (parent_at m.tree.parents j)) ≡ false →
    parent_at m.tree.parents j ≡ Some p → length p.ranges ≤ most_choices
ranges_kept m j s p limits e =
    let limit = and_parts (is_name s.name && is_small s.coding) (has_few_ranges (parent_at m.tree.parents j))
    (not-false _ limits) in
    few_kept (parent_at m.tree.parents j) p limit.1 e

sizes_pass : (s : Signal) → KeepsSignalRules s →
    not ((leb 1 s.size && leb s.size most_bits) && leb s.start last_start) ≡ false
sizes_pass s k =
    not_from_true _ (and_from _ _
    (and_from _ _ (le-leb 1 s.size k.some_bits) (le-leb s.size most_bits k.size))
    (le-leb s.start last_start k.start))

limits_pass : (m : Message) (j : ℕ) (s : Signal) → KeepsSignalRules s →
    ((p : Parent) → parent_at m.tree.parents j ≡ Some p → length p.ranges ≤ most_choices) →
    not ((is_name s.name && is_small s.coding) && has_few_ranges (parent_at m.tree.parents j)) ≡ false
limits_pass m j s k few =
    not_from_true _ (and_from _ _ (and_from _ _ (name_passes s.name k.name) (coding_passes s.coding k.coding))
    (few_pass (parent_at m.tree.parents j) few))

-- ---- whole databases
-- a list with a place has an element
one_of : {X : Type 0} (xs : List X) (j : ℕ) → j < length xs → X
one_of [] j h = absurd (omega arith)
one_of (x ∷ xs) j h = x

message_kept : (ms : List Message) (i : ℕ) (m : Message) → IsUnbrokenMessage Size ms i m →
    IsUnbrokenMessage DuplicateSignal ms i m →
    IsUnbrokenMessage Float ms i m → IsUnbrokenMessage Limit ms i m → KeepsMessageRules m
message_kept ms i m sizes names floats limits =
    let own = or_parts (not (is_name m.name)) (ltb most_signals (length m.signals)) limits.own in
    record {
      bytes = ltb-false longest_message m.length sizes.own;
      name = name_kept m.name (not-false _ own.0);
      count = ltb-false most_signals (length m.signals) own.1;
      names = λ a b d before within same.
          differ (λ (x y : Signal). has_name x.name y) m.signals a b d (names.each b d within) before within
          ((bytes_eq-Decides (get_or m.signals a d).name (get_or m.signals b d).name).1 same);
      signals = λ j d h. signal_kept m j (get_or m.signals j d) (sizes.each j d h) (floats.each j d h)
          (limits.each j d h);
      ranges = λ j p h e.
          let any : Signal = one_of m.signals j h in
          ranges_kept m j (get_or m.signals j any) p (limits.each j any h) e;
    }

pub valid_keeps : (d : Database) → IsValid d → KeepsRules d
valid_keeps d v =
    let u = all_unbroken d v in
    let ms = d.messages in
    record {
      count = ltb-false most_messages (length ms) (left_out _ _ u.limits.whole);
      keys = λ a b e before within same.
          differ (λ (x y : Message). has_key x.key y) ms a b e (u.keys.each b e within).own before within
          (key_is_same (get_or ms a e) (get_or ms b e) same);
      messages = λ i e h.
          message_kept ms i (get_or ms i e) (u.sizes.each i e h) (u.names.each i e h) (u.floats.each i e h)
          (u.limits.each i e h);
    }

-- the same the other way round
sizes_unbroken : (ms : List Message) → All KeepsMessageRules ms → IsUnbroken Size ms
sizes_unbroken ms k = record {
  whole = refl;
  each = λ i d h. let keeps = k i d h in record {
    own = le-ltb longest_message (get_or ms i d).length keeps.bytes;
    each = λ j e g. sizes_pass (get_or (get_or ms i d).signals j e) (keeps.signals j e g);
  };
}

keys_unbroken : (ms : List Message) → AllPairs (λ (a b : Message). a.key ≢ b.key) ms →
    IsUnbroken DuplicateMessage ms
keys_unbroken ms apart = record {
  whole = refl;
  each = λ i d h. record {
    own = none_before (λ (x y : Message). has_key x.key y) ms i d h
        (λ a before same. apart a i d before h (same_key (get_or ms a d) (get_or ms i d) same));
    each = λ j e g. refl;
  };
}

names_unbroken : (ms : List Message) → All KeepsMessageRules ms → IsUnbroken DuplicateSignal ms
names_unbroken ms k = record {
  whole = refl;
  each = λ i d h. let ss = (get_or ms i d).signals in record {
    own = refl;
    each = λ j e g.
        none_before (λ (x y : Signal). has_name x.name y) ss j e g
        (λ a before same. (k i d h).names a j e before g
        ((bytes_eq-Decides (get_or ss a e).name (get_or ss j e).name).0 same));
  };
}

floats_unbroken : (ms : List Message) → All KeepsMessageRules ms → IsUnbroken Float ms
floats_unbroken ms k = record {
  whole = refl;
  each = λ i d h. record { own = refl; each = λ j e g. ((k i d h).signals j e g).no_float };
}

limits_unbroken : (ms : List Message) → length ms ≤ most_messages → All KeepsMessageRules ms →
    IsUnbroken Limit ms
limits_unbroken ms count k = record {
  whole = out _ _ (le-ltb most_messages (length ms) count);
  each = λ i d h. let keeps = k i d h in let m = get_or ms i d in record {
    own = or_from _ _ (not_from_true _ (name_passes m.name keeps.name))
        (le-ltb most_signals (length m.signals) keeps.count);
    each = λ j e g. limits_pass m j (get_or m.signals j e) (keeps.signals j e g) (λ p. keeps.ranges j p g);
  };
}

pub valid_from_rules : (d : Database) → IsMadeDatabase d → KeepsRules d → IsValid d
valid_from_rules d made k = record {
  made = made;
  faultless = all_faultless d (record {
    sizes = sizes_unbroken d.messages k.messages;
    keys = keys_unbroken d.messages k.keys;
    names = names_unbroken d.messages k.messages;
    floats = floats_unbroken d.messages k.messages;
    limits = limits_unbroken d.messages k.count k.messages;
  });
}
