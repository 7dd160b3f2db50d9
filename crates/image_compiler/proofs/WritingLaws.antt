-- What is written so far and what is left are all.
use Rattle.std.proofs.Common.{◌≡◌, ◌∙◌, ℕ, zero, suc, ◌+◌, ◌-◌, ◌*◌, ◌<◌, ◌≤◌, inl, inr, Bool, true, false, Option, min, List, [], ◌∷◌, ◌++◌, length, take, drop, get_or, refl, ap, sym, subst, arith, append_assoc}
use Rattle.std.specs.Prelude.{All, slice_index, replicate, if◌then◌else◌}
use Rattle.std.specs.Int.{w64, from_le_bytes}
use Rattle.std.proofs.Math.ListN.{get_or-append, drop_of_length-le}
use Rattle.std.proofs.lemmas.Bool.{cases_lt}
use Rattle.std.proofs.lemmas.List.{append-nil, get_or-take, get_or-drop, get_or_past, get_or-append_right, drop-drop, drop_more}
use Rattle.std.proofs.lemmas.List.Elements.{All-cons}
use Rattle.multiplex_tree.specs.declared.mark.Range.{Range}
use Rattle.multiplex_tree.specs.declared.mark.Parent.{Parent}
use Rattle.bench_model.specs.declared.database.Signal.{Signal}
use Rattle.bench_model.specs.declared.database.Message.{Message}
use Rattle.bench_model.specs.Meaning.{group_of}
use Rattle.image_words.specs.Layout.{words_for, padded}
use Rattle.image_words.specs.Index.{key_number, key_entries, group_entries}
use Rattle.image_compiler.specs.Size.{total, signal_behind, parent_behind}
use Rattle.image_compiler.specs.Layout.{blocks, rows_from, parts_from, ranges_words, signal_row, signal_rows}

pub next_of : {X : Type 0} (xs : List X) (i : ℕ) (x : X) → i < length xs → x ≡ get_or xs i x → drop i xs ≡ x ∷ drop (i + 1) xs
next_of {X} xs i x h e = drop_more xs i x h ∙ ap (λ (y : X). y ∷ drop (i + 1) xs) (sym e)

-- ---- sums

pub total_more : {X : Type 0} (size : X → ℕ) (xs : List X) (i : ℕ) (x : X) → i < length xs → x ≡ get_or xs i x →
    total size (drop i xs) ≡ size x + total size (drop (i + 1) xs)
unfolding total
total_more size xs i x h e = ap (total size) (next_of xs i x h e)

pub total_none : {X : Type 0} (size : X → ℕ) (xs : List X) (i : ℕ) → length xs ≤ i → total size (drop i xs) ≡ 0
unfolding total
total_none size xs i h = ap (total size) (drop_of_length-le xs h)

pub all_more : {X : Type 0} (P : X → Type 0) (xs : List X) (i : ℕ) (x : X) → i < length xs → x ≡ get_or xs i x → P x → All P (drop (i + 1) xs) → All P (drop i xs)
all_more {X} P xs i x h e p all =
    let Q : List X → Type 0 = λ ys. All P ys in
    subst Q (sym (next_of xs i x h e)) (All-cons P x (drop (i + 1) xs) p all)

pub all_none : {X : Type 0} (P : X → Type 0) (xs : List X) (i : ℕ) → length xs ≤ i → All P (drop i xs)
all_none {X} P xs i h =
    let Q : List X → Type 0 = λ ys. All P ys in
    let none : All P [] = λ k d l. absurd (omega (arith, l)) in
    subst Q (sym (drop_of_length-le xs h)) none

-- ---- lists of rows

pub rows_more : {X : Type 0} (row : ℕ → X → List ℕ) (behind : X → ℕ) (xs : List X) (i place next : ℕ) (x : X) (prefix after : List ℕ) → i < length xs → x ≡ get_or xs i x →
    after ≡ prefix ++ row place x → next ≡ place + behind x →
    prefix ++ rows_from row behind place (drop i xs) ≡ after ++ rows_from row behind next (drop (i + 1) xs)
unfolding rows_from
rows_more {X} row behind xs i place next x prefix after h e f n =
    ap (λ (ys : List X). prefix ++ rows_from row behind place ys) (next_of xs i x h e)
    ∙ sym (append_assoc prefix (row place x) (rows_from row behind (place + behind x) (drop (i + 1) xs)))
    ∙ ap (λ (words : List ℕ). words ++ rows_from row behind (place + behind x) (drop (i + 1) xs)) (sym f)
    ∙ ap (λ (p : ℕ). after ++ rows_from row behind p (drop (i + 1) xs)) (sym n)

pub rows_none : {X : Type 0} (row : ℕ → X → List ℕ) (behind : X → ℕ) (xs : List X) (i place : ℕ) (prefix : List ℕ) → length xs ≤ i → prefix ≡ prefix ++ rows_from row behind place (drop i xs)
unfolding rows_from
rows_none {X} row behind xs i place prefix h = sym (append-nil prefix) ∙ ap (λ (ys : List X). prefix ++ rows_from row behind place ys) (sym (drop_of_length-le xs h))

pub parts_more : {X : Type 0} (parts : ℕ → X → List ℕ) (behind : X → ℕ) (xs : List X) (i place next : ℕ) (x : X) (prefix after : List ℕ) → i < length xs → x ≡ get_or xs i x →
    after ≡ prefix ++ parts place x → next ≡ place + behind x →
    prefix ++ parts_from parts behind place (drop i xs) ≡ after ++ parts_from parts behind next (drop (i + 1) xs)
unfolding parts_from
parts_more {X} parts behind xs i place next x prefix after h e f n =
    ap (λ (ys : List X). prefix ++ parts_from parts behind place ys) (next_of xs i x h e)
    ∙ sym (append_assoc prefix (parts place x) (parts_from parts behind (place + behind x) (drop (i + 1) xs)))
    ∙ ap (λ (words : List ℕ). words ++ parts_from parts behind (place + behind x) (drop (i + 1) xs)) (sym f)
    ∙ ap (λ (p : ℕ). after ++ parts_from parts behind p (drop (i + 1) xs)) (sym n)

pub parts_none : {X : Type 0} (parts : ℕ → X → List ℕ) (behind : X → ℕ) (xs : List X) (i place : ℕ) (prefix : List ℕ) → length xs ≤ i →
    prefix ≡ prefix ++ parts_from parts behind place (drop i xs)
unfolding parts_from
parts_none {X} parts behind xs i place prefix h = sym (append-nil prefix) ∙ ap (λ (ys : List X). prefix ++ parts_from parts behind place ys) (sym (drop_of_length-le xs h))

-- ---- texts

zero_there : (n i : ℕ) → slice_index (replicate n 0) i ≡ 0
zero_there zero i = refl
zero_there (suc n) zero = refl
zero_there (suc n) (suc i) = zero_there n i

padded_there : (text : List ℕ) (i : ℕ) → get_or (padded text) i 0 ≡ get_or text i 0
padded_there text i = elim (cases_lt i (length text)) as (λ _. get_or (padded text) i 0 ≡ get_or text i 0) [
  | inl less ↦ get_or-append text (replicate (8 * words_for (length text) - length text) 0) 0 i less
  | inr past ↦ get_or-append_right text (replicate (8 * words_for (length text) - length text) 0) (length text) i 0 refl past
      ∙ zero_there (8 * words_for (length text) - length text) (i - length text) ∙ sym (get_or_past text i 0 past)
]

byte_there : (text : List ℕ) (at k : ℕ) → k < 8 → get_or (take 8 (drop at (padded text))) k 0 ≡ get_or text (at + k) 0
byte_there text at k h = get_or-take 8 (drop at (padded text)) k 0 h ∙ get_or-drop at (padded text) k 0 ∙ padded_there text (at + k)

pub eight_bytes : (text : List ℕ) (at n a b c d e f g h : ℕ) → a ≡ slice_index text at → b ≡ slice_index text (at + 1) → c ≡ slice_index text (at + 2) →
    d ≡ slice_index text (at + 3) → e ≡ slice_index text (at + 4) → f ≡ slice_index text (at + 5) → g ≡ slice_index text (at + 6) → h ≡ slice_index text (at + 7) →
    n ≡ from_le_bytes w64 (a ∷ b ∷ c ∷ d ∷ e ∷ f ∷ g ∷ h ∷ []) → n ≡ from_le_bytes w64 (take 8 (drop at (padded text)))
eight_bytes text at n a b c d e f g h e0 e1 e2 e3 e4 e5 e6 e7 is =
    let there : at + 0 ≡ at = omega arith in
    let first : get_or (take 8 (drop at (padded text))) 0 0 ≡ get_or text at 0 = byte_there text at 0 (omega arith) ∙ ap (λ (p : ℕ). get_or text p 0) there in
    omega (
      arith,
      is,
      e0,
      e1,
      e2,
      e3,
      e4,
      e5,
      e6,
      e7,
      first,
      byte_there text at 1 (omega arith),
      byte_there text at 2 (omega arith),
      byte_there text at 3 (omega arith),
      byte_there text at 4 (omega arith),
      byte_there text at 5 (omega arith),
      byte_there text at 6 (omega arith),
      byte_there text at 7 (omega arith),
    )

pub blocks_more : (bytes prefix after : List ℕ) (i n w : ℕ) → i < n → w ≡ from_le_bytes w64 (take 8 (drop (8 * i) bytes)) → after ≡ prefix ++ w ∷ [] →
    prefix ++ blocks (n - i) (drop (8 * i) bytes) ≡ after ++ blocks (n - (i + 1)) (drop (8 * (i + 1)) bytes)
unfolding blocks
blocks_more bytes prefix after i n w h e f =
    let some : n - i ≡ suc (n - (i + 1)) = omega arith in
    let on : 8 * i + 8 ≡ 8 * (i + 1) = omega arith in
    let rest : drop 8 (drop (8 * i) bytes) ≡ drop (8 * (i + 1)) bytes = drop-drop 8 (8 * i) bytes ∙ ap (λ (k : ℕ). drop k bytes) on in
    rw (some, f, e, rest) (sym (append_assoc prefix (from_le_bytes w64 (take 8 (drop (8 * i) bytes)) ∷ []) (blocks (n - (i + 1)) (drop (8 * (i + 1)) bytes))))

pub blocks_none : (bytes prefix : List ℕ) (i n : ℕ) → n ≤ i → prefix ≡ prefix ++ blocks (n - i) (drop (8 * i) bytes)
unfolding blocks
blocks_none bytes prefix i n h = let none : n - i ≡ 0 = omega arith in rw none (sym (append-nil prefix))

-- ---- ranges and signals

pub ranges_more : (rs : List Range) (i : ℕ) (d : Range) (prefix after : List ℕ) → i < length rs → after ≡ prefix ++ (get_or rs i d).low ∷ (get_or rs i d).high ∷ [] →
    prefix ++ ranges_words (drop i rs) ≡ after ++ ranges_words (drop (i + 1) rs)
unfolding ranges_words
ranges_more rs i d prefix after h f =
    let r : Range = get_or rs i d in
    ap (λ (ys : List Range). prefix ++ ranges_words ys) (drop_more rs i d h)
    ∙ sym (append_assoc prefix (r.low ∷ r.high ∷ []) (ranges_words (drop (i + 1) rs)))
    ∙ ap (λ (words : List ℕ). words ++ ranges_words (drop (i + 1) rs)) (sym f)

pub ranges_none : (rs : List Range) (i : ℕ) (prefix : List ℕ) → length rs ≤ i → prefix ≡ prefix ++ ranges_words (drop i rs)
unfolding ranges_words
ranges_none rs i prefix h = sym (append-nil prefix) ∙ ap (λ (ys : List Range). prefix ++ ranges_words ys) (sym (drop_of_length-le rs h))

pub signals_more : (ss : List Signal) (ps : List (Option Parent)) (i place ranges place' ranges' : ℕ) (s : Signal) (p : Option Parent) (prefix after : List ℕ) →
    i < length ss → i < length ps → s ≡ get_or ss i s → p ≡ get_or ps i p → after ≡ prefix ++ signal_row place ranges s p → place' ≡ place + signal_behind s →
    ranges' ≡ ranges + parent_behind p →
    prefix ++ signal_rows place ranges (drop i ss) (drop i ps) ≡ after ++ signal_rows place' ranges' (drop (i + 1) ss) (drop (i + 1) ps)
unfolding signal_rows
signals_more ss ps i place ranges place' ranges' s p prefix after h k e f g m n =
    let rest : List ℕ = signal_rows (place + signal_behind s) (ranges + parent_behind p) (drop (i + 1) ss) (drop (i + 1) ps) in
    ap (λ (ys : List Signal). prefix ++ signal_rows place ranges ys (drop i ps)) (next_of ss i s h e)
    ∙ ap (λ (qs : List (Option Parent)). prefix ++ signal_rows place ranges (s ∷ drop (i + 1) ss) qs) (next_of ps i p k f)
    ∙ sym (append_assoc prefix (signal_row place ranges s p) rest)
    ∙ ap (λ (words : List ℕ). words ++ rest) (sym g)
    ∙ ap (λ (a : ℕ). after ++ signal_rows a (ranges + parent_behind p) (drop (i + 1) ss) (drop (i + 1) ps)) (sym m)
    ∙ ap (λ (a : ℕ). after ++ signal_rows place' a (drop (i + 1) ss) (drop (i + 1) ps)) (sym n)

no_rows : (place ranges : ℕ) (ss : List Signal) → signal_rows place ranges ss [] ≡ []
unfolding signal_rows
no_rows place ranges [] = refl
no_rows place ranges (s ∷ ss) = refl

no_signals : (place ranges : ℕ) (ps : List (Option Parent)) → signal_rows place ranges [] ps ≡ []
unfolding signal_rows
no_signals place ranges ps = refl

pub signals_none : (ss : List Signal) (ps : List (Option Parent)) (i place ranges : ℕ) (prefix : List ℕ) → min (length ss) (length ps) ≤ i →
    prefix ≡ prefix ++ signal_rows place ranges (drop i ss) (drop i ps)
signals_none ss ps i place ranges prefix h =
    let none : signal_rows place ranges (drop i ss) (drop i ps) ≡ [] = elim (cases_lt i (length ss)) as (λ _. signal_rows place ranges (drop i ss) (drop i ps) ≡ []) [
      | inl less ↦ (let out : length ps ≤ i = omega (arith, h, less) in
          ap (λ (qs : List (Option Parent)). signal_rows place ranges (drop i ss) qs) (drop_of_length-le ps out) ∙ no_rows place ranges (drop i ss))
      | inr past ↦ ap (λ (ys : List Signal). signal_rows place ranges ys (drop i ps)) (drop_of_length-le ss past) ∙ no_signals place ranges (drop i ps)
    ] in
    sym (append-nil prefix) ∙ ap (λ (words : List ℕ). prefix ++ words) (sym none)

-- ---- entries of indexes

pub keys_more : (ms : List Message) (i value : ℕ) (m : Message) (prefix after : List ℕ) → i < length ms → m ≡ get_or ms i m →
    value ≡ key_number m.key * 131072 + i → after ≡ prefix ++ value ∷ [] → prefix ++ key_entries i (drop i ms) ≡ after ++ key_entries (i + 1) (drop (i + 1) ms)
unfolding key_entries
keys_more ms i value m prefix after h e v f =
    let next : suc i ≡ i + 1 = omega arith in
    ap (λ (ys : List Message). prefix ++ key_entries i ys) (next_of ms i m h e)
    ∙ ap (λ (k : ℕ). prefix ++ (key_number m.key * 131072 + i) ∷ key_entries k (drop (i + 1) ms)) next
    ∙ ap (λ (n : ℕ). prefix ++ n ∷ key_entries (i + 1) (drop (i + 1) ms)) (sym v)
    ∙ sym (append_assoc prefix (value ∷ []) (key_entries (i + 1) (drop (i + 1) ms)))
    ∙ ap (λ (words : List ℕ). words ++ key_entries (i + 1) (drop (i + 1) ms)) (sym f)

pub keys_none : (ms : List Message) (i : ℕ) (prefix : List ℕ) → length ms ≤ i → prefix ≡ prefix ++ key_entries i (drop i ms)
unfolding key_entries
keys_none ms i prefix h = sym (append-nil prefix) ∙ ap (λ (ys : List Message). prefix ++ key_entries i ys) (sym (drop_of_length-le ms h))

-- of a message that is extended, and of one that is not
entries_extended : (b : Bool) (xs ys : List ℕ) → b ≡ true → (if b then xs else ys) ≡ xs
entries_extended true xs ys e = refl
entries_extended false xs ys e = absurd (cc)

entries_plain : (b : Bool) (xs ys : List ℕ) → b ≡ false → (if b then xs else ys) ≡ ys
entries_plain true xs ys e = absurd (cc)
entries_plain false xs ys e = refl

pub group_here : (ms : List Message) (i : ℕ) (m : Message) → i < length ms → m ≡ get_or ms i m → m.key.extended ≡ true →
    group_entries i (drop i ms) ≡ (group_of m.key.id * 131072 + i) ∷ group_entries (i + 1) (drop (i + 1) ms)
unfolding group_entries
group_here ms i m h e x =
    let next : suc i ≡ i + 1 = omega arith in
    ap (group_entries i) (next_of ms i m h e)
    ∙ entries_extended m.key.extended ((group_of m.key.id * 131072 + i) ∷ group_entries (suc i) (drop (i + 1) ms)) (group_entries (suc i) (drop (i + 1) ms)) x
    ∙ ap (λ (k : ℕ). (group_of m.key.id * 131072 + i) ∷ group_entries k (drop (i + 1) ms)) next

pub group_not_here : (ms : List Message) (i : ℕ) (m : Message) → i < length ms → m ≡ get_or ms i m → m.key.extended ≡ false →
    group_entries i (drop i ms) ≡ group_entries (i + 1) (drop (i + 1) ms)
unfolding group_entries
group_not_here ms i m h e x =
    let next : suc i ≡ i + 1 = omega arith in
    ap (group_entries i) (next_of ms i m h e)
    ∙ entries_plain m.key.extended ((group_of m.key.id * 131072 + i) ∷ group_entries (suc i) (drop (i + 1) ms)) (group_entries (suc i) (drop (i + 1) ms)) x
    ∙ ap (λ (k : ℕ). group_entries k (drop (i + 1) ms)) next

pub groups_none : (ms : List Message) (i : ℕ) → length ms ≤ i → group_entries i (drop i ms) ≡ []
unfolding group_entries
groups_none ms i h = ap (group_entries i) (drop_of_length-le ms h)

pub group_more : (ms : List Message) (i value : ℕ) (m : Message) (prefix after : List ℕ) → i < length ms → m ≡ get_or ms i m → m.key.extended ≡ true →
    value ≡ group_of m.key.id * 131072 + i → after ≡ prefix ++ value ∷ [] → prefix ++ group_entries i (drop i ms) ≡ after ++ group_entries (i + 1) (drop (i + 1) ms)
group_more ms i value m prefix after h e x v f =
    ap (λ (words : List ℕ). prefix ++ words) (group_here ms i m h e x)
    ∙ ap (λ (n : ℕ). prefix ++ n ∷ group_entries (i + 1) (drop (i + 1) ms)) (sym v)
    ∙ sym (append_assoc prefix (value ∷ []) (group_entries (i + 1) (drop (i + 1) ms)))
    ∙ ap (λ (words : List ℕ). words ++ group_entries (i + 1) (drop (i + 1) ms)) (sym f)

pub groups_end : (ms : List Message) (i : ℕ) (prefix : List ℕ) → length ms ≤ i → prefix ≡ prefix ++ group_entries i (drop i ms)
groups_end ms i prefix h = sym (append-nil prefix) ∙ ap (λ (words : List ℕ). prefix ++ words) (sym (groups_none ms i h))
