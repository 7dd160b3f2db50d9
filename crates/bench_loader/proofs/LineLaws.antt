-- The pairs that are read from the words of a command are the only ones that these words name; where a pair breaks a rule, no
-- pairs with these words keep them.
use Rattle.std.proofs.Common.{◌≡◌, ℕ, ◌<◌, ◌≤◌, Bool, true, false, List, [], ◌∷◌, ◌++◌, length, get_or, Some, None, Result, Ok, Err, Option, cond, refl, sym, ap, subst, ◌∙◌, arith, inl, inr}
use Rattle.std.specs.Prelude.{◌≢◌, ◌&&◌, MatchResult, codes, IsErrAnd, Vec}
use Rattle.std.specs.declared.alloc.Global.{Global}
use Rattle.std.specs.List.{list_all, list_any}
use Rattle.std.specs.Result.{result_ok}
use Rattle.std.specs.Borrow.{Bor}
use Rattle.std.specs.Str.{IsUtf8, is_utf8, bytes_eq}
use Rattle.std.proofs.lemmas.Bool.{cases_Bool, le-leb, and_parts}
use Rattle.std.proofs.lemmas.Str.{IsUtf8-from_is_utf8, is_utf8-from_IsUtf8}
use Rattle.std.proofs.lemmas.Grind.{flat_map-append}
use Rattle.std.proofs.lemmas.List.{append-nil, append_assoc, length-append}
use Rattle.std.proofs.lemmas.List.Folds.{list_all-append, list_any_at, Any-from_list_any}
use Rattle.std.proofs.lemmas.List.Quantifiers.{all_pairs_push}
use Rattle.std.proofs.lemmas.Slice.Eq.{bytes_eq-Decides}
use Rattle.std.proofs.Math.ListN.{get_or-append}
use Rattle.std.proofs.Math.Seq.{get_or-append_seam}
use Rattle.text_words.specs.Words.{words_of}
use Rattle.bench_file.specs.LineMeaning.{longest_file_name, is_file_name}
use Rattle.bench_file.specs.ReadingView.{text_view, name_view}
use Rattle.bench_loader.specs.declared.load_line.Pair.{Pair}
use Rattle.bench_loader.specs.declared.load_line.LineRefused.{LineRefused}
use Rattle.bench_loader.specs.declared.load_line.LineRefused.TheVariants as refused
use Rattle.bench_loader.specs.LoadLine.{longest_command, most_pairs, pair_words, words_of_pairs, KeepRules, IsLoad, IsOtherForm}
use Rattle.bench_loader.specs.LineView.{ArePairs, AddsPair, ReadsPairs}

name_is : (name : List ℕ) → 1 ≤ length name → length name ≤ longest_file_name → is_file_name name ≡ is_utf8 name
name_is name some short = rw (le-leb 1 (length name) some, le-leb (length name) longest_file_name short) refl

pub name_of_text : {E : Type 0} (name : List ℕ) (text : Result (Bor (List ℕ)) E) (result : Option (Bor (List ℕ))) (Q : E → Type 0) → 1 ≤ length name → length name ≤ longest_file_name
    → MatchResult text (λ s. (s.now ≡ name) × IsUtf8 name) (λ e. (IsUtf8 name → ⊥) × Q e) → result ≡ result_ok text → text_view result ≡ name_view name
name_of_text name (Ok s) result Q some short is e =
    rw (e, name_is name some short, is_utf8-from_IsUtf8 name is.1) (ap (λ (t : List ℕ). Some t) is.0)
name_of_text name (Err fault) result Q some short is e =
    elim (cases_Bool (is_utf8 name)) [
      | inl text ↦ absurd (is.0 (IsUtf8-from_is_utf8 name text))
      | inr other ↦ rw (e, name_is name some short, other) refl
    ]

abbrev pub BusesDiffer : Pair → Pair → Type 0
BusesDiffer p q = p.bus ≢ q.bus

abbrev pub has_file : Pair → Bool
has_file p = is_file_name p.file

-- a pair with this bus is among those
abbrev pub is_named : List ℕ → List Pair → Bool
is_named bus pairs = list_any (λ (p : Pair). bytes_eq p.bus bus) pairs

-- no pair at all
pub rules_of_none : KeepRules []
rules_of_none = record { few = omega arith; files = refl; buses = λ i j d before within. absurd (omega arith) }

not_named : (bus : List ℕ) (pairs : List Pair) (k : ℕ) (d : Pair) → is_named bus pairs ≡ false → k < length pairs → (get_or pairs k d).bus ≢ bus
not_named bus pairs k d none within same =
    let found : bytes_eq (get_or pairs k d).bus bus ≡ true = (bytes_eq-Decides (get_or pairs k d).bus bus).1 same in
    let named : is_named bus pairs ≡ true = list_any_at (λ (p : Pair). bytes_eq p.bus bus) pairs k d within found in
    absurd (cc)

pub keep_pair : (pairs : List Pair) (p : Pair) → length pairs < most_pairs → has_file p ≡ true → is_named p.bus pairs ≡ false → KeepRules pairs → KeepRules (pairs ++ p ∷ [])
keep_pair pairs p room file new k = record {
  few = rw (length-append pairs (p ∷ [])) (omega arith);
  files = list_all-append has_file pairs (p ∷ []) ∙ rw (k.files, file) refl;
  buses = all_pairs_push BusesDiffer pairs p k.buses (λ i d within. not_named p.bus pairs i d new within);
}

pub breaks_few : (pairs more : List Pair) (p : Pair) → most_pairs ≤ length pairs → KeepRules (pairs ++ p ∷ more) → ⊥
breaks_few pairs more p full k = omega (arith, length-append pairs (p ∷ more), k.few)

pub breaks_file : (pairs more : List Pair) (p : Pair) → has_file p ≡ false → KeepRules (pairs ++ p ∷ more) → ⊥
breaks_file pairs more p none k =
    let parts = and_parts (list_all has_file pairs) (has_file p && list_all has_file more) (sym (list_all-append has_file pairs (p ∷ more)) ∙ k.files) in
    let both = and_parts (has_file p) (list_all has_file more) parts.1 in
    absurd (cc (both.0))

pub breaks_bus : (pairs more : List Pair) (p : Pair) → is_named p.bus pairs ≡ true → KeepRules (pairs ++ p ∷ more) → ⊥
breaks_bus pairs more p named k =
    let found = Any-from_list_any (λ (q : Pair). bytes_eq q.bus p.bus) pairs named in
    let within : found.0 < length (pairs ++ p ∷ more) = omega (arith, length-append pairs (p ∷ more), found.2) in
    let last : length pairs < length (pairs ++ p ∷ more) = omega (arith, length-append pairs (p ∷ more)) in
    let first : get_or (pairs ++ p ∷ more) found.0 found.1 ≡ found.1 = get_or-append pairs (p ∷ more) found.1 found.0 found.2 ∙ found.3 in
    let second : get_or (pairs ++ p ∷ more) (length pairs) found.1 ≡ p = get_or-append_seam pairs p more found.1 in
    let same : found.1.bus ≡ p.bus = (bytes_eq-Decides found.1.bus p.bus).0 found.4 in
    k.buses found.0 (length pairs) found.1 found.2 last (ap (λ (q : Pair). q.bus) first ∙ same ∙ sym (ap (λ (q : Pair). q.bus) second))

-- words of pairs
pub words-more : (pairs : List Pair) (p : Pair) → words_of_pairs (pairs ++ p ∷ []) ≡ words_of_pairs pairs ++ p.bus ∷ p.file ∷ []
words-more pairs p = flat_map-append pair_words pairs (p ∷ [])

pair_path : (p q : Pair) → p.bus ≡ q.bus → p.file ≡ q.file → p ≡ q
pair_path p q b f =
    ap (λ x. let r : Pair = record p { bus = x } in r) b ∙ ap (λ x. let r : Pair = record q { file = x } in r) f

cons_path : (p q : Pair) (ps qs : List Pair) → p ≡ q → ps ≡ qs → p ∷ ps ≡ q ∷ qs
cons_path p q ps qs e es = ap (λ x. x ∷ ps) e ∙ ap (λ xs. q ∷ xs) es

-- pairs whose words begin with those of other pairs begin with these pairs
pub pairs_begin : (pairs done : List Pair) (rest : List (List ℕ)) → words_of_pairs pairs ≡ words_of_pairs done ++ rest
    → (more : List Pair) × ((pairs ≡ done ++ more) × (words_of_pairs more ≡ rest))
pairs_begin pairs [] rest e = (pairs, (refl, e))
pairs_begin [] (d ∷ ds) rest e = absurd (cc (e))
pairs_begin (p ∷ ps) (d ∷ ds) rest e =
    let tail : words_of_pairs ps ≡ words_of_pairs ds ++ rest = cc (e) in
    let found = pairs_begin ps ds rest tail in
    let same : p ≡ d = pair_path p d (cc (e)) (cc (e)) in
    (found.0, (cons_path p d ps (ds ++ found.0) same found.1.0, found.1.1))

-- one word alone is no pair
odd_word : (more : List Pair) (w : List ℕ) → words_of_pairs more ≡ w ∷ [] → ⊥
odd_word [] w e = absurd (cc (e))
odd_word (m ∷ ms) w e = absurd (cc (e))

pub odd_words : (words : List (List ℕ)) (done : List Pair) (w : List ℕ) → words ≡ words_of_pairs done ++ w ∷ [] → (pairs : List Pair) → ArePairs words pairs → ⊥
odd_words words done w e pairs are =
    let found = pairs_begin pairs done (w ∷ []) (sym are.words_are ∙ e) in
    odd_word found.0 w found.1.1

-- two words are a pair
first_pair : (more : List Pair) (p : Pair) (ws : List (List ℕ)) → words_of_pairs more ≡ p.bus ∷ p.file ∷ ws → (ms : List Pair) × (more ≡ p ∷ ms)
first_pair [] p ws e = absurd (cc (e))
first_pair (m ∷ ms) p ws e = (ms, ap (λ x. x ∷ ms) (pair_path m p (cc (e)) (cc (e))))

pub broken_pair : (words : List (List ℕ)) (done : List Pair) (p : Pair) (ws : List (List ℕ)) → words ≡ words_of_pairs done ++ p.bus ∷ p.file ∷ ws
    → ((more : List Pair) → KeepRules (done ++ p ∷ more) → ⊥) → (pairs : List Pair) → ArePairs words pairs → ⊥
broken_pair words done p ws e breaks pairs are =
    let found = pairs_begin pairs done (p.bus ∷ p.file ∷ ws) (sym are.words_are ∙ e) in
    let split = first_pair found.0 p ws found.1.1 in
    let whole : pairs ≡ done ++ p ∷ split.0 = found.1.0 ∙ ap (λ xs. done ++ xs) split.1 in
    let kept : KeepRules (done ++ p ∷ split.0) = subst KeepRules whole are.rules in
    breaks split.0 kept

-- the name of a file, or none
name_cases : (b : Bool) (name text : List ℕ) → Some text ≡ cond b (Some name) None → (b ≡ true) × (text ≡ name)
name_cases true name text e = (refl, cc (e))
name_cases false name text e = absurd (cc (e))

pub name_found : (name text : List ℕ) → Some text ≡ name_view name → (is_file_name name ≡ true) × (text ≡ name)
name_found name text e = name_cases (is_file_name name) name text e

no_name : (b : Bool) (name : List ℕ) → None ≡ cond b (Some name) None → b ≡ false
no_name true name e = absurd (cc (e))
no_name false name e = refl

pub name_missing : (name : List ℕ) → None ≡ name_view name → is_file_name name ≡ false
name_missing name e = no_name (is_file_name name) name e

-- a pair was put behind the others
pub added : (pairs now : List Pair) (bus file b t f : List ℕ) → length pairs < most_pairs → is_named bus pairs ≡ false → Some t ≡ name_view file → b ≡ bus → f ≡ t
    → (let p : Pair = record { bus = b; file = f } in now ≡ pairs ++ p ∷ []) → KeepRules pairs
    → (let p : Pair = record { bus = bus; file = file } in (now ≡ pairs ++ p ∷ []) × KeepRules now)
added pairs now bus file b t f room new name same is pushed k =
    let p : Pair = record { bus = bus; file = file } in
    let q : Pair = record { bus = b; file = f } in
    let found = name_found file t name in
    let e : q ≡ p = pair_path q p same (is ∙ found.1) in
    let whole : now ≡ pairs ++ p ∷ [] = pushed ∙ ap (λ (x : Pair). pairs ++ x ∷ []) e in
    (whole, subst KeepRules (sym whole) (keep_pair pairs p room found.0 new k))

-- one pair more of the words
pub more_words : (words : List (List ℕ)) (pairs now : List Pair) (bus file : List ℕ) (first second rest : List (List ℕ)) → words ≡ words_of_pairs pairs ++ first → first ≡ bus ∷ second
    → second ≡ file ∷ rest → (let p : Pair = record { bus = bus; file = file } in now ≡ pairs ++ p ∷ []) → words ≡ words_of_pairs now ++ rest
more_words words pairs now bus file first second rest e f g pushed =
    let p : Pair = record { bus = bus; file = file } in
    let whole : first ≡ bus ∷ file ∷ rest = f ∙ ap (λ ws. bus ∷ ws) g in
    e ∙ ap (λ ws. words_of_pairs pairs ++ ws) whole ∙ sym (append_assoc (words_of_pairs pairs) (bus ∷ file ∷ []) rest)
    ∙ ap (λ ws. ws ++ rest) (sym (words-more pairs p) ∙ ap words_of_pairs (sym pushed))

-- lines of no command
pub not_load : (line : List ℕ) (words : List (List ℕ)) (word : List ℕ) → words_of line ≡ word ∷ words → (word ≡ codes "LOAD" → ⊥) → IsOtherForm line
not_load line words word e other = λ pairs load. other (cc (e, load.words))

pub no_words : (line : List ℕ) → words_of line ≡ [] → IsOtherForm line
no_words line e = λ pairs load. absurd (cc (e, load.words))

pub too_long : (line : List ℕ) → longest_command < length line → IsOtherForm line
too_long line long = λ pairs load. absurd (omega (arith, load.short))

pub other_pairs : (line : List ℕ) (words : List (List ℕ)) (word : List ℕ) → words_of line ≡ word ∷ words → ((pairs : List Pair) → ArePairs words pairs → ⊥) → IsOtherForm line
other_pairs line words word e none = λ pairs load.
    let are : words ≡ words_of_pairs pairs = cc (e, load.words) in none pairs (record { words_are = are; rules = load.rules })

pub no_pairs : (line : List ℕ) (words : List (List ℕ)) (word : List ℕ) (done : List Pair) → words_of line ≡ word ∷ words → ArePairs words done → length done ≤ 0 → IsOtherForm line
no_pairs line words word done e are none = λ pairs load.
    let same : words_of_pairs pairs ≡ words_of_pairs done ++ [] = sym (cc (e, load.words) ∙ refl) ∙ are.words_are ∙ sym (append-nil (words_of_pairs done)) in
    nothing done pairs none same load.some where
      nothing : (done pairs : List Pair) → length done ≤ 0 → words_of_pairs pairs ≡ words_of_pairs done ++ [] → 1 ≤ length pairs → ⊥
      nothing [] [] none e some = omega (arith, some)
      nothing [] (p ∷ ps) none e some = absurd (cc (e))
      nothing (d ∷ ds) pairs none e some = absurd (omega (arith, none))

pub is_load : (line : List ℕ) (words : List (List ℕ)) (word : List ℕ) (pairs : List Pair) → length line ≤ longest_command → words_of line ≡ word ∷ words → word ≡ codes "LOAD"
    → 1 ≤ length pairs → ArePairs words pairs → IsLoad line pairs
is_load line words word pairs short e first some are = record {
  short = short;
  words = e ∙ ap (λ w. w ∷ words) first ∙ ap (λ ws. codes "LOAD" ∷ ws) are.words_are;
  some = some;
  rules = are.rules;
}

-- the pairs end where one breaks a rule
refuses_pairs : (words : List (List ℕ)) (why : LineRefused) (done now : List Pair) (bus file : List ℕ) (ws : List (List ℕ)) → words ≡ words_of_pairs done ++ bus ∷ file ∷ ws
    → AddsPair done bus file now (Err why) → ReadsPairs words (Err why)
refuses_pairs words refused.Form done now bus file ws e breaks =
    let p : Pair = record { bus = bus; file = file } in broken_pair words done p ws e breaks
refuses_pairs words refused.Memory done now bus file ws e breaks = tt

pub stops_pairs : (words : List (List ℕ)) (r : Result (Vec Pair Global) LineRefused) (why : LineRefused) (done now : List Pair) (bus file : List ℕ) (first second ws : List (List ℕ)) → IsErrAnd r (λ f. f ≡ why)
    → words ≡ words_of_pairs done ++ first → first ≡ bus ∷ second → second ≡ file ∷ ws → AddsPair done bus file now (Err why) → ReadsPairs words r
stops_pairs words (Ok pairs) why done now bus file first second ws is e f g breaks = absurd is
stops_pairs words (Err found) why done now bus file first second ws is e f g breaks =
    let whole : words ≡ words_of_pairs done ++ bus ∷ file ∷ ws = e ∙ ap (λ xs. words_of_pairs done ++ xs) (f ∙ ap (λ xs. bus ∷ xs) g) in
    let P : LineRefused → Type 0 = λ x. ReadsPairs words (Err x) in
    subst P (sym is) (refuses_pairs words why done now bus file ws whole breaks)

pub one_word_left : (words : List (List ℕ)) (done : List Pair) (w : List ℕ) (first second : List (List ℕ)) → words ≡ words_of_pairs done ++ first → first ≡ w ∷ second → second ≡ []
    → (pairs : List Pair) → ArePairs words pairs → ⊥
one_word_left words done w first second e f g =
    odd_words words done w (e ∙ ap (λ xs. words_of_pairs done ++ xs) (f ∙ ap (λ xs. w ∷ xs) g))
