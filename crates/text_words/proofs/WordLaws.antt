-- Behind blanks is a word, and behind it the others.
use Rattle.std.proofs.Common.{◌≡◌, ℕ, zero, suc, ◌-◌, ◌<◌, ◌≤◌, true, false, cond, List, [], ◌∷◌, length, get_or, take, drop, refl, sym, ap, ◌∙◌, arith, inl, inr, add-zero}
use Rattle.std.specs.Prelude.{filter, not}
use Rattle.std.proofs.lemmas.Bool.{cases_lt}
use Rattle.std.proofs.lemmas.List.{take_rest, length-drop, get_or-drop}
use Rattle.std.proofs.Math.ListN.{drop_of_length-le}
use Rattle.byte_forms.specs.Lines.{onto_first}
use Rattle.text_words.specs.Words.{is_blank, parts_of, is_empty, words_of}

-- some parts are there
pub data IsSome : List (List ℕ) → Type 0 where
  some : (part : List ℕ) (parts : List (List ℕ)) → IsSome (part ∷ parts)

parts_some : (xs : List ℕ) → IsSome (parts_of xs)
unfolding parts_of
parts_some [] = some [] []
parts_some (x ∷ xs) = elim (is_blank x) as (λ b. IsSome (cond b ([] ∷ parts_of xs) (onto_first x (parts_of xs)))) [
  | true ↦ some [] (parts_of xs)
  | false ↦ elim (parts_some xs) as (λ ps _. IsSome (onto_first x ps)) [ some p ps ↦ some (x ∷ p) ps ]
]

-- blanks at the front are no words
pub words-blank : (x : ℕ) (xs : List ℕ) → is_blank x ≡ true → words_of (x ∷ xs) ≡ words_of xs
unfolding parts_of
words-blank x xs blank = rw blank refl

-- blanks, as many as there are
pub words-blanks : (n : ℕ) (xs : List ℕ) → n ≤ length xs → ((k : ℕ) → k < n → is_blank (get_or xs k 0) ≡ true) → words_of (drop n xs) ≡ words_of xs
words-blanks zero xs within blank = refl
words-blanks (suc n) [] within blank = absurd (omega arith)
words-blanks (suc n) (x ∷ xs) within blank =
    words-blanks n xs (omega arith) (λ k lt. blank (suc k) (omega arith)) ∙ sym (words-blank x xs (blank 0 (omega arith)))

-- a byte that is no blank is in the first part
onto_append : (x : ℕ) (prefix : List ℕ) (parts : List (List ℕ)) → IsSome parts → (rest : List (List ℕ)) → parts ≡ prefix ∷ rest → onto_first x parts ≡ (x ∷ prefix) ∷ rest
onto_append x prefix parts some-part rest e = rw e refl

-- bytes that are no blanks are a part, up to a blank or the end
pub parts-run : (n : ℕ) (xs : List ℕ) → n ≤ length xs → ((k : ℕ) → k < n → is_blank (get_or xs k 0) ≡ false) → (n < length xs → is_blank (get_or xs n 0) ≡ true)
    → (parts : List (List ℕ)) × (parts_of xs ≡ take n xs ∷ parts) × (filter (λ part. not (is_empty part)) parts ≡ words_of (drop n xs))
unfolding parts_of
parts-run zero [] within run end = ([], refl, refl)
parts-run zero (x ∷ xs) within run end = (parts_of xs, rw (end (omega arith)) refl, rw (end (omega arith)) refl)
parts-run (suc n) [] within run end = absurd (omega arith)
parts-run (suc n) (x ∷ xs) within run end =
    let later = parts-run n xs (omega arith) (λ k lt. run (suc k) (omega arith)) (λ lt. end (omega arith)) in
    (later.0, rw (run 0 (omega arith), later.1) refl, later.2)

-- a word and what is behind it
pub words-word : (n : ℕ) (xs : List ℕ) → 0 < n → n ≤ length xs → ((k : ℕ) → k < n → is_blank (get_or xs k 0) ≡ false) → (n < length xs → is_blank (get_or xs n 0) ≡ true)
    → words_of xs ≡ take n xs ∷ words_of (drop n xs)
words-word zero xs positive within run end = absurd (omega arith)
words-word (suc n) [] positive within run end = absurd (omega arith)
words-word (suc n) (x ∷ xs) positive within run end =
    let parts = parts-run (suc n) (x ∷ xs) within run end in
    ap (filter (λ part. not (is_empty part))) parts.1 ∙ ap (λ words. take (suc n) (x ∷ xs) ∷ words) parts.2

-- blanks alone have no words
pub words-none : (xs : List ℕ) (n : ℕ) → n ≤ length xs → ((k : ℕ) → k < n → is_blank (get_or xs k 0) ≡ true) → length xs ≤ n → words_of xs ≡ []
unfolding parts_of
words-none xs n within blank all =
    sym (words-blanks n xs within blank) ∙ ap words_of (drop_of_length-le xs all)

-- behind blanks is a word, and behind it the others; the rests are written as the code takes them
pub words-next : (xs : List ℕ) (n m : ℕ) → n ≤ length xs → ((k : ℕ) → k < n → is_blank (get_or xs k 0) ≡ true) → (n < length xs → is_blank (get_or xs n 0) ≡ false)
    → n < length xs → m ≤ length (take (length xs - n) (drop n xs)) → ((k : ℕ) → k < m → is_blank (get_or (take (length xs - n) (drop n xs)) k 0) ≡ false)
    → (m < length (take (length xs - n) (drop n xs)) → is_blank (get_or (take (length xs - n) (drop n xs)) m 0) ≡ true)
    → words_of xs ≡ take m (take (length xs - n) (drop n xs)) ∷ words_of (take (length (take (length xs - n) (drop n xs)) - m) (drop m (take (length xs - n) (drop n xs))))
words-next xs n m within blank first behind short run end =
    let rest : take (length xs - n) (drop n xs) ≡ drop n xs = take_rest xs n in
    let len : length (drop n xs) ≡ length xs - n = length-drop n xs in
    let short' : m ≤ length (drop n xs) = rw rest at short in
    let run' : (k : ℕ) → k < m → is_blank (get_or (drop n xs) k 0) ≡ false = rw rest at run in
    let end' : m < length (drop n xs) → is_blank (get_or (drop n xs) m 0) ≡ true = rw rest at end in
    let here : get_or (drop n xs) 0 0 ≡ get_or xs n 0 = get_or-drop n xs 0 0 ∙ ap (λ k. get_or xs k 0) (add-zero n) in
    let positive : 0 < m = elim (cases_lt 0 m) [
      | inl more ↦ more
      | inr none ↦
          let zero' : m ≡ 0 = omega arith in
          let blank' : is_blank (get_or xs n 0) ≡ true = sym (ap is_blank here) ∙ (rw zero' at (end' (omega (arith, len)))) in
          absurd (cc (rw (first behind) at blank'))
    ] in
    let word : words_of (drop n xs) ≡ take m (drop n xs) ∷ words_of (drop m (drop n xs)) = words-word m (drop n xs) positive short' run' end' in
    let rest' : take (length (drop n xs) - m) (drop m (drop n xs)) ≡ drop m (drop n xs) = take_rest (drop n xs) m in
    sym (words-blanks n xs within blank) ∙ rw (rest, rest') word

-- the length of what is behind a place, as the code takes it
pub rest_len : (xs : List ℕ) (n : ℕ) → length (take (length xs - n) (drop n xs)) ≡ length xs - n
rest_len xs n = ap length (take_rest xs n) ∙ length-drop n xs
