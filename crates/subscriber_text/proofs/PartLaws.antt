-- The lines of a bus in a text of items of several buses are the text of that bus's items.
use Rattle.std.proofs.Common.{◌≡◌, ℕ, Bool, true, false, cond, List, [], ◌∷◌, ◌++◌, refl, ap, ◌∙◌, append_assoc, inl, inr}
use Rattle.std.specs.Prelude.{◌==◌, not, filter, codes}
use Rattle.std.specs.List.{list_all}
use Rattle.std.specs.Str.{bytes_eq}
use Rattle.std.proofs.lemmas.Bool.{cases_Bool, and_parts, eqb-true, eq-eqb}
use Rattle.text_words.specs.Words.{is_empty, is_blank, parts_of, words_of}
use Rattle.subscriber_text.specs.Parts.{fed_lines, without_feed, first_word, second_word, bus_lines, no_feed, is_one_word}

-- what a plain list begins with, and its rest
plain_head : (x : ℕ) (xs : List ℕ) → no_feed (x ∷ xs) ≡ true → (x == 10) ≡ false
plain_head x xs p = elim (cases_Bool (x == 10)) [ inl feed ↦ absurd (cc (rw feed at p)) | inr other ↦ other ]

plain_rest : (x : ℕ) (xs : List ℕ) → no_feed (x ∷ xs) ≡ true → no_feed xs ≡ true
plain_rest x xs p = rw (plain_head x xs p) at p

-- a line is cut off at its line feed
pub fed_lines-line : (line rest : List ℕ) → no_feed line ≡ true → fed_lines (line ++ 10 ∷ rest) ≡ (line ++ 10 ∷ []) ∷ fed_lines rest
unfolding fed_lines
fed_lines-line [] rest p = refl
fed_lines-line (x ∷ xs) rest p =
    rw (plain_head x xs p, fed_lines-line xs rest (plain_rest x xs p)) refl

pub without_feed-line : (line : List ℕ) → no_feed line ≡ true → without_feed (line ++ 10 ∷ []) ≡ line
unfolding without_feed
without_feed-line [] p = refl
without_feed-line (x ∷ xs) p = rw (plain_head x xs p) (ap (λ ys. x ∷ ys) (without_feed-line xs (plain_rest x xs p)))

-- a word before a blank is a part
blank_head : (x : ℕ) (xs : List ℕ) → list_all (λ b. not (is_blank b)) (x ∷ xs) ≡ true → is_blank x ≡ false
blank_head x xs p = elim (cases_Bool (is_blank x)) [ inl blank ↦ absurd (cc (rw blank at p)) | inr other ↦ other ]

blank_rest : (x : ℕ) (xs : List ℕ) → list_all (λ b. not (is_blank b)) (x ∷ xs) ≡ true → list_all (λ b. not (is_blank b)) xs ≡ true
blank_rest x xs p = rw (blank_head x xs p) at p

parts-word : (word rest : List ℕ) → list_all (λ b. not (is_blank b)) word ≡ true → parts_of (word ++ 32 ∷ rest) ≡ word ∷ parts_of rest
unfolding parts_of
parts-word [] rest p = refl
parts-word (x ∷ xs) rest p = rw (blank_head x xs p, parts-word xs rest (blank_rest x xs p)) refl

-- the parts of one word
word_some : (word : List ℕ) → is_one_word word ≡ true → is_empty word ≡ false
word_some [] p = absurd (cc p)
word_some (x ∷ xs) p = refl

word_unblank : (word : List ℕ) → is_one_word word ≡ true → list_all (λ b. not (is_blank b)) word ≡ true
word_unblank [] p = refl
word_unblank (x ∷ xs) p = (and_parts (list_all (λ b. not (is_blank b)) (x ∷ xs)) (no_feed (x ∷ xs)) p).0

pub word_plain : (word : List ℕ) → is_one_word word ≡ true → no_feed word ≡ true
word_plain [] p = refl
word_plain (x ∷ xs) p = (and_parts (list_all (λ b. not (is_blank b)) (x ∷ xs)) (no_feed (x ∷ xs)) p).1

-- a word before a blank is the first word
pub words-first : (word rest : List ℕ) → is_one_word word ≡ true → words_of (word ++ 32 ∷ rest) ≡ word ∷ words_of rest
words-first word rest p =
    ap (filter (λ part. not (is_empty part))) (parts-word word rest (word_unblank word p)) ∙ rw (word_some word p) refl

-- equal texts, as a test
pub bytes_eq-refl : (xs : List ℕ) → bytes_eq xs xs ≡ true
bytes_eq-refl [] = refl
bytes_eq-refl (x ∷ xs) = rw (eq-eqb x x refl) (bytes_eq-refl xs)

pub bytes_eq-true : (xs ys : List ℕ) → bytes_eq xs ys ≡ true → xs ≡ ys
bytes_eq-true [] [] e = refl
bytes_eq-true [] (y ∷ ys) e = absurd (cc e)
bytes_eq-true (x ∷ xs) [] e = absurd (cc e)
bytes_eq-true (x ∷ xs) (y ∷ ys) e =
    let parts = and_parts (x == y) (bytes_eq xs ys) e in
    let first : x ≡ y = eqb-true x y parts.0 in
    let rest : xs ≡ ys = bytes_eq-true xs ys parts.1 in
    cc (first, rest)

-- a line of a signal goes with the line before it
pub lines-signal : (bus : List ℕ) (taken : Bool) (line rest : List ℕ) → no_feed line ≡ true → bytes_eq (first_word (words_of line)) (codes "s") ≡ true
    → bus_lines bus taken (fed_lines ((line ++ 10 ∷ []) ++ rest)) ≡ cond taken (line ++ 10 ∷ []) [] ++ bus_lines bus taken (fed_lines rest)
unfolding bus_lines
lines-signal bus true line rest plain signal =
    rw (append_assoc line (10 ∷ []) rest, fed_lines-line line rest plain, without_feed-line line plain, signal) refl
lines-signal bus false line rest plain signal =
    rw (append_assoc line (10 ∷ []) rest, fed_lines-line line rest plain, without_feed-line line plain, signal) refl

-- another line is taken where it names the bus
pub lines-head : (bus : List ℕ) (taken : Bool) (line rest : List ℕ) (own : Bool) → no_feed line ≡ true → bytes_eq (first_word (words_of line)) (codes "s") ≡ false
    → bytes_eq (second_word (words_of line)) bus ≡ own
    → bus_lines bus taken (fed_lines ((line ++ 10 ∷ []) ++ rest)) ≡ cond own (line ++ 10 ∷ []) [] ++ bus_lines bus own (fed_lines rest)
unfolding bus_lines
lines-head bus taken line rest true plain head names =
    rw (append_assoc line (10 ∷ []) rest, fed_lines-line line rest plain, without_feed-line line plain, head, names) refl
lines-head bus taken line rest false plain head names =
    rw (append_assoc line (10 ∷ []) rest, fed_lines-line line rest plain, without_feed-line line plain, head, names) refl
