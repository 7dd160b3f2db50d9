-- Blanks and words at the front of a text: what is read there is the longest run, and what is behind it ends the run.
use Rattle.std.proofs.Common.{◌≡◌, ℕ, ◌≤◌, Bool, true, false, not, cond, leb, List, [], ◌∷◌, ◌++◌, length, take, drop, Option, Some, None, refl, sym, ap, ◌∙◌, arith, inl, inr, ◌||◌}
use Rattle.std.specs.Prelude.{◌==◌}
use Rattle.std.specs.List.{list_all, prefix_len}
use Rattle.std.proofs.lemmas.Bool.{cases_Bool, and_parts, leb-true, le-leb, eqb-true}
use Rattle.std.proofs.lemmas.Bool.Decides.{eqb_tells}
use Rattle.std.proofs.lemmas.List.{take-append-drop, drop_at, length-take}
use Rattle.std.proofs.lemmas.List.Sums.{prefix_len-le-length}
use Rattle.byte_forms.specs.declared.class.Class.TheVariants as classes
use Rattle.byte_forms.specs.Classes.{is_in}
use Rattle.candump_log.specs.Line.{is_blank, AreBlanks, IsWord, IsTail}
use Rattle.candump_log.specs.LineOf.{after_blanks, after_word, is_tail}
use Rattle.candump_log.proofs.ByteLaws.{list_all-take_while}

pub not_true : (b : Bool) → not b ≡ true → b ≡ false
not_true true h = absurd cc
not_true false h = refl

pub not_false : (b : Bool) → not b ≡ false → b ≡ true
not_false true h = refl
not_false false h = absurd cc

-- a byte that passes a test is none that doesn't
pub differs : (p : ℕ → Bool) (b k : ℕ) → p b ≡ true → p k ≡ false → (b == k) ≡ false
differs p b k passes fails =
    elim (eqb_tells b k) [
      | inl same ↦ let e : p b ≡ p k = ap p same.1 in absurd cc
      | inr other ↦ other.0
    ]

-- the first byte fails the test, where there is one
abbrev pub StopsAt : (ℕ → Bool) → List ℕ → Type 0
StopsAt p [] = Unit {0}
StopsAt p (b ∷ bs) = p b ≡ false

pub prefix_len-before : (p : ℕ → Bool) (xs ys : List ℕ) → list_all p xs ≡ true → StopsAt p ys → prefix_len p (xs ++ ys) ≡ length xs
prefix_len-before p [] [] all stop = refl
prefix_len-before p [] (y ∷ ys) all stop = rw stop refl
prefix_len-before p (x ∷ xs) ys all stop =
    let parts = and_parts (p x) (list_all p xs) all in
    rw parts.0 (let e : prefix_len p (xs ++ ys) ≡ length xs = prefix_len-before p xs ys parts.1 stop in omega arith)

-- what is behind the run at the front, where that has a byte
abbrev after_run : (ℕ → Bool) → List ℕ → Option (List ℕ)
after_run p bytes = cond (leb 1 (prefix_len p bytes)) (Some (drop (prefix_len p bytes) bytes)) None

abbrev IsRun : (ℕ → Bool) → List ℕ → Type 0
IsRun p run = (1 ≤ length run) × (list_all p run ≡ true)

some_of : (b : Bool) (x y : List ℕ) → cond b (Some x) None ≡ Some y → (b ≡ true) × (x ≡ y)
some_of true x y e = (refl, cc)
some_of false x y e = absurd cc

run_takes : (p : ℕ → Bool) (bytes rest : List ℕ) → after_run p bytes ≡ Some rest → (run : List ℕ) × IsRun p run × (bytes ≡ run ++ rest)
run_takes p bytes rest e =
    let n = prefix_len p bytes in
    let test = some_of (leb 1 n) (drop n bytes) rest e in
    let some : 1 ≤ n = leb-true 1 n test.0 in
    let within : n ≤ length bytes = prefix_len-le-length p bytes in
    let whole : take n bytes ++ drop n bytes ≡ bytes = take-append-drop n bytes in
    (take n bytes, (omega (arith, length-take n bytes), list_all-take_while p bytes), sym whole ∙ ap (λ (r : List ℕ). take n bytes ++ r) test.1)

run_gives : (p : ℕ → Bool) (run rest : List ℕ) → IsRun p run → StopsAt p rest → after_run p (run ++ rest) ≡ Some rest
run_gives p run rest is stop =
    let n : prefix_len p (run ++ rest) ≡ length run = prefix_len-before p run rest is.1 stop in
    let some : leb 1 (length run) ≡ true = le-leb 1 (length run) is.0 in
    rw (n, some) (ap (λ (r : List ℕ). Some r) (drop_at run rest (length run) refl))

pub after_blanks_takes : (bytes rest : List ℕ) → after_blanks bytes ≡ Some rest → (gap : List ℕ) × AreBlanks gap × (bytes ≡ gap ++ rest)
unfolding after_blanks
after_blanks_takes bytes rest e = run_takes is_blank bytes rest e

pub after_blanks-append : (gap rest : List ℕ) → AreBlanks gap → StopsAt is_blank rest → after_blanks (gap ++ rest) ≡ Some rest
unfolding after_blanks
after_blanks-append gap rest blanks stop = run_gives is_blank gap rest blanks stop

pub after_word_takes : (bytes rest : List ℕ) → after_word bytes ≡ Some rest → (word : List ℕ) × IsWord word × (bytes ≡ word ++ rest)
unfolding after_word
after_word_takes bytes rest e = run_takes (is_in classes.NonBlank) bytes rest e

pub after_word-append : (word rest : List ℕ) → IsWord word → StopsAt (is_in classes.NonBlank) rest → after_word (word ++ rest) ≡ Some rest
unfolding after_word
after_word-append word rest is stop = run_gives (is_in classes.NonBlank) word rest is stop

pub is_tail-true : (text : List ℕ) → is_tail text ≡ true → IsTail text
is_tail-true [] e = tt
is_tail-true (b ∷ bs) e = e

pub is_tail-is : (text : List ℕ) → IsTail text → is_tail text ≡ true
is_tail-is [] tail = refl
is_tail-is (b ∷ bs) tail = tail

-- a word stops blanks, and blanks stop a word
non_blank : (b : Bool) → not b ≡ true → b ≡ false
non_blank b h = not_true b h

pub word_stops : (word rest : List ℕ) → IsWord word → StopsAt is_blank (word ++ rest)
word_stops [] rest is = absurd (omega arith)
word_stops (b ∷ bs) rest is = not_true (is_blank b) (and_parts (not (is_blank b)) (list_all (is_in classes.NonBlank) bs) is.1).0

blank_is : (b : Bool) → b ≡ true → not b ≡ false
blank_is true h = refl
blank_is false h = absurd cc

pub blanks_stop : (gap rest : List ℕ) → AreBlanks gap → StopsAt (is_in classes.NonBlank) (gap ++ rest)
blanks_stop [] rest is = absurd (omega arith)
blanks_stop (b ∷ bs) rest is = blank_is (is_blank b) (and_parts (is_blank b) (list_all is_blank bs) is.1).0

-- a blank fails each test that the three blanks fail
pub blank_fails : (p : ℕ → Bool) → p 32 ≡ false → p 9 ≡ false → p 13 ≡ false → (b : ℕ) → is_blank b ≡ true → p b ≡ false
blank_fails p space tab return b h =
    elim (cases_Bool (b == 32)) [
      | inl same ↦ let e : b ≡ 32 = eqb-true b 32 same in ap p e ∙ space
      | inr other ↦
          elim (cases_Bool (b == 9)) [
            | inl same ↦ let e : b ≡ 9 = eqb-true b 9 same in ap p e ∙ tab
            | inr neither ↦ let e : b ≡ 13 = eqb-true b 13 (last (b == 32) (b == 9) (b == 13) other neither h) in ap p e ∙ return
          ]
    ]
  where
    last : (x y z : Bool) → x ≡ false → y ≡ false → (x || (y || z)) ≡ true → z ≡ true
    last true y z none also h = absurd cc
    last false true z none also h = absurd cc
    last false false z none also h = h

-- a text that passes a test no blank passes stops blanks
pub run_stops : (p : ℕ → Bool) → p 32 ≡ false → p 9 ≡ false → p 13 ≡ false → (run rest : List ℕ) → 1 ≤ length run → list_all p run ≡ true → StopsAt is_blank (run ++ rest)
run_stops p space tab return [] rest some all = absurd (omega arith)
run_stops p space tab return (b ∷ bs) rest some all =
    elim (cases_Bool (is_blank b)) [
      | inl blank ↦ let no : p b ≡ false = blank_fails p space tab return b blank in let yes = (and_parts (p b) (list_all p bs) all).0 in absurd cc
      | inr other ↦ other
    ]
