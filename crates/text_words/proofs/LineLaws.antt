-- The first line of a text is before its first line feed, without a carriage return at its end.
use Rattle.std.proofs.Common.{◌≡◌, ℕ, suc, ◌+◌, ◌-◌, ◌<◌, ◌≤◌, Bool, true, false, cond, List, [], ◌∷◌, ◌++◌, length, get_or, take, drop, refl, sym, ap, ◌∙◌, arith, inl, inr}
use Rattle.std.specs.Prelude.{◌==◌, ◌&&◌, take_while}
use Rattle.std.specs.List.{list_all, prefix_len}
use Rattle.std.proofs.lemmas.Bool.{cases_Bool, eqb-true}
use Rattle.std.proofs.lemmas.List.{take_rest, append-nil}
use Rattle.std.proofs.lemmas.List.Sums.{take_while-cons}
use Rattle.byte_forms.specs.declared.class.Class.TheVariants as classes
use Rattle.byte_forms.specs.Classes.{is_in, drop_while}
use Rattle.byte_forms.specs.Lines.{all_lines}
use Rattle.text_words.specs.TextLines.{without_returns, text_lines, without_return}
use Rattle.text_words.specs.Words.{is_empty}

and_false : (b : Bool) → (b && false) ≡ false
and_false true = refl
and_false false = refl

-- the line without the carriage return at its end
pub returned : (xs : List ℕ) → 0 < length xs → get_or xs (length xs - 1) 0 ≡ 13 → without_return xs ≡ take (length xs - 1) xs
unfolding without_return
returned [] positive last = absurd (omega arith)
returned (b ∷ []) positive last = rw last refl
returned (b ∷ c ∷ bs) positive last =
    let step : length (b ∷ c ∷ bs) - 1 ≡ suc (length (c ∷ bs) - 1) = omega arith in
    let last' : get_or (c ∷ bs) (length (c ∷ bs) - 1) 0 ≡ 13 = rw step at last in
    rw (step, and_false (b == 13)) (ap (λ ys. b ∷ ys) (returned (c ∷ bs) (omega arith) last'))

pub kept_line : (xs : List ℕ) → (0 < length xs → get_or xs (length xs - 1) 0 ≡ 13 → ⊥) → without_return xs ≡ xs
unfolding without_return
kept_line [] other = refl
kept_line (b ∷ []) other =
    let last : (b == 13) ≡ false = elim (cases_Bool (b == 13)) [ inl same ↦ absurd (other (omega arith) (eqb-true b 13 same)) | inr differs ↦ differs ] in
    rw last refl
kept_line (b ∷ c ∷ bs) other =
    let step : length (b ∷ c ∷ bs) - 1 ≡ suc (length (c ∷ bs) - 1) = omega arith in
    let other' : 0 < length (c ∷ bs) → get_or (c ∷ bs) (length (c ∷ bs) - 1) 0 ≡ 13 → ⊥ = λ some last. other (omega arith) (rw step last) in
    rw (and_false (b == 13)) (ap (λ ys. b ∷ ys) (kept_line (c ∷ bs) other'))

-- a run holds no line feed, and what is behind it begins with one
feedless : List ℕ → Type 0
feedless xs = list_all (is_in classes.LineByte) xs ≡ true

run_feedless : (p : ℕ → Bool) (xs : List ℕ) → list_all p (take_while p xs) ≡ true
run_feedless p [] = refl
run_feedless p (x ∷ xs) =
    elim (cases_Bool (p x)) [
      | inl holds ↦ rw (take_while-cons, holds, holds) (run_feedless p xs)
      | inr fails ↦ rw (take_while-cons, fails) refl
    ]

drop_while-cons : (p : ℕ → Bool) (x : ℕ) (xs : List ℕ) → drop_while p (x ∷ xs) ≡ cond (p x) (drop_while p xs) (x ∷ xs)
drop_while-cons p x xs =
    elim (cases_Bool (p x)) [
      | inl holds ↦
          let step : 1 + prefix_len p xs ≡ suc (prefix_len p xs) = omega arith in
          rw (holds, step) refl
      | inr fails ↦ rw fails refl
    ]

rest_head : (p : ℕ → Bool) (xs : List ℕ) (y : ℕ) (ys : List ℕ) → drop_while p xs ≡ y ∷ ys → p y ≡ false
rest_head p [] y ys e = absurd cc
rest_head p (x ∷ xs) y ys e =
    elim (cases_Bool (p x)) [
      | inl holds ↦ rest_head p xs y ys (rw (drop_while-cons, holds) at e)
      | inr fails ↦
          let same : x ∷ xs ≡ y ∷ ys = rw (drop_while-cons, fails) at e in
          let head : x ≡ y = cc in
          rw head at fails
    ]

feed_is : (b : ℕ) → is_in classes.LineByte b ≡ false → b ≡ 10
feed_is b other = elim (cases_Bool (b == 10)) [ inl same ↦ eqb-true b 10 same | inr differs ↦ absurd (cc (rw differs at other)) ]

no_feed_first : (b : ℕ) (bs : List ℕ) → feedless (b ∷ bs) → ((b == 10) ≡ false) × feedless bs
unfolding feedless
no_feed_first b bs plain = elim (cases_Bool (b == 10)) [ inl feed ↦ absurd (cc (rw feed at plain)) | inr other ↦ (other, rw other at plain) ]

-- of a line without feeds, and of all behind its feed
returns-cut : (xs rest : List ℕ) → feedless xs → without_returns (xs ++ 10 ∷ rest) ≡ without_return xs ++ 10 ∷ without_returns rest
unfolding without_returns without_return
returns-cut [] rest plain = refl
returns-cut (x ∷ []) rest plain = elim (cases_Bool (x == 13)) [ inl ret ↦ rw ret refl | inr other ↦ rw other refl ]
returns-cut (x ∷ y ∷ ys) rest plain =
    let parts = no_feed_first x (y ∷ ys) plain in
    let next = no_feed_first y ys parts.1 in
    rw (next.0, and_false (x == 13)) (ap (λ zs. x ∷ zs) (returns-cut (y ∷ ys) rest parts.1))

returns-last : (xs : List ℕ) → feedless xs → without_returns xs ≡ xs
unfolding without_returns
returns-last [] plain = refl
returns-last (x ∷ []) plain = rw (and_false (x == 13)) refl
returns-last (x ∷ y ∷ ys) plain =
    let parts = no_feed_first x (y ∷ ys) plain in
    let next = no_feed_first y ys parts.1 in
    rw (next.0, and_false (x == 13)) (ap (λ zs. x ∷ zs) (returns-last (y ∷ ys) parts.1))

prefix_feedless : (xs : List ℕ) → feedless xs → feedless (without_return xs)
unfolding feedless without_return
prefix_feedless [] plain = refl
prefix_feedless (x ∷ xs) plain =
    let parts = no_feed_first x xs plain in
    elim (cases_Bool (x == 13 && is_empty xs)) [
      | inl dropped ↦ rw dropped refl
      | inr kept ↦ rw (kept, parts.0) (prefix_feedless xs parts.1)
    ]

lines-cut : (xs rest : List ℕ) → feedless xs → all_lines (xs ++ 10 ∷ rest) ≡ xs ∷ all_lines rest
unfolding all_lines
lines-cut [] rest plain = refl
lines-cut (x ∷ xs) rest plain = let parts = no_feed_first x xs plain in rw (parts.0, lines-cut xs rest parts.1) refl

lines-last : (x : ℕ) (xs : List ℕ) → feedless (x ∷ xs) → all_lines (x ∷ xs) ≡ (x ∷ xs) ∷ []
unfolding all_lines
lines-last x [] plain = let parts = no_feed_first x [] plain in rw parts.0 refl
lines-last x (y ∷ ys) plain = let parts = no_feed_first x (y ∷ ys) plain in rw (parts.0, lines-last y ys parts.1) refl

-- a line with its feed, and the lines behind it
cut_text : (line rest : List ℕ) → feedless line → text_lines (line ++ 10 ∷ rest) ≡ without_return line ∷ text_lines rest
cut_text line rest plain = ap all_lines (returns-cut line rest plain) ∙ lines-cut (without_return line) (without_returns rest) (prefix_feedless line plain)

-- a line without a feed is the last
last_text : (line : List ℕ) → feedless line → 0 < length line → text_lines line ≡ line ∷ text_lines []
unfolding without_returns all_lines
last_text [] plain some = absurd (omega arith)
last_text (x ∷ xs) plain some = ap all_lines (returns-last (x ∷ xs) plain) ∙ lines-last x xs plain

pub first_line : (bytes line end shown : List ℕ) → line ≡ take_while (is_in classes.LineByte) bytes → end ≡ drop_while (is_in classes.LineByte) bytes → bytes ≡ line ++ end → 1 ≤ length end
    → shown ≡ without_return line → text_lines bytes ≡ shown ∷ text_lines (take (length end - 1) (drop 1 end))
unfolding feedless
first_line bytes line [] shown run rest whole some dropped = absurd (omega arith)
first_line bytes line (f ∷ end) shown run rest whole some dropped =
    let feed : f ≡ 10 = feed_is f (rest_head (is_in classes.LineByte) bytes f end (sym rest)) in
    let plain : feedless line = rw run (run_feedless (is_in classes.LineByte) bytes) in
    let behind : take (length (f ∷ end) - 1) (drop 1 (f ∷ end)) ≡ end = take_rest (f ∷ end) 1 in
    rw (behind, whole, feed, dropped) (cut_text line end plain)

pub last_line : (bytes line end : List ℕ) → line ≡ take_while (is_in classes.LineByte) bytes → bytes ≡ line ++ end → length end < 1 → 0 < length bytes
    → text_lines bytes ≡ line ∷ text_lines end
unfolding feedless
last_line bytes line [] run whole none some =
    let same : bytes ≡ line = whole ∙ append-nil line in
    let plain : feedless line = rw run (run_feedless (is_in classes.LineByte) bytes) in
    ap text_lines same ∙ last_text line plain (rw same at some)
last_line bytes line (f ∷ end) run whole none some = absurd (omega arith)
