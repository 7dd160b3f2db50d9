-- Where words are in an image, and that rows with what they refer to behind them are rows of the image.
use Rattle.std.proofs.Common.{◌≡◌, ◌∙◌, ℕ, suc, ◌+◌, ◌-◌, ◌*◌, ◌<◌, ◌≤◌, List, [], ◌∷◌, ◌++◌, length, get_or, refl, ap, sym, subst, arith, length-append, add-zero}
use Rattle.std.specs.List.{All}
use Rattle.std.specs.Prelude.{slice_index_or}
use Rattle.std.proofs.Math.ListN.{get_or-append}
use Rattle.std.proofs.lemmas.List.{get_or-append_right}
use Rattle.image_words.specs.Layout.{word, EachRow, HasRows}
use Rattle.image_compiler.specs.Size.{total, table_size}
use Rattle.image_compiler.specs.Layout.{rows_from, parts_from, table_words}

-- these words begin at a place
pub record LiesAt (words : List ℕ) (place : ℕ) (part : List ℕ) : Type 0 where
  pub each : (i : ℕ) → i < length part → get_or words (place + i) 0 ≡ get_or part i 0

pub lies_first : (words : List ℕ) (place w : ℕ) (part : List ℕ) → LiesAt words place (w ∷ part) → word words place ≡ w
lies_first words place w part s =
    let some : 0 < suc (length part) = omega arith in
    ap (λ (p : ℕ). get_or words p 0) (sym (add-zero place)) ∙ s.each 0 some

-- the word at a place of a part
pub lies_word : (words : List ℕ) (place i : ℕ) (part : List ℕ) → i < length part → LiesAt words place part → word words (place + i) ≡ get_or part i 0
lies_word words place i part h s = s.each i h

pub lies_left : (words : List ℕ) (place : ℕ) (xs ys : List ℕ) → LiesAt words place (xs ++ ys) → LiesAt words place xs
lies_left words place xs ys s = record {
  each = λ i h.
      let within : i < length (xs ++ ys) = omega (arith, h, length-append xs ys) in
      s.each i within ∙ get_or-append xs ys 0 i h;
}

pub lies_right : (words : List ℕ) (place n : ℕ) (xs ys : List ℕ) → length xs ≡ n → LiesAt words place (xs ++ ys) → LiesAt words (place + n) ys
lies_right words place n xs ys long s = record {
  each = λ i h.
      let within : n + i < length (xs ++ ys) = omega (arith, h, long, length-append xs ys) in
      let past : n ≤ n + i = omega arith in
      let e : place + n + i ≡ place + (n + i) = omega arith in
      let back : n + i - n ≡ i = omega arith in
      ap (λ (p : ℕ). get_or words p 0) e ∙ s.each (n + i) within ∙ get_or-append_right xs ys n (n + i) 0 long past ∙ ap (λ (k : ℕ). get_or ys k 0) back;
}

pub lies_next : (words : List ℕ) (place w : ℕ) (part : List ℕ) → LiesAt words place (w ∷ part) → LiesAt words (place + 1) part
lies_next words place w part s = lies_right words place 1 (w ∷ []) part refl s

pub lies_at : (words : List ℕ) (place other : ℕ) (part : List ℕ) → place ≡ other → LiesAt words place part → LiesAt words other part
lies_at words place other part e s = let P : ℕ → Type 0 = λ p. LiesAt words p part in subst P e s

pub lies_as : (words : List ℕ) (place : ℕ) (xs ys : List ℕ) → xs ≡ ys → LiesAt words place xs → LiesAt words place ys
lies_as words place xs ys e s = let P : List ℕ → Type 0 = λ p. LiesAt words place p in subst P e s

-- ---- all of a list

pub all_first : {X : Type 0} (P : X → Type 0) (x : X) (xs : List X) → All P (x ∷ xs) → P x
all_first P x xs all = all 0 x (omega arith)

pub all_rest : {X : Type 0} (P : X → Type 0) (x : X) (xs : List X) → All P (x ∷ xs) → All P xs
all_rest P x xs all = λ k d h. all (suc k) d (omega (arith, h))

pub all_both : {X : Type 0} (P Q : X → Type 0) (xs : List X) → All P xs → All Q xs → All (λ x. P x × Q x) xs
all_both P Q xs p q = λ k d h. (p k d h, q k d h)

pub all_map : {X : Type 0} (P Q : X → Type 0) (xs : List X) → ((x : X) → P x → Q x) → All P xs → All Q xs
all_map P Q xs f p = λ k d h. f (slice_index_or xs k d) (p k d h)

-- ---- sizes

pub table_total : {X : Type 0} (width : ℕ) (behind : X → ℕ) (xs : List X) → table_size width behind xs ≡ width * length xs + total behind xs
unfolding total
table_total width behind [] = omega arith
table_total width behind (x ∷ xs) = let rest = table_total width behind xs in omega (arith, rest)

-- ---- tables

module _ {X : Type 0} (P : X → Type 0) (width : ℕ) (row parts : ℕ → X → List ℕ) (behind : X → ℕ)
    (row_long : (place : ℕ) (x : X) → length (row place x) ≡ width)
    (parts_long : (place : ℕ) (x : X) → P x → length (parts place x) ≡ behind x) where
  pub rows_long : (place : ℕ) (xs : List X) → length (rows_from row behind place xs) ≡ width * length xs
  unfolding rows_from
  rows_long place [] = omega arith
  rows_long place (x ∷ xs) =
      let rest = rows_long (place + behind x) xs in
      omega (arith, rest, row_long place x, length-append (row place x) (rows_from row behind (place + behind x) xs))

  pub all_parts_long : (place : ℕ) (xs : List X) → All P xs → length (parts_from parts behind place xs) ≡ total behind xs
  unfolding parts_from total
  all_parts_long place [] are = refl
  all_parts_long place (x ∷ xs) are =
      let rest = all_parts_long (place + behind x) xs (all_rest P x xs are) in
      omega (arith, rest, parts_long place x (all_first P x xs are), length-append (parts place x) (parts_from parts behind (place + behind x) xs))

  pub table_long : (place : ℕ) (xs : List X) → All P xs → length (table_words width row parts behind place xs) ≡ table_size width behind xs
  table_long place xs are =
      let first : ℕ = place + width * length xs in
      let all : length (rows_from row behind first xs ++ parts_from parts behind first xs) ≡ width * length xs + total behind xs =
      omega (arith, length-append (rows_from row behind first xs) (parts_from parts behind first xs), rows_long first xs, all_parts_long first xs are) in
      all ∙ sym (table_total width behind xs)

module _ {X : Type 0} (P : X → Type 0) (width : ℕ) (row parts : ℕ → X → List ℕ) (behind : X → ℕ)
    (row_long : (place : ℕ) (x : X) → length (row place x) ≡ width)
    (parts_long : (place : ℕ) (x : X) → P x → length (parts place x) ≡ behind x)
    (image : List ℕ) (Has : ℕ → X → Type 0)
    (one : (at place : ℕ) (x : X) → P x → LiesAt image at (row place x) → LiesAt image place (parts place x) → 2 ≤ place →
    place + behind x ≤ word image 0 → at + width ≤ word image 0 → Has at x) where
  rows_lie : (at place : ℕ) (xs : List X) → All P xs → LiesAt image at (rows_from row behind place xs) → LiesAt image place (parts_from parts behind place xs) →
      2 ≤ place → place + total behind xs ≤ word image 0 → at + width * length xs ≤ word image 0 → EachRow Has width at xs
  unfolding rows_from parts_from total EachRow
  rows_lie at place [] are s t past h k = tt
  rows_lie at place (x ∷ xs) are s t past h k =
      let here = all_first P x xs are in (
        one at place x here (lies_left image at (row place x) (rows_from row behind (place + behind x) xs) s)
            (lies_left image place (parts place x) (parts_from parts behind (place + behind x) xs) t) past (omega (arith, h)) (omega (arith, k)),
        rows_lie (at + width) (place + behind x) xs (all_rest P x xs are)
            (lies_right image at width (row place x) (rows_from row behind (place + behind x) xs) (row_long place x) s)
            (lies_right image place (behind x) (parts place x) (parts_from parts behind (place + behind x) xs) (parts_long place x here) t)
            (omega (arith, past)) (omega (arith, h)) (omega (arith, k)),
      )

  pub table_lies : (at : ℕ) (xs : List X) → All P xs → LiesAt image at (table_words width row parts behind at xs) →
      2 ≤ at → at + table_size width behind xs ≤ word image 0 → HasRows Has width at (length xs) xs
  table_lies at xs are s past h =
      let first : ℕ = at + width * length xs in
      let sum = table_total width behind xs in
      let behind_rows = lies_right image at (width * length xs) (rows_from row behind first xs) (parts_from parts behind first xs)
      (rows_long P width row parts behind row_long parts_long first xs) s in
      record {
        size = refl;
        each = rows_lie at first xs are (lies_left image at (rows_from row behind first xs) (parts_from parts behind first xs) s) behind_rows
            (omega (arith, past)) (omega (arith, h, sum)) (omega (arith, h, sum));
      }
