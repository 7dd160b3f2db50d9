-- Plain bytes are as they are inside quotation marks.
use Rattle.std.proofs.Common.{◌≡◌, ℕ, suc, ◌+◌, ◌-◌, ◌<◌, ◌≤◌, true, List, [], ◌∷◌, ◌++◌, length, get_or, take, drop, refl, sym, ap, ◌∙◌, append_assoc, arith, inl, inr, length-drop, length-take, get_or-take, get_or-drop}
use Rattle.std.specs.Prelude.{◌==◌, nat_lt}
use Rattle.std.proofs.lemmas.Bool.{cases_Bool}
use Rattle.std.proofs.lemmas.List.{append-nil, take_more, take_all}
use Rattle.std.proofs.lemmas.List.Concat.{flat_map-append}
use Rattle.std.proofs.Math.Seq.{take-add}
use Rattle.subscriber_text.specs.ItemText.{quoted_byte}
use Rattle.subscriber_text.specs.Plain.{is_plain, escaped}

pub quoted_byte-plain : (b : ℕ) → is_plain b ≡ true → quoted_byte b ≡ b ∷ []
quoted_byte-plain b plain =
    elim (cases_Bool (b == 34)) [
      | inl mark ↦ absurd (cc (rw mark at plain))
      | inr no_mark ↦ elim (cases_Bool (b == 92)) [
        | inl slash ↦ absurd (cc (rw (no_mark, slash) at plain))
        | inr no_slash ↦ elim (cases_Bool (nat_lt b 32)) [
          | inl low ↦ absurd (cc (rw (no_mark, no_slash, low) at plain))
          | inr high ↦ elim (cases_Bool (b == 127)) [
            | inl delete ↦ absurd (cc (rw (no_mark, no_slash, high, delete) at plain))
            | inr none ↦ rw (no_mark, no_slash, high, none) refl
          ]
        ]
      ]
    ]

-- a run of plain bytes
pub escaped-plain : (xs : List ℕ) → ((k : ℕ) → k < length xs → is_plain (get_or xs k 0) ≡ true) → escaped xs ≡ xs
escaped-plain [] plain = refl
escaped-plain (x ∷ xs) plain =
    let first : quoted_byte x ≡ x ∷ [] = quoted_byte-plain x (plain 0 (omega arith)) in
    let rest : escaped xs ≡ xs = escaped-plain xs (λ k lt. plain (suc k) (omega arith)) in
    rw (first, rest) refl

escaped-append : (xs ys : List ℕ) → escaped (xs ++ ys) ≡ escaped xs ++ escaped ys
escaped-append xs ys = flat_map-append quoted_byte xs ys

-- what is between two places, and is plain, is as it is
pub escaped-more : (xs : List ℕ) (a k : ℕ) → a + k ≤ length xs → ((j : ℕ) → a ≤ j → j < a + k → is_plain (get_or xs j 0) ≡ true)
    → escaped (take (a + k) xs) ≡ escaped (take a xs) ++ take k (drop a xs)
escaped-more xs a k within plain =
    let len : length (take k (drop a xs)) ≡ k = omega (arith, length-take k (drop a xs), length-drop a xs) in
    let run : escaped (take k (drop a xs)) ≡ take k (drop a xs) =
    escaped-plain (take k (drop a xs)) (λ j lt.
    let below : j < k = omega (arith, len) in
    let same : get_or (take k (drop a xs)) j 0 ≡ get_or xs (a + j) 0 = get_or-take k (drop a xs) j 0 below ∙ get_or-drop a xs j 0 in
    rw same (plain (a + j) (omega arith) (omega arith))) in
    ap escaped (take-add a k xs) ∙ escaped-append (take a xs) (take k (drop a xs)) ∙ ap (λ ys. escaped (take a xs) ++ ys) run

-- a run of plain bytes and the byte after it were appended
pub escaped-step : (xs old out o1 o2 : List ℕ) (a i : ℕ) → a ≤ i → i < length xs → ((j : ℕ) → a ≤ j → j < i → is_plain (get_or xs j 0) ≡ true)
    → out ≡ old ++ escaped (take a xs) → o1 ≡ out ++ take (i - a) (drop a xs) → o2 ≡ o1 ++ quoted_byte (get_or xs i 0) → o2 ≡ old ++ escaped (take (i + 1) xs)
escaped-step xs old out o1 o2 a i le lt plain e f g =
    let place : a + (i - a) ≡ i = omega arith in
    let more : escaped (take i xs) ≡ escaped (take a xs) ++ take (i - a) (drop a xs) =
    rw place at (escaped-more xs a (i - a) (omega arith) (λ j lo hi. plain j lo (omega (arith, place)))) in
    let whole : escaped (take (i + 1) xs) ≡ escaped (take i xs) ++ quoted_byte (get_or xs i 0) =
    ap escaped (take_more xs i 0 lt) ∙ escaped-append (take i xs) (get_or xs i 0 ∷ []) ∙ ap (λ ys. escaped (take i xs) ++ ys) (append-nil (quoted_byte (get_or xs i 0))) in
    rw (g, f, e, whole, more) (simp append_assoc refl)

-- the last run of plain bytes was appended
pub escaped-end : (xs old out now : List ℕ) (a i : ℕ) → a ≤ i → i ≡ length xs → ((j : ℕ) → a ≤ j → j < i → is_plain (get_or xs j 0) ≡ true)
    → out ≡ old ++ escaped (take a xs) → now ≡ out ++ drop a xs → now ≡ old ++ escaped xs
escaped-end xs old out now a i le end plain e f =
    let place : a + (i - a) ≡ i = omega arith in
    let more : escaped (take i xs) ≡ escaped (take a xs) ++ take (i - a) (drop a xs) =
    rw place at (escaped-more xs a (i - a) (omega arith) (λ j lo hi. plain j lo (omega (arith, place)))) in
    let all : take i xs ≡ xs = take_all i xs (omega arith) in
    let rest : take (i - a) (drop a xs) ≡ drop a xs = take_all (i - a) (drop a xs) (omega (arith, length-drop a xs)) in
    let whole : escaped xs ≡ escaped (take a xs) ++ drop a xs = ap escaped (sym all) ∙ more ∙ ap (λ ys. escaped (take a xs) ++ ys) rest in
    rw (f, e, whole) (append_assoc old (escaped (take a xs)) (drop a xs))
