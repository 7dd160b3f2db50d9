-- The words that are written for a text are that text.
use Rattle.std.proofs.Common.{◌≡◌, ◌∙◌, ℕ, zero, suc, ◌+◌, ◌-◌, ◌*◌, ◌/◌, ◌%◌, ◌<◌, ◌≤◌, List, [], ◌∷◌, ◌++◌, length, take, drop, Option, Some, None, refl, ap, sym, arith, append_assoc, length-append, add-zero}
use Rattle.std.specs.Prelude.{replicate}
use Rattle.std.specs.Int.{w64, to_le_bytes}
use Rattle.std.proofs.lemmas.List.{length-take-le, length-drop, take-append-drop, length-replicate, append-nil}
use Rattle.std.proofs.lemmas.Nat.{le_bytes_8}
use Rattle.bench_model.specs.Shifts.{AreBytes}
use Rattle.bench_model.specs.Rules.{IsShortIfThere}
use Rattle.image_words.specs.Layout.{word, bytes_from, words_for, padded, length_span, header_words, HasText, HasOptionalText}
use Rattle.image_compiler.specs.Size.{text_size, optional_text_size}
use Rattle.image_compiler.specs.Layout.{blocks, text_words, optional_text_words, reference, optional_reference}
use Rattle.image_compiler.specs.Typed.{AreBytesIfThere}
use Rattle.image_compiler.proofs.ListLaws.{LiesAt, lies_first, lies_next}

bytes_head : (words : List ℕ) (place n : ℕ) → bytes_from words place (suc n) ≡ to_le_bytes w64 (word words place) ++ bytes_from words (place + 1) n
unfolding bytes_from
bytes_head words place zero = ap (λ (p : ℕ). to_le_bytes w64 (word words p)) (add-zero place) ∙ sym (append-nil (to_le_bytes w64 (word words place)))
bytes_head words place (suc n) =
    let e : place + suc n ≡ place + 1 + n = omega arith in
    ap (λ (bytes : List ℕ). bytes ++ to_le_bytes w64 (word words (place + suc n))) (bytes_head words place n)
    ∙ append_assoc (to_le_bytes w64 (word words place)) (bytes_from words (place + 1) n) (to_le_bytes w64 (word words (place + suc n)))
    ∙ ap (λ (p : ℕ). to_le_bytes w64 (word words place) ++ (bytes_from words (place + 1) n ++ to_le_bytes w64 (word words p))) e

no_bytes : (bytes : List ℕ) → length bytes ≡ 0 → [] ≡ bytes
no_bytes [] h = refl
no_bytes (b ∷ bytes) h = absurd (omega (arith, h))

taken_bytes : (n : ℕ) (bytes : List ℕ) → AreBytes bytes → AreBytes (take n bytes)
taken_bytes zero bytes are i = omega arith
taken_bytes (suc n) [] are i = omega arith
taken_bytes (suc n) (b ∷ bytes) are zero = are 0
taken_bytes (suc n) (b ∷ bytes) are (suc i) = taken_bytes n bytes (λ j. are (suc j)) i

dropped_bytes : (n : ℕ) (bytes : List ℕ) → AreBytes bytes → AreBytes (drop n bytes)
dropped_bytes zero bytes are i = are i
dropped_bytes (suc n) [] are i = omega arith
dropped_bytes (suc n) (b ∷ bytes) are i = dropped_bytes n bytes (λ j. are (suc j)) i

blocks_lie : (words : List ℕ) (place n : ℕ) (bytes : List ℕ) → length bytes ≡ 8 * n → AreBytes bytes → LiesAt words place (blocks n bytes) → bytes_from words place n ≡ bytes
unfolding bytes_from blocks
blocks_lie words place zero bytes long are s = no_bytes bytes (omega (arith, long))
blocks_lie words place (suc n) bytes long are s =
    let enough : 8 ≤ length bytes = omega (arith, long) in
    let rest : length (drop 8 bytes) ≡ 8 * n = omega (arith, long, length-drop 8 bytes) in
    let first : to_le_bytes w64 (word words place) ≡ take 8 bytes =
    le_bytes_8 (take 8 bytes) (word words place) (length-take-le 8 bytes enough) (taken_bytes 8 bytes are) (lies_first words place _ _ s) in
    let others : bytes_from words (place + 1) n ≡ drop 8 bytes =
    blocks_lie words (place + 1) n (drop 8 bytes) rest (dropped_bytes 8 bytes are) (lies_next words place _ _ s) in
    bytes_head words place n
    ∙ ap (λ (b : List ℕ). b ++ bytes_from words (place + 1) n) first
    ∙ ap (λ (b : List ℕ). take 8 bytes ++ b) others
    ∙ take-append-drop 8 bytes

zeros_are : (n : ℕ) → AreBytes (replicate n 0)
zeros_are zero i = omega arith
zeros_are (suc n) zero = omega arith
zeros_are (suc n) (suc i) = zeros_are n i

joined_are : (xs ys : List ℕ) → AreBytes xs → AreBytes ys → AreBytes (xs ++ ys)
joined_are [] ys h k i = k i
joined_are (x ∷ xs) ys h k zero = h 0
joined_are (x ∷ xs) ys h k (suc i) = joined_are xs ys (λ j. h (suc j)) k i

padded_long : (text : List ℕ) → length (padded text) ≡ 8 * words_for (length text)
padded_long text = omega (arith, length-append text (replicate (8 * words_for (length text) - length text) 0), length-replicate {A = ℕ} (8 * words_for (length text) - length text) 0)

pub blocks_long : (n : ℕ) (bytes : List ℕ) → length (blocks n bytes) ≡ n
unfolding blocks
blocks_long zero bytes = refl
blocks_long (suc n) bytes = ap suc (blocks_long n (drop 8 bytes))

pub text_long : (text : List ℕ) → length (text_words text) ≡ text_size text
unfolding text_words
text_long text = blocks_long (words_for (length text)) (padded text)

pub optional_text_long : (text : Option (List ℕ)) → length (optional_text_words text) ≡ optional_text_size text
optional_text_long None = refl
optional_text_long (Some text) = text_long text

-- the reference and the words
pub text_lies : (words : List ℕ) (at place : ℕ) (text : List ℕ) → AreBytes text → length text < length_span → word words at ≡ reference place text →
    LiesAt words place (text_words text) → header_words ≤ place → place + text_size text ≤ word words 0 → HasText words (word words at) text
unfolding text_words
text_lies words at place text are short is s past inside =
    let count : word words at % length_span ≡ length text = omega (arith, is, short) in
    let spot : word words at / length_span ≡ place = omega (arith, is, short) in
    let all = joined_are text (replicate (8 * words_for (length text) - length text) 0) are (zeros_are (8 * words_for (length text) - length text)) in
    record {
      size = sym count;
      within = λ some. omega (arith, spot, inside);
      empty = λ none. omega (arith, spot, past);
      content = ap (λ (p : ℕ). bytes_from words p (words_for (length text))) spot
          ∙ blocks_lie words place (words_for (length text)) (padded text) (padded_long text) all s;
    }

pub optional_text_lies : (words : List ℕ) (at place : ℕ) (text : Option (List ℕ)) → AreBytesIfThere text → IsShortIfThere text →
    word words at ≡ optional_reference place text → LiesAt words place (optional_text_words text) → header_words ≤ place →
    place + optional_text_size text ≤ word words 0 → HasOptionalText words (word words at) text
optional_text_lies words at place None are short is s past inside = is
optional_text_lies words at place (Some text) are short is s past inside = text_lies words at place text are (omega (arith, short)) is s past inside
