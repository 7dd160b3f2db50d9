-- The text of a reference is the first of the bytes from its place on.
use Rattle.std.proofs.Common.{◌≡◌, ◌∙◌, ℕ, suc, ◌+◌, ◌-◌, ◌*◌, ◌/◌, ◌%◌, ◌<◌, ◌≤◌, List, [], ◌∷◌, ◌++◌, length, take, Option, Some, None, refl, ap, sym, arith, add-one, append_assoc, append-nil}
use Rattle.std.specs.Prelude.{replicate}
use Rattle.std.specs.Int.{w64, to_le_bytes}
use Rattle.std.proofs.Math.Seq.{take-append_seam}
use Rattle.image_words.specs.Layout.{word, bytes_from, words_for, padded, length_span, HasText, HasOptionalText}
use Rattle.image_words.specs.Knowledge.{Knowledge, SomeFits}
use Rattle.image_words.specs.Reading.{EachHas, TextAt}

-- bytes read so far behind what was before
pub bytes_none : (image : List ℕ) (at : ℕ) (before : List ℕ) → before ≡ before ++ bytes_from image at 0
unfolding bytes_from
bytes_none image at before = sym (append-nil before)

pub bytes_appended : (image : List ℕ) (at i w : ℕ) (before bytes : List ℕ) → bytes ≡ before ++ bytes_from image at i → word image (at + i) ≡ w →
    bytes ++ to_le_bytes w64 w ≡ before ++ bytes_from image at (i + 1)
unfolding bytes_from
bytes_appended image at i w before bytes e f = rw (add-one, e, f) (append_assoc before (bytes_from image at i) (to_le_bytes w64 w))

pub text_read : (image : List ℕ) (reference i : ℕ) (bytes text : List ℕ) → bytes_from image (reference / length_span) i ≡ bytes →
    i ≡ words_for (reference % length_span) → HasText image reference text → take (reference % length_span) bytes ≡ text
text_read image reference i bytes text e last has =
    let count : i ≡ words_for (length text) = last ∙ ap words_for (sym has.size) in
    let all : bytes ≡ padded text = sym e ∙ ap (bytes_from image (reference / length_span)) count ∙ has.content in
    rw (← has.size, all) (take-append_seam text (replicate (8 * words_for (length text) - length text) 0))

take_behind : (before bytes : List ℕ) (n : ℕ) → take (length before + n) (before ++ bytes) ≡ before ++ take n bytes
take_behind [] bytes n = let e : 0 + n ≡ n = omega arith in ap (λ (m : ℕ). take m bytes) e
take_behind (b ∷ before) bytes n =
    let e : suc (length before) + n ≡ suc (length before + n) = omega arith in
    ap (λ (m : ℕ). take m (b ∷ (before ++ bytes))) e ∙ ap (λ (more : List ℕ). b ∷ more) (take_behind before bytes n)

pub one_text : (image : List ℕ) (reference : ℕ) (a b : List ℕ) → HasText image reference a → HasText image reference b → a ≡ b
one_text image reference a b h k =
    let count : ℕ = words_for (reference % length_span) in
    let bytes : List ℕ = bytes_from image (reference / length_span) count in
    sym (text_read image reference count bytes a refl refl h) ∙ text_read image reference count bytes b refl refl k

-- a reference to a text is not 0
pub text_is_there : (image : List ℕ) (reference : ℕ) (text : List ℕ) → HasText image reference text → 1 ≤ reference
text_is_there image reference text h = grind (arith, h.size, h.empty)

pub one_optional_text : (image : List ℕ) (reference : ℕ) (a b : Option (List ℕ)) → HasOptionalText image reference a → HasOptionalText image reference b → a ≡ b
one_optional_text image reference None None h k = refl
one_optional_text image reference None (Some b) h k = absurd (omega (arith, h, text_is_there image reference b k))
one_optional_text image reference (Some a) None h k = absurd (omega (arith, k, text_is_there image reference a h))
one_optional_text image reference (Some a) (Some b) h k = ap Some (one_text image reference a b h k)

-- the words of a text lie within the list
pub text_within : (k : Knowledge) (reference i : ℕ) → SomeFits k → EachHas k (TextAt reference) →
    i < words_for (reference % length_span) → reference / length_span + i < k.size
text_within k reference i some has h =
    let text = has some.image some.bench some.fits in
    let there : 1 ≤ length text.0 = omega (arith, h, text.1.size) in
    let within = text.1.within there in
    omega (arith, h, within, text.1.size, some.fits.encodes.whole, some.fits.size)

-- the first bytes of all are those of the text behind what was before
pub text_appended : (image : List ℕ) (reference i : ℕ) (before bytes text : List ℕ) → bytes ≡ before ++ bytes_from image (reference / length_span) i →
    i ≡ words_for (reference % length_span) → HasText image reference text → take (length before + reference % length_span) bytes ≡ before ++ text
text_appended image reference i before bytes text e last has =
    ap (take (length before + reference % length_span)) e
    ∙ take_behind before (bytes_from image (reference / length_span) i) (reference % length_span)
    ∙ ap (λ (more : List ℕ). before ++ more) (text_read image reference i (bytes_from image (reference / length_span) i) text refl last has)
