-- Each text is a decimal text or is none, and one that is denotes a decimal.
use Rattle.std.proofs.Common.{◌≡◌, ℕ, ◌+◌, ◌-◌, ◌*◌, ◌^◌, ◌<◌, ◌≤◌, ◌⊎◌, inl, inr, Bool, true, false, List, [], ◌∷◌, ◌++◌, length, None, sym, ap, ◌∙◌, refl, ⊎_elim, arith, ℤ}
use Rattle.std.specs.Prelude.{unsigned_abs}
use Rattle.std.proofs.lemmas.Bool.{cases_eq, cases_lt}
use Rattle.exact_scale.specs.Digits.{IsDigit, number}
use Rattle.exact_scale.specs.Limits.{most_places, IsNarrow, IsTooWide}
use Rattle.exact_scale.specs.Parts.{NoDigitFirst, SignSplit, DigitSplit, PointSplit, ExponentRead, NoExponent, SignedRead, NoSigned, capped}
use Rattle.exact_scale.specs.Numeral.{NoSign, Plus, Minus, signed, fraction_digits, IsDecimalText, Denotes, raised, lowered}
use Rattle.exact_scale.proofs.LeastLaws.{least_places, least_signed}
use Rattle.exact_scale.proofs.PartsLaws.{point_taken, no_point, signed_down, signed_up, no_signed, exponent_read, no_exponent_after, no_exponent_other, has_parts, no_digits, bad_exponent}
use Rattle.exact_scale.proofs.PowerLaws.{ten_times}
use Rattle.exact_scale.proofs.ReadLaws.{denotes_once, denotes_text}
use Rattle.exact_scale.proofs.ShortestLaws.{Cut, cut}

-- ---- a decimal text denotes a decimal

cut_same : (size k : ℕ) (c : Cut size k) → c.short * 10 ^ k ≡ size * 10 ^ c.places
cut_same size k c =
    let places : k ≡ k - c.places + c.places = omega (arith, c.shorter) in
    ap (λ e. c.short * 10 ^ e) places ∙ sym (ten_times c.short (k - c.places) c.places) ∙ ap (λ a. a * 10 ^ c.places) (sym c.same)

cut_least : (size k : ℕ) (c : Cut size k) (j m : ℕ) → m * 10 ^ k ≡ size * 10 ^ j → c.places ≤ j
cut_least size k c j m e = ⊎_elim
    (λ (none : c.places ≡ 0). omega (arith, none))
    (λ odd.
    let h = least_places c.short (k - c.places) k j m odd (e ∙ ap (λ a. a * 10 ^ j) c.same) in
    omega (arith, h, c.shorter))
    c.last

pub denotes_some : (text : List ℕ) → IsDecimalText text → (n : ℤ) × ((k : ℕ) × Denotes text n k)
denotes_some text (s, written_so) =
    let above = number (s.whole ++ fraction_digits s.fraction) * 10 ^ raised s.exponent in
    let places = length (fraction_digits s.fraction) + lowered s.exponent in
    let c = cut places above in (
      signed s.sign c.short,
      (
        c.places,
        record {
          numeral = s;
          written_so = written_so;
          least = least_signed s.sign above (10 ^ places) c.short c.places (cut_same above places c) (cut_least above places c);
        },
      ),
    )

-- ---- a text is cut into its parts

sign_split : (text : List ℕ) → (negative : Bool) × ((body : List ℕ) × SignSplit text negative body)
sign_split [] = (false, ([], record { sign = NoSign; joined = refl; takes = tt; minus = refl }))
sign_split (b ∷ bs) = ⊎_elim
    (λ (plus : b ≡ 43). (false, (bs, record { sign = Plus; joined = ap (λ x. x ∷ bs) plus; takes = tt; minus = refl })))
    (λ other. ⊎_elim
    (λ (minus : b ≡ 45). (true, (bs, record { sign = Minus; joined = ap (λ x. x ∷ bs) minus; takes = tt; minus = refl })))
    (λ neither. (false, (b ∷ bs, record { sign = NoSign; joined = refl; takes = (other, neither); minus = refl })))
    (cases_eq b 45))
    (cases_eq b 43)

digit_or_none : (b : ℕ) → IsDigit b ⊎ (IsDigit b → ⊥)
digit_or_none b = ⊎_elim
    (λ (low : b < 48). inr (λ digit. omega (arith, low, digit.0)))
    (λ above. ⊎_elim
    (λ (high : 57 < b). inr (λ digit. omega (arith, high, digit.1)))
    (λ below. inl (omega (arith, above), omega (arith, below)))
    (cases_lt 57 b))
    (cases_lt b 48)

digit_split : (text : List ℕ) → (prefix : List ℕ) × ((back : List ℕ) × DigitSplit text prefix back)
digit_split [] = ([], ([], record { joined = refl; digits = tt; stop = tt }))
digit_split (b ∷ bs) =
    let rest = digit_split bs in ⊎_elim
    (λ (digit : IsDigit b). (
      b ∷ rest.0,
      (rest.1.0, record { joined = ap (λ l. b ∷ l) rest.1.1.joined; digits = (digit, rest.1.1.digits); stop = rest.1.1.stop }),
    ))
    (λ other. ([], (b ∷ bs, record { joined = refl; digits = tt; stop = other })))
    (digit_or_none b)

point_split : (text : List ℕ) → NoDigitFirst text → (digits : List ℕ) × ((tail : List ℕ) × PointSplit text digits tail)
point_split [] stop = ([], ([], no_point [] [] [] tt stop refl refl))
point_split (b ∷ bs) stop =
    let after = digit_split bs in ⊎_elim
    (λ (point : b ≡ 46). (after.0, (after.1.0, point_taken (b ∷ bs) bs after.0 after.1.0 (ap (λ x. x ∷ bs) point) after.1.1)))
    (λ other. ([], (b ∷ bs, no_point (b ∷ bs) [] (b ∷ bs) other stop refl refl)))
    (cases_eq b 46)

signed_by : (text unsigned digits rest : List ℕ) (negative : Bool) → SignSplit text negative unsigned → DigitSplit unsigned digits rest
    → ((up : ℕ) × ((down : ℕ) × SignedRead text up down)) ⊎ NoSigned text
signed_by text unsigned [] rest negative s d = inr (no_signed text unsigned [] rest negative s d (inl refl))
signed_by text unsigned (x ∷ xs) (y ∷ ys) negative s d = inr (no_signed text unsigned (x ∷ xs) (y ∷ ys) negative s d (inr (omega arith)))
signed_by text unsigned (x ∷ xs) [] true s d =
    inl (0, (capped (number (x ∷ xs)), signed_down text unsigned (x ∷ xs) [] (capped (number (x ∷ xs))) s d (omega arith) refl refl))
signed_by text unsigned (x ∷ xs) [] false s d =
    inl (capped (number (x ∷ xs)), (0, signed_up text unsigned (x ∷ xs) [] (capped (number (x ∷ xs))) s d (omega arith) refl refl))

signed_or_none : (text : List ℕ) → ((up : ℕ) × ((down : ℕ) × SignedRead text up down)) ⊎ NoSigned text
signed_or_none text =
    let s = sign_split text in
    let d = digit_split s.1.0 in
    signed_by text s.1.0 d.0 d.1.0 s.0 s.1.1 d.1.1

behind_mark : (after : List ℕ) (mark : ℕ) → (mark ≡ 101) ⊎ (mark ≡ 69)
    → ((up : ℕ) × ((down : ℕ) × ExponentRead (mark ∷ after) up down)) ⊎ NoExponent (mark ∷ after)
behind_mark after mark is_mark = ⊎_elim
    (λ (read : (up : ℕ) × ((down : ℕ) × SignedRead after up down)).
    inl (read.0, (read.1.0, exponent_read (mark ∷ after) after mark read.0 read.1.0 refl is_mark read.1.1)))
    (λ none. inr (no_exponent_after (mark ∷ after) after mark refl none))
    (signed_or_none after)

exponent_or_none : (tail : List ℕ) → ((up : ℕ) × ((down : ℕ) × ExponentRead tail up down)) ⊎ NoExponent tail
exponent_or_none [] = inl (0, (0, record { exponent = None; valid = tt; joined = refl; upward = omega arith; downward = omega arith }))
exponent_or_none (mark ∷ after) = ⊎_elim
    (λ (small : mark ≡ 101). behind_mark after mark (inl small))
    (λ other. ⊎_elim
    (λ (large : mark ≡ 69). behind_mark after mark (inr large))
    (λ neither. inr (no_exponent_other (mark ∷ after) after mark refl other neither))
    (cases_eq mark 69))
    (cases_eq mark 101)

pub decimal_or_none : (text : List ℕ) → IsDecimalText text ⊎ (¬ IsDecimalText text)
decimal_or_none text =
    let s = sign_split text in
    let d = digit_split s.1.0 in
    let p = point_split d.1.0 d.1.1.stop in ⊎_elim
    (λ (none : length d.0 + length p.0 ≡ 0). inr (no_digits text s.1.0 d.0 d.1.0 p.0 p.1.0 s.0 s.1.1 d.1.1 p.1.1 none))
    (λ some. ⊎_elim
    (λ (e : (up : ℕ) × ((down : ℕ) × ExponentRead p.1.0 up down)).
    let parts = has_parts text s.1.0 d.0 d.1.0 p.0 p.1.0 s.0 e.0 e.1.0 s.1.1 d.1.1 p.1.1 e.1.1 (omega (arith, some)) in
    inl (parts.numeral, parts.written_so))
    (λ none. inr (bad_exponent text s.1.0 d.0 d.1.0 p.0 p.1.0 s.0 s.1.1 d.1.1 p.1.1 none))
    (exponent_or_none p.1.0))
    (cases_eq (length d.0 + length p.0) 0)

-- ---- within the limits

-- the text denotes a decimal within the limits
abbrev DenotesNarrow : List ℕ → Type 0
DenotesNarrow text = (n : ℤ) × ((k : ℕ) × (Denotes text n k × (k ≤ most_places) × IsNarrow n))

abbrev DenotesNone : List ℕ → Type 0
DenotesNone text = (n : ℤ) (k : ℕ) → Denotes text n k → IsTooWide n k

too_many : (text : List ℕ) (n : ℤ) (k : ℕ) → Denotes text n k → most_places < k → DenotesNone text
too_many text n k d many m j e =
    let same = denotes_once text n m k j d e in
    inl (omega (arith, many, same.1))

too_large : (text : List ℕ) (n : ℤ) (k : ℕ) → Denotes text n k → 2 ^ 62 ≤ unsigned_abs n → DenotesNone text
too_large text n k d large m j e =
    let same = denotes_once text n m k j d e in
    let size = ap unsigned_abs same.0 in
    inr (omega (arith, large, size))

pub narrow_or_none : (text : List ℕ) → DenotesNarrow text ⊎ DenotesNone text
narrow_or_none text = ⊎_elim
    (λ (is : IsDecimalText text).
    let d = denotes_some text is in ⊎_elim
    (λ (many : most_places < d.1.0). inr (too_many text d.0 d.1.0 d.1.1 many))
    (λ few. ⊎_elim
    (λ (small : unsigned_abs d.0 < 2 ^ 62). inl (d.0, (d.1.0, (d.1.1, omega (arith, few), small))))
    (λ large. inr (too_large text d.0 d.1.0 d.1.1 (omega (arith, large))))
    (cases_lt (unsigned_abs d.0) (2 ^ 62)))
    (cases_lt most_places d.1.0))
    (λ none. inr (λ n k d. absurd (none (denotes_text text n k d))))
    (decimal_or_none text)
