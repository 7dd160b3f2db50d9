-- The data bytes of a frame as candump writes them (can-utils, `parse_canframe`): two hexadecimal digits a byte, with
-- one dot or nothing between two, as in `112233` and `11.22.33`.
use Rattle.std.specs.Prelude.{◌≡◌, ◌⊎◌, ℕ, ◌+◌, ◌*◌, true, List, [], ◌∷◌, ◌++◌, codes}
use Rattle.std.specs.Char.{digit_value, is_ascii_hexdigit}

-- the most bytes of a classic frame, and of any
abbrev pub classic_limit : ℕ
classic_limit = 8

abbrev pub data_limit : ℕ
data_limit = 64

-- a text is this mark, then the two digits of a byte, the first of which counts 16, then this rest
pub record LeadsByte (mark text : List ℕ) (b : ℕ) (rest : List ℕ) : Type 0 where
  pub high : ℕ
  pub low : ℕ
  pub parted : text ≡ mark ++ high ∷ low ∷ rest
  pub high_is : is_ascii_hexdigit high ≡ true
  pub low_is : is_ascii_hexdigit low ≡ true
  pub value : b ≡ 16 * digit_value high + digit_value low

-- what may be between two bytes
abbrev pub IsMark : List ℕ → Type 0
IsMark mark = (mark ≡ []) ⊎ (mark ≡ codes ".")

-- the text behind a byte is that of these further bytes
abbrev pub EncodesMore : List ℕ → List ℕ → Type 0
EncodesMore text [] = text ≡ []
EncodesMore text (b ∷ bytes) =
    (mark : List ℕ) × (rest : List ℕ) × IsMark mark × LeadsByte mark text b rest × EncodesMore rest bytes

-- the text is that of these bytes
abbrev pub EncodesData : List ℕ → List ℕ → Type 0
EncodesData text [] = text ≡ []
EncodesData text (b ∷ bytes) = (rest : List ℕ) × LeadsByte [] text b rest × EncodesMore rest bytes
