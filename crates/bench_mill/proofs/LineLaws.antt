-- The line of a frame says that frame, and is one line.
use Rattle.std.proofs.Common.{◌≡◌, ◌∙◌, ℕ, zero, suc, ◌/◌, ◌%◌, ◌^◌, ◌<◌, ◌≤◌, inl, inr, Bool, true, false, List, [], ◌∷◌, ◌++◌, length, Some, refl, ap, sym, arith, append_assoc}
use Rattle.std.specs.Prelude.{◌==◌, not, nat_le, codes}
use Rattle.std.specs.List.{flat_map, list_all, AllByRecursion}
use Rattle.std.specs.Char.{is_ascii_digit, is_ascii_hexdigit}
use Rattle.std.proofs.lemmas.Nat.{mod_below}
use Rattle.std.proofs.lemmas.Bool.{true≢false, and_from, and_parts, cases_Bool, eqb-true, cond-false, lt-leb, not-true}
use Rattle.std.proofs.lemmas.List.{append-nil}
use Rattle.std.proofs.lemmas.List.Folds.{list_all-append}
use Rattle.byte_forms.specs.Lines.{all_lines, onto_first}
use Rattle.byte_forms.specs.Hexadecimal.{hex_digit, hex_digits}
use Rattle.bench_model.specs.declared.database.Key.{Key}
use Rattle.candump_log.specs.declared.log_line.LogLine.TheVariants as line
use Rattle.candump_log.specs.Data.{LeadsByte, EncodesMore, EncodesData}
use Rattle.candump_log.specs.Line.{LinePieces, stamp, IsLine}
use Rattle.mill_log.specs.GeneratedLog.{identifier_of, low_bytes, stamp_of, padded, line_prefix, line_of_frame}
use Rattle.bench_mill.specs.GeneratedFrames.{most_frames, frame_of}
use Rattle.bench_mill.proofs.DigitLaws.{numeral_of, hexadecimal_digit, padded_written, hexadecimal_written}

-- ---- bytes

AreBytes : List ℕ → Type 0
AreBytes bytes = AllByRecursion (λ b. b < 256) bytes

low_bytes_are : (n x : ℕ) → AreBytes (low_bytes n x)
unfolding AreBytes
low_bytes_are zero x = tt
low_bytes_are (suc n) x = (mod_below x 256 (omega arith), low_bytes_are n (x / 256))

-- two digits of a byte
byte_leads : (b : ℕ) (rest : List ℕ) → b < 256 → LeadsByte [] (hex_digits 2 b ++ rest) b rest
unfolding hex_digits
byte_leads b rest below =
    let high = hexadecimal_digit (b / 16 % 16) (mod_below (b / 16) 16 (omega arith)) in
    let low = hexadecimal_digit (b % 16) (mod_below b 16 (omega arith)) in
    record {
      high = hex_digit (b / 16 % 16);
      low = hex_digit (b % 16);
      parted = refl;
      high_is = high.0;
      low_is = low.0;
      value = omega (arith, high.1, low.1);
    }

bytes_more : (bytes : List ℕ) → AreBytes bytes → EncodesMore (flat_map (hex_digits 2) bytes) bytes
unfolding AreBytes
bytes_more [] all = refl
bytes_more (b ∷ bytes) all =
    ([], flat_map (hex_digits 2) bytes, inl refl, byte_leads b (flat_map (hex_digits 2) bytes) all.0, bytes_more bytes all.1)

bytes_written : (bytes : List ℕ) → AreBytes bytes → EncodesData (flat_map (hex_digits 2) bytes) bytes
unfolding AreBytes
bytes_written [] all = refl
bytes_written (b ∷ bytes) all =
    (flat_map (hex_digits 2) bytes, byte_leads b (flat_map (hex_digits 2) bytes) all.0, bytes_more bytes all.1)

-- ---- the pieces of a line

abbrev data_text : ℕ → List ℕ
data_text x = flat_map (hex_digits 2) (low_bytes 8 x)

abbrev pieces : ℕ → ℕ → LinePieces
pieces i x = record {
  seconds = padded 10 (stamp_of i / 1000000);
  micros = padded 6 (stamp_of i % 1000000);
  gap = 32 ∷ [];
  interface = codes "can0";
  space = 32 ∷ [];
  id = hex_digits 3 (identifier_of x);
  body = data_text x;
  tail = [];
}

-- the line without its line feed
unfoldable pub line_text : ℕ → ℕ → List ℕ
line_text i x = line_prefix i ++ (hex_digits 3 (identifier_of x) ++ (codes "#" ++ data_text x))

regroup : (a b c d e : List ℕ) → a ++ (b ++ (c ++ (d ++ e))) ≡ (a ++ (b ++ (c ++ d))) ++ e
regroup a b c d e = sym (simp append_assoc)

line_ends : (i x : ℕ) → line_of_frame i x ≡ line_text i x ++ 10 ∷ []
unfolding line_of_frame line_text
line_ends i x = regroup (line_prefix i) (hex_digits 3 (identifier_of x)) (codes "#") (data_text x) (10 ∷ [])

parted : (s m id bytes : List ℕ) →
    (codes "(" ++ (s ++ (codes "." ++ (m ++ codes ") can0 ")))) ++ (id ++ (codes "#" ++ bytes))
    ≡ (codes "(" ++ (s ++ (codes "." ++ (m ++ (codes ")" ++ codes " ")))))
    ++ (codes "can0" ++ (codes " " ++ (id ++ (codes "#" ++ (bytes ++ [])))))
parted s m id bytes = simp (append_assoc, append-nil)

short : (i x : ℕ) → length (line_text i x) ≤ 512
unfolding line_text padded hex_digits
short i x = omega arith

-- the line of a frame says it
pub line_is : (i x : ℕ) → i < most_frames → x < 2 ^ 64 → IsLine (line_text i x) (frame_of i x)
unfolding line_text
line_is i x within below =
    let s = stamp_of i / 1000000 in
    let m = stamp_of i % 1000000 in
    let seconds = padded_written 10 s (omega arith) in
    let micros = padded_written 6 m (omega arith) in
    let id = hexadecimal_written 3 (identifier_of x) (omega arith) in
    let key : Key = record { extended = false; id = identifier_of x } in
    let bytes = low_bytes 8 x in
    let time : stamp_of i ≡ stamp (pieces i x) = omega (arith, seconds.value, micros.value) in
    let narrow : nat_le (2 ^ 29) (identifier_of x) ≡ false = lt-leb (2 ^ 29) (identifier_of x) (omega arith) in (
      pieces i x,
      record {
        parted = parted (padded 10 s) (padded 6 m) (hex_digits 3 (identifier_of x)) (data_text x);
        short = short i x;
        seconds = (numeral_of _ _ _ _ (omega arith) seconds, omega (arith, seconds.count), omega (arith, seconds.count));
        micros = (numeral_of _ _ _ _ (omega arith) micros, omega (arith, micros.count), omega (arith, micros.count));
        gap = (omega arith, refl);
        interface = (omega arith, refl);
        space = (omega arith, refl);
        key = key;
        id = record {
          numeral = numeral_of _ _ _ _ (omega arith) id;
          id = sym id.value;
          form = inl (id.count, refl, omega arith);
        };
        content = Some bytes;
        body = inl (record {
          digits = data_text x;
          code = [];
          text = sym (append-nil (data_text x));
          bytes_are = bytes_written bytes (low_bytes_are 8 x);
          few = omega arith;
          code_is = inl refl;
        });
        tail = tt;
        line_is = ap (λ t. line.Frame t key bytes) time ∙ sym (cond-false (nat_le (2 ^ 29) (identifier_of x)) _ _ narrow);
      },
    )

-- ---- it is one line

-- no line feed
abbrev is_plain : ℕ → Bool
is_plain b = not (b == 10)

-- what passes a test that a line feed fails
plain_by : (p : ℕ → Bool) (text : List ℕ) → p 10 ≡ false → list_all p text ≡ true → list_all is_plain text ≡ true
plain_by p [] none all = refl
plain_by p (b ∷ text) none all =
    let both = and_parts (p b) (list_all p text) all in
    elim (cases_Bool (b == 10)) [
      | inl feed ↦ absurd (true≢false (sym both.0 ∙ ap p (eqb-true b 10 feed) ∙ none))
      | inr other ↦ and_from _ _ (ap not other) (plain_by p text none both.1)
    ]

both_plain : (xs ys : List ℕ) → list_all is_plain xs ≡ true → list_all is_plain ys ≡ true → list_all is_plain (xs ++ ys) ≡ true
both_plain xs ys p q = list_all-append is_plain xs ys ∙ and_from _ _ p q

data_plain : (bytes : List ℕ) → AreBytes bytes → list_all is_plain (flat_map (hex_digits 2) bytes) ≡ true
unfolding AreBytes
data_plain [] all = refl
data_plain (b ∷ bytes) all =
    let two = plain_by is_ascii_hexdigit (hex_digits 2 b) refl (hexadecimal_written 2 b all.0).digits in
    both_plain (hex_digits 2 b) (flat_map (hex_digits 2) bytes) two (data_plain bytes all.1)

line_plain : (i x : ℕ) → i < most_frames → x < 2 ^ 64 → list_all is_plain (line_text i x) ≡ true
unfolding line_text
line_plain i x within below =
    let s = stamp_of i / 1000000 in
    let m = stamp_of i % 1000000 in
    let id = hex_digits 3 (identifier_of x) in
    let seconds = plain_by is_ascii_digit (padded 10 s) refl (padded_written 10 s (omega arith)).digits in
    let micros = plain_by is_ascii_digit (padded 6 m) refl (padded_written 6 m (omega arith)).digits in
    let digits = plain_by is_ascii_hexdigit id refl (hexadecimal_written 3 (identifier_of x) (omega arith)).digits in
    let more = both_plain (padded 6 m) (codes ") can0 ") micros refl in
    both_plain (line_prefix i) (id ++ (codes "#" ++ data_text x))
    (both_plain (padded 10 s) (codes "." ++ (padded 6 m ++ codes ") can0 ")) seconds more)
    (both_plain id (codes "#" ++ data_text x) digits (data_plain (low_bytes 8 x) (low_bytes_are 8 x)))

-- a text without line feeds before one is one line
one_of : (text : List ℕ) → list_all is_plain text ≡ true → all_lines (text ++ 10 ∷ []) ≡ text ∷ []
unfolding all_lines
one_of [] all = refl
one_of (b ∷ text) all =
    let both = and_parts (is_plain b) (list_all is_plain text) all in
    let whole = all_lines (text ++ 10 ∷ []) in
    cond-false (b == 10) ([] ∷ whole) (onto_first b whole) (not-true (b == 10) both.0) ∙ ap (onto_first b) (one_of text both.1)

pub lines_of_frame : (i x : ℕ) → i < most_frames → x < 2 ^ 64 → all_lines (line_of_frame i x) ≡ line_text i x ∷ []
lines_of_frame i x within below = ap all_lines (line_ends i x) ∙ one_of (line_text i x) (line_plain i x within below)
