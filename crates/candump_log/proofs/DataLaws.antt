-- The bytes at the front of a text, and the text of bytes.
use Rattle.std.proofs.Common.{subst, ◌≡◌, ℕ, zero, suc, ◌+◌, ◌*◌, ◌≤◌, Bool, true, false, cond, List, [], ◌∷◌, ◌++◌, length, Option, Some, None, refl, sym, ap, ◌∙◌, arith, inl, inr, append_assoc}
use Rattle.std.proofs.lemmas.List.{append-nil}
use Rattle.std.proofs.lemmas.Bool.Decides.{eqb_tells}
use Rattle.std.specs.Prelude.{◌==◌}
use Rattle.std.specs.Prelude.{◌&&◌}
use Rattle.std.specs.Char.{digit_value, is_ascii_hexdigit}
use Rattle.std.proofs.lemmas.Bool.{cases_Bool, and_parts, eqb-true}
use Rattle.byte_forms.specs.Numerals.{hexadecimal_byte}
use Rattle.candump_log.specs.Data.{LeadsByte, IsMark, EncodesMore, EncodesData}
use Rattle.candump_log.specs.Line.{IsTail}
use Rattle.candump_log.specs.LineOf.{bytes_prefix, bytes_then, next_byte, after_dot}
use Rattle.candump_log.proofs.BlankLaws.{differs, blank_fails}

-- bytes that were read before those at the front
abbrev pub behind : List ℕ → List ℕ × List ℕ → List ℕ × List ℕ
behind done prefix = (done ++ prefix.0, prefix.1)

pub bytes_prefix-none : (limit : ℕ) (first : Bool) (text : List ℕ) → next_byte first text ≡ None → bytes_prefix limit first text ≡ ([], text)
unfolding bytes_prefix
bytes_prefix-none zero first text none = refl
bytes_prefix-none (suc limit) first text none = rw none refl

pub bytes_prefix-some : (limit : ℕ) (first : Bool) (text rest : List ℕ) (b : ℕ) → next_byte first text ≡ Some (b, rest) →
    bytes_prefix (suc limit) first text ≡ (b ∷ (bytes_prefix limit false rest).0, (bytes_prefix limit false rest).1)
unfolding bytes_prefix
bytes_prefix-some limit first text rest b some = rw some refl

no_more : (limit : ℕ) (first : Bool) (text : List ℕ) → bytes_prefix zero first text ≡ ([], text)
unfolding bytes_prefix
no_more limit first text = refl

-- no byte is left
pub all_read : (limit left : ℕ) (first : Bool) (done rest bytes : List ℕ) → behind done (bytes_prefix left first rest) ≡ bytes_prefix limit true bytes → next_byte first rest ≡ None → (done, rest) ≡ bytes_prefix limit true bytes
all_read limit left first done rest bytes whole none =
    ap (λ (d : List ℕ). (d, rest)) (sym (append-nil done)) ∙ ap (behind done) (sym (bytes_prefix-none left first rest none)) ∙ whole

-- the limit is reached
pub limit_read : (limit left : ℕ) (first : Bool) (done rest bytes : List ℕ) → behind done (bytes_prefix left first rest) ≡ bytes_prefix limit true bytes → left ≡ 0 → (done, rest) ≡ bytes_prefix limit true bytes
limit_read limit left first done rest bytes whole none =
    ap (λ (d : List ℕ). (d, rest)) (sym (append-nil done)) ∙ ap (behind done) (sym (no_more left first rest) ∙ ap (λ (n : ℕ). bytes_prefix n first rest) (sym none)) ∙ whole

-- one byte more
pub one_more : (limit left fewer : ℕ) (first : Bool) (done more rest after bytes : List ℕ) (b : ℕ) → behind done (bytes_prefix left first rest) ≡ bytes_prefix limit true bytes → left ≡ suc fewer
    → next_byte first rest ≡ Some (b, after) → more ≡ done ++ b ∷ [] → behind more (bytes_prefix fewer false after) ≡ bytes_prefix limit true bytes
one_more limit left fewer first done more rest after bytes b whole count some is =
    ap (λ (d : List ℕ). behind d (bytes_prefix fewer false after)) is
    ∙ ap (λ (d : List ℕ). (d, (bytes_prefix fewer false after).1)) (append_assoc done (b ∷ []) (bytes_prefix fewer false after).0)
    ∙ ap (behind done) (sym (bytes_prefix-some fewer first rest after b some) ∙ ap (λ (n : ℕ). bytes_prefix n first rest) (sym count))
    ∙ whole

-- a byte behind others is not the first
pub later_not_first : (i : ℕ) → ((i + 1) == 0) ≡ false
later_not_first i =
    elim (eqb_tells (i + 1) 0) [
      | inl same ↦ absurd (omega (arith, same.1))
      | inr other ↦ other.0
    ]

-- what may be before a byte, and the text of bytes, which may go on behind others
abbrev MarkOf : Bool → List ℕ → Type 0
MarkOf true mark = mark ≡ []
MarkOf false mark = IsMark mark

abbrev pub EncodesFrom : Bool → List ℕ → List ℕ → Type 0
EncodesFrom true text bytes = EncodesData text bytes
EncodesFrom false text bytes = EncodesMore text bytes

byte_of : (b : Bool) (x y : ℕ × List ℕ) → cond b (Some x) None ≡ Some y → (b ≡ true) × (x ≡ y)
byte_of true x y e = (refl, cc)
byte_of false x y e = absurd cc

-- two digits at the front
hexadecimal_byte_takes : (mark text rest : List ℕ) (b : ℕ) → hexadecimal_byte text ≡ Some (b, rest) → LeadsByte mark (mark ++ text) b rest
unfolding hexadecimal_byte
hexadecimal_byte_takes mark [] rest b e = absurd cc
hexadecimal_byte_takes mark (high ∷ []) rest b e = absurd cc
hexadecimal_byte_takes mark (high ∷ low ∷ digits) rest b e =
    let test = byte_of (is_ascii_hexdigit high && is_ascii_hexdigit low) (16 * digit_value high + digit_value low, digits) (b, rest) e in
    let both = and_parts (is_ascii_hexdigit high) (is_ascii_hexdigit low) test.0 in
    record {
      high = high;
      low = low;
      parted = ap (λ (r : List ℕ). mark ++ high ∷ low ∷ r) (ap (λ (x : ℕ × List ℕ). x.1) test.1);
      high_is = both.0;
      low_is = both.1;
      value = sym (ap (λ (x : ℕ × List ℕ). x.0) test.1);
    }

-- a dot or nothing before the digits
undotted_takes : (text : List ℕ) → (mark : List ℕ) × IsMark mark × (mark ++ after_dot text ≡ text)
undotted_takes [] = ([], inl refl, refl)
undotted_takes (c ∷ cs) =
    elim (cases_Bool (c == 46)) [
      | inl dot ↦ (46 ∷ [], inr refl, rw dot (ap (λ (x : ℕ). x ∷ cs) (sym (eqb-true c 46 dot))))
      | inr other ↦ ([], inl refl, rw other refl)
    ]

next_byte_takes : (first : Bool) (text rest : List ℕ) (b : ℕ) → next_byte first text ≡ Some (b, rest) → (mark : List ℕ) × MarkOf first mark × LeadsByte mark text b rest
unfolding next_byte
next_byte_takes true text rest b e = ([], refl, hexadecimal_byte_takes [] text rest b e)
next_byte_takes false text rest b e =
    let dot = undotted_takes text in
    let P : List ℕ → Type 0 = λ t. LeadsByte dot.0 t b rest in
    (dot.0, dot.1, subst P dot.2 (hexadecimal_byte_takes dot.0 (after_dot text) rest b e))

encodes_none : (first : Bool) → EncodesFrom first [] []
encodes_none true = refl
encodes_none false = refl

-- one byte before those of a piece
abbrev led : (mark : List ℕ) (high low : ℕ) → List ℕ → List ℕ
led mark high low piece = mark ++ high ∷ low ∷ piece

leads_piece : (mark text rest piece : List ℕ) (b : ℕ) (l : LeadsByte mark text b rest) → LeadsByte mark (led mark l.high l.low piece) b piece
leads_piece mark text rest piece b l =
    record { high = l.high; low = l.low; parted = refl; high_is = l.high_is; low_is = l.low_is; value = l.value }

encodes_one : (first : Bool) (mark text rest piece bytes : List ℕ) (b : ℕ) → MarkOf first mark → (l : LeadsByte mark text b rest) → EncodesMore piece bytes →
    EncodesFrom first (led mark l.high l.low piece) (b ∷ bytes)
encodes_one true mark text rest piece bytes b is l more =
    let P : List ℕ → Type 0 = λ m. LeadsByte m (led mark l.high l.low piece) b piece in
    (piece, subst P is (leads_piece mark text rest piece b l), more)
encodes_one false mark text rest piece bytes b is l more = (mark, piece, is, leads_piece mark text rest piece b l, more)

record IsPrefix (first : Bool) (limit : ℕ) (text : List ℕ) (prefix : List ℕ × List ℕ) : Type 0 where
  piece : List ℕ
  parted : text ≡ piece ++ prefix.1
  encodes : EncodesFrom first piece prefix.0
  few : length prefix.0 ≤ limit

led_append : (mark piece rest : List ℕ) (high low : ℕ) → mark ++ high ∷ low ∷ (piece ++ rest) ≡ led mark high low piece ++ rest
led_append mark piece rest high low = sym (append_assoc mark (high ∷ low ∷ piece) rest)

-- the bytes at the front are encoded there
bytes_prefix_is : (limit : ℕ) (first : Bool) (text : List ℕ) → IsPrefix first limit text (bytes_prefix limit first text)
unfolding bytes_prefix
bytes_prefix_is zero first text = record { piece = []; parted = refl; encodes = encodes_none first; few = omega arith }
bytes_prefix_is (suc limit) first text = by_next (λ t. bytes_prefix_is limit false t) (next_byte first text) refl
  where
    by_next : ((t : List ℕ) → IsPrefix false limit t (bytes_prefix limit false t)) → (next : Option (ℕ × List ℕ)) → next_byte first text ≡ next →
        IsPrefix first (suc limit) text (bytes_then (bytes_prefix limit false) text next)
    by_next later None e = record { piece = []; parted = refl; encodes = encodes_none first; few = omega arith }
    by_next later (Some x) e =
        let l = next_byte_takes first text x.1 x.0 e in
        let more = later x.1 in
        record {
          piece = led l.0 l.2.high l.2.low more.piece;
          parted = l.2.parted ∙ ap (λ (r : List ℕ). l.0 ++ l.2.high ∷ l.2.low ∷ r) more.parted ∙ led_append l.0 more.piece (bytes_prefix limit false x.1).1 l.2.high l.2.low;
          encodes = encodes_one first l.0 text x.1 more.piece (bytes_prefix limit false x.1).0 x.0 l.1 l.2 more.encodes;
          few = omega (arith, more.few);
        }

pub data_takes : (limit : ℕ) (text : List ℕ) → (piece : List ℕ) × (text ≡ piece ++ (bytes_prefix limit true text).1) × EncodesData piece (bytes_prefix limit true text).0 × (length (bytes_prefix limit true text).0 ≤ limit)
data_takes limit text = let f = bytes_prefix_is limit true text in (f.piece, f.parted, f.encodes, f.few)

-- no byte begins here
abbrev pub StopsData : List ℕ → Type 0
StopsData [] = Unit {0}
StopsData (c ∷ cs) = (is_ascii_hexdigit c ≡ false) × ((c == 46) ≡ false)

no_byte : (c : ℕ) (cs : List ℕ) → is_ascii_hexdigit c ≡ false → hexadecimal_byte (c ∷ cs) ≡ None
unfolding hexadecimal_byte
no_byte c [] other = refl
no_byte c (d ∷ ds) other = rw other refl

none_here : hexadecimal_byte [] ≡ None
unfolding hexadecimal_byte
none_here = refl

stops_next : (first : Bool) (rest : List ℕ) → StopsData rest → next_byte first rest ≡ None
unfolding next_byte
stops_next true [] stop = none_here
stops_next false [] stop = none_here
stops_next true (c ∷ cs) stop = no_byte c cs stop.0
stops_next false (c ∷ cs) stop = rw stop.1 (no_byte c cs stop.0)

-- digits behind nothing or a dot are a byte
hexadecimal_byte-digits : (high low : ℕ) (rest : List ℕ) → is_ascii_hexdigit high ≡ true → is_ascii_hexdigit low ≡ true → hexadecimal_byte (high ∷ low ∷ rest) ≡ Some (16 * digit_value high + digit_value low, rest)
unfolding hexadecimal_byte
hexadecimal_byte-digits high low rest h l = rw (h, l) refl

after_dot-mark : (mark : List ℕ) (high : ℕ) (rest : List ℕ) → IsMark mark → is_ascii_hexdigit high ≡ true → after_dot (mark ++ high ∷ rest) ≡ high ∷ rest
after_dot-mark mark high rest (inl none) h = let other : (high == 46) ≡ false = differs is_ascii_hexdigit high 46 h refl in rw (none, other) refl
after_dot-mark mark high rest (inr dot) h = rw dot refl

next_byte-leads : (first : Bool) (mark text piece rest : List ℕ) (b : ℕ) → MarkOf first mark → LeadsByte mark text b piece → next_byte first (text ++ rest) ≡ Some (b, piece ++ rest)
unfolding next_byte
next_byte-leads true mark text piece rest b is l =
    let e : text ≡ l.high ∷ l.low ∷ piece = l.parted ∙ ap (λ (m : List ℕ). m ++ l.high ∷ l.low ∷ piece) is in
    ap (λ (t : List ℕ). hexadecimal_byte (t ++ rest)) e ∙ hexadecimal_byte-digits l.high l.low (piece ++ rest) l.high_is l.low_is ∙ ap (λ (x : ℕ). Some (x, piece ++ rest)) (sym l.value)
next_byte-leads false mark text piece rest b is l =
    let e : text ++ rest ≡ mark ++ l.high ∷ (l.low ∷ (piece ++ rest)) = ap (λ (t : List ℕ). t ++ rest) l.parted ∙ append_assoc mark (l.high ∷ l.low ∷ piece) rest in
    ap (λ (t : List ℕ). hexadecimal_byte (after_dot t)) e ∙ ap hexadecimal_byte (after_dot-mark mark l.high (l.low ∷ (piece ++ rest)) is l.high_is)
    ∙ hexadecimal_byte-digits l.high l.low (piece ++ rest) l.high_is l.low_is ∙ ap (λ (x : ℕ). Some (x, piece ++ rest)) (sym l.value)

-- bytes that are encoded at the front are read there
bytes_prefix-encoded : (bytes : List ℕ) (limit : ℕ) (first : Bool) (piece rest : List ℕ) → EncodesFrom first piece bytes → length bytes ≤ limit → StopsData rest → bytes_prefix limit first (piece ++ rest) ≡ (bytes, rest)
bytes_prefix-encoded [] limit first piece rest encodes few stop =
    ap (λ (p : List ℕ). bytes_prefix limit first (p ++ rest)) (nothing first piece encodes) ∙ bytes_prefix-none limit first rest (stops_next first rest stop)
  where
    nothing : (first : Bool) (piece : List ℕ) → EncodesFrom first piece [] → piece ≡ []
    nothing true piece e = e
    nothing false piece e = e
bytes_prefix-encoded (b ∷ bytes) zero first piece rest encodes few stop = absurd (omega arith)
bytes_prefix-encoded (b ∷ bytes) (suc limit) true piece rest encodes few stop =
    bytes_prefix-some limit true (piece ++ rest) (encodes.0 ++ rest) b (next_byte-leads true [] piece encodes.0 rest b refl encodes.1)
    ∙ ap (λ (x : List ℕ × List ℕ). (b ∷ x.0, x.1)) (bytes_prefix-encoded bytes limit false encodes.0 rest encodes.2 (omega arith) stop)
bytes_prefix-encoded (b ∷ bytes) (suc limit) false piece rest encodes few stop =
    bytes_prefix-some limit false (piece ++ rest) (encodes.1 ++ rest) b (next_byte-leads false encodes.0 piece encodes.1 rest b encodes.2 encodes.3)
    ∙ ap (λ (x : List ℕ × List ℕ). (b ∷ x.0, x.1)) (bytes_prefix-encoded bytes limit false encodes.1 rest encodes.4 (omega arith) stop)

pub data-encoded : (limit : ℕ) (piece bytes rest : List ℕ) → EncodesData piece bytes → length bytes ≤ limit → StopsData rest → bytes_prefix limit true (piece ++ rest) ≡ (bytes, rest)
data-encoded limit piece bytes rest encodes few stop = bytes_prefix-encoded bytes limit true piece rest encodes few stop

-- neither the tail of a line nor a length code begins with a byte
pub tail_stops : (tail : List ℕ) → IsTail tail → StopsData tail
tail_stops [] is = tt
tail_stops (c ∷ cs) is = (blank_fails is_ascii_hexdigit refl refl refl c is, blank_fails (λ b. b == 46) refl refl refl c is)
