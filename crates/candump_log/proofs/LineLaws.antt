-- A text is read as the line that it encodes, and its interface where that is.
use Rattle.std.proofs.Common.{◌≡◌, ◌⊎◌, ℕ, ◌+◌, ◌-◌, ◌^◌, ◌<◌, ◌≤◌, Bool, true, false, cond, leb, List, ◌++◌, length, codes, Option, Some, None, refl, sym, ap, subst, ◌∙◌, arith, inl, inr, append_assoc, length-append, ◌↔◌, IsNone}
use Rattle.std.specs.Option.{option_map}
use Rattle.std.specs.List.{list_all}
use Rattle.std.specs.Char.{is_ascii_hexdigit}
use Rattle.std.proofs.lemmas.Bool.{cases_Bool, and_parts, leb-true, leb-false, le-leb}
use Rattle.byte_forms.specs.declared.numerals.Radix.TheVariants as radixes
use Rattle.byte_forms.specs.Numerals.{number_of}
use Rattle.bench_model.specs.declared.database.Key.{Key}
use Rattle.candump_log.specs.declared.log_line.LogLine.{LogLine}
use Rattle.candump_log.specs.declared.log_line.LogLine.TheVariants as line
use Rattle.candump_log.specs.declared.log_line.Span.{Span}
use Rattle.candump_log.specs.Data.{data_limit}
use Rattle.candump_log.specs.Line.{standard_limit, extended_limit, is_blank, AreDigits, LinePieces, prefix_text, behind_text, stamp, IsIdentifier, IsBody, frame_line, line_from, Encodes, IsLine, IsInterface, KeyFits, KeepsLimits}
use Rattle.candump_log.specs.LineOf.{stamp_prefix, after_blanks, after_word, is_tail, key_prefix, body_prefix, parts_of, read_line, line_or_bad, line_of, interface_of}
use Rattle.candump_log.proofs.ByteLaws.{PieceLaw, NumberLaw, bind_some}
use Rattle.candump_log.proofs.BlankLaws.{StopsAt, after_blanks_takes, after_blanks-append, after_word_takes, after_word-append, is_tail-true, is_tail-is, word_stops, blanks_stop, run_stops}
use Rattle.candump_log.proofs.StampLaws.{stamp_text, stamp_prefix_takes, stamp_prefix-text}
use Rattle.candump_log.proofs.FrameLaws.{key_prefix_takes, key_prefix-append, body_prefix_takes, body_prefix-append}

-- the line of a text and where its interface is
pub record Reads (text : List ℕ) (parts : Span × LogLine) : Type 0 where
  pub pieces : LinePieces
  pub encodes : Encodes text pieces parts.1
  pub at : parts.0.at ≡ length (prefix_text pieces)
  pub end : parts.0.end ≡ parts.0.at + length pieces.interface

prefix_append : (seconds micros gap rest : List ℕ) →
    (codes "(" ++ (seconds ++ (codes "." ++ (micros ++ (codes ")" ++ gap))))) ++ rest ≡ stamp_text seconds micros (gap ++ rest)
prefix_append seconds micros gap rest = simp append_assoc

tested : (b : Bool) (x y : Span × LogLine) → cond b (Some x) None ≡ Some y → (b ≡ true) × (x ≡ y)
tested true x y e = (refl, cc)
tested false x y e = absurd cc

-- the identifier stops the blanks before it
id_stops : (id rest : List ℕ) (key : Key) → IsIdentifier id key → StopsAt is_blank (id ++ rest)
id_stops id rest key is =
    let parts = and_parts _ (list_all is_ascii_hexdigit id) is.numeral in
    run_stops is_ascii_hexdigit refl refl refl id rest (by_form is.form) parts.1
  where
    by_form : ((length id ≡ 3) × (key.extended ≡ false) × (key.id ≤ standard_limit)) ⊎ ((length id ≡ 8) × (key.extended ≡ true) × (key.id ≤ extended_limit)) → 1 ≤ length id
    by_form (inl f) = omega (arith, f.0)
    by_form (inr f) = omega (arith, f.0)

-- where the interface of these pieces is
abbrev pub span_of : LinePieces → Span
span_of p = record { at = length (prefix_text p); end = length (prefix_text p) + length p.interface }

-- no pieces are a bad line's
from_not_bad : (micros : ℕ) (key : Key) (content : Option (List ℕ)) → line.Bad ≡ line_from micros key content → ⊥
from_not_bad micros key content e =
    elim (cases_Bool (leb (2 ^ 29) key.id)) [
      | inl high ↦ let no : line.Bad ≡ line.Error micros key.id = rw high at e in cc
      | inr low ↦ let no : line.Bad ≡ frame_line micros key content = rw low at e in by_content content no
    ]
  where
    by_content : (c : Option (List ℕ)) → line.Bad ≡ frame_line micros key c → ⊥
    by_content None e = cc
    by_content (Some bytes) e = cc

encoded_line : (text : List ℕ) (p : LinePieces) (l : LogLine) → Encodes text p l → IsLine text l
encoded_line text p line.Bad s = absurd (from_not_bad (stamp p) s.key s.content s.line_is)
encoded_line text p (line.Frame micros key bytes) s = (p, s)
encoded_line text p (line.Remote micros key) s = (p, s)
encoded_line text p (line.Error micros id) s = (p, s)

abbrev pub InterfaceAt : List ℕ → Option Span → Type 0
InterfaceAt text None = IsLine text line.Bad
InterfaceAt text (Some span) = IsInterface text span

key_fits : (digits : List ℕ) (key : Key) → IsIdentifier digits key → key.id < 2 ^ 29 → KeyFits key
key_fits digits key is low = by_form is.form
  where
    by_form : ((length digits ≡ 3) × (key.extended ≡ false) × (key.id ≤ standard_limit)) ⊎ ((length digits ≡ 8) × (key.extended ≡ true) × (key.id ≤ extended_limit)) → KeyFits key
    by_form (inl f) = (λ _. omega (arith, f.2), low)
    by_form (inr f) = (λ no. absurd (cc (no, f.1)), low)

content_fits : (body bytes : List ℕ) → IsBody body (Some bytes) → length bytes ≤ data_limit
content_fits body bytes (inl classic) = omega (arith, classic.few)
content_fits body bytes (inr fd) = fd.few

id-below : (digits : List ℕ) (key : Key) → IsIdentifier digits key → key.id < 2 ^ 30
id-below digits key is = by_form is.form
  where
    by_form : ((length digits ≡ 3) × (key.extended ≡ false) × (key.id ≤ standard_limit)) ⊎ ((length digits ≡ 8) × (key.extended ≡ true) × (key.id ≤ extended_limit)) → key.id < 2 ^ 30
    by_form (inl f) = omega (arith, f.2)
    by_form (inr f) = omega (arith, f.2)

from_keeps : (micros : ℕ) (digits body : List ℕ) (key : Key) (content : Option (List ℕ)) → micros < 10 ^ 18 → IsIdentifier digits key → IsBody body content → KeepsLimits (line_from micros key content)
from_keeps micros digits body key content stamp_fits id is =
    elim (cases_Bool (leb (2 ^ 29) key.id)) [
      | inl high ↦ rw high (stamp_fits, leb-true (2 ^ 29) key.id high, id-below digits key id)
      | inr low ↦ rw low (by_content content is (key_fits digits key id (leb-false (2 ^ 29) key.id low)))
    ]
  where
    by_content : (c : Option (List ℕ)) → IsBody body c → KeyFits key → KeepsLimits (frame_line micros key c)
    by_content None b fits = (stamp_fits, fits)
    by_content (Some bytes) b fits = (stamp_fits, fits, content_fits body bytes b)

span_same : (s : Span) (a b : ℕ) → s.at ≡ a → s.end ≡ b → s ≡ record { at = a; end = b }
span_same s a b e f = rw (← e, ← f) refl

some_first : (r : Option (Span × LogLine)) (s : Span) (l : LogLine) → r ≡ Some (s, l) → option_map (λ (x : Span × LogLine). x.0) r ≡ Some s
some_first r s l e = rw e refl

-- ---- by the laws of byte_forms

module _ (pieces : PieceLaw) (numbers : NumberLaw) where
  parts_of_takes : (text : List ℕ) (parts : Span × LogLine) → length text ≤ 512 → parts_of text ≡ Some parts → Reads text parts
  unfolding parts_of
  parts_of_takes text parts short e =
      let m = bind_some (stamp_prefix text) _ _ e in
      let w = bind_some (after_blanks m.0.1) _ _ m.2 in
      let b = bind_some (after_word w.0) _ _ w.2 in
      let f = bind_some (after_blanks b.0) _ _ b.2 in
      let k = bind_some (key_prefix f.0) _ _ f.2 in
      let c = bind_some (body_prefix k.0.1) _ _ k.2 in
      let test = tested (is_tail c.0.1) (record { at = length text - length w.0; end = length text - length b.0 }, line_from m.0.0 k.0.0 c.0.0) parts c.2 in
      let s = stamp_prefix_takes pieces.literal text m.0.1 m.0.0 m.1 in
      let gap = after_blanks_takes m.0.1 w.0 w.1 in
      let word = after_word_takes w.0 b.0 b.1 in
      let space = after_blanks_takes b.0 f.0 f.1 in
      let id = key_prefix_takes pieces numbers f.0 k.0.1 k.0.0 k.1 in
      let body = body_prefix_takes k.0.1 c.0.1 c.0.0 c.1 in
      let p : LinePieces = record { seconds = s.0; micros = s.1; gap = gap.0; interface = word.0; space = space.0; id = id.0; body = body.0; tail = c.0.1 } in
      let behind : b.0 ≡ behind_text p = space.2 ∙ ap (λ (r : List ℕ). space.0 ++ r) (id.2 ∙ ap (λ (r : List ℕ). id.0 ++ (codes "#" ++ r)) body.2) in
      let begun : text ≡ prefix_text p ++ w.0 = s.2.text ∙ ap (stamp_text s.0 s.1) gap.2 ∙ sym (prefix_append s.0 s.1 gap.0 w.0) in
      let whole : text ≡ prefix_text p ++ (p.interface ++ behind_text p) = begun ∙ ap (λ (r : List ℕ). prefix_text p ++ r) (word.2 ∙ ap (λ (r : List ℕ). word.0 ++ r) behind) in
      let long : length text ≡ length (prefix_text p) + length w.0 = ap length begun ∙ length-append (prefix_text p) w.0 in
      let word_long : length w.0 ≡ length word.0 + length b.0 = ap length word.2 ∙ length-append word.0 b.0 in
      let P : Span × LogLine → Type 0 = Reads text in
      subst P test.1 (record {
        pieces = p;
        encodes = record {
          parted = whole;
          short = short;
          seconds = s.2.seconds_are;
          micros = s.2.micros_are;
          gap = gap.1;
          interface = word.1;
          space = space.1;
          key = k.0.0;
          id = id.1;
          content = c.0.0;
          body = body.1;
          tail = is_tail-true c.0.1 test.0;
          line_is = ap (λ (n : ℕ). line_from n k.0.0 c.0.0) s.2.value;
        };
        at = omega (arith, long);
        end = omega (arith, long, word_long);
      })

  parts_of-encoded : (text : List ℕ) (p : LinePieces) (l : LogLine) → Encodes text p l → parts_of text ≡ Some (span_of p, l)
  unfolding parts_of
  parts_of-encoded text p l s =
      let field = p.id ++ (codes "#" ++ (p.body ++ p.tail)) in
      let begun : text ≡ stamp_text p.seconds p.micros (p.gap ++ (p.interface ++ behind_text p)) = s.parted ∙ prefix_append p.seconds p.micros p.gap (p.interface ++ behind_text p) in
      let stamp_is = ap stamp_prefix begun ∙ stamp_prefix-text pieces.literal p.seconds p.micros (p.gap ++ (p.interface ++ behind_text p)) s.seconds s.micros in
      let gap_is = after_blanks-append p.gap (p.interface ++ behind_text p) s.gap (word_stops p.interface (behind_text p) s.interface) in
      let word_is = after_word-append p.interface (behind_text p) s.interface (blanks_stop p.space field s.space) in
      let space_is = after_blanks-append p.space field s.space (id_stops p.id (codes "#" ++ (p.body ++ p.tail)) s.key s.id) in
      let key_is = key_prefix-append pieces numbers p.id (p.body ++ p.tail) s.key s.id in
      let body_is = body_prefix-append p.body p.tail s.content s.body s.tail in
      let tail_is = is_tail-is p.tail s.tail in
      let long : length text ≡ length (prefix_text p) + (length p.interface + length (behind_text p)) =
      ap length s.parted ∙ length-append (prefix_text p) (p.interface ++ behind_text p) ∙ ap (λ (n : ℕ). length (prefix_text p) + n) (length-append p.interface (behind_text p)) in
      let at : length text - length (p.interface ++ behind_text p) ≡ length (prefix_text p) = omega (arith, long, length-append p.interface (behind_text p)) in
      let end : length text - length (behind_text p) ≡ length (prefix_text p) + length p.interface = omega (arith, long) in
      rw (stamp_is, gap_is, word_is, space_is, key_is, body_is, tail_is)
      (ap (λ (x : Span × LogLine). Some x) (same_parts _ _ _ _ _ l at end (sym s.line_is)))
    where
      same_parts : (a b c d : ℕ) (k l : LogLine) → a ≡ c → b ≡ d → k ≡ l → ◌≡◌ {A = Span × LogLine} (record { at = a; end = b }, k) (record { at = c; end = d }, l)
      same_parts a b c d k l e f g = rw (e, f, g) refl

  pub read_line_takes : (text : List ℕ) (parts : Span × LogLine) → read_line text ≡ Some parts → Reads text parts
  unfolding read_line
  read_line_takes text parts e =
      elim (cases_Bool (leb (length text) 512)) [
        | inl short ↦ parts_of_takes text parts (leb-true (length text) 512 short) (rw short at e)
        | inr long ↦ absurd (cc (rw long at e))
      ]

  pub read_line-encoded : (text : List ℕ) (p : LinePieces) (l : LogLine) → Encodes text p l → read_line text ≡ Some (span_of p, l)
  unfolding read_line
  read_line-encoded text p l s = rw (le-leb (length text) 512 s.short) (parts_of-encoded text p l s)

  -- a text is the line that is read
  pub line_of-is : (text : List ℕ) → IsLine text (line_of text)
  unfolding line_of
  line_of-is text = by_read (read_line text) refl
    where
      by_read : (r : Option (Span × LogLine)) → read_line text ≡ r → IsLine text (line_or_bad r)
      by_read None e = λ p l s. let some = read_line-encoded text p l s in absurd cc
      by_read (Some parts) e = let r = read_line_takes text parts e in encoded_line text r.pieces parts.1 r.encodes

  line_of-encoded : (text : List ℕ) (p : LinePieces) (l : LogLine) → Encodes text p l → line_of text ≡ l
  unfolding line_of
  line_of-encoded text p l s = ap line_or_bad (read_line-encoded text p l s)

  line_of-bad : (text : List ℕ) → ((p : LinePieces) (l : LogLine) → Encodes text p l → ⊥) → line_of text ≡ line.Bad
  unfolding line_of
  line_of-bad text none = by_read (read_line text) refl
    where
      by_read : (r : Option (Span × LogLine)) → read_line text ≡ r → line_or_bad r ≡ line.Bad
      by_read None e = refl
      by_read (Some parts) e = let r = read_line_takes text parts e in absurd (none r.pieces parts.1 r.encodes)

  -- and no other
  pub line_of-one : (text : List ℕ) (l : LogLine) → IsLine text l → line_of text ≡ l
  line_of-one text line.Bad is = line_of-bad text is
  line_of-one text (line.Frame micros key bytes) is = line_of-encoded text is.0 _ is.1
  line_of-one text (line.Remote micros key) is = line_of-encoded text is.0 _ is.1
  line_of-one text (line.Error micros id) is = line_of-encoded text is.0 _ is.1

  pub interface_of-is : (text : List ℕ) → InterfaceAt text (interface_of text)
  unfolding interface_of
  interface_of-is text = by_read (read_line text) refl
    where
      by_read : (r : Option (Span × LogLine)) → read_line text ≡ r → InterfaceAt text (option_map (λ (x : Span × LogLine). x.0) r)
      by_read None e = λ p l s. let some = read_line-encoded text p l s in absurd cc
      by_read (Some parts) e = let r = read_line_takes text parts e in record { pieces = r.pieces; line = parts.1; encodes = r.encodes; at = r.at; end = r.end }

  number_fits : (least most : ℕ) (text : List ℕ) → AreDigits least most text → number_of radixes.Decimal text < 10 ^ most
  number_fits least most text are = numbers.below text most are.0 are.2

  stamp-below : (text : List ℕ) (p : LinePieces) (l : LogLine) → Encodes text p l → stamp p < 10 ^ 18
  stamp-below text p l s =
      let a = number_fits 1 12 p.seconds s.seconds in
      let b = number_fits 6 6 p.micros s.micros in
      omega (arith, a, b)

  -- each line keeps its limits
  pub line_of-keeps : (text : List ℕ) → KeepsLimits (line_of text)
  unfolding line_of
  line_of-keeps text = by_read (read_line text) refl
    where
      by_read : (r : Option (Span × LogLine)) → read_line text ≡ r → KeepsLimits (line_or_bad r)
      by_read None e = tt
      by_read (Some parts) e =
          let r = read_line_takes text parts e in
          let s = r.encodes in
          let P : LogLine → Type 0 = KeepsLimits in
          subst P (sym s.line_is) (from_keeps (stamp r.pieces) r.pieces.id r.pieces.body s.key s.content (stamp-below text r.pieces parts.1 s) s.id s.body)

  -- the interface is at one place
  pub interface_of-one : (text : List ℕ) (span : Span) → IsInterface text span → interface_of text ≡ Some span
  unfolding interface_of
  interface_of-one text span is =
      some_first (read_line text) span is.line
      (read_line-encoded text is.pieces is.line is.encodes
      ∙ ap (λ (s : Span). Some (s, is.line)) (sym (span_same span (length (prefix_text is.pieces)) (length (prefix_text is.pieces) + length is.pieces.interface) is.at (omega (arith, is.at, is.end)))))

  -- and is at the place that is read, none exactly in a bad line
  pub interface_exactly : (text : List ℕ) (span : Span) → (interface_of text ≡ Some span) ↔ IsInterface text span
  interface_exactly text span = (λ e. let P : Option Span → Type 0 = InterfaceAt text in subst P e (interface_of-is text), interface_of-one text span)

  pub no_interface_exactly : (text : List ℕ) → (interface_of text ≡ None) ↔ IsLine text line.Bad
  no_interface_exactly text = (λ e. let P : Option Span → Type 0 = InterfaceAt text in subst P e (interface_of-is text), none_is (interface_of text) (interface_of-is text))
    where
      none_is : (o : Option Span) → InterfaceAt text o → IsLine text line.Bad → o ≡ None
      none_is None at bad = refl
      none_is (Some span) at bad = absurd (bad at.pieces at.line at.encodes)

-- ---- what `interface` says, by what is so of each text

abbrev pub IsExact : List ℕ → Type 0
IsExact text = ((span : Span) → (interface_of text ≡ Some span) ↔ IsInterface text span) × ((interface_of text ≡ None) ↔ IsLine text line.Bad)

pub interface-at : (text : List ℕ) → IsExact text → InterfaceAt text (interface_of text)
interface-at text exact = by_place (interface_of text) refl
  where
    by_place : (o : Option Span) → interface_of text ≡ o → InterfaceAt text o
    by_place None e = exact.1.0 e
    by_place (Some span) e = (exact.0 span).0 e

pub interface-none : (text : List ℕ) (r : Option Span) → IsExact text → r ≡ interface_of text → IsNone r ↔ IsLine text line.Bad
interface-none text None exact e = (λ _. exact.1.0 (sym e), λ _. refl)
interface-none text (Some span) exact e = (λ no. absurd cc, λ bad. let none = exact.1.1 bad in absurd cc)

abbrev pub IsWithin : List ℕ → Span → Type 0
IsWithin text span = (span.at < span.end) × (span.end ≤ length text)

pub interface-within : (text : List ℕ) (span : Span) → IsInterface text span → IsWithin text span
interface-within text span at =
    let p = at.pieces in
    let word = at.encodes.interface.0 in
    let long : length text ≡ length (prefix_text p) + (length p.interface + length (behind_text p)) =
    ap length at.encodes.parted ∙ length-append (prefix_text p) (p.interface ++ behind_text p) ∙ ap (λ (n : ℕ). length (prefix_text p) + n) (length-append p.interface (behind_text p)) in
    (omega (arith, at.at, at.end, word), omega (arith, at.at, at.end, long))

pub interface_read : (text : List ℕ) (r : Option (Span × LogLine)) → r ≡ read_line text → option_map (λ (x : Span × LogLine). x.0) r ≡ interface_of text
unfolding interface_of
interface_read text r e = ap (λ (o : Option (Span × LogLine)). option_map (λ (x : Span × LogLine). x.0) o) e
