-- What the form of a row finds is there, a lemma a form.
use Rattle.std.proofs.Common.{◌≡◌, ◌∙◌, sym, ap, refl, subst, ℕ, ◌⊎◌, inl, inr, Bool, true, false, List, ◌∷◌, length}
use Rattle.std.specs.Prelude.{Option, Some, None, codes}
use Rattle.sig_text.specs.declared.token.Token.{Token}
use Rattle.token_forms.specs.Pieces.{token_text, word_at}
use Rattle.token_forms.specs.Numbers.{number_up_to_at}
use Rattle.ldf_grammar.specs.Sizes as kinds
use Rattle.ldf_grammar.specs.Sizes.{EntryKind, greatest_number, most_bits, last_identifier, most_bytes, last_offset, is_size, entry_kind}
use Rattle.ldf_grammar.specs.LineForms.{next_word, next_number, next_signed, array_value, number_value, initial_value, signal_size, signal_line, frame_signal}
use Rattle.ldf_grammar.specs.LineForms.{frame_id, frame_length, frame, string_end, plain_end, last_string, logical, physical, entry_by, entry, word_before}
use Rattle.ldf_grammar.specs.LineForms.{encoding, representation}
use Rattle.token_forms.specs.Grammar.{◌▸◌, Any, One, Quoted, IsWord, IsString, NumberUpTo}
use Rattle.ldf_grammar.specs.Statements.{Part, UpTo, Says, Keyword, NextWord, NextNumber, NextSigned, Init, SignalRow, FrameSignalRow, FrameRow, LastString}
use Rattle.ldf_grammar.specs.Statements.{EntryRow, EncodingRow, RepresentationRow}
use Rattle.ldf_grammar.specs.declared.statement.EncodingEntry.{EncodingEntry}
use Rattle.ldf_grammar.specs.declared.statement.EncodingEntry.TheVariants.{Logical, Physical, Plain}
use Rattle.ldf_grammar.proofs.PartLaws.{Pieces, IsSound, opened, ends, demanded, expect_found, either_found, until_found, no_some, equal_or_not}

module _ (pieces : Pieces) where
  number_here : (text : List ℕ) (limit : ℕ) → IsSound (NumberUpTo text limit) (number_up_to_at text limit)
  number_here text limit tokens found e = (pieces.number text limit tokens found.0 found.1).0 e

  pub word_here : IsSound (One IsWord) word_at
  word_here tokens found e = (pieces.word tokens found.0 found.1).0 e

  next_word_here : (text : List ℕ) → IsSound (NextWord text) (next_word text)
  unfolding next_word
  next_word_here text tokens found e =
      let comma = opened _ _ tokens found e in
      (comma.1, expect_found pieces text (codes ",") tokens _ comma.2, word_here comma.1 found comma.3)

  next_number_here : (text : List ℕ) → IsSound (NextNumber text) (next_number text)
  unfolding next_number
  next_number_here text tokens found e =
      let comma = opened _ _ tokens found e in
      (comma.1, expect_found pieces text (codes ",") tokens _ comma.2, number_here text greatest_number comma.1 found comma.3)

  next_signed_here : (text : List ℕ) → IsSound (NextSigned text) (next_signed text)
  unfolding next_signed
  next_signed_here text tokens found e =
      let comma = opened _ _ tokens found e in
      (comma.1, expect_found pieces text (codes ",") tokens _ comma.2, (pieces.signed text comma.1 found.0 found.1).0 comma.3)

  -- ---- signals

  abbrev ArrayRest : List ℕ → Part
  ArrayRest text = Any (NumberUpTo text greatest_number) ▸ Any (UpTo text (codes "}") (NextNumber text))

  array_value_here : (text : List ℕ) (tokens : List Token) (found : Bool × List Token) → array_value text tokens ≡ Some found
      → (found.0 ≡ true) × ArrayRest text tokens found.1
  unfolding array_value
  array_value_here text tokens found e =
      let first = opened _ _ tokens found e in
      let others = opened _ _ first.1 found first.3 in
      ends (λ (b : Bool) (from to : List Token). (b ≡ true) × ArrayRest text from to) tokens others.1 true found others.3 (
        refl,
        (
          first.1,
          (first.0, number_here text greatest_number tokens _ first.2),
          (others.0, until_found pieces text (codes "}") (NextNumber text) (next_number text) (next_number_here text) first.1 _ others.2),
        ),
      )

  number_value_here : (text : List ℕ) (tokens : List Token) (found : Bool × List Token) → number_value text tokens ≡ Some found
      → (found.0 ≡ false) × Any (NumberUpTo text greatest_number) tokens found.1
  unfolding number_value
  number_value_here text tokens found e =
      let number = opened _ _ tokens found e in
      ends (λ (b : Bool) (from to : List Token). (b ≡ false) × Any (NumberUpTo text greatest_number) from to) tokens number.1 false found number.3
      (refl, (number.0, number_here text greatest_number tokens _ number.2))

  initial_value_here : (text : List ℕ) → IsSound (Init text) (initial_value text)
  unfolding initial_value
  initial_value_here text tokens found e =
      let P : Bool → Type 0 = λ b. Init text b tokens found.1 in
      elim (either_found pieces text (codes "{") (array_value text) (number_value text) tokens found e) [
        | inl braced ↦
            let array = array_value_here text braced.0 found braced.2 in
            subst P (sym array.0) (braced.0, braced.1, array.1)
        | inr plain ↦ let number = number_value_here text tokens found plain.1 in subst P (sym number.0) number.1
      ]

  abbrev SizeRow : List ℕ → Token × ℕ → Part
  SizeRow text sized = One IsWord sized.0 ▸ Quoted text (codes ":") ▸ NumberUpTo text most_bits sized.1 ▸ Quoted text (codes ",")

  signal_size_here : (text : List ℕ) → IsSound (SizeRow text) (signal_size text)
  unfolding signal_size
  signal_size_here text tokens found e =
      let name = opened _ _ tokens found e in
      let colon = opened _ _ name.1 found name.3 in
      let size = opened _ _ colon.1 found colon.3 in
      let comma = opened _ _ size.1 found size.3 in
      ends (SizeRow text) tokens comma.1 (name.0, size.0) found comma.3 (
        name.1,
        word_here tokens _ name.2,
        (
          colon.1,
          expect_found pieces text (codes ":") name.1 _ colon.2,
          (size.1, number_here text most_bits colon.1 _ size.2, expect_found pieces text (codes ",") size.1 _ comma.2),
        ),
      )

  pub signal_line_here : (text : List ℕ) → IsSound (SignalRow text) (signal_line text)
  unfolding signal_line
  signal_line_here text tokens found e =
      let sized = opened _ _ tokens found e in
      let init = opened _ _ sized.1 found sized.3 in
      let fits = opened _ _ init.1 found init.3 in
      let publisher = opened _ _ fits.1 found fits.3 in
      let subscribers = opened _ _ publisher.1 found publisher.3 in
      let head = signal_size_here text tokens _ sized.2 in
      let tested = demanded (is_size sized.0.1 init.0) init.1 _ fits.2 in
      let P : List Token → Type 0 = λ ts. Init text init.0 sized.1 ts in
      ends (SignalRow text) tokens subscribers.1 (record { name = sized.0.0; size = sized.0.1; is_array = init.0 }) found subscribers.3 (
        (
          head.0,
          head.1,
          (
            head.2.0,
            head.2.1,
            (
              head.2.2.0,
              head.2.2.1,
              (
                sized.1,
                head.2.2.2,
                (
                  fits.1,
                  subst P tested.1 (initial_value_here text sized.1 _ init.2),
                  (
                    publisher.1,
                    (publisher.0, next_word_here text fits.1 _ publisher.2),
                    (subscribers.0, until_found pieces text (codes ";") (NextWord text) (next_word text) (next_word_here text) publisher.1 _ subscribers.2),
                  ),
                ),
              ),
            ),
          ),
        ),
        tested.0,
      )

  -- ---- frames

  frame_signal_here : (text : List ℕ) → IsSound (FrameSignalRow text) (frame_signal text)
  unfolding frame_signal
  frame_signal_here text tokens found e =
      let name = opened _ _ tokens found e in
      let comma = opened _ _ name.1 found name.3 in
      let offset = opened _ _ comma.1 found comma.3 in
      let end = opened _ _ offset.1 found offset.3 in
      ends (FrameSignalRow text) tokens end.1 (record { name = name.0; offset = offset.0 }) found end.3 (
        name.1,
        word_here tokens _ name.2,
        (
          comma.1,
          expect_found pieces text (codes ",") name.1 _ comma.2,
          (offset.1, number_here text last_offset comma.1 _ offset.2, expect_found pieces text (codes ";") offset.1 _ end.2),
        ),
      )

  abbrev IdRow : List ℕ → Token × ℕ → Part
  IdRow text named = One IsWord named.0 ▸ Quoted text (codes ":") ▸ NumberUpTo text last_identifier named.1 ▸ Quoted text (codes ",")

  frame_id_here : (text : List ℕ) → IsSound (IdRow text) (frame_id text)
  unfolding frame_id
  frame_id_here text tokens found e =
      let name = opened _ _ tokens found e in
      let colon = opened _ _ name.1 found name.3 in
      let id = opened _ _ colon.1 found colon.3 in
      let comma = opened _ _ id.1 found id.3 in
      ends (IdRow text) tokens comma.1 (name.0, id.0) found comma.3 (
        name.1,
        word_here tokens _ name.2,
        (
          colon.1,
          expect_found pieces text (codes ":") name.1 _ colon.2,
          (id.1, number_here text last_identifier colon.1 _ id.2, expect_found pieces text (codes ",") id.1 _ comma.2),
        ),
      )

  abbrev LengthRow : List ℕ → ℕ → Part
  LengthRow text length = Any (One IsWord) ▸ Quoted text (codes ",") ▸ NumberUpTo text most_bytes length ▸ Quoted text (codes "{")

  frame_length_here : (text : List ℕ) → IsSound (LengthRow text) (frame_length text)
  unfolding frame_length
  frame_length_here text tokens found e =
      let publisher = opened _ _ tokens found e in
      let comma = opened _ _ publisher.1 found publisher.3 in
      let length = opened _ _ comma.1 found comma.3 in
      let opening = opened _ _ length.1 found length.3 in
      ends (LengthRow text) tokens opening.1 length.0 found opening.3 (
        publisher.1,
        (publisher.0, word_here tokens _ publisher.2),
        (
          comma.1,
          expect_found pieces text (codes ",") publisher.1 _ comma.2,
          (length.1, number_here text most_bytes comma.1 _ length.2, expect_found pieces text (codes "{") length.1 _ opening.2),
        ),
      )

  pub frame_here : (text : List ℕ) → IsSound (FrameRow text) (frame text)
  unfolding frame
  frame_here text tokens found e =
      let named = opened _ _ tokens found e in
      let length = opened _ _ named.1 found named.3 in
      let signals = opened _ _ length.1 found length.3 in
      let head = frame_id_here text tokens _ named.2 in
      let size = frame_length_here text named.1 _ length.2 in
      ends (FrameRow text) tokens signals.1 (record { name = named.0.0; id = named.0.1; length = length.0; signals = signals.0 }) found signals.3 (
        head.0,
        head.1,
        (
          head.2.0,
          head.2.1,
          (
            head.2.2.0,
            head.2.2.1,
            (
              named.1,
              head.2.2.2,
              (
                size.0,
                size.1,
                (
                  size.2.0,
                  size.2.1,
                  (
                    size.2.2.0,
                    size.2.2.1,
                    (
                      length.1,
                      size.2.2.2,
                      until_found pieces text (codes "}") (FrameSignalRow text) (frame_signal text) (frame_signal_here text) length.1 _ signals.2,
                    ),
                  ),
                ),
              ),
            ),
          ),
        ),
      )

  -- ---- encodings

  string_end_here : (text : List ℕ) (tokens : List Token) (found : Option Token × List Token) → string_end text tokens ≡ Some found
      → (string : Token) × (found.0 ≡ Some string) × (One IsString string ▸ Quoted text (codes ";")) tokens found.1
  unfolding string_end
  string_end_here text tokens found e =
      let string = opened _ _ tokens found e in
      let end = opened _ _ string.1 found string.3 in
      ends (λ (o : Option Token) (from to : List Token). (s : Token) × (o ≡ Some s) × (One IsString s ▸ Quoted text (codes ";")) from to)
      tokens end.1 (Some string.0) found end.3
      (string.0, refl, (string.1, (pieces.string tokens string.0 string.1).0 string.2, expect_found pieces text (codes ";") string.1 _ end.2))

  plain_end_here : {A : Type 0} (text : List ℕ) (x : A) (tokens : List Token) (found : A × List Token) → plain_end text x tokens ≡ Some found
      → (found.0 ≡ x) × Quoted text (codes ";") tokens found.1
  unfolding plain_end
  plain_end_here {A} text x tokens found e =
      let end = opened _ _ tokens found e in
      ends (λ (y : A) (from to : List Token). (y ≡ x) × Quoted text (codes ";") from to) tokens end.1 x found end.3
      (refl, expect_found pieces text (codes ";") tokens _ end.2)

  last_string_here : (text : List ℕ) → IsSound (LastString text) (last_string text)
  unfolding last_string
  last_string_here text tokens found e =
      let P : Option Token → Type 0 = λ o. LastString text o tokens found.1 in
      elim (either_found pieces text (codes ",") (string_end text) (plain_end text None) tokens found e) [
        | inl comma ↦
            let string = string_end_here text comma.0 found comma.2 in
            subst P (sym string.1) (comma.0, comma.1, string.2)
        | inr plain ↦ let end = plain_end_here text None tokens found plain.1 in subst P (sym end.0) end.1
      ]

  -- an entry behind its word
  logical_here : (text : List ℕ) (start tokens : List Token) (found : EncodingEntry × List Token) → Keyword text (codes "logical_value") start tokens
      → logical text tokens ≡ Some found → EntryRow text found.0 start found.1
  unfolding logical
  logical_here text start tokens found there e =
      let raw = opened _ _ tokens found e in
      let words = opened _ _ raw.1 found raw.3 in
      ends (EntryRow text) start words.1 (Logical raw.0 words.0) found words.3
      (tokens, there, (raw.1, next_number_here text tokens _ raw.2, last_string_here text raw.1 _ words.2))

  physical_here : (text : List ℕ) (word : Token) (start tokens : List Token) (found : EncodingEntry × List Token)
      → One (Says text (codes "physical_value")) word start tokens
      → physical text word.at tokens ≡ Some found → EntryRow text found.0 start found.1
  unfolding physical
  physical_here text word start tokens found (prefix, is) e =
      let low = opened _ _ tokens found e in
      let high = opened _ _ low.1 found low.3 in
      let scale = opened _ _ high.1 found high.3 in
      let offset = opened _ _ scale.1 found scale.3 in
      let unit = opened _ _ offset.1 found offset.3 in
      ends (EntryRow text) start unit.1 (Physical word.at low.0 high.0 scale.0 offset.0 unit.0) found unit.3 (
        tokens,
        (word, (prefix, (is, refl))),
        (
          low.1,
          next_number_here text tokens _ low.2,
          (
            high.1,
            next_number_here text low.1 _ high.2,
            (
              scale.1,
              next_signed_here text high.1 _ scale.2,
              (offset.1, next_signed_here text scale.1 _ offset.2, last_string_here text offset.1 _ unit.2),
            ),
          ),
        ),
      )

  plain_here : (text : List ℕ) (word : Token) (start tokens : List Token) (found : EncodingEntry × List Token) → start ≡ word ∷ tokens
      → Says text (codes "bcd_value") word ⊎ Says text (codes "ascii_value") word
      → plain_end text Plain tokens ≡ Some found → EntryRow text found.0 start found.1
  plain_here text word start tokens found prefix is e =
      let end = plain_end_here text Plain tokens found e in
      let P : EncodingEntry → Type 0 = λ x. EntryRow text x start found.1 in
      subst P (sym end.0) (tokens, (word, (prefix, is)), end.1)

  -- which word it is decides the kind
  entry_by_here : (text : List ℕ) (word : Token) (start tokens : List Token) (found : EncodingEntry × List Token) → One IsWord word start tokens
      → entry_by text word.at (entry_kind (token_text text word)) tokens ≡ Some found → EntryRow text found.0 start found.1
  entry_by_here text word start tokens found (prefix, is) e =
      let name = token_text text word in
      let by : Option EntryKind → Option (EncodingEntry × List Token) = λ k. entry_by text word.at k tokens in
      elim (equal_or_not name (codes "logical_value")) [
        | inl same ↦
            let kind : entry_kind name ≡ Some kinds.Logical = rw same.1 refl in
            logical_here text start tokens found (word, (prefix, (is, same.0))) (sym (ap by kind) ∙ e)
        | inr no_logical ↦ elim (equal_or_not name (codes "physical_value")) [
          | inl same ↦
              let kind : entry_kind name ≡ Some kinds.Physical = rw (no_logical.1, same.1) refl in
              physical_here text word start tokens found (prefix, (is, same.0)) (sym (ap by kind) ∙ e)
          | inr no_physical ↦ elim (equal_or_not name (codes "bcd_value")) [
            | inl same ↦
                let kind : entry_kind name ≡ Some kinds.Plain = rw (no_logical.1, no_physical.1, same.1) refl in
                plain_here text word start tokens found prefix (inl (is, same.0)) (sym (ap by kind) ∙ e)
            | inr no_bcd ↦ elim (equal_or_not name (codes "ascii_value")) [
              | inl same ↦
                  let kind : entry_kind name ≡ Some kinds.Plain = rw (no_logical.1, no_physical.1, no_bcd.1, same.1) refl in
                  plain_here text word start tokens found prefix (inr (is, same.0)) (sym (ap by kind) ∙ e)
              | inr no_ascii ↦
                  let kind : entry_kind name ≡ None = rw (no_logical.1, no_physical.1, no_bcd.1, no_ascii.1) refl in
                  absurd (no_some (by (entry_kind name)) found (ap by kind) e)
            ]
          ]
        ]
      ]

  entry_here : (text : List ℕ) → IsSound (EntryRow text) (entry text)
  unfolding entry
  entry_here text tokens found e =
      let word = opened _ _ tokens found e in
      entry_by_here text word.0 tokens word.1 found (word_here tokens _ word.2) word.3

  word_before_here : (text literal : List ℕ) → IsSound (λ (word : Token). One IsWord word ▸ Quoted text literal) (word_before text literal)
  unfolding word_before
  word_before_here text literal tokens found e =
      let word = opened _ _ tokens found e in
      let sign = opened _ _ word.1 found word.3 in
      ends (λ (w : Token). One IsWord w ▸ Quoted text literal) tokens sign.1 word.0 found sign.3
      (word.1, word_here tokens _ word.2, expect_found pieces text literal word.1 _ sign.2)

  pub encoding_here : (text : List ℕ) → IsSound (EncodingRow text) (encoding text)
  unfolding encoding
  encoding_here text tokens found e =
      let name = opened _ _ tokens found e in
      let entries = opened _ _ name.1 found name.3 in
      let head = word_before_here text (codes "{") tokens _ name.2 in
      ends (EncodingRow text) tokens entries.1 (record { name = name.0; entries = entries.0 }) found entries.3
      (head.0, head.1, (name.1, head.2, until_found pieces text (codes "}") (EntryRow text) (entry text) (entry_here text) name.1 _ entries.2))

  pub representation_here : (text : List ℕ) → IsSound (RepresentationRow text) (representation text)
  unfolding representation
  representation_here text tokens found e =
      let name = opened _ _ tokens found e in
      let first = opened _ _ name.1 found name.3 in
      let others = opened _ _ first.1 found first.3 in
      let head = word_before_here text (codes ":") tokens _ name.2 in
      ends (RepresentationRow text) tokens others.1 (record { encoding = name.0; first = first.0; others = others.0 }) found others.3 (
        head.0,
        head.1,
        (
          name.1,
          head.2,
          (
            first.1,
            word_here name.1 _ first.2,
            until_found pieces text (codes ";") (NextWord text) (next_word text) (next_word_here text) first.1 _ others.2,
          ),
        ),
      )
