-- What is at the front of tokens the form of a statement finds, a lemma a form.
use Rattle.std.proofs.Common.{◌≡◌, ◌∙◌, sym, ap, refl, ℕ, ◌⊎◌, inl, inr, Bool, true, false, List, length, length-append, ◌<◌, ◌≤◌, arith}
use Rattle.std.specs.Prelude.{Option, Some, None, All, codes}
use Rattle.std.specs.Str.{bytes_eq}
use Rattle.sig_text.specs.declared.token.Token.{Token}
use Rattle.token_forms.specs.declared.numbers.SignedNumber.{SignedNumber}
use Rattle.token_forms.specs.Pieces.{token_text, word_at}
use Rattle.byte_forms.specs.declared.numerals.Radix.TheVariants.{Decimal}
use Rattle.byte_forms.specs.Numerals.{is_numeral}
use Rattle.token_forms.specs.Numbers.{number_up_to_at, is_hexadecimal}
use Rattle.ldf_grammar.specs.Sizes as kinds
use Rattle.ldf_grammar.specs.Sizes.{EntryKind, Section, greatest_number, most_bits, last_identifier, most_bytes, last_offset, is_size, entry_kind, section_of}
use Rattle.ldf_grammar.specs.Forms.{passed}
use Rattle.ldf_grammar.specs.LineForms.{next_word, next_number, next_signed, array_value, number_value, initial_value, signal_size, signal_line, frame_signal}
use Rattle.ldf_grammar.specs.LineForms.{frame_id, frame_length, frame, string_end, plain_end, last_string, logical, physical, entry_by, entry, word_before}
use Rattle.ldf_grammar.specs.LineForms.{encoding, representation}
use Rattle.ldf_grammar.specs.StatementForms.{header_line, other_section, signal_section, frame_section}
use Rattle.ldf_grammar.specs.StatementForms.{encoding_section, representation_section, passed_section, passed_line, section_by_kind, opened_section, statement_behind}
use Rattle.ldf_grammar.specs.StatementForms.{statement, whole_statement}
use Rattle.token_forms.specs.Grammar.{◌▸◌, Any, Lacks, One, Quoted, IsWord, IsString, NumberUpTo, Signed}
use Rattle.ldf_grammar.specs.Statements.{Part, UpTo, Tokens, Says, Keyword, NextWord, NextNumber, NextSigned, Init, SignalRow, FrameSignalRow, FrameRow, LastString}
use Rattle.ldf_grammar.specs.Statements.{EntryRow, EncodingRow, RepresentationRow, IsOpening, IsClosing, InPairs, StaysInLine, HasOtherName, HeaderRow, OtherRow}
use Rattle.ldf_grammar.specs.Statements as rows
use Rattle.ldf_grammar.specs.Statements.{FirstRow, Parses}
use Rattle.ldf_grammar.specs.StatementForms.{behind_name, after_first}
use Rattle.ldf_grammar.specs.declared.statement.SignalLine.{SignalLine}
use Rattle.ldf_grammar.specs.declared.statement.FrameSignal.{FrameSignal}
use Rattle.ldf_grammar.specs.declared.statement.Frame.{Frame}
use Rattle.ldf_grammar.specs.declared.statement.EncodingEntry.{EncodingEntry}
use Rattle.ldf_grammar.specs.declared.statement.EncodingEntry.TheVariants.{Logical, Physical, Plain}
use Rattle.ldf_grammar.specs.declared.statement.Encoding.{Encoding}
use Rattle.ldf_grammar.specs.declared.statement.Representation.{Representation}
use Rattle.ldf_grammar.specs.declared.statement.Statement.{Statement}
use Rattle.ldf_grammar.specs.declared.statement.Statement.TheVariants.{Signals, Frames, Encodings, Representations, PassedOver}
use Rattle.ldf_grammar.proofs.PartLaws.{Pieces, IsComplete, Takes, joined, says, demand_kept, expect_there, either_behind, either_other, until_there, first_same, apart}
use Rattle.ldf_grammar.proofs.PartLaws.{then_takes, any_takes, one_takes, quoted_takes, number_takes, signed_takes, up_to_takes, differs}
use Rattle.ldf_grammar.proofs.RunLaws.{taking_some}
use Rattle.ldf_grammar.proofs.BraceLaws.{line_there, section_there}

-- ---- each row takes a token at least

next_word_takes : (text : List ℕ) (word : Token) → Takes (NextWord text word)
next_word_takes text word = then_takes (Quoted text (codes ",")) (One IsWord word) (quoted_takes text (codes ",")) (one_takes IsWord word)

next_number_takes : (text : List ℕ) (n : ℕ) → Takes (NextNumber text n)
next_number_takes text n =
    then_takes (Quoted text (codes ",")) (NumberUpTo text greatest_number n) (quoted_takes text (codes ",")) (number_takes text greatest_number n)

next_signed_takes : (text : List ℕ) (n : SignedNumber) → Takes (NextSigned text n)
next_signed_takes text n = then_takes (Quoted text (codes ",")) (Signed text n) (quoted_takes text (codes ",")) (signed_takes text n)

init_takes : (text : List ℕ) (is_array : Bool) → Takes (Init text is_array)
init_takes text false = any_takes (NumberUpTo text greatest_number) (number_takes text greatest_number)
init_takes text true =
    then_takes _ _ (quoted_takes text (codes "{"))
    (then_takes _ _ (any_takes (NumberUpTo text greatest_number) (number_takes text greatest_number))
    (any_takes (UpTo text (codes "}") (NextNumber text)) (up_to_takes text (codes "}") (NextNumber text) (next_number_takes text))))

signal_row_takes : (text : List ℕ) (line : SignalLine) → Takes (SignalRow text line)
signal_row_takes text line tokens rest (row, fits) =
    then_takes _ _ (one_takes IsWord line.name)
    (then_takes _ _ (quoted_takes text (codes ":"))
    (then_takes _ _ (number_takes text most_bits line.size)
    (then_takes _ _ (quoted_takes text (codes ","))
    (then_takes _ _ (init_takes text line.is_array)
    (then_takes _ _ (any_takes (NextWord text) (next_word_takes text))
    (any_takes (UpTo text (codes ";") (NextWord text)) (up_to_takes text (codes ";") (NextWord text) (next_word_takes text)))))))) tokens rest row

frame_signal_row_takes : (text : List ℕ) (signal : FrameSignal) → Takes (FrameSignalRow text signal)
frame_signal_row_takes text signal =
    then_takes _ _ (one_takes IsWord signal.name)
    (then_takes _ _ (quoted_takes text (codes ","))
    (then_takes _ _ (number_takes text last_offset signal.offset) (quoted_takes text (codes ";"))))

frame_row_takes : (text : List ℕ) (frame : Frame) → Takes (FrameRow text frame)
frame_row_takes text frame =
    then_takes _ _ (one_takes IsWord frame.name)
    (then_takes _ _ (quoted_takes text (codes ":"))
    (then_takes _ _ (number_takes text last_identifier frame.id)
    (then_takes _ _ (quoted_takes text (codes ","))
    (then_takes _ _ (any_takes (One IsWord) (one_takes IsWord))
    (then_takes _ _ (quoted_takes text (codes ","))
    (then_takes _ _ (number_takes text most_bytes frame.length)
    (then_takes _ _ (quoted_takes text (codes "{"))
    (up_to_takes text (codes "}") (FrameSignalRow text) (frame_signal_row_takes text) frame.signals))))))))

last_string_takes : (text : List ℕ) (string : Option Token) → Takes (LastString text string)
last_string_takes text None = quoted_takes text (codes ";")
last_string_takes text (Some string) =
    then_takes _ _ (quoted_takes text (codes ",")) (then_takes _ _ (one_takes IsString string) (quoted_takes text (codes ";")))

entry_row_takes : (text : List ℕ) (entry : EncodingEntry) → Takes (EntryRow text entry)
entry_row_takes text (Logical raw words) =
    then_takes _ _ (any_takes (One (Says text (codes "logical_value"))) (one_takes (Says text (codes "logical_value"))))
    (then_takes _ _ (next_number_takes text raw) (last_string_takes text words))
entry_row_takes text (Physical at low high scale offset unit) =
    let Sort : Token → Type 0 = λ word. Says text (codes "physical_value") word × (word.at ≡ at) in
    then_takes _ _ (any_takes (One Sort) (one_takes Sort))
    (then_takes _ _ (next_number_takes text low)
    (then_takes _ _ (next_number_takes text high)
    (then_takes _ _ (next_signed_takes text scale)
    (then_takes _ _ (next_signed_takes text offset) (last_string_takes text unit)))))
entry_row_takes text Plain =
    let Sort : Token → Type 0 = λ word. Says text (codes "bcd_value") word ⊎ Says text (codes "ascii_value") word in
    then_takes _ _ (any_takes (One Sort) (one_takes Sort)) (quoted_takes text (codes ";"))

encoding_row_takes : (text : List ℕ) (encoding : Encoding) → Takes (EncodingRow text encoding)
encoding_row_takes text encoding =
    then_takes _ _ (one_takes IsWord encoding.name)
    (then_takes _ _ (quoted_takes text (codes "{")) (up_to_takes text (codes "}") (EntryRow text) (entry_row_takes text) encoding.entries))

representation_row_takes : (text : List ℕ) (line : Representation) → Takes (RepresentationRow text line)
representation_row_takes text line =
    then_takes _ _ (one_takes IsWord line.encoding)
    (then_takes _ _ (quoted_takes text (codes ":"))
    (then_takes _ _ (one_takes IsWord line.first) (up_to_takes text (codes ";") (NextWord text) (next_word_takes text) line.others)))

-- tokens of any kind leave no more than there were
tokens_leave : (Are : List Token → Type 0) (tokens rest : List Token) → Tokens Are tokens rest → length rest ≤ length tokens
tokens_leave Are tokens rest (prefix, is, are) = let added = length-append prefix rest in rw is (omega (arith, added))

passed_takes : (Are : List Token → Type 0) (First Sign End : Part) → Takes First → Takes Sign → Takes End → Takes (First ▸ Sign ▸ Tokens Are ▸ End)
passed_takes Are First Sign End first sign end tokens rest (b, is, (c, signed, (d, there, ended))) =
    let m = first tokens b is in
    let n = sign b c signed in
    let o = tokens_leave Are c d there in
    let p = end d rest ended in
    omega (arith, m, n, o, p)

section_takes : {A : Type 0} (text name : List ℕ) (Row : A → Part) → ((x : A) → Takes (Row x)) → (xs : List A) → Takes (rows.Section text name Row xs)
section_takes text name Row takes xs =
    then_takes _ _ (any_takes (One (Says text name)) (one_takes (Says text name)))
    (then_takes _ _ (quoted_takes text (codes "{")) (up_to_takes text (codes "}") Row takes xs))

statement_shorter : (text : List ℕ) (tokens : List Token) (x : Statement) (rest : List Token) → Parses text tokens x rest → length rest < length tokens
statement_shorter text tokens (Signals lines) rest there =
    section_takes text (codes "Signals") (SignalRow text) (signal_row_takes text) lines tokens rest there
statement_shorter text tokens (Frames frames) rest there =
    section_takes text (codes "Frames") (FrameRow text) (frame_row_takes text) frames tokens rest there
statement_shorter text tokens (Encodings encodings) rest there =
    section_takes text (codes "Signal_encoding_types") (EncodingRow text) (encoding_row_takes text) encodings tokens rest there
statement_shorter text tokens (Representations lines) rest there =
    section_takes text (codes "Signal_representation") (RepresentationRow text) (representation_row_takes text) lines tokens rest there
statement_shorter text tokens PassedOver rest (inl there) =
    passed_takes (All (StaysInLine text)) (Any (One IsWord)) (Quoted text (codes "=")) (Quoted text (codes ";"))
    (any_takes (One IsWord) (one_takes IsWord)) (quoted_takes text (codes "=")) (quoted_takes text (codes ";")) tokens rest there
statement_shorter text tokens PassedOver rest (inr there) =
    passed_takes (InPairs text) (Any (One (HasOtherName text))) (Quoted text (codes "{")) (Quoted text (codes "}"))
    (any_takes (One (HasOtherName text)) (one_takes (HasOtherName text))) (quoted_takes text (codes "{")) (quoted_takes text (codes "}")) tokens rest there

-- a sign is not another one
another : (text sign literal : List ℕ) (tokens rest : List Token) → bytes_eq sign literal ≡ false → Quoted text sign tokens rest → Lacks (Quoted text literal) tokens
another text sign literal tokens rest differ (token, (prefix, is)) left (seen, (there, reads)) =
    apart sign literal differ (sym is ∙ ap (token_text text) (first_same token seen rest left (sym prefix ∙ there)) ∙ reads)

-- a number is no brace
no_brace : (text : List ℕ) (limit n : ℕ) (tokens rest : List Token) → NumberUpTo text limit n tokens rest → Lacks (Quoted text (codes "{")) tokens
no_brace text limit n tokens rest (token, (prefix, (is, has))) left (seen, (there, reads)) =
    let says = ap (token_text text) (first_same token seen rest left (sym prefix ∙ there)) ∙ reads in
    elim has [
      | inl decimal ↦ not_digits (sym (ap (is_numeral Decimal) says) ∙ decimal.1.digits)
      | inr marked ↦ not_digits (sym (ap is_hexadecimal says) ∙ marked.0)
    ] where
      not_digits : false ≡ true → ⊥
      not_digits e = cc

module _ (pieces : Pieces) where
  number_there : (text : List ℕ) (limit : ℕ) → IsComplete (NumberUpTo text limit) (number_up_to_at text limit)
  number_there text limit n tokens rest there = (pieces.number text limit tokens n rest).1 there

  word_there : IsComplete (One IsWord) word_at
  word_there word tokens rest there = (pieces.word tokens word rest).1 there

  next_word_there : (text : List ℕ) → IsComplete (NextWord text) (next_word text)
  unfolding next_word
  next_word_there text word tokens rest (middle, comma, there) =
      joined _ _ tokens middle tt (Some (word, rest)) (expect_there pieces text (codes ",") tokens middle comma) (word_there word middle rest there)

  next_number_there : (text : List ℕ) → IsComplete (NextNumber text) (next_number text)
  unfolding next_number
  next_number_there text n tokens rest (middle, comma, there) =
      joined _ _ tokens middle tt (Some (n, rest)) (expect_there pieces text (codes ",") tokens middle comma)
      (number_there text greatest_number n middle rest there)

  next_signed_there : (text : List ℕ) → IsComplete (NextSigned text) (next_signed text)
  unfolding next_signed
  next_signed_there text n tokens rest (middle, comma, there) =
      joined _ _ tokens middle tt (Some (n, rest)) (expect_there pieces text (codes ",") tokens middle comma)
      ((pieces.signed text middle n rest).1 there)

  -- ---- signals

  array_value_there : (text : List ℕ) (tokens rest : List Token)
      → (Any (NumberUpTo text greatest_number) ▸ Any (UpTo text (codes "}") (NextNumber text))) tokens rest → array_value text tokens ≡ Some (true, rest)
  unfolding array_value
  array_value_there text tokens rest (middle, (first, one), (others, more)) =
      joined _ _ tokens middle first (Some (true, rest)) (number_there text greatest_number first tokens middle one)
      (joined _ _ middle rest others (Some (true, rest))
      (until_there pieces text (codes "}") (NextNumber text) (next_number text) (next_number_takes text) (next_number_there text) others middle rest more)
      (says true rest))

  number_value_there : (text : List ℕ) (n : ℕ) (tokens rest : List Token) → NumberUpTo text greatest_number n tokens rest
      → number_value text tokens ≡ Some (false, rest)
  unfolding number_value
  number_value_there text n tokens rest there =
      joined _ _ tokens rest n (Some (false, rest)) (number_there text greatest_number n tokens rest there) (says false rest)

  initial_value_there : (text : List ℕ) → IsComplete (Init text) (initial_value text)
  unfolding initial_value
  initial_value_there text false tokens rest (n, there) =
      either_other pieces text (codes "{") (array_value text) (number_value text) tokens (Some (false, rest))
      (no_brace text greatest_number n tokens rest there) (number_value_there text n tokens rest there)
  initial_value_there text true tokens rest (middle, opening, there) =
      either_behind pieces text (codes "{") (array_value text) (number_value text) tokens middle (Some (true, rest)) opening
      (array_value_there text middle rest there)

  signal_size_there : (text : List ℕ) (name : Token) (size : ℕ) (a b c d e : List Token) → One IsWord name a b → Quoted text (codes ":") b c
      → NumberUpTo text most_bits size c d → Quoted text (codes ",") d e → signal_size text a ≡ Some ((name, size), e)
  unfolding signal_size
  signal_size_there text name size a b c d e word colon number comma =
      joined _ _ a b name (Some ((name, size), e)) (word_there name a b word)
      (joined _ _ b c tt (Some ((name, size), e)) (expect_there pieces text (codes ":") b c colon)
      (joined _ _ c d size (Some ((name, size), e)) (number_there text most_bits size c d number)
      (joined _ _ d e tt (Some ((name, size), e)) (expect_there pieces text (codes ",") d e comma) (says (name, size) e))))

  signal_line_there : (text : List ℕ) → IsComplete (SignalRow text) (signal_line text)
  unfolding signal_line
  signal_line_there text line tokens rest ((b, name, (c, colon, (d, size, (e, comma, (f, init, (g, (publisher, next), (subscribers, more))))))), fits) =
      joined _ _ tokens e (line.name, line.size) (Some (line, rest)) (signal_size_there text line.name line.size tokens b c d e name colon size comma)
      (joined _ _ e f line.is_array (Some (line, rest)) (initial_value_there text line.is_array e f init)
      (joined _ _ f f tt (Some (line, rest)) (demand_kept (is_size line.size line.is_array) f fits)
      (joined _ _ f g publisher (Some (line, rest)) (next_word_there text publisher f g next)
      (joined _ _ g rest subscribers (Some (line, rest))
      (until_there pieces text (codes ";") (NextWord text) (next_word text) (next_word_takes text) (next_word_there text) subscribers g rest more)
      (says line rest)))))

  -- ---- frames

  frame_signal_there : (text : List ℕ) → IsComplete (FrameSignalRow text) (frame_signal text)
  unfolding frame_signal
  frame_signal_there text signal tokens rest (b, name, (c, comma, (d, offset, end))) =
      joined _ _ tokens b signal.name (Some (signal, rest)) (word_there signal.name tokens b name)
      (joined _ _ b c tt (Some (signal, rest)) (expect_there pieces text (codes ",") b c comma)
      (joined _ _ c d signal.offset (Some (signal, rest)) (number_there text last_offset signal.offset c d offset)
      (joined _ _ d rest tt (Some (signal, rest)) (expect_there pieces text (codes ";") d rest end) (says signal rest))))

  frame_id_there : (text : List ℕ) (name : Token) (id : ℕ) (a b c d e : List Token) → One IsWord name a b → Quoted text (codes ":") b c
      → NumberUpTo text last_identifier id c d → Quoted text (codes ",") d e → frame_id text a ≡ Some ((name, id), e)
  unfolding frame_id
  frame_id_there text name id a b c d e word colon number comma =
      joined _ _ a b name (Some ((name, id), e)) (word_there name a b word)
      (joined _ _ b c tt (Some ((name, id), e)) (expect_there pieces text (codes ":") b c colon)
      (joined _ _ c d id (Some ((name, id), e)) (number_there text last_identifier id c d number)
      (joined _ _ d e tt (Some ((name, id), e)) (expect_there pieces text (codes ",") d e comma) (says (name, id) e))))

  frame_length_there : (text : List ℕ) (publisher : Token) (length : ℕ) (a b c d e : List Token) → One IsWord publisher a b → Quoted text (codes ",") b c
      → NumberUpTo text most_bytes length c d → Quoted text (codes "{") d e → frame_length text a ≡ Some (length, e)
  unfolding frame_length
  frame_length_there text publisher length a b c d e word comma number opening =
      joined _ _ a b publisher (Some (length, e)) (word_there publisher a b word)
      (joined _ _ b c tt (Some (length, e)) (expect_there pieces text (codes ",") b c comma)
      (joined _ _ c d length (Some (length, e)) (number_there text most_bytes length c d number)
      (joined _ _ d e tt (Some (length, e)) (expect_there pieces text (codes "{") d e opening) (says length e))))

  frame_there : (text : List ℕ) → IsComplete (FrameRow text) (frame text)
  unfolding frame
  frame_there text x tokens rest
      (b, name, (c, colon, (d, id, (e, comma, (f, (publisher, word), (g, next, (h, length, (i, opening, signals)))))))) =
      joined _ _ tokens e (x.name, x.id) (Some (x, rest)) (frame_id_there text x.name x.id tokens b c d e name colon id comma)
      (joined _ _ e i x.length (Some (x, rest)) (frame_length_there text publisher x.length e f g h i word next length opening)
      (joined _ _ i rest x.signals (Some (x, rest))
      (until_there pieces text (codes "}") (FrameSignalRow text) (frame_signal text) (frame_signal_row_takes text) (frame_signal_there text) x.signals i rest signals)
      (says x rest)))

  -- ---- encodings

  string_end_there : (text : List ℕ) (string : Token) (tokens rest : List Token) → (One IsString string ▸ Quoted text (codes ";")) tokens rest
      → string_end text tokens ≡ Some (Some string, rest)
  unfolding string_end
  string_end_there text string tokens rest (b, there, end) =
      joined _ _ tokens b string (Some (Some string, rest)) ((pieces.string tokens string b).1 there)
      (joined _ _ b rest tt (Some (Some string, rest)) (expect_there pieces text (codes ";") b rest end) (says (Some string) rest))

  plain_end_there : {A : Type 0} (text : List ℕ) (x : A) (tokens rest : List Token) → Quoted text (codes ";") tokens rest → plain_end text x tokens ≡ Some (x, rest)
  unfolding plain_end
  plain_end_there text x tokens rest end = joined _ _ tokens rest tt (Some (x, rest)) (expect_there pieces text (codes ";") tokens rest end) (says x rest)

  last_string_there : (text : List ℕ) → IsComplete (LastString text) (last_string text)
  unfolding last_string
  last_string_there text None tokens rest end =
      either_other pieces text (codes ",") (string_end text) (plain_end text None) tokens (Some (None, rest))
      (another text (codes ";") (codes ",") tokens rest refl end) (plain_end_there text None tokens rest end)
  last_string_there text (Some string) tokens rest (middle, comma, there) =
      either_behind pieces text (codes ",") (string_end text) (plain_end text None) tokens middle (Some (Some string, rest)) comma
      (string_end_there text string middle rest there)

  logical_there : (text : List ℕ) (raw : ℕ) (words : Option Token) (tokens rest : List Token) → (NextNumber text raw ▸ LastString text words) tokens rest
      → logical text tokens ≡ Some (Logical raw words, rest)
  unfolding logical
  logical_there text raw words tokens rest (b, number, end) =
      joined _ _ tokens b raw (Some (Logical raw words, rest)) (next_number_there text raw tokens b number)
      (joined _ _ b rest words (Some (Logical raw words, rest)) (last_string_there text words b rest end) (says (Logical raw words) rest))

  physical_there : (text : List ℕ) (at low high : ℕ) (scale offset : SignedNumber) (unit : Option Token) (tokens rest : List Token)
      → (NextNumber text low ▸ NextNumber text high ▸ NextSigned text scale ▸ NextSigned text offset ▸ LastString text unit) tokens rest
      → physical text at tokens ≡ Some (Physical at low high scale offset unit, rest)
  unfolding physical
  physical_there text at low high scale offset unit tokens rest (b, first, (c, second, (d, factor, (e, shift, end)))) =
      let x : EncodingEntry = Physical at low high scale offset unit in
      joined _ _ tokens b low (Some (x, rest)) (next_number_there text low tokens b first)
      (joined _ _ b c high (Some (x, rest)) (next_number_there text high b c second)
      (joined _ _ c d scale (Some (x, rest)) (next_signed_there text scale c d factor)
      (joined _ _ d e offset (Some (x, rest)) (next_signed_there text offset d e shift)
      (joined _ _ e rest unit (Some (x, rest)) (last_string_there text unit e rest end) (says x rest)))))

  entry_there : (text : List ℕ) → IsComplete (EntryRow text) (entry text)
  unfolding entry
  entry_there text (Logical raw words) tokens rest (b, (word, (prefix, (is, reads))), more) =
      joined _ _ tokens b word (Some (Logical raw words, rest)) (word_there word tokens b (prefix, is))
      (ap (λ (k : Option EntryKind). entry_by text word.at k b) (ap entry_kind reads) ∙ logical_there text raw words b rest more)
  entry_there text (Physical at low high scale offset unit) tokens rest (b, (word, (prefix, ((is, reads), place))), more) =
      joined _ _ tokens b word (Some (Physical at low high scale offset unit, rest)) (word_there word tokens b (prefix, is))
      (ap (λ (k : Option EntryKind). entry_by text word.at k b) (ap entry_kind reads)
      ∙ ap (λ (n : ℕ). physical text n b) place
      ∙ physical_there text at low high scale offset unit b rest more)
  entry_there text Plain tokens rest (b, (word, (prefix, inl (is, reads))), end) =
      joined _ _ tokens b word (Some (Plain, rest)) (word_there word tokens b (prefix, is))
      (ap (λ (k : Option EntryKind). entry_by text word.at k b) (ap entry_kind reads) ∙ plain_end_there text Plain b rest end)
  entry_there text Plain tokens rest (b, (word, (prefix, inr (is, reads))), end) =
      joined _ _ tokens b word (Some (Plain, rest)) (word_there word tokens b (prefix, is))
      (ap (λ (k : Option EntryKind). entry_by text word.at k b) (ap entry_kind reads) ∙ plain_end_there text Plain b rest end)

  word_before_there : (text literal : List ℕ) (word : Token) (tokens middle rest : List Token) → One IsWord word tokens middle → Quoted text literal middle rest
      → word_before text literal tokens ≡ Some (word, rest)
  unfolding word_before
  word_before_there text literal word tokens middle rest is sign =
      joined _ _ tokens middle word (Some (word, rest)) (word_there word tokens middle is)
      (joined _ _ middle rest tt (Some (word, rest)) (expect_there pieces text literal middle rest sign) (says word rest))

  encoding_there : (text : List ℕ) → IsComplete (EncodingRow text) (encoding text)
  unfolding encoding
  encoding_there text x tokens rest (b, name, (c, opening, entries)) =
      joined _ _ tokens c x.name (Some (x, rest)) (word_before_there text (codes "{") x.name tokens b c name opening)
      (joined _ _ c rest x.entries (Some (x, rest))
      (until_there pieces text (codes "}") (EntryRow text) (entry text) (entry_row_takes text) (entry_there text) x.entries c rest entries) (says x rest))

  representation_there : (text : List ℕ) → IsComplete (RepresentationRow text) (representation text)
  unfolding representation
  representation_there text line tokens rest (b, name, (c, colon, (d, first, others))) =
      joined _ _ tokens c line.encoding (Some (line, rest)) (word_before_there text (codes ":") line.encoding tokens b c name colon)
      (joined _ _ c d line.first (Some (line, rest)) (word_there line.first c d first)
      (joined _ _ d rest line.others (Some (line, rest))
      (until_there pieces text (codes ";") (NextWord text) (next_word text) (next_word_takes text) (next_word_there text) line.others d rest others)
      (says line rest)))

  -- ---- what is not kept

  header_line_there : (text : List ℕ) (tokens rest : List Token) → (Tokens (All (StaysInLine text)) ▸ Quoted text (codes ";")) tokens rest
      → header_line text tokens ≡ Some (tt, rest)
  unfolding header_line
  header_line_there text tokens rest there = ap passed (line_there text tokens rest there)

  other_section_there : (text : List ℕ) (tokens rest : List Token) → (Tokens (InPairs text) ▸ Quoted text (codes "}")) tokens rest
      → other_section text tokens ≡ Some (tt, rest)
  unfolding other_section
  other_section_there text tokens rest there = ap passed (section_there text tokens rest there)

  passed_line_there : (text : List ℕ) (tokens rest : List Token) → (Tokens (All (StaysInLine text)) ▸ Quoted text (codes ";")) tokens rest
      → passed_line text tokens ≡ Some (PassedOver, rest)
  unfolding passed_line
  passed_line_there text tokens rest there =
      joined _ _ tokens rest tt (Some (PassedOver, rest)) (header_line_there text tokens rest there) (says PassedOver rest)

  passed_section_there : (text : List ℕ) (tokens rest : List Token) → (Tokens (InPairs text) ▸ Quoted text (codes "}")) tokens rest
      → passed_section text tokens ≡ Some (PassedOver, rest)
  unfolding passed_section
  passed_section_there text tokens rest there =
      joined _ _ tokens rest tt (Some (PassedOver, rest)) (other_section_there text tokens rest there) (says PassedOver rest)

  -- ---- sections behind their opening brace

  signal_section_there : (text : List ℕ) (lines : List SignalLine) (tokens rest : List Token) → UpTo text (codes "}") (SignalRow text) lines tokens rest
      → signal_section text tokens ≡ Some (Signals lines, rest)
  unfolding signal_section
  signal_section_there text lines tokens rest there =
      joined _ _ tokens rest lines (Some (Signals lines, rest))
      (until_there pieces text (codes "}") (SignalRow text) (signal_line text) (signal_row_takes text) (signal_line_there text) lines tokens rest there)
      (says (Signals lines) rest)

  frame_section_there : (text : List ℕ) (frames : List Frame) (tokens rest : List Token) → UpTo text (codes "}") (FrameRow text) frames tokens rest
      → frame_section text tokens ≡ Some (Frames frames, rest)
  unfolding frame_section
  frame_section_there text frames tokens rest there =
      joined _ _ tokens rest frames (Some (Frames frames, rest))
      (until_there pieces text (codes "}") (FrameRow text) (frame text) (frame_row_takes text) (frame_there text) frames tokens rest there)
      (says (Frames frames) rest)

  encoding_section_there : (text : List ℕ) (encodings : List Encoding) (tokens rest : List Token) → UpTo text (codes "}") (EncodingRow text) encodings tokens rest
      → encoding_section text tokens ≡ Some (Encodings encodings, rest)
  unfolding encoding_section
  encoding_section_there text encodings tokens rest there =
      joined _ _ tokens rest encodings (Some (Encodings encodings, rest))
      (until_there pieces text (codes "}") (EncodingRow text) (encoding text) (encoding_row_takes text) (encoding_there text) encodings tokens rest there)
      (says (Encodings encodings) rest)

  representation_section_there : (text : List ℕ) (lines : List Representation) (tokens rest : List Token)
      → UpTo text (codes "}") (RepresentationRow text) lines tokens rest → representation_section text tokens ≡ Some (Representations lines, rest)
  unfolding representation_section
  representation_section_there text lines tokens rest there =
      joined _ _ tokens rest lines (Some (Representations lines, rest))
      (until_there pieces text (codes "}") (RepresentationRow text) (representation text) (representation_row_takes text) (representation_there text) lines tokens rest there)
      (says (Representations lines) rest)

  -- ---- statements

  other_kind : (text : List ℕ) (word : Token) → HasOtherName text word → section_of (token_text text word) ≡ kinds.Other
  other_kind text word other =
      let name = token_text text word in
      let a = differs name (codes "Signals") other.no_signals in
      let b = differs name (codes "Frames") other.no_frames in
      let c = differs name (codes "Signal_encoding_types") other.no_encodings in
      let d = differs name (codes "Signal_representation") other.no_representations in
      rw (a, b, c, d) refl

  -- a section, whose kind its name decides
  section_there_by : (text : List ℕ) (word : Token) (kind : Section) (x : Statement) (a b c rest : List Token) → One IsWord word a b
      → section_of (token_text text word) ≡ kind → Quoted text (codes "{") b c → section_by_kind text kind c ≡ Some (x, rest)
      → statement text a ≡ Some (x, rest)
  unfolding statement statement_behind opened_section
  section_there_by text word kind x a b c rest is named opening e =
      joined _ _ a b word (Some (x, rest)) (word_there word a b is)
      (either_other pieces text (codes "=") (passed_line text) (opened_section text (section_of (token_text text word))) b (Some (x, rest))
      (another text (codes "{") (codes "=") b c refl opening)
      (joined _ _ b c tt (Some (x, rest)) (expect_there pieces text (codes "{") b c opening)
      (ap (λ (k : Section). section_by_kind text k c) named ∙ e)))

  header_there : (text : List ℕ) (word : Token) (a b c rest : List Token) → One IsWord word a b → Quoted text (codes "=") b c
      → passed_line text c ≡ Some (PassedOver, rest) → statement text a ≡ Some (PassedOver, rest)
  unfolding statement statement_behind
  header_there text word a b c rest is equals e =
      joined _ _ a b word (Some (PassedOver, rest)) (word_there word a b is)
      (either_behind pieces text (codes "=") (passed_line text) (opened_section text (section_of (token_text text word))) b c (Some (PassedOver, rest)) equals e)

  statement_there : (text : List ℕ) (tokens : List Token) (x : Statement) (rest : List Token) → Parses text tokens x rest → statement text tokens ≡ Some (x, rest)
  unfolding section_by_kind
  statement_there text tokens (Signals lines) rest (b, (word, (prefix, (is, reads))), (c, opening, parts)) =
      section_there_by text word kinds.Signals (Signals lines) tokens b c rest (prefix, is) (ap section_of reads) opening (signal_section_there text lines c rest parts)
  statement_there text tokens (Frames frames) rest (b, (word, (prefix, (is, reads))), (c, opening, parts)) =
      section_there_by text word kinds.Frames (Frames frames) tokens b c rest (prefix, is) (ap section_of reads) opening (frame_section_there text frames c rest parts)
  statement_there text tokens (Encodings encodings) rest (b, (word, (prefix, (is, reads))), (c, opening, parts)) =
      section_there_by text word kinds.Encodings (Encodings encodings) tokens b c rest (prefix, is) (ap section_of reads) opening (encoding_section_there text encodings c rest parts)
  statement_there text tokens (Representations lines) rest (b, (word, (prefix, (is, reads))), (c, opening, parts)) =
      section_there_by text word kinds.Representations (Representations lines) tokens b c rest (prefix, is) (ap section_of reads) opening (representation_section_there text lines c rest parts)
  statement_there text tokens PassedOver rest (inl (b, (word, is), (c, equals, more))) =
      header_there text word tokens b c rest is equals (passed_line_there text c rest more)
  statement_there text tokens PassedOver rest (inr (b, (word, (prefix, other)), (c, opening, more))) =
      section_there_by text word kinds.Other PassedOver tokens b c rest (prefix, other.word_is) (other_kind text word other) opening (passed_section_there text c rest more)

  pub whole_statement_there : (text : List ℕ) (tokens : List Token) (x : Statement) (rest : List Token) → Parses text tokens x rest
      → whole_statement text tokens ≡ Some (x, rest)
  whole_statement_there text tokens x rest there =
      taking_some (statement text) tokens rest x (statement_there text tokens x rest there) (statement_shorter text tokens x rest there)

  pub first_there : (text : List ℕ) (tokens rest : List Token) → FirstRow text tokens rest → after_first text tokens ≡ Some rest
  unfolding after_first
  first_there text tokens rest (middle, name, end) =
      ap (behind_name text) ((pieces.quoted text (codes "LIN_description_file") tokens middle).1 name) ∙ (pieces.quoted text (codes ";") middle rest).1 end
