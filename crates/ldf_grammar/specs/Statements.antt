-- Which tokens are a statement of an LDF: one case a row of the format's grammar (LIN Specification Package 2.1,
-- "LIN description file", with "Signal definition", "Frame definition", "Signal encoding type definition" and "Signal
-- representation definition"). A row is parts one behind another, each a relation between the tokens before it and
-- those behind it.
use Rattle.std.specs.Prelude.{◌≡◌, ◌⊎◌, ℕ, Bool, true, false, List, [], ◌∷◌, ◌++◌, All, Option, Some, None, codes}
use Rattle.sig_text.specs.declared.token.Token.{Token}
use Rattle.token_forms.specs.declared.numbers.SignedNumber.{SignedNumber}
use Rattle.token_forms.specs.Pieces.{token_text}
use Rattle.ldf_grammar.specs.Sizes.{greatest_number, most_bits, last_identifier, most_bytes, last_offset, is_size}
use Rattle.token_forms.specs.Grammar.{◌▸◌, Any, Lacks, One, Quoted, IsWord, IsString, NumberUpTo, Signed}
use Rattle.ldf_grammar.specs.declared.statement.SignalLine.{SignalLine}
use Rattle.ldf_grammar.specs.declared.statement.FrameSignal.{FrameSignal}
use Rattle.ldf_grammar.specs.declared.statement.Frame.{Frame}
use Rattle.ldf_grammar.specs.declared.statement.EncodingEntry.{EncodingEntry}
use Rattle.ldf_grammar.specs.declared.statement.EncodingEntry.TheVariants.{Logical, Physical, Plain}
use Rattle.ldf_grammar.specs.declared.statement.Encoding.{Encoding}
use Rattle.ldf_grammar.specs.declared.statement.Representation.{Representation}
use Rattle.ldf_grammar.specs.declared.statement.Statement.{Statement}
use Rattle.ldf_grammar.specs.declared.statement.Statement.TheVariants.{Signals, Frames, Encodings, Representations, PassedOver}

-- ---- what rows have in common

-- what is between the tokens before it and those behind it
abbrev pub Part : Type 1
Part = List Token → List Token → Type 0

-- parts up to a closing sign, which is behind the last of them and where none of them begins
abbrev pub UpTo : {A : Type 0} → List ℕ → List ℕ → (A → Part) → List A → Part
UpTo text close Each [] tokens rest = Quoted text close tokens rest
UpTo text close Each (x ∷ xs) tokens rest = Lacks (Quoted text close) tokens × (Each x ▸ UpTo text close Each xs) tokens rest

-- tokens of any kind of which all together this is true
abbrev pub Tokens : (List Token → Type 0) → Part
Tokens Are tokens rest = (prefix : List Token) × (tokens ≡ prefix ++ rest) × Are prefix

-- the word with these bytes
abbrev pub Says : List ℕ → List ℕ → Token → Type 0
Says text name word = IsWord word × (token_text text word ≡ name)

abbrev pub Keyword : List ℕ → List ℕ → Part
Keyword text name = Any (One (Says text name))

-- `,` and a word, a number or a signed number
abbrev pub NextWord : List ℕ → Token → Part
NextWord text word = Quoted text (codes ",") ▸ One IsWord word

abbrev pub NextNumber : List ℕ → ℕ → Part
NextNumber text n = Quoted text (codes ",") ▸ NumberUpTo text greatest_number n

abbrev pub NextSigned : List ℕ → SignedNumber → Part
NextSigned text n = Quoted text (codes ",") ▸ Signed text n

-- ---- signals

-- init: a number; or `{` number (`,` number)* `}`
abbrev pub Init : List ℕ → Bool → Part
Init text false = Any (NumberUpTo text greatest_number)
Init text true = Quoted text (codes "{") ▸ Any (NumberUpTo text greatest_number) ▸ Any (UpTo text (codes "}") (NextNumber text))

-- Word `:` size `,` init `,` Word (`,` Word)* `;`
abbrev pub SignalRow : List ℕ → SignalLine → Part
SignalRow text line tokens rest =
    (One IsWord line.name ▸ Quoted text (codes ":") ▸ NumberUpTo text most_bits line.size
    ▸ Quoted text (codes ",") ▸ Init text line.is_array
    ▸ Any (NextWord text) ▸ Any (UpTo text (codes ";") (NextWord text))) tokens rest
    × (is_size line.size line.is_array ≡ true)

-- ---- frames

-- Word `,` offset `;`
abbrev pub FrameSignalRow : List ℕ → FrameSignal → Part
FrameSignalRow text signal =
    One IsWord signal.name ▸ Quoted text (codes ",") ▸ NumberUpTo text last_offset signal.offset ▸ Quoted text (codes ";")

-- Word `:` id `,` Word `,` length `{` (Word `,` offset `;`)* `}`
abbrev pub FrameRow : List ℕ → Frame → Part
FrameRow text frame =
    One IsWord frame.name ▸ Quoted text (codes ":") ▸ NumberUpTo text last_identifier frame.id
    ▸ Quoted text (codes ",") ▸ Any (One IsWord) ▸ Quoted text (codes ",") ▸ NumberUpTo text most_bytes frame.length
    ▸ Quoted text (codes "{") ▸ UpTo text (codes "}") (FrameSignalRow text) frame.signals

-- ---- encodings

-- (`,` Str)? `;`
abbrev pub LastString : List ℕ → Option Token → Part
LastString text None = Quoted text (codes ";")
LastString text (Some string) = Quoted text (codes ",") ▸ One IsString string ▸ Quoted text (codes ";")

-- `logical_value` `,` number (`,` Str)? `;`
-- `physical_value` `,` number `,` number `,` scale `,` offset (`,` Str)? `;`, with the place of its first word
-- `bcd_value` `;` or `ascii_value` `;`
abbrev pub EntryRow : List ℕ → EncodingEntry → Part
EntryRow text (Logical raw words) = Keyword text (codes "logical_value") ▸ NextNumber text raw ▸ LastString text words
EntryRow text (Physical at low high scale offset unit) =
    Any (One (λ (word : Token). Says text (codes "physical_value") word × (word.at ≡ at)))
    ▸ NextNumber text low ▸ NextNumber text high ▸ NextSigned text scale ▸ NextSigned text offset ▸ LastString text unit
EntryRow text Plain =
    Any (One (λ (word : Token). Says text (codes "bcd_value") word ⊎ Says text (codes "ascii_value") word)) ▸ Quoted text (codes ";")

-- Word `{` entry* `}`
abbrev pub EncodingRow : List ℕ → Encoding → Part
EncodingRow text encoding =
    One IsWord encoding.name ▸ Quoted text (codes "{") ▸ UpTo text (codes "}") (EntryRow text) encoding.entries

-- Word `:` Word (`,` Word)* `;`
abbrev pub RepresentationRow : List ℕ → Representation → Part
RepresentationRow text line =
    One IsWord line.encoding ▸ Quoted text (codes ":") ▸ One IsWord line.first ▸ UpTo text (codes ";") (NextWord text) line.others

-- ---- what is not kept

abbrev pub IsOpening : List ℕ → Token → Type 0
IsOpening text token = token_text text token ≡ codes "{"

abbrev pub IsClosing : List ℕ → Token → Type 0
IsClosing text token = token_text text token ≡ codes "}"

-- tokens in which braces are in pairs
pub data InPairs (text : List ℕ) : List Token → Type 0 where
  no_tokens : InPairs text []
  other_token : {rest : List Token} (token : Token) → ¬ IsOpening text token → ¬ IsClosing text token → InPairs text rest
      → InPairs text (token ∷ rest)
  in_braces : {inner rest : List Token} (opening closing : Token) → IsOpening text opening → InPairs text inner
      → IsClosing text closing → InPairs text rest → InPairs text (opening ∷ inner ++ closing ∷ rest)

-- a token of a header line
abbrev pub StaysInLine : List ℕ → Token → Type 0
StaysInLine text token = ¬ (token_text text token ≡ codes ";") × ¬ IsOpening text token × ¬ IsClosing text token

-- a section of another name than those that are kept
pub record HasOtherName (text : List ℕ) (word : Token) : Type 0 where
  pub word_is : IsWord word
  pub no_signals : ¬ (token_text text word ≡ codes "Signals")
  pub no_frames : ¬ (token_text text word ≡ codes "Frames")
  pub no_encodings : ¬ (token_text text word ≡ codes "Signal_encoding_types")
  pub no_representations : ¬ (token_text text word ≡ codes "Signal_representation")

-- Word `=`, tokens but `;` `{` `}`, `;`
abbrev pub HeaderRow : List ℕ → Part
HeaderRow text = Any (One IsWord) ▸ Quoted text (codes "=") ▸ Tokens (All (StaysInLine text)) ▸ Quoted text (codes ";")

-- Word `{`, tokens in which braces are in pairs, `}`
abbrev pub OtherRow : List ℕ → Part
OtherRow text = Any (One (HasOtherName text)) ▸ Quoted text (codes "{") ▸ Tokens (InPairs text) ▸ Quoted text (codes "}")

-- ---- statements

-- the first statement: `LIN_description_file` `;`
abbrev pub FirstRow : List ℕ → Part
FirstRow text = Quoted text (codes "LIN_description_file") ▸ Quoted text (codes ";")

-- Word `{` row* `}`
abbrev pub Section : {A : Type 0} → List ℕ → List ℕ → (A → Part) → List A → Part
Section text name Row rows = Keyword text name ▸ Quoted text (codes "{") ▸ UpTo text (codes "}") Row rows

-- the statement is at the front of the tokens, and the rest behind it
abbrev pub Parses : List ℕ → List Token → Statement → List Token → Type 0
Parses text tokens (Signals lines) rest = Section text (codes "Signals") (SignalRow text) lines tokens rest
Parses text tokens (Frames frames) rest = Section text (codes "Frames") (FrameRow text) frames tokens rest
Parses text tokens (Encodings encodings) rest = Section text (codes "Signal_encoding_types") (EncodingRow text) encodings tokens rest
Parses text tokens (Representations lines) rest =
    Section text (codes "Signal_representation") (RepresentationRow text) lines tokens rest
Parses text tokens PassedOver rest = HeaderRow text tokens rest ⊎ OtherRow text tokens rest
