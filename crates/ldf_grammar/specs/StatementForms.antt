-- What the reader of statements finds.
use Rattle.std.specs.Prelude.{ℕ, zero, suc, ◌+◌, List, [], ◌∷◌, Option, Some, None, codes, if◌then◌else◌}
use Rattle.std.specs.Str.{bytes_eq}
use Rattle.sig_text.specs.declared.token.Token.{Token}
use Rattle.token_forms.specs.Pieces.{token_text, literal_at, word_at}
use Rattle.token_forms.specs.Runs.{Form}
use Rattle.ldf_grammar.specs.Sizes as sections
use Rattle.ldf_grammar.specs.Sizes.{Section, section_of}
use Rattle.ldf_grammar.specs.Forms.{◌>>=◌, say, expect, either, until, passed, taking}
use Rattle.ldf_grammar.specs.LineForms.{signal_line, frame, encoding, representation}
use Rattle.ldf_grammar.specs.declared.statement.Statement.{Statement}
use Rattle.ldf_grammar.specs.declared.statement.Statement.TheVariants.{Signals, Frames, Encodings, Representations, PassedOver}

-- what a token is where only braces and semicolons count
pub data Mark : Type 0 where
  Opening : Mark
  Closing : Mark
  End : Mark
  Neither : Mark

abbrev pub mark_of : List ℕ → Mark
mark_of word =
    if bytes_eq word (codes "{") then Opening
    else if bytes_eq word (codes "}") then Closing
    else if bytes_eq word (codes ";") then End
    else Neither

-- the tokens after the first semicolon, where no brace is before it
abbrev pub line_by : Mark → List Token → Option (List Token) → Option (List Token)
line_by Opening rest later = None
line_by Closing rest later = None
line_by End rest later = Some rest
line_by Neither rest later = later

unfoldable pub after_line : List ℕ → List Token → Option (List Token)
after_line text [] = None
after_line text (token ∷ rest) = line_by (mark_of (token_text text token)) rest (after_line text rest)

-- the tokens after the brace that closes the section, at this depth
abbrev pub section_by : Mark → ℕ → List Token → (ℕ → Option (List Token)) → Option (List Token)
section_by Opening depth rest later = later (depth + 1)
section_by Closing zero rest later = Some rest
section_by Closing (suc depth) rest later = later depth
section_by End depth rest later = later depth
section_by Neither depth rest later = later depth

unfoldable pub after_section : List ℕ → ℕ → List Token → Option (List Token)
after_section text depth [] = None
after_section text depth (token ∷ rest) =
    section_by (mark_of (token_text text token)) depth rest (λ deeper. after_section text deeper rest)

-- the rest of a header line, and a section that is not kept
unfoldable pub header_line : List ℕ → Form (Unit {0})
header_line text tokens = passed (after_line text tokens)

unfoldable pub other_section : List ℕ → Form (Unit {0})
other_section text tokens = passed (after_section text 0 tokens)

-- a section behind its opening brace
unfoldable pub signal_section : List ℕ → Form Statement
signal_section text = do
  lines ← until text (codes "}") (signal_line text)
  say (Signals lines)

unfoldable pub frame_section : List ℕ → Form Statement
frame_section text = do
  frames ← until text (codes "}") (frame text)
  say (Frames frames)

unfoldable pub encoding_section : List ℕ → Form Statement
encoding_section text = do
  encodings ← until text (codes "}") (encoding text)
  say (Encodings encodings)

unfoldable pub representation_section : List ℕ → Form Statement
representation_section text = do
  lines ← until text (codes "}") (representation text)
  say (Representations lines)

unfoldable pub passed_section : List ℕ → Form Statement
passed_section text = do
  _ ← other_section text
  say PassedOver

unfoldable pub passed_line : List ℕ → Form Statement
passed_line text = do
  _ ← header_line text
  say PassedOver

unfoldable pub section_by_kind : List ℕ → Section → Form Statement
section_by_kind text sections.Signals = signal_section text
section_by_kind text sections.Frames = frame_section text
section_by_kind text sections.Encodings = encoding_section text
section_by_kind text sections.Representations = representation_section text
section_by_kind text sections.Other = passed_section text

unfoldable pub opened_section : List ℕ → Section → Form Statement
opened_section text kind = do
  _ ← expect text (codes "{")
  section_by_kind text kind

unfoldable pub statement_behind : List ℕ → Token → Form Statement
statement_behind text word =
    either text (codes "=") (passed_line text) (opened_section text (section_of (token_text text word)))

-- a whole statement
unfoldable pub statement : List ℕ → Form Statement
statement text = do
  word ← word_at
  statement_behind text word

-- the same, as one of several that are one after another
abbrev pub whole_statement : List ℕ → Form Statement
whole_statement text = taking (statement text)

-- the tokens after the first statement
abbrev pub behind_name : List ℕ → Option (List Token) → Option (List Token)
behind_name text None = None
behind_name text (Some rest) = literal_at text (codes ";") rest

unfoldable pub after_first : List ℕ → List Token → Option (List Token)
after_first text tokens = behind_name text (literal_at text (codes "LIN_description_file") tokens)
