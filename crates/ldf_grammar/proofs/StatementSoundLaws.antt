-- What the form of a statement finds is there, a lemma a form.
use Rattle.std.proofs.Common.{◌≡◌, ◌∙◌, sym, ap, refl, ℕ, inl, inr, Bool, List, length}
use Rattle.std.specs.Prelude.{Option, Some, None, All, codes, nat_lt, if◌then◌else◌}
use Rattle.std.proofs.lemmas.Option.{none-some}
use Rattle.sig_text.specs.declared.token.Token.{Token}
use Rattle.token_forms.specs.Pieces.{token_text, literal_at}
use Rattle.ldf_grammar.specs.Sizes as kinds
use Rattle.ldf_grammar.specs.Sizes.{Section, section_of}
use Rattle.ldf_grammar.specs.Forms.{taken, taking}
use Rattle.ldf_grammar.specs.LineForms.{signal_line}
use Rattle.ldf_grammar.specs.LineForms.{frame}
use Rattle.ldf_grammar.specs.LineForms.{encoding, representation}
use Rattle.ldf_grammar.specs.StatementForms.{after_line, after_section, header_line, other_section, signal_section, frame_section}
use Rattle.ldf_grammar.specs.StatementForms.{encoding_section, representation_section, passed_section, passed_line, section_by_kind, opened_section, statement_behind}
use Rattle.ldf_grammar.specs.StatementForms.{statement, whole_statement}
use Rattle.token_forms.specs.Grammar.{◌▸◌, One, Quoted, IsWord}
use Rattle.ldf_grammar.specs.Statements.{Tokens, Keyword, SignalRow, FrameRow}
use Rattle.ldf_grammar.specs.Statements.{EncodingRow, RepresentationRow, InPairs, StaysInLine, HasOtherName}
use Rattle.ldf_grammar.specs.Statements.{FirstRow, Parses}
use Rattle.ldf_grammar.specs.StatementForms.{behind_name, after_first}
use Rattle.ldf_grammar.specs.declared.statement.Statement.{Statement}
use Rattle.ldf_grammar.specs.declared.statement.Statement.TheVariants.{Signals, Frames, Encodings, Representations, PassedOver}
use Rattle.ldf_grammar.proofs.PartLaws.{Pieces, opened, ends, expect_found, either_found, until_found, equal_or_not, passed_back, bool_cases}
use Rattle.ldf_grammar.proofs.BraceLaws.{line_found, section_found}
use Rattle.ldf_grammar.proofs.LineSoundLaws.{word_here, signal_line_here, frame_here, encoding_here, representation_here}

module _ (pieces : Pieces) where
  -- ---- what is not kept

  header_line_here : (text : List ℕ) (tokens : List Token) (found : Unit {0} × List Token) → header_line text tokens ≡ Some found
      → (Tokens (All (StaysInLine text)) ▸ Quoted text (codes ";")) tokens found.1
  unfolding header_line
  header_line_here text tokens found e = line_found text tokens found.1 (passed_back (after_line text tokens) found e)

  other_section_here : (text : List ℕ) (tokens : List Token) (found : Unit {0} × List Token) → other_section text tokens ≡ Some found
      → (Tokens (InPairs text) ▸ Quoted text (codes "}")) tokens found.1
  unfolding other_section
  other_section_here text tokens found e = section_found text tokens found.1 (passed_back (after_section text 0 tokens) found e)

  passed_line_here : (text : List ℕ) (word : Token) (start middle tokens : List Token) (found : Statement × List Token) → One IsWord word start middle
      → Quoted text (codes "=") middle tokens → passed_line text tokens ≡ Some found → Parses text start found.0 found.1
  unfolding passed_line
  passed_line_here text word start middle tokens found is equals e =
      let line = opened _ _ tokens found e in
      ends (λ (x : Statement) (from to : List Token). Parses text from x to) start line.1 PassedOver found line.3
      (inl (middle, (word, is), (tokens, equals, header_line_here text tokens _ line.2)))

  -- ---- sections behind their opening brace

  signal_section_here : (text : List ℕ) (start middle tokens : List Token) (found : Statement × List Token) → Keyword text (codes "Signals") start middle
      → Quoted text (codes "{") middle tokens → signal_section text tokens ≡ Some found → Parses text start found.0 found.1
  unfolding signal_section
  signal_section_here text start middle tokens found name opening e =
      let parts = opened _ _ tokens found e in
      ends (λ (x : Statement) (from to : List Token). Parses text from x to) start parts.1 (Signals parts.0) found parts.3
      (middle, name, (tokens, opening, until_found pieces text (codes "}") (SignalRow text) (signal_line text) (signal_line_here pieces text) tokens _ parts.2))

  frame_section_here : (text : List ℕ) (start middle tokens : List Token) (found : Statement × List Token) → Keyword text (codes "Frames") start middle
      → Quoted text (codes "{") middle tokens → frame_section text tokens ≡ Some found → Parses text start found.0 found.1
  unfolding frame_section
  frame_section_here text start middle tokens found name opening e =
      let parts = opened _ _ tokens found e in
      ends (λ (x : Statement) (from to : List Token). Parses text from x to) start parts.1 (Frames parts.0) found parts.3
      (middle, name, (tokens, opening, until_found pieces text (codes "}") (FrameRow text) (frame text) (frame_here pieces text) tokens _ parts.2))

  encoding_section_here : (text : List ℕ) (start middle tokens : List Token) (found : Statement × List Token)
      → Keyword text (codes "Signal_encoding_types") start middle
      → Quoted text (codes "{") middle tokens → encoding_section text tokens ≡ Some found → Parses text start found.0 found.1
  unfolding encoding_section
  encoding_section_here text start middle tokens found name opening e =
      let parts = opened _ _ tokens found e in
      ends (λ (x : Statement) (from to : List Token). Parses text from x to) start parts.1 (Encodings parts.0) found parts.3
      (middle, name, (tokens, opening, until_found pieces text (codes "}") (EncodingRow text) (encoding text) (encoding_here pieces text) tokens _ parts.2))

  representation_section_here : (text : List ℕ) (start middle tokens : List Token) (found : Statement × List Token)
      → Keyword text (codes "Signal_representation") start middle
      → Quoted text (codes "{") middle tokens → representation_section text tokens ≡ Some found → Parses text start found.0 found.1
  unfolding representation_section
  representation_section_here text start middle tokens found name opening e =
      let parts = opened _ _ tokens found e in
      ends (λ (x : Statement) (from to : List Token). Parses text from x to) start parts.1 (Representations parts.0) found parts.3 (
        middle,
        name,
        (
          tokens,
          opening,
          until_found pieces text (codes "}") (RepresentationRow text) (representation text) (representation_here pieces text) tokens _ parts.2,
        ),
      )

  passed_section_here : (text : List ℕ) (word : Token) (start middle tokens : List Token) (found : Statement × List Token) → One (HasOtherName text) word start middle
      → Quoted text (codes "{") middle tokens → passed_section text tokens ≡ Some found → Parses text start found.0 found.1
  unfolding passed_section
  passed_section_here text word start middle tokens found name opening e =
      let section = opened _ _ tokens found e in
      ends (λ (x : Statement) (from to : List Token). Parses text from x to) start section.1 PassedOver found section.3
      (inr (middle, (word, name), (tokens, opening, other_section_here text tokens _ section.2)))

  -- which word it is decides the section
  section_here : (text : List ℕ) (word : Token) (start middle tokens : List Token) (found : Statement × List Token) → One IsWord word start middle
      → Quoted text (codes "{") middle tokens → section_by_kind text (section_of (token_text text word)) tokens ≡ Some found
      → Parses text start found.0 found.1
  unfolding section_by_kind
  section_here text word start middle tokens found (prefix, is) opening e =
      let name = token_text text word in
      let by : Section → Option (Statement × List Token) = λ k. section_by_kind text k tokens in
      elim (equal_or_not name (codes "Signals")) [
        | inl same ↦
            let kind : section_of name ≡ kinds.Signals = rw same.1 refl in
            signal_section_here text start middle tokens found (word, (prefix, (is, same.0))) opening (sym (ap by kind) ∙ e)
        | inr no_signals ↦ elim (equal_or_not name (codes "Frames")) [
          | inl same ↦
              let kind : section_of name ≡ kinds.Frames = rw (no_signals.1, same.1) refl in
              frame_section_here text start middle tokens found (word, (prefix, (is, same.0))) opening (sym (ap by kind) ∙ e)
          | inr no_frames ↦ elim (equal_or_not name (codes "Signal_encoding_types")) [
            | inl same ↦
                let kind : section_of name ≡ kinds.Encodings = rw (no_signals.1, no_frames.1, same.1) refl in
                encoding_section_here text start middle tokens found (word, (prefix, (is, same.0))) opening (sym (ap by kind) ∙ e)
            | inr no_encodings ↦ elim (equal_or_not name (codes "Signal_representation")) [
              | inl same ↦
                  let kind : section_of name ≡ kinds.Representations = rw (no_signals.1, no_frames.1, no_encodings.1, same.1) refl in
                  representation_section_here text start middle tokens found (word, (prefix, (is, same.0))) opening (sym (ap by kind) ∙ e)
              | inr no_representations ↦
                  let kind : section_of name ≡ kinds.Other = rw (no_signals.1, no_frames.1, no_encodings.1, no_representations.1) refl in
                  let other : HasOtherName text word = record {
                    word_is = is;
                    no_signals = no_signals.0;
                    no_frames = no_frames.0;
                    no_encodings = no_encodings.0;
                    no_representations = no_representations.0;
                  } in
                  passed_section_here text word start middle tokens found (prefix, other) opening (sym (ap by kind) ∙ e)
            ]
          ]
        ]
      ]

  opened_section_here : (text : List ℕ) (word : Token) (start middle : List Token) (found : Statement × List Token) → One IsWord word start middle
      → opened_section text (section_of (token_text text word)) middle ≡ Some found → Parses text start found.0 found.1
  unfolding opened_section
  opened_section_here text word start middle found is e =
      let opening = opened _ _ middle found e in
      section_here text word start middle opening.1 found is (expect_found pieces text (codes "{") middle _ opening.2) opening.3

  -- ---- statements

  statement_behind_here : (text : List ℕ) (word : Token) (start middle : List Token) (found : Statement × List Token) → One IsWord word start middle
      → statement_behind text word middle ≡ Some found → Parses text start found.0 found.1
  unfolding statement_behind
  statement_behind_here text word start middle found is e =
      elim (either_found pieces text (codes "=") (passed_line text) (opened_section text (section_of (token_text text word))) middle found e) [
        | inl equals ↦ passed_line_here text word start middle equals.0 found is equals.1 equals.2
        | inr section ↦ opened_section_here text word start middle found is section.1
      ]

  statement_here : (text : List ℕ) (tokens : List Token) (found : Statement × List Token) → statement text tokens ≡ Some found → Parses text tokens found.0 found.1
  unfolding statement
  statement_here text tokens found e =
      let word = opened _ _ tokens found e in
      statement_behind_here text word.0 tokens word.1 found (word_here pieces tokens _ word.2) word.3

  taken_found : {A : Type 0} (tokens : List Token) (o : Option (A × List Token)) (found : A × List Token) → taken tokens o ≡ Some found → o ≡ Some found
  taken_found tokens None found e = e
  taken_found tokens (Some x) found e = elim (bool_cases (nat_lt (length x.1) (length tokens))) [
    | inl short ↦ sym (ap (λ (b : Bool). if b then Some x else None) short) ∙ e
    | inr long ↦ absurd (none-some found (sym (ap (λ (b : Bool). if b then Some x else None) long) ∙ e))
  ]

  pub whole_statement_here : (text : List ℕ) (tokens : List Token) (statement : Statement) (rest : List Token) → whole_statement text tokens ≡ Some (statement, rest)
      → Parses text tokens statement rest
  unfolding taking
  whole_statement_here text tokens x rest e = statement_here text tokens (x, rest) (taken_found tokens (statement text tokens) (x, rest) e)

  behind_name_here : (text : List ℕ) (tokens rest : List Token) (o : Option (List Token)) → literal_at text (codes "LIN_description_file") tokens ≡ o
      → behind_name text o ≡ Some rest → FirstRow text tokens rest
  behind_name_here text tokens rest None is e = absurd (none-some rest e)
  behind_name_here text tokens rest (Some middle) is e =
      (middle, (pieces.quoted text (codes "LIN_description_file") tokens middle).0 is, (pieces.quoted text (codes ";") middle rest).0 e)

  pub first_here : (text : List ℕ) (tokens rest : List Token) → after_first text tokens ≡ Some rest → FirstRow text tokens rest
  unfolding after_first
  first_here text tokens rest e = behind_name_here text tokens rest (literal_at text (codes "LIN_description_file") tokens) refl e
