-- The first name, in file order, of a frame's signal or a representation's encoding that is not defined.
use Rattle.std.specs.Prelude.{ℕ, List, [], ◌∷◌, Option, Some, None}
use Rattle.token_forms.specs.Pieces.{token_text}
use Rattle.sig_text.specs.declared.token.Token.{Token}
use Rattle.ldf_grammar.specs.Gather.{Definitions, first_of}
use Rattle.ldf_grammar.specs.declared.statement.FrameSignal.{FrameSignal}
use Rattle.ldf_grammar.specs.declared.statement.Frame.{Frame}
use Rattle.ldf_grammar.specs.declared.statement.Representation.{Representation}
use Rattle.ldf_grammar.specs.declared.statement.Statement.{Statement}
use Rattle.ldf_grammar.specs.declared.statement.Statement.TheVariants.{Signals, Frames, Encodings, Representations, PassedOver}

-- the first place that a list gives, in its order
abbrev pub place_or : Option ℕ → Option ℕ → Option ℕ
place_or (Some at) later = Some at
place_or None later = later

unfoldable pub first_place : {A : Type 0} → (A → Option ℕ) → List A → Option ℕ
first_place place [] = None
first_place place (x ∷ xs) = place_or (place x) (first_place place xs)

-- the place of a name that nothing is found for
abbrev pub place_unless : {T : Type 0} → Token → Option T → Option ℕ
place_unless name None = Some name.at
place_unless name (Some found) = None

abbrev pub unknown_signal : List ℕ → Definitions → FrameSignal → Option ℕ
unknown_signal text d signal = place_unless signal.name (first_of (token_text text signal.name) d.signals)

abbrev pub unknown_in_frame : List ℕ → Definitions → Frame → Option ℕ
unknown_in_frame text d frame = first_place (unknown_signal text d) frame.signals

abbrev pub unknown_encoding : List ℕ → Definitions → Representation → Option ℕ
unknown_encoding text d line = place_unless line.encoding (first_of (token_text text line.encoding) d.coded)

abbrev pub unknown_in : List ℕ → Definitions → Statement → Option ℕ
unknown_in text d (Signals lines) = None
unknown_in text d (Frames frames) = first_place (unknown_in_frame text d) frames
unknown_in text d (Encodings encodings) = None
unknown_in text d (Representations lines) = first_place (unknown_encoding text d) lines
unknown_in text d PassedOver = None

-- the place of the first unknown name, where there is one
abbrev pub first_unknown : List ℕ → Definitions → List Statement → Option ℕ
first_unknown text d statements = first_place (unknown_in text d) statements
