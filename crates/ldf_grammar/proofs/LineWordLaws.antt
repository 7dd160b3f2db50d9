-- What the forms of lines and statements tell of their words.
use Rattle.std.proofs.Common.{ℕ, List}
use Rattle.std.specs.Prelude.{Option, Some, None, codes}
use Rattle.sig_text.specs.declared.token.Token.{Token}
use Rattle.ldf_grammar.specs.Sizes.{greatest_number, most_bits, last_identifier, most_bytes, last_offset}
use Rattle.ldf_grammar.specs.LineForms.{next_word, next_number, next_signed, array_value, number_value, initial_value, signal_size, signal_line, frame_signal, frame_id, frame_length, frame, string_end, plain_end, last_string, logical, physical, entry_by, entry, word_before, encoding, representation}
use Rattle.ldf_grammar.specs.Sizes as kinds
use Rattle.ldf_grammar.specs.Sizes.{EntryKind}
use Rattle.ldf_grammar.specs.declared.statement.Frame.{Frame}
use Rattle.ldf_grammar.specs.declared.statement.FrameSignal.{FrameSignal}
use Rattle.ldf_grammar.specs.declared.statement.EncodingEntry.TheVariants.{Plain}
use Rattle.ldf_grammar.proofs.WordLaws.{Tells, Any, IsWordToken, AllKeep, tells_followed, tells_say, tells_word, tells_string, tells_expect, tells_demand, tells_either, tells_until, tells_up_to, tells_signed}

pub t_word : (text : List ℕ) → Tells text (IsWordToken text) (next_word text)
unfolding next_word
t_word text = tells_followed text Any (IsWordToken text) _ _ (tells_expect text (codes ",")) (λ a _. tells_word text)

pub t_number : (text : List ℕ) → Tells text Any (next_number text)
unfolding next_number
t_number text = tells_followed text Any Any _ _ (tells_expect text (codes ",")) (λ a _. (tells_up_to text greatest_number))

pub t_signed : (text : List ℕ) → Tells text Any (next_signed text)
unfolding next_signed
t_signed text = tells_followed text Any Any _ _ (tells_expect text (codes ",")) (λ a _. tells_signed text)

pub t_array : (text : List ℕ) → Tells text Any (array_value text)
unfolding array_value
t_array text = tells_followed text Any Any _ _ (tells_up_to text greatest_number) (λ a _. (tells_followed text (AllKeep Any) Any _ _ (tells_until text (codes "}") Any _ (t_number text)) (λ b _. (tells_say text Any _ tt))))

pub t_value : (text : List ℕ) → Tells text Any (number_value text)
unfolding number_value
t_value text = tells_followed text Any Any _ _ (tells_up_to text greatest_number) (λ a _. (tells_say text Any _ tt))

pub t_initial : (text : List ℕ) → Tells text Any (initial_value text)
unfolding initial_value
t_initial text = tells_either text (codes "{") Any _ _ (t_array text) (t_value text)

pub t_size : (text : List ℕ) → Tells text Any (signal_size text)
unfolding signal_size
t_size text = tells_followed text (IsWordToken text) Any _ _ (tells_word text) (λ a _. (tells_followed text Any Any _ _ (tells_expect text (codes ":")) (λ b _. (tells_followed text Any Any _ _ (tells_up_to text most_bits) (λ c _. (tells_followed text Any Any _ _ (tells_expect text (codes ",")) (λ d _. (tells_say text Any _ tt))))))))

pub t_line : (text : List ℕ) → Tells text Any (signal_line text)
unfolding signal_line
t_line text = tells_followed text Any Any _ _ (t_size text) (λ a _. (tells_followed text Any Any _ _ (t_initial text) (λ b _. (tells_followed text Any Any _ _ (tells_demand text _) (λ c _. (tells_followed text (IsWordToken text) Any _ _ (t_word text) (λ d _. (tells_followed text (AllKeep (IsWordToken text)) Any _ _ (tells_until text (codes ";") (IsWordToken text) _ (t_word text)) (λ e _. (tells_say text Any _ tt))))))))))

-- the name is a word of the text, and so are those of the signals
abbrev pub NamesSignal : List ℕ → FrameSignal → Type 0
NamesSignal text signal = IsWordToken text signal.name

abbrev pub NamesFrame : List ℕ → Frame → Type 0
NamesFrame text f = IsWordToken text f.name × AllKeep (NamesSignal text) f.signals

abbrev pub NamesFirst : List ℕ → Token × ℕ → Type 0
NamesFirst text pair = IsWordToken text pair.0

pub t_frame_signal : (text : List ℕ) → Tells text (NamesSignal text) (frame_signal text)
unfolding frame_signal
t_frame_signal text = tells_followed text (IsWordToken text) (NamesSignal text) _ _ (tells_word text) (λ a h. tells_followed text Any (NamesSignal text) _ _ (tells_expect text (codes ",")) (λ b _. (tells_followed text Any (NamesSignal text) _ _ (tells_up_to text last_offset) (λ c _. (tells_followed text Any (NamesSignal text) _ _ (tells_expect text (codes ";")) (λ d _. tells_say text (NamesSignal text) _ h))))))

pub t_frame_id : (text : List ℕ) → Tells text (NamesFirst text) (frame_id text)
unfolding frame_id
t_frame_id text = tells_followed text (IsWordToken text) (NamesFirst text) _ _ (tells_word text) (λ a h. tells_followed text Any (NamesFirst text) _ _ (tells_expect text (codes ":")) (λ b _. (tells_followed text Any (NamesFirst text) _ _ (tells_up_to text last_identifier) (λ c _. (tells_followed text Any (NamesFirst text) _ _ (tells_expect text (codes ",")) (λ d _. tells_say text (NamesFirst text) _ h))))))

pub t_length : (text : List ℕ) → Tells text Any (frame_length text)
unfolding frame_length
t_length text = tells_followed text (IsWordToken text) Any _ _ (tells_word text) (λ a _. (tells_followed text Any Any _ _ (tells_expect text (codes ",")) (λ b _. (tells_followed text Any Any _ _ (tells_up_to text most_bytes) (λ c _. (tells_followed text Any Any _ _ (tells_expect text (codes "{")) (λ d _. (tells_say text Any _ tt))))))))

pub t_frame : (text : List ℕ) → Tells text (NamesFrame text) (frame text)
unfolding frame
t_frame text = tells_followed text (NamesFirst text) (NamesFrame text) _ _ (t_frame_id text) (λ a h. tells_followed text Any (NamesFrame text) _ _ (t_length text) (λ b _. tells_followed text (AllKeep (NamesSignal text)) (NamesFrame text) _ _ (tells_until text (codes "}") (NamesSignal text) _ (t_frame_signal text)) (λ c k. tells_say text (NamesFrame text) _ (h, k))))

pub t_string_end : (text : List ℕ) → Tells text Any (string_end text)
unfolding string_end
t_string_end text = tells_followed text Any Any _ _ (tells_string text) (λ a _. (tells_followed text Any Any _ _ (tells_expect text (codes ";")) (λ b _. (tells_say text Any _ tt))))

pub t_plain_end : {A : Type 0} (text : List ℕ) (x : A) → Tells text Any (plain_end text x)
unfolding plain_end
t_plain_end text x = tells_followed text Any Any _ _ (tells_expect text (codes ";")) (λ a _. tells_say text Any x tt)

pub t_last : (text : List ℕ) → Tells text Any (last_string text)
unfolding last_string
t_last text = tells_either text (codes ",") Any _ _ (t_string_end text) (t_plain_end text None)

pub t_logical : (text : List ℕ) → Tells text Any (logical text)
unfolding logical
t_logical text = tells_followed text Any Any _ _ (t_number text) (λ a _. (tells_followed text Any Any _ _ (t_last text) (λ b _. (tells_say text Any _ tt))))

pub t_physical : (text : List ℕ) (at : ℕ) → Tells text Any (physical text at)
unfolding physical
t_physical text at = tells_followed text Any Any _ _ (t_number text) (λ a _. (tells_followed text Any Any _ _ (t_number text) (λ b _. (tells_followed text Any Any _ _ (t_signed text) (λ c _. (tells_followed text Any Any _ _ (t_signed text) (λ d _. (tells_followed text Any Any _ _ (t_last text) (λ e _. (tells_say text Any _ tt))))))))))

t_entry_by : (text : List ℕ) (at : ℕ) (o : Option EntryKind) → Tells text Any (entry_by text at o)
t_entry_by text at None tokens of = tt
t_entry_by text at (Some kinds.Logical) tokens of = t_logical text tokens of
t_entry_by text at (Some kinds.Physical) tokens of = t_physical text at tokens of
t_entry_by text at (Some kinds.Plain) tokens of = t_plain_end text Plain tokens of

pub t_entry : (text : List ℕ) → Tells text Any (entry text)
unfolding entry
t_entry text = tells_followed text (IsWordToken text) Any _ _ (tells_word text) (λ a _. t_entry_by text _ _)

pub t_before : (text literal : List ℕ) → Tells text Any (word_before text literal)
unfolding word_before
t_before text literal = tells_followed text (IsWordToken text) Any _ _ (tells_word text) (λ a _. tells_followed text Any Any _ _ (tells_expect text literal) (λ b _. tells_say text Any _ tt))

pub t_encoding : (text : List ℕ) → Tells text Any (encoding text)
unfolding encoding
t_encoding text = tells_followed text Any Any _ _ (t_before text (codes "{")) (λ a _. (tells_followed text (AllKeep Any) Any _ _ (tells_until text (codes "}") Any _ (t_entry text)) (λ b _. (tells_say text Any _ tt))))

pub t_representation : (text : List ℕ) → Tells text Any (representation text)
unfolding representation
t_representation text = tells_followed text Any Any _ _ (t_before text (codes ":")) (λ a _. (tells_followed text (IsWordToken text) Any _ _ (tells_word text) (λ b _. (tells_followed text (AllKeep (IsWordToken text)) Any _ _ (tells_until text (codes ";") (IsWordToken text) _ (t_word text)) (λ c _. (tells_say text Any _ tt))))))
