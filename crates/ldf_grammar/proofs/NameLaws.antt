-- The names of a described database are words of its text.
use Rattle.std.proofs.Common.{sym, subst, ℕ, zero, suc, ◌+◌, Bool, true, false, List, [], ◌∷◌, length, map}
use Rattle.std.specs.Prelude.{Option, Some, None, All, if◌then◌else◌, codes, nat_lt}
use Rattle.std.specs.List.{flat_map}
use Rattle.std.proofs.lemmas.List.Elements.{All-append, All-nil, All-cons}
use Rattle.sig_text.specs.declared.token.Token.{Token}
use Rattle.sig_text.specs.declared.token.TokenKind.{TokenKind}
use Rattle.sig_text.specs.Lexemes.{IsWord, IsLexeme}
use Rattle.sig_text.specs.Tokens.{AreTokens}
use Rattle.token_forms.specs.Pieces.{token_text, literal_at}
use Rattle.token_forms.specs.Runs.{AreRun}
use Rattle.bench_model.specs.Rules.{KeepsRules}
use Rattle.bench_model.specs.declared.database.Signal.{Signal}
use Rattle.bench_model.specs.declared.database.Message.{Message}
use Rattle.bench_model.specs.declared.database.Database.{Database}
use Rattle.ldf_grammar.specs.Sizes as sections
use Rattle.ldf_grammar.specs.Sizes.{Section, section_of}
use Rattle.ldf_grammar.specs.Forms.{taken, taking}
use Rattle.ldf_grammar.specs.StatementForms as marks
use Rattle.ldf_grammar.specs.StatementForms.{Mark, mark_of, line_by, after_line, section_by, after_section, header_line, other_section, signal_section, frame_section, encoding_section, representation_section, passed_section, passed_line, section_by_kind, opened_section, statement_behind, statement, whole_statement, behind_name, after_first}
use Rattle.ldf_grammar.specs.Run.{HasStatements}
use Rattle.ldf_grammar.specs.Gather.{Definitions, definitions_of, first_of, signal_by, signal_in, message_of, messages_in, messages_of}
use Rattle.ldf_grammar.specs.Described.{IsDatabaseOf}
use Rattle.token_forms.specs.Names.{HasNames}
use Rattle.ldf_grammar.specs.declared.statement.SignalLine.{SignalLine}
use Rattle.ldf_grammar.specs.declared.statement.FrameSignal.{FrameSignal}
use Rattle.ldf_grammar.specs.declared.statement.Frame.{Frame}
use Rattle.ldf_grammar.specs.declared.statement.Statement.{Statement}
use Rattle.ldf_grammar.specs.declared.statement.Statement.TheVariants.{Signals, Frames, Encodings, Representations, PassedOver}
use Rattle.ldf_grammar.proofs.WordLaws.{AreOfText, LeavesOf, literal_leaves, passed_known, IsKnown, Tells, Any, IsWordToken, AllKeep, tells_followed, tells_say, tells_word, tells_expect, tells_either, tells_until}
use Rattle.ldf_grammar.proofs.RowLaws.{Rows, parsed_run}
use Rattle.ldf_grammar.proofs.LineWordLaws.{NamesSignal, NamesFrame, t_line, t_frame, t_encoding, t_representation}

-- what is passed over leaves tokens of the text
line_leaves : (text : List ℕ) (m : Mark) (rest : List Token) (later : Option (List Token)) → AreOfText text rest → LeavesOf text later → LeavesOf text (line_by m rest later)
line_leaves text marks.Opening rest later of l = tt
line_leaves text marks.Closing rest later of l = tt
line_leaves text marks.End rest later of l = of
line_leaves text marks.Neither rest later of l = l

after_line_leaves : (text : List ℕ) (tokens : List Token) → AreOfText text tokens → LeavesOf text (after_line text tokens)
unfolding after_line
after_line_leaves text [] of = tt
after_line_leaves text (token ∷ rest) of = line_leaves text (mark_of (token_text text token)) rest (after_line text rest) of.1 (after_line_leaves text rest of.1)

section_leaves : (text : List ℕ) (m : Mark) (depth : ℕ) (rest : List Token) (later : ℕ → Option (List Token)) → AreOfText text rest → ((n : ℕ) → LeavesOf text (later n)) → LeavesOf text (section_by m depth rest later)
section_leaves text marks.Opening depth rest later of l = l (depth + 1)
section_leaves text marks.Closing zero rest later of l = of
section_leaves text marks.Closing (suc depth) rest later of l = l depth
section_leaves text marks.End depth rest later of l = l depth
section_leaves text marks.Neither depth rest later of l = l depth

after_section_leaves : (text : List ℕ) (tokens : List Token) → AreOfText text tokens → (depth : ℕ) → LeavesOf text (after_section text depth tokens)
unfolding after_section
after_section_leaves text [] of depth = tt
after_section_leaves text (token ∷ rest) of depth =
    section_leaves text (mark_of (token_text text token)) depth rest (λ deeper. after_section text deeper rest) of.1 (after_section_leaves text rest of.1)

t_header : (text : List ℕ) → Tells text Any (header_line text)
unfolding header_line
t_header text tokens of = passed_known text (after_line text tokens) (after_line_leaves text tokens of)

t_other : (text : List ℕ) → Tells text Any (other_section text)
unfolding other_section
t_other text tokens of = passed_known text (after_section text 0 tokens) (after_section_leaves text tokens of 0)

-- the names in a statement's frames are words of the text
abbrev NamesStatement : List ℕ → Statement → Type 0
NamesStatement text (Signals lines) = Unit {0}
NamesStatement text (Frames frames) = AllKeep (NamesFrame text) frames
NamesStatement text (Encodings encodings) = Unit {0}
NamesStatement text (Representations lines) = Unit {0}
NamesStatement text PassedOver = Unit {0}

t_kind : (text : List ℕ) (kind : Section) → Tells text (NamesStatement text) (section_by_kind text kind)
unfolding section_by_kind signal_section frame_section encoding_section representation_section passed_section
t_kind text sections.Signals =
    tells_followed text (AllKeep Any) (NamesStatement text) _ _ (tells_until text (codes "}") Any _ (t_line text)) (λ a _. tells_say text (NamesStatement text) (Signals a) tt)
t_kind text sections.Frames =
    tells_followed text (AllKeep (NamesFrame text)) (NamesStatement text) _ _ (tells_until text (codes "}") (NamesFrame text) _ (t_frame text)) (λ a h. tells_say text (NamesStatement text) (Frames a) h)
t_kind text sections.Encodings =
    tells_followed text (AllKeep Any) (NamesStatement text) _ _ (tells_until text (codes "}") Any _ (t_encoding text)) (λ a _. tells_say text (NamesStatement text) (Encodings a) tt)
t_kind text sections.Representations =
    tells_followed text (AllKeep Any) (NamesStatement text) _ _ (tells_until text (codes "}") Any _ (t_representation text)) (λ a _. tells_say text (NamesStatement text) (Representations a) tt)
t_kind text sections.Other = tells_followed text Any (NamesStatement text) _ _ (t_other text) (λ a _. tells_say text (NamesStatement text) PassedOver tt)

t_opened : (text : List ℕ) (kind : Section) → Tells text (NamesStatement text) (opened_section text kind)
unfolding opened_section
t_opened text kind = tells_followed text Any (NamesStatement text) _ _ (tells_expect text (codes "{")) (λ a _. t_kind text kind)

t_line_passed : (text : List ℕ) → Tells text (NamesStatement text) (passed_line text)
unfolding passed_line
t_line_passed text = tells_followed text Any (NamesStatement text) _ _ (t_header text) (λ a _. tells_say text (NamesStatement text) PassedOver tt)

t_behind : (text : List ℕ) (word : Token) → Tells text (NamesStatement text) (statement_behind text word)
unfolding statement_behind
t_behind text word = tells_either text (codes "=") (NamesStatement text) _ _ (t_line_passed text) (t_opened text (section_of (token_text text word)))

t_statement : (text : List ℕ) → Tells text (NamesStatement text) (statement text)
unfolding statement
t_statement text = tells_followed text (IsWordToken text) (NamesStatement text) _ _ (tells_word text) (λ a _. t_behind text a)

taken_known : {A : Type 0} (text : List ℕ) (P : A → Type 0) (tokens : List Token) (o : Option (A × List Token)) → IsKnown text P o → IsKnown text P (taken tokens o)
taken_known text P tokens None known = tt
taken_known text P tokens (Some found) known =
    elim (nat_lt (length found.1) (length tokens)) as (λ (b : Bool). IsKnown text P (if b then Some found else None)) [ true ↦ known | false ↦ tt ]

t_whole : (text : List ℕ) → Tells text (NamesStatement text) (whole_statement text)
unfolding taking
t_whole text tokens of = taken_known text (NamesStatement text) tokens (statement text tokens) (t_statement text tokens of)

run_names : (text : List ℕ) (tokens : List Token) (statements : List Statement) (rest : List Token) → AreRun (whole_statement text) tokens statements rest → AreOfText text tokens
    → AllKeep (NamesStatement text) statements
run_names text tokens [] rest run of = tt
run_names text tokens (s ∷ ss) rest (middle, found, later) of =
    let P : Option (Statement × List Token) → Type 0 = IsKnown text (NamesStatement text) in
    let known = subst P found (t_whole text tokens of) in
    (known.0, run_names text middle ss rest later known.1)

-- the tokens of a text, and those behind the first statement
of_text : (text : List ℕ) (comments : Bool) (from : ℕ) (tokens : List Token) (to : ℕ) → AreTokens text comments from tokens to → AreOfText text tokens
of_text text comments from [] to are = tt
of_text text comments from (token ∷ tokens) to are = (are.1, of_text text comments token.end tokens to are.2)

behind_leaves : (text : List ℕ) (o : Option (List Token)) → LeavesOf text o → LeavesOf text (behind_name text o)
behind_leaves text None l = tt
behind_leaves text (Some rest) l = literal_leaves text (codes ";") rest l

first_leaves : (text : List ℕ) (tokens : List Token) → AreOfText text tokens → LeavesOf text (after_first text tokens)
unfolding after_first
first_leaves text tokens of = behind_leaves text (literal_at text (codes "LIN_description_file") tokens) (literal_leaves text (codes "LIN_description_file") tokens of)

statement_names : (rows : Rows) (text : List ℕ) (statements : List Statement) → HasStatements text statements → AllKeep (NamesStatement text) statements
statement_names rows text statements has =
    let rest = has.parse.0 in
    let opened = (rows.first text has.tokens rest).1 has.parse.1 in
    let P : Option (List Token) → Type 0 = LeavesOf text in
    run_names text rest statements [] (parsed_run rows text rest statements [] has.parse.2).run
    (subst P opened (first_leaves text has.tokens (of_text text true 0 has.tokens (length text) has.lexed)))

-- and so are those of the messages
word_lexeme : (text : List ℕ) (token : Token) → IsWordToken text token → IsWord (token_text text token)
word_lexeme text token w =
    let P : TokenKind → Type 0 = λ kind. IsLexeme kind (token_text text token) in
    subst P w.kind w.there.lexeme

record HasWords (m : Message) : Type 0 where
  message : IsWord m.name
  signals : All (λ (s : Signal). IsWord s.name) m.signals

abbrev WordSignal : Signal → Type 0
WordSignal s = IsWord s.name

signal_words : (text : List ℕ) (d : Definitions) (signal : FrameSignal) (o : Option SignalLine) → NamesSignal text signal → All WordSignal (signal_by text d signal o)
signal_words text d signal None h = All-nil WordSignal
signal_words text d signal (Some line) h = All-cons WordSignal _ [] (word_lexeme text signal.name h) (All-nil WordSignal)

signals_words : (text : List ℕ) (d : Definitions) (signals : List FrameSignal) → AllKeep (NamesSignal text) signals → All WordSignal (flat_map (signal_in text d) signals)
signals_words text d [] h = All-nil WordSignal
signals_words text d (s ∷ ss) h =
    All-append WordSignal (signal_in text d s) (flat_map (signal_in text d) ss) (signal_words text d s (first_of (token_text text s.name) d.signals) h.0) (signals_words text d ss h.1)

frames_words : (text : List ℕ) (d : Definitions) (frames : List Frame) → AllKeep (NamesFrame text) frames → All HasWords (map (message_of text d) frames)
frames_words text d [] h = All-nil HasWords
frames_words text d (f ∷ fs) h =
    All-cons HasWords (message_of text d f) (map (message_of text d) fs) (record { message = word_lexeme text f.name h.0.0; signals = signals_words text d f.signals h.0.1 }) (frames_words text d fs h.1)

statement_words : (text : List ℕ) (d : Definitions) (s : Statement) → NamesStatement text s → All HasWords (messages_in text d s)
statement_words text d (Signals lines) h = All-nil HasWords
statement_words text d (Frames frames) h = frames_words text d frames h
statement_words text d (Encodings encodings) h = All-nil HasWords
statement_words text d (Representations lines) h = All-nil HasWords
statement_words text d PassedOver h = All-nil HasWords

messages_words : (text : List ℕ) (d : Definitions) (ss : List Statement) → AllKeep (NamesStatement text) ss → All HasWords (messages_of text d ss)
messages_words text d [] h = All-nil HasWords
messages_words text d (s ∷ ss) h = All-append HasWords (messages_in text d s) (messages_of text d ss) (statement_words text d s h.0) (messages_words text d ss h.1)

all_words : (rows : Rows) (text : List ℕ) (d : Database) → IsDatabaseOf text d → All HasWords d.messages
all_words rows text d is =
    let P : Database → Type 0 = λ x. All HasWords x.messages in
    subst P (sym is.made.gathered)
    (messages_words text (definitions_of text is.made.statements is.made.coded) is.made.statements (statement_names rows text is.made.statements is.made.read.whole))

pub names_of_text : (rows : Rows) (text : List ℕ) (d : Database) → IsDatabaseOf text d → KeepsRules d → HasNames d
names_of_text rows text d is keeps = λ k e h.
    let words = all_words rows text d is k e h in
    let rules = keeps.messages k e h in
    record {
      message = record { word = words.message; size = rules.name };
      signals = λ j f g. record { word = words.signals j f g; size = (rules.signals j f g).name };
    }
