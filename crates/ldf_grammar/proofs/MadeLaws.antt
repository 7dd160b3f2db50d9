-- The database of statements is made as `check` asks: its trees have no parents, its scales keep their limits.
use Rattle.std.proofs.Common.{sym, subst, ℕ, Bool, true, false, List, [], ◌∷◌, length, map}
use Rattle.std.specs.Prelude.{Option, Some, None, All, replicate, if◌then◌else◌}
use Rattle.std.specs.List.{flat_map, AllZip}
use Rattle.std.specs.Str.{bytes_eq}
use Rattle.std.proofs.lemmas.List.Elements.{All-append, All-nil, All-cons}
use Rattle.multiplex_tree.specs.Trees.{IsTreeOver}
use Rattle.sig_text.specs.declared.token.Token.{Token}
use Rattle.token_forms.specs.Pieces.{token_text}
use Rattle.bench_model.specs.declared.database.Entry.{Entry}
use Rattle.bench_model.specs.declared.database.Signal.{Signal}
use Rattle.bench_model.specs.Limits.{IsEntry, IsCoding, IsMade}
use Rattle.ldf_grammar.specs.Scaling.{IsEntryOf}
use Rattle.ldf_grammar.specs.Gather.{Definitions, definitions_of, all_encodings, first_of, IsCoded, AreCoded, entries_or_none, entries_by, signal_of, signal_by, signal_in, signals_of, message_of, messages_in, messages_of}
use Rattle.ldf_grammar.specs.declared.statement.EncodingEntry.{EncodingEntry}
use Rattle.ldf_grammar.specs.declared.statement.EncodingEntry.TheVariants.{Logical, Physical, Plain}
use Rattle.ldf_grammar.specs.declared.statement.SignalLine.{SignalLine}
use Rattle.ldf_grammar.specs.declared.statement.FrameSignal.{FrameSignal}
use Rattle.ldf_grammar.specs.declared.statement.Frame.{Frame}
use Rattle.ldf_grammar.specs.declared.statement.Encoding.{Encoding}
use Rattle.ldf_grammar.specs.declared.statement.Statement.{Statement}
use Rattle.ldf_grammar.specs.declared.statement.Statement.TheVariants.{Signals, Frames, Encodings, Representations, PassedOver}

-- a list of lists keeps what each keeps
all_flat : {S X : Type 0} (P : X → Type 0) (f : S → List X) (ss : List S) → ((s : S) → All P (f s)) → All P (flat_map f ss)
all_flat P f [] each = All-nil P
all_flat P f (s ∷ ss) each = All-append P (f s) (flat_map f ss) (each s) (all_flat P f ss each)

all_map : {S X : Type 0} (P : X → Type 0) (f : S → X) (ss : List S) → ((s : S) → P (f s)) → All P (map f ss)
all_map P f [] each = All-nil P
all_map P f (s ∷ ss) each = All-cons P (f s) (map f ss) (each s) (all_map P f ss each)

entry_within : (text : List ℕ) (entry : EncodingEntry) (e : Entry) → IsEntryOf text entry e → IsEntry e
entry_within text (Logical raw words) e is = subst IsEntry (sym is) tt
entry_within text (Physical at low high scale offset unit) e (s, scaling, is) = subst IsEntry (sym is) scaling.within
entry_within text Plain e is = subst IsEntry (sym is) tt

entries_within : (text : List ℕ) (entries : List EncodingEntry) (es : List Entry) → AllZip (IsEntryOf text) entries es → All IsEntry es
entries_within text [] [] each = All-nil IsEntry
entries_within text [] (e ∷ es) each = absurd each
entries_within text (x ∷ xs) [] each = absurd each
entries_within text (x ∷ xs) (e ∷ es) each = All-cons IsEntry e es (entry_within text x e each.0) (entries_within text xs es each.1)

-- what is found for a name keeps its limits
abbrev IsGood : Option (List Entry) → Type 0
IsGood None = Unit {0}
IsGood (Some es) = All IsEntry es

first_good : (text name : List ℕ) (encodings : List Encoding) (coded : List (List ℕ × List Entry)) → AllZip (IsCoded text) encodings coded → IsGood (first_of name coded)
unfolding first_of
first_good text name [] [] each = tt
first_good text name [] (p ∷ ps) each = absurd each
first_good text name (x ∷ xs) [] each = absurd each
first_good text name (x ∷ xs) (p ∷ ps) each =
    elim (bytes_eq p.0 name) as (λ (b : Bool). IsGood (if b then Some p.1 else first_of name ps)) [
      | true ↦ entries_within text x.entries p.1 each.0.entries
      | false ↦ first_good text name xs ps each.1
    ]

good_or_none : (o : Option (List Entry)) → IsGood o → All IsEntry (entries_or_none o)
good_or_none None g = All-nil IsEntry
good_or_none (Some es) g = g

good_by : (text : List ℕ) (d : Definitions) (o : Option Token) → ((name : List ℕ) → IsGood (first_of name d.coded)) → IsGood (entries_by text d o)
good_by text d None g = tt
good_by text d (Some encoding) g = g (token_text text encoding)

good_unless : (b : Bool) (es : List Entry) → All IsEntry es → All IsEntry (if b then [] else es)
good_unless true es g = All-nil IsEntry
good_unless false es g = g

signals_good : (text : List ℕ) (d : Definitions) (signal : FrameSignal) (o : Option SignalLine) → ((name : List ℕ) → IsGood (first_of name d.coded))
    → All (λ (s : Signal). IsCoding s.coding) (signal_by text d signal o)
signals_good text d signal None g = All-nil (λ (s : Signal). IsCoding s.coding)
signals_good text d signal (Some line) g =
    All-cons (λ (s : Signal). IsCoding s.coding) (signal_of text d signal line) []
    (good_unless line.is_array _ (good_or_none _ (good_by text d (first_of (token_text text signal.name) d.stated) g)))
    (All-nil (λ (s : Signal). IsCoding s.coding))

message_made : ((n : ℕ) → IsTreeOver n (replicate n None)) → (text : List ℕ) (d : Definitions) (frame : Frame) → ((name : List ℕ) → IsGood (first_of name d.coded)) → IsMade (message_of text d frame)
message_made trees text d frame g = record {
  tree = trees (length (signals_of text d frame));
  codings = all_flat (λ (s : Signal). IsCoding s.coding) (signal_in text d) frame.signals (λ signal. signals_good text d signal (first_of (token_text text signal.name) d.signals) g);
}

messages_made : ((n : ℕ) → IsTreeOver n (replicate n None)) → (text : List ℕ) (d : Definitions) (statement : Statement) → ((name : List ℕ) → IsGood (first_of name d.coded)) → All IsMade (messages_in text d statement)
messages_made trees text d (Signals lines) g = All-nil IsMade
messages_made trees text d (Frames frames) g = all_map IsMade (message_of text d) frames (λ frame. message_made trees text d frame g)
messages_made trees text d (Encodings encodings) g = All-nil IsMade
messages_made trees text d (Representations lines) g = All-nil IsMade
messages_made trees text d PassedOver g = All-nil IsMade

-- the messages are made as `check` asks
pub all_made : ((n : ℕ) → IsTreeOver n (replicate n None)) → (text : List ℕ) (statements : List Statement) (coded : List (List ℕ × List Entry)) → AreCoded text statements coded
    → All IsMade (messages_of text (definitions_of text statements coded) statements)
all_made trees text statements coded each =
    all_flat IsMade (messages_in text (definitions_of text statements coded)) statements
    (λ statement. messages_made trees text (definitions_of text statements coded) statement (λ name. first_good text name (all_encodings statements) coded each))
