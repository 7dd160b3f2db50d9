-- Every text has a database or a fault.
use Rattle.std.proofs.Common.{◌≡◌, ap, refl, arith, ℕ, zero, suc, ◌+◌, ◌<◌, ◌⊎◌, inl, inr, Bool, false, List, [], ◌∷◌, ◌++◌}
use Rattle.std.proofs.Common.{length}
use Rattle.std.specs.Prelude.{Option, Some, slice_get}
use Rattle.std.specs.Str.{is_utf8}
use Rattle.std.specs.List.{flat_map, enumerate_from, AllByRecursion, AllZip}
use Rattle.std.proofs.lemmas.List.{length-map}
use Rattle.std.proofs.lemmas.Str.{IsUtf8-from_is_utf8, is_utf8-from_IsUtf8}
use Rattle.decisions.specs.ListDecisions.{decides_first}
use Rattle.exact_scale.specs.declared.scaling.Scale.{Scale}
use Rattle.multiplex_tree.specs.declared.mark.Mark.{Mark}
use Rattle.multiplex_tree.specs.declared.mark.Link.{Link}
use Rattle.multiplex_tree.specs.declared.mark.Parent.{Parent}
use Rattle.multiplex_tree.specs.declared.fault.MuxWhy.{MuxWhy}
use Rattle.multiplex_tree.specs.declared.fault.MuxWhy.TheVariants.{NoParent, Ambiguous, Cycle, Deep}
use Rattle.multiplex_tree.specs.declared.fault.MuxFault.TheVariants as mux
use Rattle.multiplex_tree.specs.Chain.{signals_above}
use Rattle.multiplex_tree.specs.Fault.{IsTree, IsFault}
use Rattle.multiplex_tree.specs.Trees.{IsTreeOver}
use Rattle.bench_model.specs.declared.database.Coding.TheVariants.{Scaled}
use Rattle.bench_model.specs.declared.database.Signal.{Signal}
use Rattle.bench_model.specs.declared.database.Message.{Message}
use Rattle.bench_model.specs.declared.database.Database.{Database}
use Rattle.bench_model.specs.declared.fault.CheckFault.{CheckFault}
use Rattle.bench_model.specs.Limits.{IsMade, IsMadeDatabase}
use Rattle.bench_model.specs.Check.{IsValid, IsFirstFault}
use Rattle.sig_text.specs.Content.{content_of}
use Rattle.sig_text.specs.declared.token.Token.{Token}
use Rattle.sig_text.specs.declared.fault.LexFault.{LexFault}
use Rattle.sig_text.specs.Tokens.{IsTokens, IsLexFault}
use Rattle.token_forms.specs.Pieces.{token_text}
use Rattle.token_forms.specs.Runs.{run_of}
use Rattle.token_forms.specs.Grammar.{Each}
use Rattle.dbc_grammar.specs.declared.fault.DbcFault.{DbcFault}
use Rattle.dbc_grammar.specs.declared.fault.DbcFault.TheVariants as faults
use Rattle.dbc_grammar.specs.declared.statement.Note.{Note}
use Rattle.dbc_grammar.specs.declared.statement.SignalForm.{SignalForm}
use Rattle.dbc_grammar.specs.declared.statement.MessageForm.{MessageForm}
use Rattle.dbc_grammar.specs.declared.statement.Statement.{Statement}
use Rattle.dbc_grammar.specs.Statements.{Parses}
use Rattle.dbc_grammar.specs.Forms.{statement_at}
use Rattle.dbc_grammar.specs.Naming.{Noted, noted_in, message_key, is_first_message, notes_on, places_in}
use Rattle.dbc_grammar.specs.Gather.{IsSignalOf, IsSignalAt, labels_in, float_after, message_marks}
use Rattle.dbc_grammar.specs.Gather.{message_links, messages_of, notes_of}
use Rattle.dbc_grammar.specs.Contract.{AreStatements, Gathers, IsMessageAt, IsDatabaseOf, HasFault, HasScale, IsTooWideAt, HasSomeScale, IsFirstWide, HasTree, HasSomeTree}
use Rattle.dbc_grammar.specs.Contract.{all_signals, fault_id}
use Rattle.dbc_grammar.proofs.RowLaws.{rec-all}
use Rattle.dbc_grammar.proofs.MadeLaws.{messages_made}
use Rattle.dbc_grammar.proofs.WideLaws.{OneScale, SomeScale, scales_decide, AreScaled}

-- the statements that are read are there, as many as there are
abbrev pub SomeRun : Type 0
SomeRun = (text : List ℕ) (tokens : List Token)
    → Each (Parses text) (run_of (statement_at text) tokens).0 tokens (run_of (statement_at text) tokens).1

-- what the crates below say: each text has tokens or a fault, each message a tree or a fault, and each database a verdict
pub record Found : Type 0 where
  pub one_scale : OneScale
  pub some_scale : SomeScale
  pub run : SomeRun
  pub tree : (marks : List Mark) (links : List Link)
      → ((t : List (Option Parent)) × IsTree marks links t) ⊎ ((s : ℕ) × (why : MuxWhy) × IsFault marks links (mux.At s why))
  pub over : (marks : List Mark) (links : List Link) (parents : List (Option Parent)) → IsTree marks links parents
      → IsTreeOver (length marks) parents
  pub reading : (text : List ℕ) (comments : Bool)
      → ((list : List Token) × IsTokens text comments list) ⊎ ((fault : LexFault) × IsLexFault text comments fault)
  pub verdict : (d : Database) → IsMadeDatabase d → IsValid d ⊎ ((fault : CheckFault) × IsFirstFault d fault)

-- ---- each signal has a scale, or the first that has none is named

all_scaled : (text : List ℕ) (forms : List SignalForm) (scales : List Scale) → AllZip (HasScale text) forms scales → AreScaled text forms
all_scaled text [] scales each = tt
all_scaled text (form ∷ forms) [] each = absurd each
all_scaled text (form ∷ forms) (scale ∷ scales) each = ((scale, each.0), all_scaled text forms scales each.1)

wide_or_scaled : (found : Found) (text : List ℕ) (forms : List SignalForm)
    → ((at : ℕ) × IsFirstWide text forms at) ⊎ AreScaled text forms
wide_or_scaled found text forms = elim
    ((decides_first (HasScale text) (IsTooWideAt text) (scales_decide found.one_scale found.some_scale text)).some forms) [
      | inl scales ↦ inr (all_scaled text forms scales.0 scales.1)
      | inr wide ↦ inl wide
    ]

-- ---- signals that have scales are made

signal_with : (text : List ℕ) (utf8 : Bool) (form : SignalForm) (notes : List Note) → HasSomeScale text form
    → (s : Signal) × IsSignalOf text utf8 form notes s
signal_with text utf8 form notes (scale, is) = (
  record {
    name = token_text text form.name;
    start = form.place.start;
    size = form.place.size;
    order = form.place.order;
    signed = form.place.signed;
    float = float_after false notes;
    coding = Scaled scale (content_of text form.unit utf8) (flat_map (labels_in text utf8) notes);
  },
  record { name = refl; start = refl; size = refl; order = refl; signed = refl; float = refl; scale = scale; is_scale = is; coding = refl },
)

signals_with : (text : List ℕ) (utf8 : Bool) (noted : Noted) (named : Bool) (m : MessageForm) (n : ℕ) (forms : List SignalForm)
    → AreScaled text forms
    → (signals : List Signal) × AllZip (IsSignalAt text utf8 noted named m) (enumerate_from n forms) signals
signals_with text utf8 noted named m n [] all = ([], tt)
signals_with text utf8 noted named m n (form ∷ forms) all =
    let one = signal_with text utf8 form (notes_on text noted (places_in text m) named (message_key m) n form) all.0 in
    let later = signals_with text utf8 noted named m (n + 1) forms all.1 in
    (one.0 ∷ later.0, (one.1, later.1))

-- ---- each message has a tree, or the first that has none is named

-- a fault names a signal that is there
fault_within : (marks : List Mark) (links : List Link) (s : ℕ) (why : MuxWhy) → IsFault marks links (mux.At s why) → s < length marks
fault_within marks links s NoParent fault = fault.within
fault_within marks links s Ambiguous fault = fault.within
fault_within marks links s Cycle fault =
    let ups : length (signals_above fault.parents) ≡ length fault.parents = length-map fault.parents _ in
    let within = fault.chains.within in
    let number = fault.are_parents.number in
    omega arith
fault_within marks links s Deep fault =
    let ups : length (signals_above fault.parents) ≡ length fault.parents = length-map fault.parents _ in
    let within = fault.chains.within in
    let number = fault.are_parents.number in
    omega arith

form_at : (forms : List SignalForm) (i : ℕ) → i < length forms → (form : SignalForm) × (slice_get forms i ≡ Some form)
form_at [] i below = absurd (omega arith)
form_at (form ∷ forms) zero below = (form, refl)
form_at (form ∷ forms) (suc i) below = form_at forms i (omega arith)

-- the first of messages from this place on that has no tree
record TreelessFrom (text : List ℕ) (noted : Noted) (all : List MessageForm) (n : ℕ) (forms : List MessageForm) : Type 0 where
  before : List MessageForm
  message : MessageForm
  after : List MessageForm
  cut : forms ≡ before ++ message ∷ after
  place : ℕ
  place_is : place ≡ n + length before
  signal : ℕ
  form : SignalForm
  form_is : slice_get message.signals signal ≡ Some form
  why : MuxWhy
  fault : IsFault (message_marks message) (message_links text noted (is_first_message all place message) message) (mux.At signal why)
  first : AllByRecursion (HasSomeTree text noted all) (enumerate_from n before)

abbrev MessagesOrTreeless : List ℕ → Bool → Noted → List MessageForm → ℕ → List MessageForm → Type 0
MessagesOrTreeless text utf8 noted all n forms =
    ((messages : List Message) × AllZip (IsMessageAt text utf8 noted all)
    (enumerate_from n forms) messages) ⊎ TreelessFrom text noted all n forms

treeless_here : (text : List ℕ) (utf8 : Bool) (noted : Noted) (all : List MessageForm) (n : ℕ) (m : MessageForm)
    (forms : List MessageForm) (s : ℕ) (why : MuxWhy)
    → IsFault (message_marks m) (message_links text noted (is_first_message all n m) m) (mux.At s why)
    → TreelessFrom text noted all n (m ∷ forms)
treeless_here text utf8 noted all n m forms s why fault =
    let marks : length (message_marks m) ≡ length m.signals = length-map m.signals _ in
    let within = fault_within (message_marks m) (message_links text noted (is_first_message all n m) m) s why fault in
    let form = form_at m.signals s (omega arith) in
    record {
      before = [];
      message = m;
      after = forms;
      cut = refl;
      place = n;
      place_is = omega arith;
      signal = s;
      form = form.0;
      form_is = form.1;
      why = why;
      fault = fault;
      first = tt;
    }

message_with : (text : List ℕ) (utf8 : Bool) (noted : Noted) (all : List MessageForm) (n : ℕ) (m : MessageForm)
    → AreScaled text m.signals
    → (parents : List (Option Parent)) → HasTree text noted all (n, m) parents
    → (message : Message) × IsMessageAt text utf8 noted all (n, m) message
message_with text utf8 noted all n m scaled parents tree =
    let signals = signals_with text utf8 noted (is_first_message all n m) m 0 m.signals scaled in (
      record {
        name = token_text text m.heading.name;
        key = message_key m;
        length = m.heading.byte_count;
        signals = signals.0;
        tree = record { parents = parents };
      },
      record { name = refl; key = refl; byte_count = refl; signals = signals.1; tree = tree },
    )

message_before : (text : List ℕ) (utf8 : Bool) (noted : Noted) (all : List MessageForm) (n : ℕ) (m : MessageForm)
    (forms : List MessageForm) → AreScaled text m.signals
    → (parents : List (Option Parent)) → HasTree text noted all (n, m) parents → MessagesOrTreeless text utf8 noted all (n + 1) forms
    → MessagesOrTreeless text utf8 noted all n (m ∷ forms)
message_before text utf8 noted all n m forms scaled parents tree later = elim later [
  | inl rest ↦
      let one = message_with text utf8 noted all n m scaled parents tree in
      inl (one.0 ∷ rest.0, (one.1, rest.1))
  | inr t ↦ inr (record {
    before = m ∷ t.before;
    message = t.message;
    after = t.after;
    cut = ap (λ l. m ∷ l) t.cut;
    place = t.place;
    place_is = let is = t.place_is in omega arith;
    signal = t.signal;
    form = t.form;
    form_is = t.form_is;
    why = t.why;
    fault = t.fault;
    first = ((parents, tree), t.first);
  })
]

prefix_of : (text : List ℕ) (xs ys : List SignalForm) → AreScaled text (xs ++ ys)
    → AreScaled text xs × AreScaled text ys
prefix_of text [] ys all = (tt, all)
prefix_of text (x ∷ xs) ys all = let rest = prefix_of text xs ys all.1 in ((all.0, rest.0), rest.1)

messages_or_treeless : (found : Found) (text : List ℕ) (utf8 : Bool) (noted : Noted) (all : List MessageForm) (n : ℕ)
    (forms : List MessageForm)
    → AreScaled text (all_signals forms) → MessagesOrTreeless text utf8 noted all n forms
messages_or_treeless found text utf8 noted all n [] scaled = inl ([], tt)
messages_or_treeless found text utf8 noted all n (m ∷ forms) scaled =
    let parts = prefix_of text m.signals (all_signals forms) scaled in
    elim (found.tree (message_marks m) (message_links text noted (is_first_message all n m) m)) [
      | inl tree ↦ message_before text utf8 noted all n m forms parts.0 tree.0 tree.1
          (messages_or_treeless found text utf8 noted all (n + 1) forms parts.1)
      | inr fault ↦ inr (treeless_here text utf8 noted all n m forms fault.0 fault.1 fault.2)
    ]

-- ---- so the whole text has a database or a fault

abbrev pub HasSome : List ℕ → Type 0
HasSome bytes = ((d : Database) × IsDatabaseOf bytes d) ⊎ ((fault : DbcFault) × HasFault bytes fault)

judged : (found : Found) (bytes : List ℕ) (statements : List Statement) (d : Database) → AreStatements bytes statements
    → Gathers bytes statements d → HasSome bytes
judged found bytes statements d are gathers =
    let noted = noted_in bytes (notes_of statements) in
    let forms = messages_of statements in
    elim (found.verdict d
    (rec-all IsMade d.messages (messages_made bytes gathers.utf8 noted forms 0 forms d.messages found.over gathers.messages))) [
      | inl valid ↦ inl (d, record { statements = statements; are_statements = are; gathers = gathers; valid = valid })
      | inr fault ↦ inr (faults.Check fault.0, (statements, d, are, gathers, fault.1))
    ]

with_messages : (found : Found) (bytes : List ℕ) (statements : List Statement) → AreStatements bytes statements
    → AreScaled bytes (all_signals (messages_of statements))
    → MessagesOrTreeless bytes (is_utf8 bytes) (noted_in bytes (notes_of statements)) (messages_of statements) 0 (messages_of statements)
    → HasSome bytes
with_messages found bytes statements are scaled either = elim either [
  | inl made ↦
      judged found bytes statements (record { messages = made.0 }) are
      (record { utf8 = is_utf8 bytes; is_utf8 = (IsUtf8-from_is_utf8 bytes, is_utf8-from_IsUtf8 bytes); messages = made.1 })
  | inr t ↦ inr (
    faults.Mux (fault_id (message_key t.message)) (token_text bytes t.form.name) t.why,
    record {
      statements = statements;
      are_statements = are;
      scaled = scaled;
      treeless = record {
        before = t.before;
        message = t.message;
        after = t.after;
        cut = t.cut;
        place = t.place;
        place_is = let is = t.place_is in omega arith;
        signal = t.signal;
        form = t.form;
        form_is = t.form_is;
        fault = t.fault;
        first = t.first;
        id_is = refl;
        name_is = refl;
      };
    },
  )
]

with_statements : (found : Found) (bytes : List ℕ) (statements : List Statement) → AreStatements bytes statements → HasSome bytes
with_statements found bytes statements are = elim (wide_or_scaled found bytes (all_signals (messages_of statements))) [
  | inl wide ↦ inr (faults.Scale wide.0, record { statements = statements; are_statements = are; wide = wide.1 })
  | inr scaled ↦
      with_messages found bytes statements are scaled
      (messages_or_treeless found bytes (is_utf8 bytes) (noted_in bytes (notes_of statements)) (messages_of statements) 0
      (messages_of statements) scaled)
]

with_run : (found : Found) (bytes : List ℕ) (tokens : List Token) → IsTokens bytes false tokens
    → (statements : List Statement) (rest : List Token) → Each (Parses bytes) statements tokens rest → HasSome bytes
with_run found bytes tokens are statements [] longest =
    with_statements found bytes statements (record { tokens = tokens; are_tokens = are; all = longest })
with_run found bytes tokens are statements (token ∷ later) longest = inr (
  faults.Statement token.at,
  record {
    tokens = tokens;
    are_tokens = are;
    broken = record { found = statements; token = token; later = later; each = longest; place = refl };
  },
)

pub database_or_fault : (found : Found) (bytes : List ℕ) → HasSome bytes
database_or_fault found bytes = elim (found.reading bytes false) [
  | inl tokens ↦
      let run = run_of (statement_at bytes) tokens.0 in
      with_run found bytes tokens.0 tokens.1 run.0 run.1 (found.run bytes tokens.0)
  | inr fault ↦ inr (faults.Lex fault.0, fault.1)
]
