-- One more signal of a message, one more message of all: what rows have so far.
use Rattle.std.proofs.Common.{◌≡◌, ◌∙◌, sym, ap, subst, ℕ, zero, suc, ◌+◌, ◌<◌, ◌≤◌, List, [], ◌∷◌, ◌++◌, length, get_or, take, Bool, map, arith}
use Rattle.std.proofs.Math.Path.{fun_ext}
use Rattle.std.specs.Prelude.{All}
use Rattle.std.specs.List.{flat_map, enumerate_from, AllByRecursion, AllZip}
use Rattle.std.proofs.lemmas.List.{take_more, append-nil, map-append, length-map}
use Rattle.std.proofs.lemmas.Grind.{flat_map-append}
use Rattle.multiplex_tree.specs.declared.mark.Link.{Link}
use Rattle.multiplex_tree.specs.declared.mark.Mark.{Mark}
use Rattle.bench_model.specs.declared.database.Key.{Key}
use Rattle.bench_model.specs.declared.database.Signal.{Signal}
use Rattle.dbc_grammar.specs.declared.row.Row.{Row}
use Rattle.dbc_grammar.specs.declared.statement.Note.{Note}
use Rattle.dbc_grammar.specs.declared.statement.Says.{Says}
use Rattle.dbc_grammar.specs.declared.statement.Says.TheVariants as says
use Rattle.dbc_grammar.specs.declared.statement.SignalForm.{SignalForm}
use Rattle.dbc_grammar.specs.declared.statement.MessageForm.{MessageForm}
use Rattle.dbc_grammar.specs.Naming.{Noted, Places, message_key, places_in, notes_on, is_first_message}
use Rattle.dbc_grammar.specs.Gather.{IsSignalOf, IsSignalAt, links_in, links_said, signal_links, message_links, message_marks}
use Rattle.dbc_grammar.specs.Rows.{IsRowOf, IsRowAt}
use Rattle.dbc_grammar.proofs.ListLaws.{each_more, enumerated_more}

-- places that are equal are one function
pub same_places : (f g : Places) → ((q : List ℕ) → f q ≡ g q) → f ≡ g
same_places f g same = fun_ext same

-- and so are notes
pub same_noted : (f g : Noted) → ((k : Key) (n : List ℕ) → f k n ≡ g k n) → f ≡ g
same_noted f g same = fun_ext (λ k. fun_ext (same k))

-- one more signal
pub signals_go_on : (text : List ℕ) (utf8 : Bool) (noted : Noted) (named : Bool) (m : MessageForm) (place_of : Places) (i : ℕ) (d : SignalForm)
    (done new : List Signal) (notes : List Note) (s : Signal) → i < length m.signals → place_of ≡ places_in text m →
    IsSignalOf text utf8 (get_or m.signals i d) notes s →
    notes ≡ notes_on text noted place_of named (message_key m) i (get_or m.signals i d) →
    AllZip (IsSignalAt text utf8 noted named m) (enumerate_from 0 (take i m.signals)) done → new ≡ done ++ s ∷ [] →
    AllZip (IsSignalAt text utf8 noted named m) (enumerate_from 0 (take (i + 1) m.signals)) new
signals_go_on text utf8 noted named m place_of i d done new notes s below places is noted_is each added =
    let form = get_or m.signals i d in
    let all : notes ≡ notes_on text noted (places_in text m) named (message_key m) i form =
    noted_is ∙ ap (λ (p : Places). notes_on text noted p named (message_key m) i form) places in
    let one : IsSignalAt text utf8 noted named m (i, form) s = subst (λ ns. IsSignalOf text utf8 form ns s) all is in
    let more = each_more (IsSignalAt text utf8 noted named m) (enumerate_from 0 (take i m.signals)) done (i, form) s each one in
    subst (λ ys. AllZip (IsSignalAt text utf8 noted named m) (enumerate_from 0 (take (i + 1) m.signals)) ys) (sym added)
    (subst (λ xs. AllZip (IsSignalAt text utf8 noted named m) xs (done ++ s ∷ [])) (sym (enumerated_more m.signals i d below)) more)

pub links_go_on : (text : List ℕ) (noted : Noted) (named : Bool) (m : MessageForm) (place_of : Places) (i : ℕ) (d : SignalForm)
    (old new : List Link) (notes : List Note) → i < length m.signals → place_of ≡ places_in text m →
    notes ≡ notes_on text noted place_of named (message_key m) i (get_or m.signals i d) →
    old ≡ flat_map (signal_links text noted named m) (enumerate_from 0 (take i m.signals)) → new ≡ old ++ flat_map (links_in text place_of i) notes →
    new ≡ flat_map (signal_links text noted named m) (enumerate_from 0 (take (i + 1) m.signals))
links_go_on text noted named m place_of i d old new notes below places noted_is before added =
    let form = get_or m.signals i d in
    let F = signal_links text noted named m in
    let one : flat_map (links_in text place_of i) notes ≡ F (i, form) =
    ap (λ ns. flat_map (links_in text place_of i) ns) noted_is
    ∙ ap (λ (p : Places). flat_map (links_in text p i) (notes_on text noted p named (message_key m) i form)) places in
    added ∙ ap (λ l. l ++ flat_map (links_in text place_of i) notes) before
    ∙ ap (λ l. flat_map F (enumerate_from 0 (take i m.signals)) ++ l) (one ∙ sym (append-nil (F (i, form))))
    ∙ sym (flat_map-append F (enumerate_from 0 (take i m.signals)) ((i, form) ∷ []))
    ∙ ap (flat_map F) (sym (enumerated_more m.signals i d below))

-- the same over a list that is that of the message's signals
pub signals_go_on_in : (text : List ℕ) (utf8 : Bool) (noted : Noted) (named : Bool) (m : MessageForm) (place_of : Places) (forms : List SignalForm) (i : ℕ) (d : SignalForm)
    (done new : List Signal) (listed said : List Note) (s : Signal) (key : Key) → forms ≡ m.signals → i < length forms → place_of ≡ places_in text m → key ≡ message_key m →
    IsSignalOf text utf8 (get_or forms i d) listed s →
    said ≡ notes_on text noted place_of named key i (get_or forms i d) → listed ≡ said →
    AllZip (IsSignalAt text utf8 noted named m) (enumerate_from 0 (take i m.signals)) done → new ≡ done ++ s ∷ [] →
    AllZip (IsSignalAt text utf8 noted named m) (enumerate_from 0 (take (i + 1) m.signals)) new
signals_go_on_in text utf8 noted named m place_of forms i d done new listed said s key same below places keys is noted_is read each added =
    signals_go_on text utf8 noted named m place_of i d done new listed s
    (subst (λ (fs : List SignalForm). i < length fs) same below) places
    (subst (λ (fs : List SignalForm). IsSignalOf text utf8 (get_or fs i d) listed s) same is)
    (read ∙ noted_is ∙ ap (λ (k : Key). notes_on text noted place_of named k i (get_or forms i d)) keys
    ∙ ap (λ (fs : List SignalForm). notes_on text noted place_of named (message_key m) i (get_or fs i d)) same) each added

pub links_go_on_in : (text : List ℕ) (noted : Noted) (named : Bool) (m : MessageForm) (place_of : Places) (forms : List SignalForm) (i : ℕ) (d : SignalForm)
    (old new : List Link) (listed said : List Note) (key : Key) → forms ≡ m.signals → i < length forms → place_of ≡ places_in text m → key ≡ message_key m →
    said ≡ notes_on text noted place_of named key i (get_or forms i d) → listed ≡ said →
    old ≡ flat_map (signal_links text noted named m) (enumerate_from 0 (take i m.signals)) → new ≡ old ++ flat_map (links_in text place_of i) listed →
    new ≡ flat_map (signal_links text noted named m) (enumerate_from 0 (take (i + 1) m.signals))
links_go_on_in text noted named m place_of forms i d old new listed said key same below places keys noted_is read before added =
    links_go_on text noted named m place_of i d old new listed (subst (λ (fs : List SignalForm). i < length fs) same below) places
    (read ∙ noted_is ∙ ap (λ (k : Key). notes_on text noted place_of named k i (get_or forms i d)) keys
    ∙ ap (λ (fs : List SignalForm). notes_on text noted place_of named (message_key m) i (get_or fs i d)) same) before added

pub marks_go_on : (forms : List SignalForm) (i : ℕ) (d : SignalForm) (old new : List Mark) → i < length forms →
    old ≡ map (λ (s : SignalForm). s.mark) (take i forms) → new ≡ old ++ (get_or forms i d).mark ∷ [] →
    new ≡ map (λ (s : SignalForm). s.mark) (take (i + 1) forms)
marks_go_on forms i d old new below before added =
    added ∙ ap (λ l. l ++ (get_or forms i d).mark ∷ []) before
    ∙ sym (map-append (λ (s : SignalForm). s.mark) (take i forms) (get_or forms i d ∷ []))
    ∙ ap (map (λ (s : SignalForm). s.mark)) (sym (take_more forms i d below))

pub marks_go_on_in : (all forms : List SignalForm) (i : ℕ) (d : SignalForm) (old new : List Mark) → forms ≡ all → i < length forms →
    old ≡ map (λ (s : SignalForm). s.mark) (take i all) → new ≡ old ++ (get_or forms i d).mark ∷ [] →
    new ≡ map (λ (s : SignalForm). s.mark) (take (i + 1) all)
marks_go_on_in all forms i d old new same below before added =
    marks_go_on all i d old new (subst (λ (fs : List SignalForm). i < length fs) same below) before
    (added ∙ ap (λ (fs : List SignalForm). old ++ (get_or fs i d).mark ∷ []) same)

-- a row with these notes is one with the same notes
pub row_with : (text : List ℕ) (utf8 : Bool) (f g : Noted) (named also : Bool) (m : MessageForm) (row : Row) → f ≡ g → named ≡ also →
    IsRowOf text utf8 f named m row → IsRowOf text utf8 g also m row
row_with text utf8 f g named also m row notes names is =
    subst (λ (b : Bool). IsRowOf text utf8 g b m row) names (subst (λ (n : Noted). IsRowOf text utf8 n named m row) notes is)

-- one more row
pub rows_go_on : (text : List ℕ) (utf8 : Bool) (noted : Noted) (messages : List MessageForm) (i : ℕ) (m : MessageForm) (done new : List Row) (row : Row) →
    i < length messages → m ≡ get_or messages i m → IsRowOf text utf8 noted (is_first_message messages i m) m row →
    AllZip (IsRowAt text utf8 noted messages) (enumerate_from 0 (take i messages)) done → new ≡ done ++ row ∷ [] →
    AllZip (IsRowAt text utf8 noted messages) (enumerate_from 0 (take (i + 1) messages)) new
rows_go_on text utf8 noted messages i m done new row below there is each added =
    let R = IsRowAt text utf8 noted messages in
    let one : R (i, get_or messages i m) row =
    subst (λ (x : MessageForm). IsRowOf text utf8 noted (is_first_message messages i x) x row) there is in
    subst (λ ys. AllZip R (enumerate_from 0 (take (i + 1) messages)) ys) (sym added)
    (subst (λ xs. AllZip R xs (done ++ row ∷ [])) (sym (enumerated_more messages i m below))
    (each_more R (enumerate_from 0 (take i messages)) done (i, get_or messages i m) row each one))

-- ---- the child of each link is a signal of the message

pub rec-append : {A : Type 0} (P : A → Type 0) (xs ys : List A) → AllByRecursion P xs → AllByRecursion P ys → AllByRecursion P (xs ++ ys)
rec-append P [] ys a b = b
rec-append P (x ∷ xs) ys a b = (a.0, rec-append P xs ys a.1 b)

pub rec-all : {A : Type 0} (P : A → Type 0) (xs : List A) → AllByRecursion P xs → (k : ℕ) (d : A) → k < length xs → P (get_or xs k d)
rec-all P [] all k d lt = absurd (omega arith)
rec-all P (x ∷ xs) all zero d lt = all.0
rec-all P (x ∷ xs) all (suc k) d lt = rec-all P xs all.1 k d (omega arith)

abbrev IsChildBelow : ℕ → Link → Type 0
IsChildBelow n l = l.child < n

said_below : (text : List ℕ) (p : Places) (n j : ℕ) (s : Says) → j < n → AllByRecursion (IsChildBelow n) (links_said text p j s)
said_below text p n j (says.Texts texts) lt = tt
said_below text p n j (says.Type kind) lt = tt
said_below text p n j (says.Below multiplexor ranges) lt = (lt, tt)

notes_below : (text : List ℕ) (p : Places) (n j : ℕ) (notes : List Note) → j < n → AllByRecursion (IsChildBelow n) (flat_map (links_in text p j) notes)
notes_below text p n j [] lt = tt
notes_below text p n j (note ∷ notes) lt =
    rec-append (IsChildBelow n) (links_in text p j note) (flat_map (links_in text p j) notes)
    (said_below text p n j note.says lt) (notes_below text p n j notes lt)

signals_below : (text : List ℕ) (noted : Noted) (named : Bool) (m : MessageForm) (n j : ℕ) (forms : List SignalForm) → j + length forms ≤ n →
    AllByRecursion (IsChildBelow n) (flat_map (signal_links text noted named m) (enumerate_from j forms))
signals_below text noted named m n j [] fit = tt
signals_below text noted named m n j (f ∷ forms) fit =
    rec-append (IsChildBelow n) (signal_links text noted named m (j, f)) (flat_map (signal_links text noted named m) (enumerate_from (j + 1) forms))
    (notes_below text (places_in text m) n j (notes_on text noted (places_in text m) named (message_key m) j f) (omega arith))
    (signals_below text noted named m n (j + 1) forms (omega arith))

pub links_within : (text : List ℕ) (noted : Noted) (named : Bool) (m : MessageForm) (marks : List Mark) (links : List Link) →
    marks ≡ message_marks m → links ≡ message_links text noted named m → All (λ (l : Link). l.child < length marks) links
links_within text noted named m marks links marks_are links_are =
    let n : length marks ≡ length m.signals = ap length marks_are ∙ length-map m.signals (λ (s : SignalForm). s.mark) in
    subst (λ k. All (λ (l : Link). l.child < k) links) (sym n)
    (subst (λ ls. All (λ (l : Link). l.child < length m.signals) ls) (sym links_are)
    (rec-all (IsChildBelow (length m.signals)) (message_links text noted named m)
    (signals_below text noted named m (length m.signals) 0 m.signals (omega arith))))
