-- Bytes have one database at most.
use Rattle.std.proofs.Common.{◌≡◌, ◌∙◌, sym, ap, subst, ℕ, List, [], ◌∷◌, Bool, true, false, refl, Option}
use Rattle.std.specs.Prelude.{IsTrue, ◌↔◌, IsUtf8}
use Rattle.std.specs.List.{enumerate_from, flat_map, AllZip}
use Rattle.exact_scale.specs.declared.scaling.Scale.{Scale}
use Rattle.multiplex_tree.specs.declared.mark.Mark.{Mark}
use Rattle.multiplex_tree.specs.declared.mark.Link.{Link}
use Rattle.multiplex_tree.specs.declared.mark.Parent.{Parent}
use Rattle.multiplex_tree.specs.declared.tree.Tree.{Tree}
use Rattle.multiplex_tree.specs.Fault.{IsTree}
use Rattle.bench_model.specs.declared.database.Key.{Key}
use Rattle.bench_model.specs.declared.database.Order.{Order}
use Rattle.bench_model.specs.declared.database.Coding.{Coding}
use Rattle.bench_model.specs.declared.database.Coding.TheVariants.{Scaled}
use Rattle.bench_model.specs.declared.database.Signal.{Signal}
use Rattle.bench_model.specs.declared.database.Message.{Message}
use Rattle.bench_model.specs.declared.database.Database.{Database}
use Rattle.sig_text.specs.Content.{content_of}
use Rattle.sig_text.specs.declared.token.Token.{Token}
use Rattle.sig_text.specs.Tokens.{IsTokens}
use Rattle.token_forms.specs.Numbers.{signed_text}
use Rattle.token_forms.specs.Grammar.{Each}
use Rattle.dbc_grammar.specs.declared.statement.Note.{Note}
use Rattle.dbc_grammar.specs.declared.statement.SignalForm.{SignalForm}
use Rattle.dbc_grammar.specs.declared.statement.MessageForm.{MessageForm}
use Rattle.dbc_grammar.specs.declared.statement.Statement.{Statement}
use Rattle.dbc_grammar.specs.Statements.{Parses}
use Rattle.dbc_grammar.specs.Naming.{Noted, noted_in, is_first_message}
use Rattle.dbc_grammar.specs.Gather.{IsSignalOf, IsSignalAt, labels_in, messages_of, notes_of}
use Rattle.dbc_grammar.specs.Contract.{AreStatements, IsMessageAt, Gathers, IsDatabaseOf}
use Rattle.dbc_grammar.proofs.WideLaws.{OneScale}

-- the laws of the layers below: marks and links have one tree, a text has one list of tokens, and a form one longest run
abbrev pub OneTree : Type 0
OneTree = (marks : List Mark) (links : List Link) (a b : List (Option Parent)) → IsTree marks links a → IsTree marks links b → a ≡ b

abbrev pub OneReading : Type 0
OneReading = (text : List ℕ) (comments : Bool) (a b : List Token) → IsTokens text comments a → IsTokens text comments b → a ≡ b

abbrev pub OneRun : Type 0
OneRun = (text : List ℕ) (tokens : List Token) (xs ys : List Statement) (rest left : List Token) →
    Each (Parses text) xs tokens rest → Each (Parses text) ys tokens left → (xs ≡ ys) × (rest ≡ left)

make_signal : List ℕ → ℕ → ℕ → Order → Bool → Bool → Coding → Signal
make_signal name start size order signed float coding =
    record { name = name; start = start; size = size; order = order; signed = signed; float = float; coding = coding }

one_signal : OneScale → (text : List ℕ) (utf8 : Bool) (form : SignalForm) (notes : List Note) (a b : Signal) →
    IsSignalOf text utf8 form notes a → IsSignalOf text utf8 form notes b → a ≡ b
unfolding make_signal
one_signal once text utf8 form notes a b sa sb =
    let scale = once (signed_text text form.scaling.factor) (signed_text text form.scaling.offset) sa.scale sb.scale sa.is_scale sb.is_scale in
    let coding : a.coding ≡ b.coding = sa.coding
    ∙ ap (λ (s : Scale). Scaled s (content_of text form.unit utf8) (flat_map (labels_in text utf8) notes)) scale ∙ sym sb.coding in
    ap (λ n. make_signal n a.start a.size a.order a.signed a.float a.coding) (sa.name ∙ sym sb.name)
    ∙ ap (λ n. make_signal b.name n a.size a.order a.signed a.float a.coding) (sa.start ∙ sym sb.start)
    ∙ ap (λ n. make_signal b.name b.start n a.order a.signed a.float a.coding) (sa.size ∙ sym sb.size)
    ∙ ap (λ n. make_signal b.name b.start b.size n a.signed a.float a.coding) (sa.order ∙ sym sb.order)
    ∙ ap (λ n. make_signal b.name b.start b.size b.order n a.float a.coding) (sa.signed ∙ sym sb.signed)
    ∙ ap (λ n. make_signal b.name b.start b.size b.order b.signed n a.coding) (sa.float ∙ sym sb.float)
    ∙ ap (λ n. make_signal b.name b.start b.size b.order b.signed b.float n) coding

-- lists whose elements are determined are
each_once : {A B : Type 0} (R : A → B → Type 0) → ((a : A) (x y : B) → R a x → R a y → x ≡ y) →
    (keys : List A) (xs ys : List B) → AllZip R keys xs → AllZip R keys ys → xs ≡ ys
each_once R once [] [] [] e f = refl
each_once R once [] [] (y ∷ ys) e f = absurd f
each_once R once [] (x ∷ xs) ys e f = absurd e
each_once R once (a ∷ keys) [] ys e f = absurd e
each_once R once (a ∷ keys) (x ∷ xs) [] e f = absurd f
each_once {A} {B} R once (a ∷ keys) (x ∷ xs) (y ∷ ys) e f =
    ap (λ (z : B). z ∷ xs) (once a x y e.0 f.0) ∙ ap (λ (l : List B). y ∷ l) (each_once R once keys xs ys e.1 f.1)

make_tree : List (Option Parent) → Tree
make_tree parents = record { parents = parents }

make_message : List ℕ → Key → ℕ → List Signal → Tree → Message
make_message name key size signals tree = record { name = name; key = key; length = size; signals = signals; tree = tree }

one_message : OneScale → OneTree → (text : List ℕ) (utf8 : Bool) (noted : Noted) (forms : List MessageForm) (x : ℕ × MessageForm) (a b : Message) →
    IsMessageAt text utf8 noted forms x a → IsMessageAt text utf8 noted forms x b → a ≡ b
unfolding make_message make_tree
one_message once tree text utf8 noted forms x a b ma mb =
    let signals : a.signals ≡ b.signals =
    each_once (IsSignalAt text utf8 noted (is_first_message forms x.0 x.1) x.1)
    (λ y s t is_s is_t. one_signal once text utf8 y.1 _ s t is_s is_t) (enumerate_from 0 x.1.signals) a.signals b.signals ma.signals mb.signals in
    let parents : a.tree.parents ≡ b.tree.parents = tree _ _ a.tree.parents b.tree.parents ma.tree mb.tree in
    ap (λ n. make_message n a.key a.length a.signals a.tree) (ma.name ∙ sym mb.name)
    ∙ ap (λ n. make_message b.name n a.length a.signals a.tree) (ma.key ∙ sym mb.key)
    ∙ ap (λ n. make_message b.name b.key n a.signals a.tree) (ma.byte_count ∙ sym mb.byte_count)
    ∙ ap (λ n. make_message b.name b.key b.length n a.tree) signals
    ∙ ap (λ (p : List (Option Parent)). make_message b.name b.key b.length b.signals (make_tree p)) parents

-- one answer to a question
one_bool : (P : Type 0) (a b : Bool) → IsTrue a ↔ P → IsTrue b ↔ P → a ≡ b
one_bool P true true f g = refl
one_bool P true false f g = sym (g.1 (f.0 refl))
one_bool P false true f g = f.1 (g.0 refl)
one_bool P false false f g = refl

pub one_statements : OneReading → OneRun → (text : List ℕ) (a b : List Statement) → AreStatements text a → AreStatements text b → a ≡ b
one_statements once run text a b sa sb =
    let tokens = once text false sa.tokens sb.tokens sa.are_tokens sb.are_tokens in
    let P : List Token → Type 0 = λ ts. Each (Parses text) a ts [] in
    (run text sb.tokens a b [] [] (subst P tokens sa.all) sb.all).0

make_database : List Message → Database
make_database messages = record { messages = messages }

pub one_gathered : OneScale → OneTree → (text : List ℕ) (statements : List Statement) (d e : Database) →
    Gathers text statements d → Gathers text statements e → d ≡ e
unfolding make_database
one_gathered once tree text statements d e gd ge =
    let utf8 : gd.utf8 ≡ ge.utf8 = one_bool (IsUtf8 text) gd.utf8 ge.utf8 gd.is_utf8 ge.is_utf8 in
    let noted = noted_in text (notes_of statements) in
    let forms = messages_of statements in
    let same = subst (λ (u : Bool). AllZip (IsMessageAt text u noted forms) (enumerate_from 0 forms) d.messages) utf8 gd.messages in
    ap make_database
    (each_once (IsMessageAt text ge.utf8 noted forms) (λ x a b is_a is_b. one_message once tree text ge.utf8 noted forms x a b is_a is_b)
    (enumerate_from 0 forms) d.messages e.messages same ge.messages)

pub one_database : OneScale → OneTree → OneReading → OneRun → (bytes : List ℕ) (d e : Database) → IsDatabaseOf bytes d → IsDatabaseOf bytes e → d ≡ e
one_database once tree reading run bytes d e id ie =
    let statements = one_statements reading run bytes id.statements ie.statements id.are_statements ie.are_statements in
    one_gathered once tree bytes ie.statements d e
    (subst (λ (s : List Statement). Gathers bytes s d) statements id.gathers) ie.gathers
