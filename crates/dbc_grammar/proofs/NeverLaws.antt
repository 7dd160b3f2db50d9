-- Bytes that have a database have no fault.
use Rattle.std.proofs.Common.{◌≡◌, ap, subst, ℕ, ◌+◌, List, [], ◌∷◌, ◌++◌, length, Bool, false, arith, Option, ◌⊎◌, inl, inr, Ok, Err, Result, IsOkAnd, IfOk, IfErr}
use Rattle.std.specs.Prelude.{IsErrOf}
use Rattle.std.specs.List.{enumerate_from, AllByRecursion, AllZip}
use Rattle.multiplex_tree.specs.declared.mark.Mark.{Mark}
use Rattle.multiplex_tree.specs.declared.mark.Link.{Link}
use Rattle.multiplex_tree.specs.declared.mark.Parent.{Parent}
use Rattle.multiplex_tree.specs.declared.fault.MuxWhy.{MuxWhy}
use Rattle.multiplex_tree.specs.declared.fault.MuxFault.TheVariants as mux
use Rattle.multiplex_tree.specs.Fault.{IsTree, IsFault}
use Rattle.bench_model.specs.declared.database.Database.{Database}
use Rattle.bench_model.specs.declared.database.Message.{Message}
use Rattle.bench_model.specs.declared.valid.Valid.{Valid}
use Rattle.bench_model.specs.declared.fault.CheckFault.{CheckFault}
use Rattle.bench_model.specs.Check.{IsValid, IsFirstFault}
use Rattle.sig_text.specs.declared.token.Token.{Token}
use Rattle.sig_text.specs.declared.fault.LexFault.{LexFault}
use Rattle.sig_text.specs.Tokens.{IsTokens, IsLexFault}
use Rattle.token_forms.specs.Grammar.{Each}
use Rattle.dbc_grammar.specs.declared.fault.DbcFault.{DbcFault}
use Rattle.dbc_grammar.specs.declared.fault.DbcFault.TheVariants as faults
use Rattle.dbc_grammar.specs.declared.statement.MessageForm.{MessageForm}
use Rattle.dbc_grammar.specs.declared.statement.Statement.{Statement}
use Rattle.dbc_grammar.specs.Statements.{Parses}
use Rattle.dbc_grammar.specs.Naming.{Noted, noted_in, is_first_message}
use Rattle.dbc_grammar.specs.Gather.{message_marks, message_links, messages_of, notes_of}
use Rattle.dbc_grammar.specs.Contract.{IsMessageAt, HasSomeTree, IsFirstWide, IsFirstTreeless, all_signals, AreStatements, EndsEarly, Gathers, IsDatabaseOf, HasFault, IsFaultOrMemory}
use Rattle.dbc_grammar.proofs.WideLaws.{OneScale, AreScaled, scaled-append, made_scaled, never_wide}
use Rattle.dbc_grammar.proofs.TreeLaws.{messages_have_trees}
use Rattle.dbc_grammar.proofs.UniqueLaws.{OneTree, OneReading, OneRun, one_statements, one_gathered}

-- the laws of the layers below: what has the one has not the other
abbrev pub NoLexFault : Type 0
NoLexFault = (text : List ℕ) (comments : Bool) (list : List Token) (fault : LexFault) → IsTokens text comments list → ¬ IsLexFault text comments fault

abbrev pub NoTreeFault : Type 0
NoTreeFault = (marks : List Mark) (links : List Link) (a : List (Option Parent)) (s : ℕ) (why : MuxWhy) → IsTree marks links a → ¬ IsFault marks links (mux.At s why)

abbrev pub NoBrokenRule : Type 0
NoBrokenRule = (d : Database) (fault : CheckFault) → IsValid d → ¬ IsFirstFault d fault

-- messages that were made have scales
messages_scaled : (text : List ℕ) (utf8 : Bool) (noted : Noted) (all : List MessageForm) (n : ℕ) (forms : List MessageForm) (messages : List Message) →
    AllZip (IsMessageAt text utf8 noted all) (enumerate_from n forms) messages → AreScaled text (all_signals forms)
messages_scaled text utf8 noted all n [] messages each = tt
messages_scaled text utf8 noted all n (f ∷ forms) [] each = absurd each
messages_scaled text utf8 noted all n (f ∷ forms) (m ∷ messages) each =
    scaled-append text f.signals (all_signals forms)
    (made_scaled text utf8 noted (is_first_message all n f) f 0 f.signals m.signals each.0.signals)
    (messages_scaled text utf8 noted all (n + 1) forms messages each.1)

tree_inside : (P : ℕ × MessageForm → Type 0) (n k : ℕ) (before after : List MessageForm) (m : MessageForm) → k ≡ n + length before →
    AllByRecursion P (enumerate_from n (before ++ m ∷ after)) → P (k, m)
tree_inside P n k [] after m e all = let same : n ≡ k = omega arith in subst (λ (i : ℕ). P (i, m)) same all.0
tree_inside P n k (b ∷ before) after m e all = tree_inside P (n + 1) k before after m (omega arith) all.1

pub no_wide : (text : List ℕ) (statements : List Statement) (d : Database) (at : ℕ) → Gathers text statements d →
    ¬ IsFirstWide text (all_signals (messages_of statements)) at
no_wide text statements d at g wide =
    let forms = messages_of statements in
    never_wide text (all_signals forms) wide.0 at
    (messages_scaled text g.utf8 (noted_in text (notes_of statements)) forms 0 forms d.messages g.messages) wide.1

pub no_treeless : NoTreeFault → (text : List ℕ) (statements : List Statement) (d : Database) (id : ℕ) (name : List ℕ) (why : MuxWhy) → Gathers text statements d →
    ¬ IsFirstTreeless text (noted_in text (notes_of statements)) (messages_of statements) id name why
no_treeless never text statements d id name why g t =
    let noted = noted_in text (notes_of statements) in
    let forms = messages_of statements in
    let trees = messages_have_trees text g.utf8 noted forms 0 forms d.messages g.messages in
    let here = tree_inside (HasSomeTree text noted forms) 0 t.place t.before t.after t.message (omega (arith, t.place_is))
    (subst (λ (l : List MessageForm). AllByRecursion (HasSomeTree text noted forms) (enumerate_from 0 l)) t.cut trees) in
    never (message_marks t.message) (message_links text noted (is_first_message forms t.place t.message) t.message) here.0 t.signal why here.1 t.fault

nil_not_cons : (t : Token) (later : List Token) → ¬ ([] ≡ t ∷ later)
nil_not_cons t later e = absurd cc

-- where all statements are whole, no token is left
pub not_early : OneReading → OneRun → (bytes : List ℕ) (statements : List Statement) (at : ℕ) → AreStatements bytes statements → ¬ EndsEarly bytes at
not_early reading run bytes statements at are early =
    let same = reading bytes false are.tokens early.tokens are.are_tokens early.are_tokens in
    let P : List Token → Type 0 = λ ts. Each (Parses bytes) statements ts [] in
    let b = early.broken in
    nil_not_cons b.token b.later
    (run bytes early.tokens statements b.found [] (b.token ∷ b.later) (subst P same are.all) b.each).1

pub never_both : OneScale → OneTree → OneReading → OneRun → NoLexFault → NoTreeFault → NoBrokenRule → (bytes : List ℕ) (d : Database) (fault : DbcFault) →
    IsDatabaseOf bytes d → ¬ HasFault bytes fault
never_both once tree reading run lex treeless rule bytes d (faults.Lex fault) is has =
    lex bytes false is.are_statements.tokens fault is.are_statements.are_tokens has
never_both once tree reading run lex treeless rule bytes d (faults.Statement at) is has = not_early reading run bytes is.statements at is.are_statements has
never_both once tree reading run lex treeless rule bytes d (faults.Scale at) is has =
    let same = one_statements reading run bytes has.statements is.statements has.are_statements is.are_statements in
    no_wide bytes is.statements d at is.gathers
    (subst (λ (s : List Statement). IsFirstWide bytes (all_signals (messages_of s)) at) same has.wide)
never_both once tree reading run lex treeless rule bytes d (faults.Mux id name why) is has =
    let same = one_statements reading run bytes has.statements is.statements has.are_statements is.are_statements in
    no_treeless treeless bytes is.statements d id name why is.gathers
    (subst (λ (s : List Statement). IsFirstTreeless bytes (noted_in bytes (notes_of s)) (messages_of s) id name why) same has.treeless)
never_both once tree reading run lex treeless rule bytes d (faults.Check fault) is has =
    let same = one_statements reading run bytes has.0 is.statements has.2 is.are_statements in
    let gathers = subst (λ (s : List Statement). Gathers bytes s has.1) same has.3 in
    let database = one_gathered once tree bytes is.statements has.1 d gathers is.gathers in
    rule d fault is.valid (subst (λ (e : Database). IsFirstFault e fault) database has.4)
never_both once tree reading run lex treeless rule bytes d faults.Memory is has = has

-- so what has a database is answered it, unless memory runs out
pub database_answered : ((bytes : List ℕ) (d e : Database) → IsDatabaseOf bytes d → IsDatabaseOf bytes e → d ≡ e) →
    ((bytes : List ℕ) (d : Database) (fault : DbcFault) → IsDatabaseOf bytes d → ¬ HasFault bytes fault) →
    (bytes : List ℕ) (result : Result Valid DbcFault) → IfOk result (λ (v : Valid). IsDatabaseOf bytes v.database) → IfErr result (IsFaultOrMemory bytes) →
    (d : Database) → IsDatabaseOf bytes d → IsOkAnd result (λ (v : Valid). v.database ≡ d) ⊎ IsErrOf result faults.Memory
database_answered one never bytes (Ok v) ok fault d is = inl (one bytes v.database d ok is)
database_answered one never bytes (Err f) ok fault d is = elim fault [ inl has ↦ absurd (never bytes d f is has) | inr memory ↦ inr (ap Err memory) ]
