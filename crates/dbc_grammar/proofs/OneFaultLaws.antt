-- Bytes have one fault at most: each kind of fault excludes the others, and its place is one.
use Rattle.std.proofs.Common.{◌≡◌, ◌∙◌, sym, ap, subst, refl, arith, ℕ, ◌+◌, List, [], ◌∷◌, ◌++◌, length, Ok, Err, Result, ◌⊎◌, inl, inr}
use Rattle.std.proofs.Common.{Bool, false}
use Rattle.std.specs.Prelude.{Option, Some, slice_get, IfOk, IfErr, IsErrOf}
use Rattle.std.specs.List.{enumerate_from, AllByRecursion}
use Rattle.decisions.specs.ListDecisions.{decides_first}
use Rattle.multiplex_tree.specs.declared.mark.Mark.{Mark}
use Rattle.multiplex_tree.specs.declared.mark.Link.{Link}
use Rattle.multiplex_tree.specs.declared.fault.MuxWhy.{MuxWhy}
use Rattle.multiplex_tree.specs.declared.fault.MuxFault.TheVariants as mux
use Rattle.multiplex_tree.specs.Fault.{IsFault}
use Rattle.bench_model.specs.declared.database.Database.{Database}
use Rattle.bench_model.specs.declared.fault.CheckFault.{CheckFault}
use Rattle.bench_model.specs.declared.valid.Valid.{Valid}
use Rattle.bench_model.specs.Check.{IsFirstFault}
use Rattle.sig_text.specs.declared.token.Token.{Token}
use Rattle.sig_text.specs.declared.fault.LexFault.{LexFault}
use Rattle.sig_text.specs.Tokens.{IsLexFault}
use Rattle.token_forms.specs.Pieces.{token_text}
use Rattle.token_forms.specs.Grammar.{Each}
use Rattle.dbc_grammar.specs.declared.fault.DbcFault.{DbcFault}
use Rattle.dbc_grammar.specs.declared.fault.DbcFault.TheVariants as faults
use Rattle.dbc_grammar.specs.declared.statement.SignalForm.{SignalForm}
use Rattle.dbc_grammar.specs.declared.statement.MessageForm.{MessageForm}
use Rattle.dbc_grammar.specs.declared.statement.Statement.{Statement}
use Rattle.dbc_grammar.specs.Statements.{Parses}
use Rattle.dbc_grammar.specs.Naming.{Noted, noted_in, message_key, is_first_message}
use Rattle.dbc_grammar.specs.Gather.{message_marks, message_links, messages_of, notes_of}
use Rattle.dbc_grammar.specs.Contract.{AreStatements, EndsEarly, Gathers, IsDatabaseOf, HasFault, IsFaultOrMemory, HasScale, IsTooWideAt, IsFirstWide}
use Rattle.dbc_grammar.specs.Contract.{IsScaleFault, fault_id, HasSomeTree, IsFirstTreeless, IsMuxFault, all_signals}
use Rattle.dbc_grammar.proofs.UniqueLaws.{OneTree, OneReading, OneRun, one_statements, one_gathered}
use Rattle.dbc_grammar.proofs.WideLaws.{OneScale, SomeScale, scales_decide, never_wide}
use Rattle.dbc_grammar.proofs.NeverLaws.{NoLexFault, NoTreeFault, NoBrokenRule, not_early, no_wide, no_treeless}

abbrev pub OneLexFault : Type 0
OneLexFault = (text : List ℕ) (comments : Bool) (a b : LexFault) → IsLexFault text comments a → IsLexFault text comments b → a ≡ b

abbrev pub OneTreeFault : Type 0
OneTreeFault = (marks : List Mark) (links : List Link) (s t : ℕ) (why because : MuxWhy) → IsFault marks links (mux.At s why)
    → IsFault marks links (mux.At t because)
    → (s ≡ t) × (why ≡ because)

abbrev pub OneVerdict : Type 0
OneVerdict = (d : Database) (f g : CheckFault) → IsFirstFault d f → IsFirstFault d g → f ≡ g

-- what the crates below say: tokens, runs, scales, trees and verdicts are one
pub record Below : Type 0 where
  pub one_scale : OneScale
  pub some_scale : SomeScale
  pub tree : OneTree
  pub treeless : OneTreeFault
  pub tree_apart : NoTreeFault
  pub reading : OneReading
  pub run : OneRun
  pub lexical : OneLexFault
  pub lex_apart : NoLexFault
  pub verdict : OneVerdict
  pub verdict_apart : NoBrokenRule

-- ---- the first of a list is one

head_same : {A : Type 0} (x y : A) (xs ys : List A) → x ∷ xs ≡ y ∷ ys → x ≡ y
head_same x y xs ys e = cc

tail_same : {A : Type 0} (x y : A) (xs ys : List A) → x ∷ xs ≡ y ∷ ys → xs ≡ ys
tail_same x y xs ys e = cc

-- the first for which this does not hold
same_first : {A : Type 0} (P : ℕ × A → Type 0) (n k j : ℕ) (xs ys : List A) (x y : A) (later past : List A) → k ≡ n + length xs
    → j ≡ n + length ys
    → xs ++ x ∷ later ≡ ys ++ y ∷ past → AllByRecursion P (enumerate_from n xs) → AllByRecursion P (enumerate_from n ys) → ¬ P (k, x)
    → ¬ P (j, y) → (k ≡ j) × (x ≡ y)
same_first P n k j [] [] x y later past k_is j_is cut before first not_x not_y = (omega arith, head_same x y later past cut)
same_first {A} P n k j [] (b ∷ ys) x y later past k_is j_is cut before first not_x not_y =
    let place : n ≡ k = omega arith in
    let same : x ≡ b = head_same x b later (ys ++ y ∷ past) cut in
    let Q : A → Type 0 = λ z. P (k, z) in
    let N : ℕ → Type 0 = λ i. P (i, b) in
    absurd (not_x (subst Q (sym same) (subst N place first.0)))
same_first {A} P n k j (a ∷ xs) [] x y later past k_is j_is cut before first not_x not_y =
    let place : n ≡ j = omega arith in
    let same : a ≡ y = head_same a y (xs ++ x ∷ later) past cut in
    let Q : A → Type 0 = λ z. P (j, z) in
    let N : ℕ → Type 0 = λ i. P (i, a) in
    absurd (not_y (subst Q same (subst N place before.0)))
same_first P n k j (a ∷ xs) (b ∷ ys) x y later past k_is j_is cut before first not_x not_y =
    same_first P (n + 1) k j xs ys x y later past (omega arith) (omega arith)
    (tail_same a b (xs ++ x ∷ later) (ys ++ y ∷ past) cut) before.1 first.1 not_x not_y

-- ---- the first message without a tree, its signal and the reason are one

record SameMux (i j : ℕ) (m n : List ℕ) (v w : MuxWhy) : Type 0 where
  id : i ≡ j
  name : m ≡ n
  why : v ≡ w

some_same : {A : Type 0} (o : Option A) (x y : A) → o ≡ Some x → o ≡ Some y → x ≡ y
some_same o x y e f = cc

place_same : (a b : ℕ) (x y : MessageForm) → a ≡ b → x ≡ y → ◌≡◌ {A = ℕ × MessageForm} (a, x) (b, y)
place_same a b x y e f = rw (e, f) refl

same_treeless : (below : Below) (text : List ℕ) (noted : Noted) (messages : List MessageForm) (i j : ℕ) (m n : List ℕ) (v w : MuxWhy)
    → IsFirstTreeless text noted messages i m v → IsFirstTreeless text noted messages j n w → SameMux i j m n v w
same_treeless below text noted messages i j m n v w p q =
    let Fault : ℕ × MessageForm → ℕ → MuxWhy → Type 0 = λ x s why.
    IsFault (message_marks x.1) (message_links text noted (is_first_message messages x.0 x.1) x.1) (mux.At s why) in
    let Tree : ℕ × MessageForm → Type 0 = HasSomeTree text noted messages in
    let none_p : ¬ Tree (p.place, p.message) = λ tree. below.tree_apart _ _ tree.0 p.signal v tree.1 p.fault in
    let none_q : ¬ Tree (q.place, q.message) = λ tree. below.tree_apart _ _ tree.0 q.signal w tree.1 q.fault in
    let same = same_first Tree 0 p.place q.place p.before q.before p.message q.message p.after q.after (omega (arith, p.place_is))
    (omega (arith, q.place_is))
    (sym p.cut ∙ q.cut) p.first q.first none_p none_q in
    let At : ℕ × MessageForm → Type 0 = λ x. Fault x p.signal v in
    let faults_same = below.treeless _ _ p.signal q.signal v w
    (subst At (place_same p.place q.place p.message q.message same.0 same.1) p.fault) q.fault in
    let forms : p.form ≡ q.form = some_same (slice_get q.message.signals q.signal) p.form q.form
    (sym (ap (λ (x : MessageForm). slice_get x.signals q.signal) same.1) ∙ sym (ap (λ s. slice_get p.message.signals s) faults_same.0)
    ∙ p.form_is) q.form_is in
    record {
      id = p.id_is ∙ ap (λ (x : MessageForm). fault_id (message_key x)) same.1 ∙ sym q.id_is;
      name = p.name_is ∙ ap (λ (f : SignalForm). token_text text f.name) forms ∙ sym q.name_is;
      why = faults_same.1;
    }

-- ---- each kind of fault once

one_early : (below : Below) (bytes : List ℕ) (a b : ℕ) → EndsEarly bytes a → EndsEarly bytes b → a ≡ b
one_early below bytes a b p q =
    let tokens : p.tokens ≡ q.tokens = below.reading bytes false p.tokens q.tokens p.are_tokens q.are_tokens in
    let x = p.broken in
    let y = q.broken in
    let P : List Token → Type 0 = λ ts. Each (Parses bytes) x.found ts (x.token ∷ x.later) in
    let rest = (below.run bytes q.tokens x.found y.found (x.token ∷ x.later) (y.token ∷ y.later)
    (subst P tokens x.each) y.each).1 in
    x.place ∙ ap (λ (t : Token). t.at) (head_same x.token y.token x.later y.later rest) ∙ sym y.place

one_wide : (below : Below) (bytes : List ℕ) (a b : ℕ) → IsScaleFault bytes a → IsScaleFault bytes b → a ≡ b
one_wide below bytes a b p q =
    let same = one_statements below.reading below.run bytes p.statements q.statements p.are_statements q.are_statements in
    let P : List Statement → Type 0 = λ s. IsFirstWide bytes (all_signals (messages_of s)) a in
    (decides_first (HasScale bytes) (IsTooWideAt bytes) (scales_decide below.one_scale below.some_scale bytes)).only
    (all_signals (messages_of q.statements)) a b (subst P same p.wide) q.wide

one_mux : (below : Below) (bytes : List ℕ) (i j : ℕ) (m n : List ℕ) (v w : MuxWhy) → IsMuxFault bytes i m v → IsMuxFault bytes j n w
    → SameMux i j m n v w
one_mux below bytes i j m n v w p q =
    let same = one_statements below.reading below.run bytes p.statements q.statements p.are_statements q.are_statements in
    let P : List Statement → Type 0 = λ s. IsFirstTreeless bytes (noted_in bytes (notes_of s)) (messages_of s) i m v in
    same_treeless below bytes (noted_in bytes (notes_of q.statements)) (messages_of q.statements) i j m n v w
    (subst P same p.treeless) q.treeless

one_check : (below : Below) (bytes : List ℕ) (f g : CheckFault) → HasFault bytes (faults.Check f) → HasFault bytes (faults.Check g) → f ≡ g
one_check below bytes f g (s, d, are, gathers, first) (t, e, too, makes, other) =
    let same = one_statements below.reading below.run bytes s t are too in
    let P : List Statement → Type 0 = λ s. Gathers bytes s d in
    let database = one_gathered below.one_scale below.tree bytes t d e (subst P same gathers) makes in
    let Q : Database → Type 0 = λ x. IsFirstFault x f in
    below.verdict e f g (subst Q database first) other

-- ---- and none beside one of another kind

scale_or_tree : (below : Below) (bytes : List ℕ) (at id : ℕ) (name : List ℕ) (why : MuxWhy) → IsScaleFault bytes at
    → ¬ IsMuxFault bytes id name why
scale_or_tree below bytes at id name why p q =
    let same = one_statements below.reading below.run bytes p.statements q.statements p.are_statements q.are_statements in
    let P : List Statement → Type 0 = λ s. IsFirstWide bytes (all_signals (messages_of s)) at in
    let wide = subst P same p.wide in
    never_wide bytes (all_signals (messages_of q.statements)) wide.0 at q.scaled wide.1

scale_or_rule : (below : Below) (bytes : List ℕ) (at : ℕ) (f : CheckFault) → IsScaleFault bytes at → ¬ HasFault bytes (faults.Check f)
scale_or_rule below bytes at f p (s, d, are, gathers, first) =
    let same = one_statements below.reading below.run bytes p.statements s p.are_statements are in
    let P : List Statement → Type 0 = λ s. IsFirstWide bytes (all_signals (messages_of s)) at in
    no_wide bytes s d at gathers (subst P same p.wide)

tree_or_rule : (below : Below) (bytes : List ℕ) (id : ℕ) (name : List ℕ) (why : MuxWhy) (f : CheckFault) → IsMuxFault bytes id name why
    → ¬ HasFault bytes (faults.Check f)
tree_or_rule below bytes id name why f p (s, d, are, gathers, first) =
    let same = one_statements below.reading below.run bytes p.statements s p.are_statements are in
    let P : List Statement → Type 0 = λ s. IsFirstTreeless bytes (noted_in bytes (notes_of s)) (messages_of s) id name why in
    no_treeless below.tree_apart bytes s d id name why gathers (subst P same p.treeless)

-- statements are whole: no lexical fault, and no token is left
no_lexical : (below : Below) (bytes : List ℕ) (s : List Statement) (f : LexFault) → AreStatements bytes s → ¬ HasFault bytes (faults.Lex f)
no_lexical below bytes s f are has = below.lex_apart bytes false are.tokens f are.are_tokens has

whole : (below : Below) (bytes : List ℕ) (s : List Statement) (at : ℕ) → AreStatements bytes s → ¬ HasFault bytes (faults.Statement at)
whole below bytes s at are has = not_early below.reading below.run bytes s at are has

mux_same : (i j : ℕ) (m n : List ℕ) (v w : MuxWhy) → SameMux i j m n v w → faults.Mux i m v ≡ faults.Mux j n w
mux_same i j m n v w same = rw (same.id, same.name, same.why) refl

pub one_fault : (below : Below) (bytes : List ℕ) (a b : DbcFault) → HasFault bytes a → HasFault bytes b → a ≡ b
one_fault below bytes (faults.Lex f) (faults.Lex g) p q = ap faults.Lex (below.lexical bytes false f g p q)
one_fault below bytes (faults.Lex f) (faults.Statement at) p q = absurd (below.lex_apart bytes false q.tokens f q.are_tokens p)
one_fault below bytes (faults.Lex f) (faults.Scale at) p q = absurd (no_lexical below bytes q.statements f q.are_statements p)
one_fault below bytes (faults.Lex f) (faults.Mux id name why) p q = absurd (no_lexical below bytes q.statements f q.are_statements p)
one_fault below bytes (faults.Lex f) (faults.Check g) p q = absurd (no_lexical below bytes q.0 f q.2 p)
one_fault below bytes (faults.Lex f) faults.Memory p q = absurd q
one_fault below bytes (faults.Statement at) (faults.Lex g) p q = absurd (below.lex_apart bytes false p.tokens g p.are_tokens q)
one_fault below bytes (faults.Statement at) (faults.Statement to) p q = ap faults.Statement (one_early below bytes at to p q)
one_fault below bytes (faults.Statement at) (faults.Scale to) p q = absurd (whole below bytes q.statements at q.are_statements p)
one_fault below bytes (faults.Statement at) (faults.Mux id name why) p q = absurd (whole below bytes q.statements at q.are_statements p)
one_fault below bytes (faults.Statement at) (faults.Check g) p q = absurd (whole below bytes q.0 at q.2 p)
one_fault below bytes (faults.Statement at) faults.Memory p q = absurd q
one_fault below bytes (faults.Scale at) (faults.Lex g) p q = absurd (no_lexical below bytes p.statements g p.are_statements q)
one_fault below bytes (faults.Scale at) (faults.Statement to) p q = absurd (whole below bytes p.statements to p.are_statements q)
one_fault below bytes (faults.Scale at) (faults.Scale to) p q = ap faults.Scale (one_wide below bytes at to p q)
one_fault below bytes (faults.Scale at) (faults.Mux id name why) p q = absurd (scale_or_tree below bytes at id name why p q)
one_fault below bytes (faults.Scale at) (faults.Check g) p q = absurd (scale_or_rule below bytes at g p q)
one_fault below bytes (faults.Scale at) faults.Memory p q = absurd q
one_fault below bytes (faults.Mux id name why) (faults.Lex g) p q = absurd (no_lexical below bytes p.statements g p.are_statements q)
one_fault below bytes (faults.Mux id name why) (faults.Statement to) p q = absurd (whole below bytes p.statements to p.are_statements q)
one_fault below bytes (faults.Mux id name why) (faults.Scale to) p q = absurd (scale_or_tree below bytes to id name why q p)
one_fault below bytes (faults.Mux i m v) (faults.Mux j n w) p q = mux_same i j m n v w (one_mux below bytes i j m n v w p q)
one_fault below bytes (faults.Mux id name why) (faults.Check g) p q = absurd (tree_or_rule below bytes id name why g p q)
one_fault below bytes (faults.Mux id name why) faults.Memory p q = absurd q
one_fault below bytes (faults.Check f) (faults.Lex g) p q = absurd (no_lexical below bytes p.0 g p.2 q)
one_fault below bytes (faults.Check f) (faults.Statement to) p q = absurd (whole below bytes p.0 to p.2 q)
one_fault below bytes (faults.Check f) (faults.Scale to) p q = absurd (scale_or_rule below bytes to f q p)
one_fault below bytes (faults.Check f) (faults.Mux id name why) p q = absurd (tree_or_rule below bytes id name why f q p)
one_fault below bytes (faults.Check f) (faults.Check g) p q = ap faults.Check (one_check below bytes f g p q)
one_fault below bytes (faults.Check f) faults.Memory p q = absurd q
one_fault below bytes faults.Memory b p q = absurd p

-- so what has a fault is answered it, unless memory runs out
pub fault_answered : ((bytes : List ℕ) (a b : DbcFault) → HasFault bytes a → HasFault bytes b → a ≡ b)
    → ((bytes : List ℕ) (d : Database) (fault : DbcFault) → IsDatabaseOf bytes d → ¬ HasFault bytes fault)
    → (bytes : List ℕ) (result : Result Valid DbcFault) → IfOk result (λ (v : Valid). IsDatabaseOf bytes v.database)
    → IfErr result (IsFaultOrMemory bytes)
    → (fault : DbcFault) → HasFault bytes fault → IsErrOf result fault ⊎ IsErrOf result faults.Memory
fault_answered one never bytes (Ok v) ok err fault has = absurd (never bytes v.database fault ok has)
fault_answered one never bytes (Err f) ok err fault has = elim err [
  | inl is ↦ inl (ap Err (one bytes f fault is has))
  | inr memory ↦ inr (ap Err memory)
]
