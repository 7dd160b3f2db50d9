-- A text has one description: its tokens, its statements and their entries are one, and its database or fault with them.
use Rattle.std.proofs.Common.{◌≡◌, ◌∙◌, sym, ap, refl, subst, ℕ, ◌⊎◌, inl, inr, Bool, true, List, [], ◌∷◌}
use Rattle.std.specs.Prelude.{Option, Some}
use Rattle.std.specs.List.{AllZip}
use Rattle.exact_scale.specs.declared.scaling.Scale.{Scale}
use Rattle.decisions.specs.Decisions.{Decides}
use Rattle.decisions.specs.ListDecisions.{FirstFailsFor, decides_first}
use Rattle.sig_text.specs.declared.token.Token.{Token}
use Rattle.sig_text.specs.declared.fault.LexFault.{LexFault}
use Rattle.sig_text.specs.Tokens.{IsTokens, IsLexFault}
use Rattle.token_forms.specs.Pieces.{token_text}
use Rattle.token_forms.specs.Numbers.{signed_text}
use Rattle.token_forms.specs.Scaling.{IsScaling, HasNoScaling}
use Rattle.token_forms.specs.Runs.{Form, IsLongestRun}
use Rattle.bench_model.specs.declared.database.Entry.{Entry}
use Rattle.bench_model.specs.declared.database.Entry.TheVariants as model
use Rattle.bench_model.specs.declared.database.Database.{Database}
use Rattle.bench_model.specs.declared.fault.CheckFault.{CheckFault}
use Rattle.bench_model.specs.Check.{IsValid, IsFirstFault}
use Rattle.ldf_grammar.specs.StatementForms.{after_first, whole_statement}
use Rattle.ldf_grammar.specs.Run.{LongestRun, AllRows, HasStatements, BreaksOff, unnamed, cut_short, IsStatementFault}
use Rattle.ldf_grammar.specs.Scaling.{text_in, unit_or_empty, IsEntryOf, IsTooWide}
use Rattle.ldf_grammar.specs.Gather.{IsCoded, AreCoded, all_encodings, definitions_of, database_of}
use Rattle.ldf_grammar.specs.Unknown.{first_unknown}
use Rattle.ldf_grammar.specs.Described.{IsWideEncoding, IsScaleFault, IsRead, IsNameFault, Makes, HasFault}
use Rattle.ldf_grammar.specs.declared.statement.EncodingEntry.{EncodingEntry}
use Rattle.ldf_grammar.specs.declared.statement.EncodingEntry.TheVariants.{Logical, Physical, Plain}
use Rattle.ldf_grammar.specs.declared.statement.Encoding.{Encoding}
use Rattle.ldf_grammar.specs.declared.statement.Statement.{Statement}
use Rattle.ldf_grammar.specs.declared.fault.LdfFault.TheVariants as faults
use Rattle.ldf_grammar.proofs.PartLaws.{first_same}
use Rattle.ldf_grammar.proofs.RowLaws.{Rows, parsed_run}

-- what the crates below say: tokens, longest runs, scales and verdicts are one
pub record Below : Type 0 where
  pub tokens : (text : List ℕ) (comments : Bool) (a b : List Token) → IsTokens text comments a → IsTokens text comments b → a ≡ b
  pub lexical : (text : List ℕ) (comments : Bool) (a b : LexFault) → IsLexFault text comments a → IsLexFault text comments b → a ≡ b
  pub apart : (text : List ℕ) (comments : Bool) (list : List Token) (fault : LexFault) → IsTokens text comments list → ¬ IsLexFault text comments fault
  pub rows : Rows
  pub run : (form : Form Statement) (tokens : List Token) (xs ys : List Statement) (rest left : List Token)
      → IsLongestRun form tokens xs rest → IsLongestRun form tokens ys left → (xs ≡ ys) × (rest ≡ left)
  pub some_scale : (factor offset : List ℕ) → ((s : Scale) × IsScaling factor offset s) ⊎ HasNoScaling factor offset
  pub one_scale : (factor offset : List ℕ) (s t : Scale) → IsScaling factor offset s → IsScaling factor offset t → s ≡ t
  pub verdict : (d : Database) (f g : CheckFault) → IsFirstFault d f → IsFirstFault d g → f ≡ g
  pub verdicts_apart : (d : Database) (fault : CheckFault) → IsValid d → ¬ IsFirstFault d fault

some_same : {A : Type 0} (o : Option A) (x y : A) → o ≡ Some x → o ≡ Some y → x ≡ y
some_same o x y e f = cc

-- the statements behind the first one are one run, and end in one place
one_end : (below : Below) (text : List ℕ) (tokens : List Token) (xs ys : List Statement) (m n : List Token) → AllRows text xs tokens m → AllRows text ys tokens n
    → (xs ≡ ys) × (m ≡ n)
one_end below text tokens xs ys m n (a, first, run) (b, again, other) =
    let same = some_same (after_first text tokens) a b ((below.rows.first text tokens a).1 first) ((below.rows.first text tokens b).1 again) in
    let P : List Token → Type 0 = λ ts. LongestRun text xs ts m in
    below.run (whole_statement text) b xs ys m n (parsed_run below.rows text b xs m (subst P same run)) (parsed_run below.rows text b ys n other)

pub same_statements : (below : Below) (text : List ℕ) (s t : List Statement) → HasStatements text s → HasStatements text t → s ≡ t
same_statements below text s t p q =
    let P : List Token → Type 0 = λ ts. AllRows text s ts [] in
    (one_end below text q.tokens s t [] [] (subst P (below.tokens text true p.tokens q.tokens p.lexed q.lexed) p.parse) q.parse).0

-- statements that are whole do not break off
whole_or_broken : (below : Below) (text : List ℕ) (tokens : List Token) (s : List Statement) (at : ℕ) → AllRows text s tokens [] → ¬ BreaksOff text tokens at
whole_or_broken below text tokens s at there (unnamed lacks is) = lacks there.0 there.1
whole_or_broken below text tokens s at there (cut_short rest first breaks) =
    let e = (one_end below text tokens s breaks.found [] (breaks.token ∷ breaks.later) there (rest, first, breaks.each)).1 in
    absurd cc

pub not_broken : (below : Below) (text : List ℕ) (s : List Statement) (at : ℕ) → HasStatements text s → ¬ IsStatementFault text at
not_broken below text s at p q =
    let P : List Token → Type 0 = λ ts. AllRows text s ts [] in
    whole_or_broken below text q.tokens s at (subst P (below.tokens text true p.tokens q.tokens p.lexed q.lexed) p.parse) q.broken

same_break : (below : Below) (text : List ℕ) (tokens : List Token) (a b : ℕ) → BreaksOff text tokens a → BreaksOff text tokens b → a ≡ b
same_break below text tokens a b (unnamed lacks is) (unnamed lacks_too are) = is ∙ sym are
same_break below text tokens a b (unnamed lacks is) (cut_short rest first breaks) = absurd (lacks rest first)
same_break below text tokens a b (cut_short rest first breaks) (unnamed lacks are) = absurd (lacks rest first)
same_break below text tokens a b (cut_short rest first p) (cut_short left again q) =
    let e = (one_end below text tokens p.found q.found (p.token ∷ p.later) (q.token ∷ q.later) (rest, first, p.each) (left, again, q.each)).1 in
    p.place ∙ ap (λ (token : Token). token.at) (first_same p.token q.token p.later q.later e) ∙ sym q.place

pub one_break : (below : Below) (text : List ℕ) (a b : ℕ) → IsStatementFault text a → IsStatementFault text b → a ≡ b
one_break below text a b p q =
    let P : List Token → Type 0 = λ ts. BreaksOff text ts a in
    same_break below text q.tokens a b (subst P (below.tokens text true p.tokens q.tokens p.lexed q.lexed) p.broken) q.broken

-- ---- entries

some_entry : (below : Below) (text : List ℕ) (x : EncodingEntry) → ((e : Entry) × IsEntryOf text x e) ⊎ ((at : ℕ) × IsTooWide text x at)
some_entry below text (Logical raw words) = inl (model.Logical raw (text_in text words), refl)
some_entry below text (Physical at low high scale offset unit) = elim (below.some_scale (signed_text text scale) (signed_text text offset)) [
  | inl s ↦ inl (model.Physical low high s.0 (unit_or_empty (text_in text unit)), (s.0, s.1, refl))
  | inr none ↦ inr (at, (none, refl))
]
some_entry below text Plain = inl (model.Plain, refl)

same_entry : (below : Below) (text : List ℕ) (x : EncodingEntry) (a b : Entry) → IsEntryOf text x a → IsEntryOf text x b → a ≡ b
same_entry below text (Logical raw words) a b p q = p ∙ sym q
same_entry below text (Physical at low high scale offset unit) a b (s, ps, p) (t, qs, q) =
    let same = below.one_scale (signed_text text scale) (signed_text text offset) s t ps qs in
    p ∙ ap (λ z. model.Physical low high z (unit_or_empty (text_in text unit))) same ∙ sym q
same_entry below text Plain a b p q = p ∙ sym q

entry_one : (text : List ℕ) (x : EncodingEntry) (m n : ℕ) → IsTooWide text x m → IsTooWide text x n → m ≡ n
entry_one text (Logical raw words) m n p q = absurd p
entry_one text (Physical place low high scale offset unit) m n p q = p.1 ∙ sym q.1
entry_one text Plain m n p q = absurd p

entry_apart : (text : List ℕ) (x : EncodingEntry) (e : Entry) (at : ℕ) → IsEntryOf text x e → ¬ IsTooWide text x at
entry_apart text (Logical raw words) e at p q = q
entry_apart text (Physical place low high scale offset unit) e at (s, ps, p) q = q.0 s ps
entry_apart text Plain e at p q = q

entries_decide : (below : Below) (text : List ℕ) → Decides (AllZip (IsEntryOf text)) (FirstFailsFor (IsEntryOf text) (IsTooWide text))
entries_decide below text = decides_first (IsEntryOf text) (IsTooWide text) (record {
  some = some_entry below text;
  one = same_entry below text;
  only = entry_one text;
  apart = entry_apart text;
})

-- ---- encodings

pair_same : {A B : Type 0} (a b : A) (c d : B) → a ≡ b → c ≡ d → ◌≡◌ {A = A × B} (a, c) (b, d)
pair_same a b c d e f = rw (e, f) refl

some_code : (below : Below) (text : List ℕ) (x : Encoding) → ((pair : List ℕ × List Entry) × IsCoded text x pair) ⊎ ((at : ℕ) × IsWideEncoding text x at)
some_code below text x = elim ((entries_decide below text).some x.entries) [
  | inl es ↦ inl ((token_text text x.name, es.0), record { name = refl; entries = es.1 })
  | inr f ↦ inr f
]

same_code : (below : Below) (text : List ℕ) (x : Encoding) (a b : List ℕ × List Entry) → IsCoded text x a → IsCoded text x b → a ≡ b
same_code below text x a b p q =
    pair_same a.0 b.0 a.1 b.1 (p.name ∙ sym q.name) ((entries_decide below text).one x.entries a.1 b.1 p.entries q.entries)

pub codes_decide : (below : Below) (text : List ℕ) → Decides (AllZip (IsCoded text)) (FirstFailsFor (IsCoded text) (IsWideEncoding text))
codes_decide below text = decides_first (IsCoded text) (IsWideEncoding text) (record {
  some = some_code below text;
  one = same_code below text;
  only = λ x m n p q. (entries_decide below text).only x.entries m n p q;
  apart = λ x pair at p q. (entries_decide below text).apart x.entries pair.1 at p.entries q;
})

pub same_coded : (below : Below) (text : List ℕ) (s : List Statement) (a b : List (List ℕ × List Entry)) → AreCoded text s a → AreCoded text s b → a ≡ b
same_coded below text s a b p q = (codes_decide below text).one (all_encodings s) a b p q

pub one_scale : (below : Below) (text : List ℕ) (a b : ℕ) → IsScaleFault text a → IsScaleFault text b → a ≡ b
one_scale below text a b p q =
    let same = same_statements below text p.statements q.statements p.whole q.whole in
    let P : List Statement → Type 0 = λ s. FirstFailsFor (IsCoded text) (IsWideEncoding text) (all_encodings s) a in
    (codes_decide below text).only (all_encodings q.statements) a b (subst P same p.first) q.first

pub not_wide : (below : Below) (text : List ℕ) (s : List Statement) (coded : List (List ℕ × List Entry)) (at : ℕ) → IsRead text s coded → ¬ IsScaleFault text at
not_wide below text s coded at p q =
    let same = same_statements below text q.statements s q.whole p.whole in
    let P : List Statement → Type 0 = λ z. FirstFailsFor (IsCoded text) (IsWideEncoding text) (all_encodings z) at in
    (codes_decide below text).apart (all_encodings s) coded at p.encodings (subst P same q.first)

-- what is read is one
pub same_read : (below : Below) (text : List ℕ) (s t : List Statement) (a b : List (List ℕ × List Entry)) → IsRead text s a → IsRead text t b → (s ≡ t) × (a ≡ b)
same_read below text s t a b p q =
    let same = same_statements below text s t p.whole q.whole in
    let P : List Statement → Type 0 = λ z. AreCoded text z a in
    (same, same_coded below text t a b (subst P same p.encodings) q.encodings)

same_unknown : (below : Below) (text : List ℕ) (s t : List Statement) (a b : List (List ℕ × List Entry)) → IsRead text s a → IsRead text t b
    → first_unknown text (definitions_of text s a) s ≡ first_unknown text (definitions_of text t b) t
same_unknown below text s t a b p q =
    let same = same_read below text s t a b p q in
    ap (λ z. first_unknown text (definitions_of text z a) z) same.0 ∙ ap (λ z. first_unknown text (definitions_of text t z) t) same.1

pub one_name : (below : Below) (text : List ℕ) (a b : ℕ) → IsNameFault text a → IsNameFault text b → a ≡ b
one_name below text a b p q =
    some_same (first_unknown text (definitions_of text q.statements q.coded) q.statements) a b
    (sym (same_unknown below text p.statements q.statements p.coded q.coded p.read q.read) ∙ p.first) q.first

pub not_unknown : (below : Below) (text : List ℕ) (database : Database) (at : ℕ) → Makes text database → ¬ IsNameFault text at
not_unknown below text database at p q =
    let same = same_unknown below text p.statements q.statements p.coded q.coded p.read q.read in
    let known = p.known in let first = q.first in absurd cc

pub one_made : (below : Below) (text : List ℕ) (a b : Database) → Makes text a → Makes text b → a ≡ b
one_made below text a b p q =
    let same = same_read below text p.statements q.statements p.coded q.coded p.read q.read in
    p.gathered
    ∙ ap (λ z. database_of text (definitions_of text z p.coded) z) same.0
    ∙ ap (λ z. database_of text (definitions_of text q.statements z) q.statements) same.1
    ∙ sym q.gathered

pub one_check : (below : Below) (text : List ℕ) (f g : CheckFault) → HasFault text (faults.Check f) → HasFault text (faults.Check g) → f ≡ g
one_check below text f g (a, p, x) (b, q, y) =
    let P : Database → Type 0 = λ z. IsFirstFault z f in
    below.verdict b f g (subst P (one_made below text a b p q) x) y
