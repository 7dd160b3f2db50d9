-- Every text describes a database or has a fault.
use Rattle.std.proofs.Common.{◌≡◌, refl, ℕ, ◌⊎◌, inl, inr, Bool, true, List, [], ◌∷◌}
use Rattle.std.specs.Prelude.{Option, Some, None, replicate}
use Rattle.multiplex_tree.specs.Trees.{IsTreeOver}
use Rattle.sig_text.specs.declared.token.Token.{Token}
use Rattle.sig_text.specs.declared.fault.LexFault.{LexFault}
use Rattle.sig_text.specs.Tokens.{IsTokens, IsLexFault}
use Rattle.token_forms.specs.Runs.{Form, TakesTokens, IsLongestRun, run_of}
use Rattle.bench_model.specs.declared.database.Entry.{Entry}
use Rattle.bench_model.specs.declared.database.Database.{Database}
use Rattle.bench_model.specs.declared.fault.CheckFault.{CheckFault}
use Rattle.bench_model.specs.Limits.{IsMadeDatabase}
use Rattle.bench_model.specs.Check.{IsValid, IsFirstFault}
use Rattle.ldf_grammar.specs.StatementForms.{after_first, whole_statement}
use Rattle.ldf_grammar.specs.Statements.{FirstRow}
use Rattle.ldf_grammar.specs.Run.{AllRows, place_of, HasStatements, unnamed, cut_short}
use Rattle.ldf_grammar.specs.Gather.{all_encodings, definitions_of, database_of}
use Rattle.ldf_grammar.specs.Unknown.{first_unknown}
use Rattle.ldf_grammar.specs.Described.{IsRead, Makes, IsDatabaseOf, HasFault}
use Rattle.ldf_grammar.specs.declared.statement.Statement.{Statement}
use Rattle.ldf_grammar.specs.declared.fault.LdfFault.{LdfFault}
use Rattle.ldf_grammar.specs.declared.fault.LdfFault.TheVariants as faults
use Rattle.ldf_grammar.proofs.MadeLaws.{all_made}
use Rattle.ldf_grammar.proofs.RunLaws.{statement_takes}
use Rattle.ldf_grammar.proofs.PartLaws.{no_some}
use Rattle.ldf_grammar.proofs.RowLaws.{run_parses}
use Rattle.ldf_grammar.proofs.OneLaws.{Below, codes_decide}

abbrev Described : List ℕ → Type 0
Described text = ((d : Database) × IsDatabaseOf text d) ⊎ ((f : LdfFault) × HasFault text f)

checked_text : (below : Below) → ((d : Database) → IsMadeDatabase d → IsValid d ⊎ ((f : CheckFault) × IsFirstFault d f)) → (text : List ℕ) (d : Database) → Makes text d → IsMadeDatabase d → Described text
checked_text below verdict text d makes made = elim (verdict d made) [
  | inl valid ↦ inl (d, record { made = makes; valid = valid })
  | inr f ↦ inr (faults.Check f.0, (d, makes, f.1))
]

named_text : (below : Below) → ((n : ℕ) → IsTreeOver n (replicate n None)) → ((d : Database) → IsMadeDatabase d → IsValid d ⊎ ((f : CheckFault) × IsFirstFault d f)) → (text : List ℕ) (s : List Statement)
    (coded : List (List ℕ × List Entry)) (o : Option ℕ) → IsRead text s coded → first_unknown text (definitions_of text s coded) s ≡ o → Described text
named_text below trees verdict text s coded None read e =
    checked_text below verdict text (database_of text (definitions_of text s coded) s) (record { statements = s; coded = coded; read = read; known = e; gathered = refl })
    (all_made trees text s coded read.encodings)
named_text below trees verdict text s coded (Some at) read e = inr (faults.UnknownName at, record { statements = s; coded = coded; read = read; first = e })

stated_text : (below : Below) → ((n : ℕ) → IsTreeOver n (replicate n None)) → ((d : Database) → IsMadeDatabase d → IsValid d ⊎ ((f : CheckFault) × IsFirstFault d f))
    → (text : List ℕ) (s : List Statement) → HasStatements text s → Described text
stated_text below trees verdict text s whole = elim ((codes_decide below text).some (all_encodings s)) [
  | inr f ↦ inr (faults.Scale f.0, record { statements = s; whole = whole; first = f.1 })
  | inl coded ↦ named_text below trees verdict text s coded.0 (first_unknown text (definitions_of text s coded.0) s) (record { whole = whole; encodings = coded.1 }) refl
]

run_text : (below : Below) → ((n : ℕ) → IsTreeOver n (replicate n None)) → ((d : Database) → IsMadeDatabase d → IsValid d ⊎ ((f : CheckFault) × IsFirstFault d f))
    → (text : List ℕ) (tokens : List Token) → IsTokens text true tokens → (xs : List Statement) (left : List Token) → AllRows text xs tokens left → Described text
run_text below trees verdict text tokens lexed xs [] there = stated_text below trees verdict text xs (record { tokens = tokens; lexed = lexed; parse = there })
run_text below trees verdict text tokens lexed xs (token ∷ later) there =
    inr (faults.Statement token.at, record { tokens = tokens; lexed = lexed; broken = cut_short there.0 there.1 (record { found = xs; token = token; later = later; each = there.2; place = refl }) })

-- what the readers of a run give is the longest one
abbrev AreLongest : Type 0
AreLongest = (form : Form Statement) (tokens : List Token) → TakesTokens form
    → IsLongestRun form tokens (run_of form tokens).0 (run_of form tokens).1

opened_text : (below : Below) → AreLongest → ((n : ℕ) → IsTreeOver n (replicate n None)) → ((d : Database) → IsMadeDatabase d → IsValid d ⊎ ((f : CheckFault) × IsFirstFault d f))
    → (text : List ℕ) (tokens : List Token) (o : Option (List Token)) → IsTokens text true tokens → after_first text tokens ≡ o → Described text
opened_text below runs trees verdict text tokens None lexed e =
    let lacks = λ (rest : List Token) (there : FirstRow text tokens rest). no_some (after_first text tokens) rest e ((below.rows.first text tokens rest).1 there) in
    inr (faults.Statement (place_of text tokens), record { tokens = tokens; lexed = lexed; broken = unnamed lacks refl })
opened_text below runs trees verdict text tokens (Some rest) lexed e =
    let found = run_of (whole_statement text) rest in
    let longest = runs (whole_statement text) rest (statement_takes text) in
    run_text below trees verdict text tokens lexed found.0 found.1
    (rest, (below.rows.first text tokens rest).0 e, run_parses below.rows text rest found.0 found.1 longest)

pub some_description : (below : Below) → AreLongest → ((n : ℕ) → IsTreeOver n (replicate n None)) → ((d : Database) → IsMadeDatabase d → IsValid d ⊎ ((f : CheckFault) × IsFirstFault d f))
    → ((text : List ℕ) (comments : Bool) → ((list : List Token) × IsTokens text comments list) ⊎ ((f : LexFault) × IsLexFault text comments f)) → (text : List ℕ)
    → ((d : Database) × IsDatabaseOf text d) ⊎ ((f : LdfFault) × HasFault text f)
some_description below runs trees verdict reading text = elim (reading text true) [
  | inr f ↦ inr (faults.Lex f.0, f.1)
  | inl list ↦ opened_text below runs trees verdict text list.0 (after_first text list.0) list.1 refl
]
