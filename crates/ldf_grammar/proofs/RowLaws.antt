-- The longest run that the forms find is the one that is there.
use Rattle.std.proofs.Common.{◌≡◌, sym, refl, subst, arith, ◌<◌, ◌≤◌, inl, inr, List, [], ◌∷◌, length}
use Rattle.std.specs.Prelude.{◌↔◌, ℕ, Some, None, slice_index_or}
use Rattle.sig_text.specs.declared.token.Token.{Token}
use Rattle.token_forms.specs.Grammar.{Any, Lacks}
use Rattle.token_forms.specs.Runs.{AreRun, IsLongestRun}
use Rattle.ldf_grammar.specs.Statements.{FirstRow, Parses}
use Rattle.ldf_grammar.specs.StatementForms.{after_first, whole_statement}
use Rattle.ldf_grammar.specs.Run.{Row, LongestRun, AllRows, place_of, BreaksOff, unnamed, cut_short}
use Rattle.ldf_grammar.specs.declared.statement.Statement.{Statement}
use Rattle.ldf_grammar.proofs.PartLaws.{cases_of, no_some}

-- the forms of statements find exactly what is there
pub record Rows : Type 0 where
  pub statement : (text : List ℕ) (tokens : List Token) (x : Statement) (rest : List Token) → (whole_statement text tokens ≡ Some (x, rest)) ↔ Parses text tokens x rest
  pub first : (text : List ℕ) (tokens rest : List Token) → (after_first text tokens ≡ Some rest) ↔ FirstRow text tokens rest

module _ (rows : Rows) where
  none_parses : (text : List ℕ) (tokens : List Token) → whole_statement text tokens ≡ None → Lacks (Any (Row text)) tokens
  none_parses text tokens e rest (x, there) = no_some (whole_statement text tokens) (x, rest) e ((rows.statement text tokens x rest).1 there)

  none_found : (text : List ℕ) (tokens : List Token) → Lacks (Any (Row text)) tokens → whole_statement text tokens ≡ None
  none_found text tokens lacks = elim (cases_of (whole_statement text tokens)) [
    | inl e ↦ e
    | inr found ↦ absurd (lacks found.0.1 (found.0.0, (rows.statement text tokens found.0.0 found.0.1).0 found.1))
  ]

  parse_by : (text : List ℕ) (tokens : List Token) (xs : List Statement) (rest : List Token) → AreRun (whole_statement text) tokens xs rest
      → Lacks (Any (Row text)) rest → LongestRun text xs tokens rest
  parse_by text tokens [] rest same lacks = (same, lacks)
  parse_by text tokens (x ∷ xs) rest (middle, found, later) lacks =
      (middle, (rows.statement text tokens x middle).0 found, parse_by text middle xs rest later lacks)

  pub run_parses : (text : List ℕ) (tokens : List Token) (xs : List Statement) (rest : List Token) → IsLongestRun (whole_statement text) tokens xs rest
      → LongestRun text xs tokens rest
  run_parses text tokens xs rest longest = parse_by text tokens xs rest longest.run (none_parses text rest longest.longest)

  pub parsed_run : (text : List ℕ) (tokens : List Token) (xs : List Statement) (rest : List Token) → LongestRun text xs tokens rest
      → IsLongestRun (whole_statement text) tokens xs rest
  parsed_run text tokens [] rest (same, lacks) = record { run = same; longest = none_found text rest lacks }
  parsed_run text tokens (x ∷ xs) rest (middle, there, later) =
      let more = parsed_run text middle xs rest later in
      record { run = (middle, (rows.statement text tokens x middle).1 there, more.run); longest = more.longest }

  -- what the reader of statements found
  pub all_parse : (text : List ℕ) (tokens rest left : List Token) (xs : List Statement) → Some rest ≡ after_first text tokens
      → IsLongestRun (whole_statement text) rest xs left → AllRows text xs tokens left
  all_parse text tokens rest left xs opened longest = (rest, (rows.first text tokens rest).0 (sym opened), run_parses text rest xs left longest)

  no_left : (left : List Token) → length left < 1 → left ≡ []
  no_left [] few = refl
  no_left (token ∷ left) few = absurd (omega arith)

  pub whole_text : (text : List ℕ) (tokens rest left : List Token) (xs : List Statement) → Some rest ≡ after_first text tokens
      → IsLongestRun (whole_statement text) rest xs left → length left < 1 → AllRows text xs tokens []
  whole_text text tokens rest left xs opened longest few =
      let P : List Token → Type 0 = λ ts. AllRows text xs tokens ts in
      subst P (no_left left few) (all_parse text tokens rest left xs opened longest)

  pub breaks_at_start : (text : List ℕ) (tokens : List Token) (at : ℕ) → None ≡ after_first text tokens → at ≡ place_of text tokens → BreaksOff text tokens at
  breaks_at_start text tokens at none is =
      unnamed (λ rest there. no_some (after_first text tokens) rest (sym none) ((rows.first text tokens rest).1 there)) is

  pub breaks_later : (text : List ℕ) (tokens rest left : List Token) (xs : List Statement) (d : Token) → Some rest ≡ after_first text tokens
      → IsLongestRun (whole_statement text) rest xs left → 1 ≤ length left → BreaksOff text tokens (slice_index_or left 0 d).at
  breaks_later text tokens rest [] xs d opened longest some = absurd (omega arith)
  breaks_later text tokens rest (token ∷ later) xs d opened longest some =
      let there = all_parse text tokens rest (token ∷ later) xs opened longest in
      cut_short there.0 there.1 (record { found = xs; token = token; later = later; each = there.2; place = refl })
