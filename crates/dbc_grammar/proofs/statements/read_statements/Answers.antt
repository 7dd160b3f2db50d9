use Rattle.std.proofs.Common.{◌≤◌, arith, refl, get_or, length, List, [], ◌∷◌, ℕ}
use Rattle.sig_text.specs.declared.token.Token.{Token}
use Rattle.token_forms.specs.Grammar.{BreaksAt}
use Rattle.dbc_grammar.specs.declared.statements.Kept.{Kept}
use Rattle.dbc_grammar.specs.Statements.{Parses}
use Rattle.dbc_grammar.specs.Kept.{IsKeptBefore}
use Rattle.dbc_grammar.proofs.statements.read_statements.Goals as goal

-- a token that is left is the one at which the statements break off
left : (text : List ℕ) (tokens rest : List Token) (kept : Kept) (d : Token) → 1 ≤ length rest → IsKeptBefore text tokens kept rest
    → BreaksAt (Parses text) tokens (get_or rest 0 d).at
left text tokens [] kept d some before = absurd (omega arith)
left text tokens (token ∷ later) kept d some before =
    record { found = before.statements; token = token; later = later; each = before.all; place = refl }

pub returns-in-len1-up-clause-fault : goal.returns-in-len1-up-clause-fault
returns-in-len1-up-clause-fault c =
    left c.args.bytes.now c.args.tokens.now c.in_ok-kept.rest.now c.in_ok-kept.kept _ c.in-len1-up.len_at_least c.in_ok-kept.ensures
