-- No statement is without tokens.
use Rattle.std.proofs.Common.{◌≡◌, ℕ, List, [], sym, refl, ◌∙◌}
use Rattle.std.specs.Prelude.{Some, None, ◌↔◌}
use Rattle.std.proofs.lemmas.Option.{none-some}
use Rattle.sig_text.specs.declared.token.Token.{Token}
use Rattle.token_forms.specs.Pieces.{literal_at, word_at}
use Rattle.token_forms.specs.Grammar.{Any, Lacks}
use Rattle.dbc_grammar.specs.declared.statement.Statement.{Statement}
use Rattle.dbc_grammar.specs.Forms.{statement_at, message_at, heading_at, note_at, signal_texts_at, value_type_at, multiplexing_at, unkept_at, version_at, symbols_at, timing_at, nodes_at, variable_texts_at, lenient_texts_at, other_at}
use Rattle.dbc_grammar.specs.Statements.{Parses}

no_statement : (text : List ℕ) → statement_at text [] ≡ None
unfolding statement_at message_at heading_at note_at signal_texts_at value_type_at multiplexing_at unkept_at version_at symbols_at timing_at nodes_at variable_texts_at lenient_texts_at other_at literal_at word_at
no_statement text = refl

-- where statements are what their forms find
pub lacks_statement : (text : List ℕ) → ((s : Statement) (rest : List Token) → (statement_at text [] ≡ Some (s, rest)) ↔ Parses text s [] rest) → Lacks (Any (Parses text)) []
lacks_statement text forms rest (s, parses) = none-some (s, rest) (sym (no_statement text) ∙ (forms s rest).1 parses)
