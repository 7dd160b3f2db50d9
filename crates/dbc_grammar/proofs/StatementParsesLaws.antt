-- The form of a statement finds exactly the statement that is at the front of the tokens.
use Rattle.std.proofs.Common.{◌≡◌, sym, ap, refl, ℕ, List}
use Rattle.std.specs.Prelude.{Option, Some, None}
use Rattle.std.specs.Option.{option_map}
use Rattle.std.proofs.lemmas.Option.{none-some}
use Rattle.multiplex_tree.specs.declared.mark.Range.{Range}
use Rattle.sig_text.specs.declared.token.Token.{Token}
use Rattle.dbc_grammar.specs.declared.statement.SignalForm.{SignalForm}
use Rattle.dbc_grammar.specs.declared.statement.ValueText.{ValueText}
use Rattle.dbc_grammar.specs.declared.statement.Statement.{Statement}
use Rattle.dbc_grammar.specs.declared.statement.Statement.TheVariants as statement
use Rattle.dbc_grammar.specs.Statements.{ParsesMessage, ParsesNote, Passed, Parses}
use Rattle.dbc_grammar.specs.Forms.{◌<|>◌, with_rest, message_at, signal_texts_at, note_at, unkept_at, as_message, as_note, statement_at}
use Rattle.dbc_grammar.proofs.FormLaws.{IfFound, mapped}
use Rattle.dbc_grammar.proofs.PartLaws.{Says, Finds, Pieces, Runs}
use Rattle.dbc_grammar.proofs.NoteParsesLaws.{either_none, either_some, note_found, note_there}
use Rattle.dbc_grammar.proofs.MarkLaws.{Values}
use Rattle.dbc_grammar.proofs.SignalParsesLaws.{message_part}
use Rattle.dbc_grammar.proofs.PassedParsesLaws.{before_note, either_else, passed_found, passed_there, neither}

-- what the crate below says of pieces, of values and of the forms that are repeated
pub record Below : Type 0 where
  pub pieces : Pieces
  pub values : Values
  pub signals : Runs SignalForm
  pub texts : Runs ValueText
  pub ranges : Runs Range
  pub tokens : Runs Token

none_mapped : {A B : Type 0} (g : A → B) (o : Option A) → option_map g o ≡ None → o ≡ None
none_mapped g None e = refl
none_mapped g (Some x) e = absurd (none-some (g x) (sym e))

first_none : {A : Type 0} (x y : Option A) → (x <|> y) ≡ None → x ≡ None
first_none None y e = refl
first_none (Some x) y e = absurd (none-some x (sym e))

no_texts : (text : List ℕ) (tokens : List Token) → note_at text tokens ≡ None → signal_texts_at text tokens ≡ None
unfolding note_at
no_texts text tokens none = first_none (signal_texts_at text tokens) _ none

found : Below → (text : List ℕ) (tokens : List Token) → IfFound (Says (Parses text) tokens) (statement_at text tokens)
unfolding statement_at
found below text tokens =
    let Q : Statement × List Token → Type 0 = Says (Parses text) tokens in
    let message = message_part below.pieces below.values below.tokens below.signals text in
    either_else Q (option_map as_message (message_at text tokens)) _
    (mapped (Says (ParsesMessage text) tokens) Q as_message (message_at text tokens) (message.found tokens) (λ x row. row)) (λ a.
    either_else Q (option_map as_note (note_at text tokens)) (option_map (with_rest statement.Unkept) (unkept_at text tokens))
    (mapped (Says (ParsesNote text) tokens) Q as_note (note_at text tokens)
    (note_found below.pieces below.texts below.ranges text tokens) (λ x row. row)) (λ b.
    mapped (Passed text tokens) Q (with_rest statement.Unkept) (unkept_at text tokens)
    (passed_found below.pieces below.texts text tokens (no_texts text tokens (none_mapped as_note (note_at text tokens) b))) (λ rest row. row)))

there : Below → (text : List ℕ) (tokens : List Token) (s : Statement) (rest : List Token) → Parses text s tokens rest
    → statement_at text tokens ≡ Some (s, rest)
unfolding statement_at
there below text tokens (statement.Message m) rest part =
    either_some (option_map as_message (message_at text tokens)) _ _
    (ap (option_map as_message)
    ((message_part below.pieces below.values below.tokens below.signals text).there tokens m rest part))
there below text tokens (statement.Noted note) rest part =
    either_none (option_map as_message (message_at text tokens)) _ _
    (ap (option_map as_message) (before_note below.pieces text note tokens rest part))
    (either_some (option_map as_note (note_at text tokens)) _ _
    (ap (option_map as_note) (note_there below.pieces below.texts below.ranges text note tokens rest part)))
there below text tokens statement.Unkept rest part =
    let none = neither below.pieces below.texts text tokens rest part in
    either_none (option_map as_message (message_at text tokens)) _ _ (ap (option_map as_message) none.message)
    (either_none (option_map as_note (note_at text tokens)) _ _ (ap (option_map as_note) none.note)
    (ap (option_map (with_rest statement.Unkept)) (passed_there below.pieces below.texts text tokens rest part)))

pub statement_part : Below → (text : List ℕ) → Finds (statement_at text) (Parses text)
statement_part below text = record { found = found below text; there = there below text }
