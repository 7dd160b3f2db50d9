-- The names of a database's messages and signals are words of the text, each of as many bytes as `check` lets through.
use Rattle.std.proofs.Common.{◌≡◌, sym, subst, ℕ, ◌+◌, Bool, true, false, List, [], ◌∷◌, length}
use Rattle.std.specs.Prelude.{All, ◌==◌, ◌↔◌, Option, Some, if◌then◌else◌}
use Rattle.std.specs.List.{enumerate_from, AllByRecursion, AllZip}
use Rattle.bench_model.specs.declared.database.Signal.{Signal}
use Rattle.bench_model.specs.declared.database.Message.{Message}
use Rattle.bench_model.specs.declared.database.Database.{Database}
use Rattle.bench_model.specs.Rules.{KeepsRules}
use Rattle.sig_text.specs.Lexemes.{IsWord, IsLexeme}
use Rattle.sig_text.specs.Tokens.{IsToken, AreTokens}
use Rattle.sig_text.specs.declared.token.TokenKind.{TokenKind}
use Rattle.sig_text.specs.declared.token.Token.{Token}
use Rattle.token_forms.specs.Names.{HasNames}
use Rattle.token_forms.specs.Pieces.{token_text}
use Rattle.token_forms.specs.Grammar.{Each}
use Rattle.dbc_grammar.specs.declared.statement.Statement.{Statement}
use Rattle.dbc_grammar.specs.declared.statement.Statement.TheVariants as statement
use Rattle.dbc_grammar.specs.declared.statement.SignalForm.{SignalForm}
use Rattle.dbc_grammar.specs.declared.statement.MessageForm.{MessageForm}
use Rattle.dbc_grammar.specs.Statements.{Parses}
use Rattle.dbc_grammar.specs.Forms.{statement_at}
use Rattle.dbc_grammar.specs.Naming.{Noted, noted_in, independent, is_first_message}
use Rattle.dbc_grammar.specs.Gather.{IsSignalAt, messages_in, messages_of, notes_of}
use Rattle.dbc_grammar.specs.Contract.{AreStatements, IsMessageAt, IsDatabaseOf}
use Rattle.dbc_grammar.proofs.RowLaws.{rec-all, rec-append}
use Rattle.dbc_grammar.proofs.FormLaws as forms
use Rattle.dbc_grammar.proofs.FormLaws.{IsWordToken, IsInherited}

-- all are tokens of the text
abbrev Of : List ℕ → List Token → Type 0
Of text tokens = AllByRecursion (IsToken text) tokens

inherited : (text : List ℕ) → IsInherited (Of text) (IsToken text)
inherited text = record { head = λ token rest of. of.0; tail = λ token rest of. of.1 }

abbrev NamesSignal : List ℕ → SignalForm → Type 0
NamesSignal text = forms.NamesSignal (Of text) (IsToken text) (inherited text)

abbrev NamesMessage : List ℕ → MessageForm → Type 0
NamesMessage text = forms.NamesMessage (Of text) (IsToken text) (inherited text)

abbrev NamesStatement : List ℕ → Statement → Type 0
NamesStatement text = forms.NamesStatement (Of text) (IsToken text) (inherited text)

-- the statements of the text
of_text : (text : List ℕ) (from : ℕ) (tokens : List Token) (to : ℕ) → AreTokens text false from tokens to → Of text tokens
of_text text from [] to are = tt
of_text text from (token ∷ tokens) to are = (are.1, of_text text token.end tokens to are.2)

-- what is is found
abbrev pub FoundStatements : Type 0
FoundStatements = (text : List ℕ) (tokens : List Token) (s : Statement) (rest : List Token)
    → (statement_at text tokens ≡ Some (s, rest)) ↔ Parses text s tokens rest

statement_names : (text : List ℕ) (tokens : List Token) → Of text tokens
    → forms.IfFound (λ (found : Statement × List Token). NamesStatement text found.0 × Of text found.1) (statement_at text tokens)
statement_names text tokens of =
    forms.statement_of (Of text) (IsToken text) (inherited text) text tokens (forms.behind (Of text) (IsToken text) (inherited text) tokens of)

run_names : FoundStatements → (text : List ℕ) (tokens : List Token) (statements : List Statement) (rest : List Token)
    → Each (Parses text) statements tokens rest → Of text tokens → AllByRecursion (NamesStatement text) statements
run_names law text tokens [] rest each of = tt
run_names law text tokens (s ∷ statements) rest (middle, part, later) of =
    let found = (law text tokens s middle).1 part in
    let P : Option (Statement × List Token) → Type 0 =
    forms.IfFound (λ (x : Statement × List Token). NamesStatement text x.0 × Of text x.1) in
    let one = subst P found (statement_names text tokens of) in
    (one.0, run_names law text middle statements rest later one.1)

statements_name : FoundStatements → (text : List ℕ) (statements : List Statement) → AreStatements text statements
    → AllByRecursion (NamesStatement text) statements
statements_name law text statements are =
    run_names law text are.tokens statements [] are.all (of_text text 0 are.tokens (length text) are.are_tokens)

-- the messages that are kept of them
message_kept : (text : List ℕ) (m : MessageForm) (b : Bool) → NamesMessage text m
    → AllByRecursion (NamesMessage text) (if b then [] else m ∷ [])
message_kept text m true names = tt
message_kept text m false names = (names, tt)

kept : (text : List ℕ) (s : Statement) → NamesStatement text s → AllByRecursion (NamesMessage text) (messages_in s)
kept text statement.Unkept names = tt
kept text (statement.Message m) names = message_kept text m (m.heading.id == independent) names
kept text (statement.Noted note) names = tt

messages_name : (text : List ℕ) (statements : List Statement) → AllByRecursion (NamesStatement text) statements
    → AllByRecursion (NamesMessage text) (messages_of statements)
messages_name text [] names = tt
messages_name text (s ∷ statements) names =
    rec-append (NamesMessage text) (messages_in s) (messages_of statements) (kept text s names.0) (messages_name text statements names.1)

-- the names that they make
word_lexeme : (text name : List ℕ) (token : Token) → name ≡ token_text text token → IsWordToken (IsToken text) token → IsWord name
word_lexeme text name token is w =
    let P : TokenKind → Type 0 = λ kind. IsLexeme kind (token_text text token) in
    subst IsWord (sym is) (subst P w.kind w.there.lexeme)

abbrev WordSignal : Signal → Type 0
WordSignal s = IsWord s.name

record HasWords (m : Message) : Type 0 where
  message : IsWord m.name
  signals : All WordSignal m.signals

signals_words : (text : List ℕ) (utf8 : Bool) (noted : Noted) (named : Bool) (m : MessageForm) (n : ℕ) (forms : List SignalForm)
    (signals : List Signal)
    → AllByRecursion (NamesSignal text) forms → AllZip (IsSignalAt text utf8 noted named m) (enumerate_from n forms) signals
    → AllByRecursion WordSignal signals
signals_words text utf8 noted named m n [] [] names each = tt
signals_words text utf8 noted named m n [] (s ∷ signals) names each = absurd each
signals_words text utf8 noted named m n (f ∷ forms) [] names each = absurd each
signals_words text utf8 noted named m n (f ∷ forms) (s ∷ signals) names each =
    (word_lexeme text s.name f.name each.0.name names.0, signals_words text utf8 noted named m (n + 1) forms signals names.1 each.1)

messages_words : (text : List ℕ) (utf8 : Bool) (noted : Noted) (all : List MessageForm) (n : ℕ) (forms : List MessageForm)
    (messages : List Message)
    → AllByRecursion (NamesMessage text) forms → AllZip (IsMessageAt text utf8 noted all) (enumerate_from n forms) messages
    → AllByRecursion HasWords messages
messages_words text utf8 noted all n [] [] names each = tt
messages_words text utf8 noted all n [] (m ∷ messages) names each = absurd each
messages_words text utf8 noted all n (f ∷ forms) [] names each = absurd each
messages_words text utf8 noted all n (f ∷ forms) (m ∷ messages) names each = (
  record {
    message = word_lexeme text m.name f.heading.name each.0.name names.0.message;
    signals = rec-all WordSignal m.signals
        (signals_words text utf8 noted (is_first_message all n f) f 0 f.signals m.signals names.0.signals each.0.signals);
  },
  messages_words text utf8 noted all (n + 1) forms messages names.1 each.1,
)

all_words : FoundStatements → (text : List ℕ) (d : Database) → IsDatabaseOf text d → All HasWords d.messages
all_words law text d is =
    let forms = messages_of is.statements in
    rec-all HasWords d.messages
    (messages_words text is.gathers.utf8 (noted_in text (notes_of is.statements)) forms 0 forms d.messages
    (messages_name text is.statements (statements_name law text is.statements is.are_statements)) is.gathers.messages)

pub names_of_text : FoundStatements → (text : List ℕ) (d : Database) → IsDatabaseOf text d → KeepsRules d → HasNames d
names_of_text law text d is keeps = λ k e h.
    let words = all_words law text d is k e h in
    let rules = keeps.messages k e h in
    record {
      message = record { word = words.message; size = rules.name };
      signals = λ j f g. record { word = words.signals j f g; size = (rules.signals j f g).name };
    }
