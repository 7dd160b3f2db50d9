-- Each form takes tokens from the front: what the tokens before it keep, those behind it keep; a statement takes one at least,
-- and the names of a message and of its signals are words among them.
use Rattle.std.proofs.Common.{◌≡◌, refl, ℕ, zero, suc, Bool, true, false, List, [], ◌∷◌, length, drop}
use Rattle.std.specs.Prelude.{Option, Some, None, if◌then◌else◌, codes}
use Rattle.std.specs.List.{AllByRecursion, prefix_len}
use Rattle.std.specs.Option.{option_map}
use Rattle.std.specs.Str.{bytes_eq}
use Rattle.byte_forms.specs.declared.numerals.Radix.TheVariants.{Decimal}
use Rattle.byte_forms.specs.Numerals.{number_up_to, is_numeral}
use Rattle.byte_forms.specs.Pieces.{◌>>=◌}
use Rattle.multiplex_tree.specs.declared.mark.Mark.{Mark}
use Rattle.bench_model.specs.declared.database.Order.TheVariants.{Intel, Motorola}
use Rattle.sig_text.specs.declared.token.Token.{Token}
use Rattle.sig_text.specs.declared.token.TokenKind.{TokenKind}
use Rattle.sig_text.specs.declared.token.TokenKind.TheVariants.{Word, Number, Str, Sign}
use Rattle.token_forms.specs.Pieces.{token_text, literal_at, word_at, word_by, number_at, number_by, string_at, string_by}
use Rattle.token_forms.specs.Numbers.{whole_at, digits_at, signed_at, after_sign, is_sign_token, is_hexadecimal}
use Rattle.token_forms.specs.Runs.{Form, run_by, run_within, run_of}
use Rattle.dbc_grammar.specs.declared.statement.Statement.{Statement}
use Rattle.dbc_grammar.specs.declared.statement.Statement.TheVariants as statement
use Rattle.dbc_grammar.specs.declared.statement.SignalForm.{SignalForm}
use Rattle.dbc_grammar.specs.declared.statement.Heading.{Heading}
use Rattle.dbc_grammar.specs.declared.statement.MessageForm.{MessageForm}
use Rattle.dbc_grammar.specs.Limits.{small_limit, last_range_value, last_type}
use Rattle.dbc_grammar.specs.Words.{is_free_word, is_among, unkept_words}
use Rattle.dbc_grammar.specs.Passed.{is_symbol, is_before_semicolon, is_before_statement, pass}
use Rattle.dbc_grammar.specs.Forms.{◌<|>◌, optional, small_at, version_at, symbols_at, rate_at, timing_at, nodes_at}
use Rattle.dbc_grammar.specs.Forms.{other_at, value_text_at, variable_texts_at, lenient_texts_at, unkept_at, mark_of, mark_by, mark_at}
use Rattle.dbc_grammar.specs.Forms.{with_rest, order_at, signedness_at, place_at, scaling_at, limits_at, node_at, receiver_at}
use Rattle.dbc_grammar.specs.Forms.{receivers_by, receivers_at, signal_head_at, signal_at, is_identifier, heading_at, message_at}
use Rattle.dbc_grammar.specs.Forms.{named_at, signal_texts_at, type_at, value_type_at, range_at, more_range_at, ranges_at}
use Rattle.dbc_grammar.specs.Forms.{multiplexing_at, note_at, as_message, as_note, statement_at}

-- what is found, if anything is, keeps this
abbrev pub IfFound : {A : Type 0} → (A → Type 0) → Option A → Type 0
IfFound P None = Unit {0}
IfFound P (Some x) = P x

-- a word of which this is known
pub record IsWordToken (Known : Token → Type 0) (token : Token) : Type 0 where
  pub there : Known token
  pub kind : token.kind ≡ Word

-- what lists of tokens keep says this of each token, and the tokens behind it keep it, too
pub record IsInherited (Left : List Token → Type 0) (Known : Token → Type 0) : Type 0 where
  pub head : (token : Token) (rest : List Token) → Left (token ∷ rest) → Known token
  pub tail : (token : Token) (rest : List Token) → Left (token ∷ rest) → Left rest

-- ---- steps of forms

pub bound : {A B : Type 0} (P : A → Type 0) (Q : B → Type 0) (o : Option A) (f : A → Option B) → IfFound P o
    → ((x : A) → P x → IfFound Q (f x)) → IfFound Q (o >>= f)
bound P Q None f first each = tt
bound P Q (Some x) f first each = each x first

pub either_of : {A : Type 0} (Q : A → Type 0) (x y : Option A) → IfFound Q x → IfFound Q y → IfFound Q (x <|> y)
either_of Q None y first second = second
either_of Q (Some x) y first second = first

pub mapped : {A B : Type 0} (P : A → Type 0) (Q : B → Type 0) (g : A → B) (o : Option A) → IfFound P o → ((x : A) → P x → Q (g x))
    → IfFound Q (option_map g o)
mapped P Q g None first each = tt
mapped P Q g (Some x) first each = each x first

pub where_true : {A : Type 0} (Q : A → Type 0) (b : Bool) (x y : Option A) → IfFound Q x → IfFound Q y → IfFound Q (if b then x else y)
where_true Q true x y first second = first
where_true Q false x y first second = second

pub whatever : {A : Type 0} (o : Option A) → IfFound (λ (x : A). Unit {0}) o
whatever None = tt
whatever (Some x) = tt

module _ (Left : List Token → Type 0) (Known : Token → Type 0) (kept : IsInherited Left Known) where
  -- the tokens behind what is found keep it
  abbrev pub Leaves : {A : Type 0} → A × List Token → Type 0
  Leaves found = Left found.1

  abbrev pub IsWordBefore : Token × List Token → Type 0
  IsWordBefore found = IsWordToken Known found.0 × Left found.1

  pub optional_of : (text : List ℕ) (tokens : List Token) (o : Option (List Token)) → Left tokens → IfFound Left o
      → Left (optional tokens o)
  optional_of text tokens None of found = of
  optional_of text tokens (Some rest) of found = found

  dropped : (text : List ℕ) (n : ℕ) (tokens : List Token) → Left tokens → Left (drop n tokens)
  dropped text zero tokens of = of
  dropped text (suc n) [] of = of
  dropped text (suc n) (token ∷ tokens) of = dropped text n tokens (kept.tail token tokens of)

  pub pass_of : (text : List ℕ) (is_passed : Token → Bool) (tokens : List Token) → Left tokens → Left (pass is_passed tokens)
  pass_of text is_passed tokens of = dropped text (prefix_len is_passed tokens) tokens of

  -- what is known of the tokens at whose front a form begins
  abbrev pub Behind : List Token → Type 0
  Behind [] = Unit {0}
  Behind (token ∷ rest) = Known token × Left rest

  pub behind : (tokens : List Token) → Left tokens → Behind tokens
  behind [] of = tt
  behind (token ∷ rest) of = (kept.head token rest of, kept.tail token rest of)

  -- ---- pieces

  literal_first : (text literal : List ℕ) (tokens : List Token) → Behind tokens → IfFound Left (literal_at text literal tokens)
  unfolding literal_at
  literal_first text literal [] of = tt
  literal_first text literal (token ∷ rest) of = where_true Left (bytes_eq (token_text text token) literal) (Some rest) None of.1 tt

  literal_of : (text literal : List ℕ) (tokens : List Token) → Left tokens → IfFound Left (literal_at text literal tokens)
  literal_of text literal tokens of = literal_first text literal tokens (behind tokens of)

  word_known : (text : List ℕ) (token : Token) (kind : TokenKind) (rest : List Token) → token.kind ≡ kind → Known token → Left rest
      → IfFound IsWordBefore (word_by token kind rest)
  word_known text token Word rest is there of = (record { there = there; kind = is }, of)
  word_known text token Number rest is there of = tt
  word_known text token Str rest is there of = tt
  word_known text token Sign rest is there of = tt

  word_first : (text : List ℕ) (tokens : List Token) → Behind tokens → IfFound IsWordBefore (word_at tokens)
  unfolding word_at
  word_first text [] of = tt
  word_first text (token ∷ rest) of = word_known text token token.kind rest refl of.0 of.1

  word_of : (text : List ℕ) (tokens : List Token) → Left tokens → IfFound IsWordBefore (word_at tokens)
  word_of text tokens of = word_first text tokens (behind tokens of)

  number_known : (text : List ℕ) (token : Token) (kind : TokenKind) (rest : List Token) → Left rest
      → IfFound Leaves (number_by token kind rest)
  number_known text token Word rest of = tt
  number_known text token Number rest of = of
  number_known text token Str rest of = tt
  number_known text token Sign rest of = tt

  number_of : (text : List ℕ) (tokens : List Token) → Behind tokens → IfFound Leaves (number_at tokens)
  unfolding number_at
  number_of text [] of = tt
  number_of text (token ∷ rest) of = number_known text token token.kind rest of.1

  string_known : (text : List ℕ) (token : Token) (kind : TokenKind) (rest : List Token) → Left rest
      → IfFound Leaves (string_by token kind rest)
  string_known text token Word rest of = tt
  string_known text token Number rest of = tt
  string_known text token Str rest of = of
  string_known text token Sign rest of = tt

  pub string_of : (text : List ℕ) (tokens : List Token) → Left tokens → IfFound Leaves (string_at tokens)
  unfolding string_at
  string_of text [] of = tt
  string_of text (token ∷ rest) of = string_known text token token.kind rest (kept.tail token rest of)

  pub whole_of : (text : List ℕ) (limit : ℕ) (tokens : List Token) → Left tokens → IfFound Leaves (whole_at text limit tokens)
  unfolding whole_at
  whole_of text limit tokens of =
      bound Leaves Leaves (number_at tokens) _ (number_of text tokens (behind tokens of)) (λ found left.
      bound (λ (n : ℕ). Unit {0}) Leaves (number_up_to Decimal limit (token_text text found.0)) _
      (whatever (number_up_to Decimal limit (token_text text found.0))) (λ n any. left))

  pub digits_of : (text : List ℕ) (tokens : List Token) → Left tokens → IfFound Leaves (digits_at text tokens)
  unfolding digits_at
  digits_of text tokens of =
      bound Leaves Leaves (number_at tokens) _ (number_of text tokens (behind tokens of)) (λ found left.
      where_true Leaves (is_numeral Decimal (token_text text found.0)) (Some found) None left tt)

  after_of : (text : List ℕ) (sign : Option Token) (tokens : List Token) → Behind tokens → IfFound Leaves (after_sign text sign tokens)
  after_of text sign tokens of =
      bound Leaves Leaves (number_at tokens) _ (number_of text tokens of) (λ found left.
      where_true Leaves (is_hexadecimal (token_text text found.0)) None _ tt left)

  signed_of : (text : List ℕ) (tokens : List Token) → Behind tokens → IfFound Leaves (signed_at text tokens)
  unfolding signed_at
  signed_of text [] of = tt
  signed_of text (token ∷ rest) of =
      where_true Leaves (is_sign_token text token) (after_sign text (Some token) rest) (after_sign text None (token ∷ rest))
      (after_of text (Some token) rest (behind rest of.1)) (after_of text None (token ∷ rest) of)

  -- ---- runs of a form: each one keeps this, and the tokens left keep it

  abbrev pub Keeps : {A : Type 0} → (A → Type 0) → A × List Token → Type 0
  Keeps P found = P found.0 × Left found.1

  abbrev pub KeepsEach : {A : Type 0} → (A → Type 0) → List A × List Token → Type 0
  KeepsEach P run = AllByRecursion P run.0 × Left run.1

  step_of : {A : Type 0} (text : List ℕ) (P : A → Type 0) (later : List Token
      → List A × List Token) (tokens : List Token) (o : Option (A × List Token)) → Left tokens
      → IfFound (Keeps P) o → ((rest : List Token) → Left rest → KeepsEach P (later rest)) → KeepsEach P (run_by later tokens o)
  step_of text P later tokens None of found each = (tt, of)
  step_of text P later tokens (Some x) of found each = let more = each x.1 found.1 in ((found.0, more.0), more.1)

  pub run_within_of : {A : Type 0} (text : List ℕ) (P : A → Type 0) (form : Form A)
      → ((tokens : List Token) → Left tokens → IfFound (Keeps P) (form tokens))
      → (n : ℕ) (tokens : List Token) → Left tokens → KeepsEach P (run_within n form tokens)
  unfolding run_within
  run_within_of text P form keeps zero tokens of = (tt, of)
  run_within_of text P form keeps (suc n) tokens of =
      step_of text P (run_within n form) tokens (form tokens) of (keeps tokens of) (run_within_of text P form keeps n)

  -- the same of forms of which only the tokens left matter
  any_kept : {A : Type 0} (text : List ℕ) (o : Option (A × List Token)) → IfFound Leaves o → IfFound (Keeps (λ (x : A). Unit {0})) o
  any_kept text None found = tt
  any_kept text (Some x) found = (tt, found)

  pub run_of_of : {A : Type 0} (text : List ℕ) (form : Form A) → ((tokens : List Token) → Left tokens → IfFound Leaves (form tokens))
      → (tokens : List Token) → Left tokens → Left (run_of form tokens).1
  run_of_of {A} text form leaves tokens of =
      (run_within_of text (λ (x : A). Unit {0}) form (λ ts o. any_kept text (form ts) (leaves ts o)) (length tokens) tokens of).1

  -- ---- the statements of which nothing is kept

  version_of : (text : List ℕ) (tokens : List Token) → Behind tokens → IfFound Left (version_at text tokens)
  unfolding version_at
  version_of text tokens of =
      bound Left Left (literal_at text (codes "VERSION") tokens) _ (literal_first text (codes "VERSION") tokens of) (λ rest r.
      bound Leaves Left (string_at rest) _ (string_of text rest r) (λ found left. left))

  symbols_of : (text : List ℕ) (tokens : List Token) → Behind tokens → IfFound Left (symbols_at text tokens)
  unfolding symbols_at
  symbols_of text tokens of =
      bound Left Left (literal_at text (codes "NS_") tokens) _ (literal_first text (codes "NS_") tokens of) (λ rest r.
      bound Left Left (literal_at text (codes ":") rest) _ (literal_of text (codes ":") rest r) (λ after a. pass_of text (is_symbol text) after a))

  rate_of : (text : List ℕ) (tokens : List Token) → Left tokens → IfFound Left (rate_at text tokens)
  unfolding rate_at
  rate_of text tokens of =
      bound Leaves Left (digits_at text tokens) _ (digits_of text tokens of) (λ rate a.
      bound Left Left (literal_at text (codes ":") rate.1) _ (literal_of text (codes ":") rate.1 a) (λ rest b.
      bound Leaves Left (digits_at text rest) _ (digits_of text rest b) (λ first c.
      bound Left Left (literal_at text (codes ",") first.1) _ (literal_of text (codes ",") first.1 c) (λ after d.
      bound Leaves Left (digits_at text after) _ (digits_of text after d) (λ second e. e)))))

  timing_of : (text : List ℕ) (tokens : List Token) → Behind tokens → IfFound Left (timing_at text tokens)
  unfolding timing_at
  timing_of text tokens of =
      bound Left Left (literal_at text (codes "BS_") tokens) _ (literal_first text (codes "BS_") tokens of) (λ rest r.
      bound Left Left (literal_at text (codes ":") rest) _ (literal_of text (codes ":") rest r) (λ after a.
      optional_of text after (rate_at text after) a (rate_of text after a)))

  nodes_of : (text : List ℕ) (tokens : List Token) → Behind tokens → IfFound Left (nodes_at text tokens)
  unfolding nodes_at
  nodes_of text tokens of =
      bound Left Left (literal_at text (codes "BU_") tokens) _ (literal_first text (codes "BU_") tokens of) (λ rest r.
      bound Left Left (literal_at text (codes ":") rest) _ (literal_of text (codes ":") rest r) (λ after a. pass_of text (is_free_word text) after a))

  other_of : (text : List ℕ) (tokens : List Token) → Behind tokens → IfFound Left (other_at text tokens)
  unfolding other_at
  other_of text tokens of =
      bound IsWordBefore Left (word_at tokens) _ (word_first text tokens of) (λ word w.
      where_true Left (is_among (token_text text word.0) unkept_words) (literal_at text (codes ";") (pass (is_before_semicolon text) word.1)) None
      (literal_of text (codes ";") (pass (is_before_semicolon text) word.1) (pass_of text (is_before_semicolon text) word.1 w.1)) tt)

  pub value_text_of : (text : List ℕ) (tokens : List Token) → Behind tokens → IfFound Leaves (value_text_at text tokens)
  unfolding value_text_at
  value_text_of text tokens of =
      bound Leaves Leaves (signed_at text tokens) _ (signed_of text tokens of) (λ number a.
      bound Leaves Leaves (string_at number.1) _ (string_of text number.1 a) (λ string b. b))

  variable_texts_of : (text : List ℕ) (tokens : List Token) → Behind tokens → IfFound Left (variable_texts_at text tokens)
  unfolding variable_texts_at
  variable_texts_of text tokens of =
      bound Left Left (literal_at text (codes "VAL_") tokens) _ (literal_first text (codes "VAL_") tokens of) (λ rest r.
      bound IsWordBefore Left (word_at rest) _ (word_of text rest r) (λ name w.
      literal_of text (codes ";") (run_of (value_text_at text) name.1).1
      (run_of_of text (value_text_at text) (λ ts left. value_text_of text ts (behind ts left)) name.1 w.1)))

  lenient_texts_of : (text : List ℕ) (tokens : List Token) → Behind tokens → IfFound Left (lenient_texts_at text tokens)
  unfolding lenient_texts_at
  lenient_texts_of text tokens of =
      bound Left Left (literal_at text (codes "VAL_") tokens) _ (literal_first text (codes "VAL_") tokens of) (λ rest r.
      literal_of text (codes ";") (pass (is_before_statement text) rest) (pass_of text (is_before_statement text) rest r))

  unkept_of : (text : List ℕ) (tokens : List Token) → Behind tokens → IfFound Left (unkept_at text tokens)
  unfolding unkept_at
  unkept_of text tokens of =
      either_of Left (version_at text tokens) _ (version_of text tokens of)
      (either_of Left (symbols_at text tokens) _ (symbols_of text tokens of)
      (either_of Left (timing_at text tokens) _ (timing_of text tokens of)
      (either_of Left (nodes_at text tokens) _ (nodes_of text tokens of)
      (either_of Left (variable_texts_at text tokens) _ (variable_texts_of text tokens of)
      (either_of Left (lenient_texts_at text tokens) (other_at text tokens) (lenient_texts_of text tokens of) (other_of text tokens of))))))

  -- ---- messages and signals

  mark_known : (text : List ℕ) (tokens : List Token) (o : Option (Token × List Token)) → Left tokens → IfFound IsWordBefore o
      → IfFound Leaves (mark_by text tokens o)
  mark_known text tokens None of word = of
  mark_known text tokens (Some found) of word =
      bound (λ (m : Mark). Unit {0}) Leaves (mark_of (token_text text found.0)) _ (whatever (mark_of (token_text text found.0)))
      (λ mark any. word.1)

  small_of : (text : List ℕ) (tokens : List Token) → Left tokens → IfFound Leaves (small_at text tokens)
  small_of text tokens of = whole_of text small_limit tokens of

  order_of : (text : List ℕ) (tokens : List Token) → Left tokens → IfFound Leaves (order_at text tokens)
  unfolding order_at
  order_of text tokens of =
      either_of Leaves (option_map (with_rest Intel) (literal_at text (codes "1") tokens))
      (option_map (with_rest Motorola) (literal_at text (codes "0") tokens))
      (mapped Left Leaves (with_rest Intel) (literal_at text (codes "1") tokens) (literal_of text (codes "1") tokens of) (λ rest r. r))
      (mapped Left Leaves (with_rest Motorola) (literal_at text (codes "0") tokens) (literal_of text (codes "0") tokens of) (λ rest r. r))

  signedness_of : (text : List ℕ) (tokens : List Token) → Left tokens → IfFound Leaves (signedness_at text tokens)
  unfolding signedness_at
  signedness_of text tokens of =
      either_of Leaves (option_map (with_rest false) (literal_at text (codes "+") tokens))
      (option_map (with_rest true) (literal_at text (codes "-") tokens))
      (mapped Left Leaves (with_rest false) (literal_at text (codes "+") tokens) (literal_of text (codes "+") tokens of) (λ rest r. r))
      (mapped Left Leaves (with_rest true) (literal_at text (codes "-") tokens) (literal_of text (codes "-") tokens of) (λ rest r. r))

  place_of : (text : List ℕ) (tokens : List Token) → Left tokens → IfFound Leaves (place_at text tokens)
  unfolding place_at
  place_of text tokens of =
      bound Leaves Leaves (small_at text tokens) _ (small_of text tokens of) (λ start a.
      bound Left Leaves (literal_at text (codes "|") start.1) _ (literal_of text (codes "|") start.1 a) (λ rest b.
      bound Leaves Leaves (small_at text rest) _ (small_of text rest b) (λ size c.
      bound Left Leaves (literal_at text (codes "@") size.1) _ (literal_of text (codes "@") size.1 c) (λ after d.
      bound Leaves Leaves (order_at text after) _ (order_of text after d) (λ order e.
      bound Leaves Leaves (signedness_at text order.1) _ (signedness_of text order.1 e) (λ sign f. f))))))

  scaling_of : (text : List ℕ) (tokens : List Token) → Left tokens → IfFound Leaves (scaling_at text tokens)
  unfolding scaling_at
  scaling_of text tokens of =
      bound Left Leaves (literal_at text (codes "(") tokens) _ (literal_of text (codes "(") tokens of) (λ rest a.
      bound Leaves Leaves (signed_at text rest) _ (signed_of text rest (behind rest a)) (λ factor b.
      bound Left Leaves (literal_at text (codes ",") factor.1) _ (literal_of text (codes ",") factor.1 b) (λ after c.
      bound Leaves Leaves (signed_at text after) _ (signed_of text after (behind after c)) (λ offset d.
      bound Left Leaves (literal_at text (codes ")") offset.1) _ (literal_of text (codes ")") offset.1 d) (λ last e. e)))))

  limits_of : (text : List ℕ) (tokens : List Token) → Left tokens → IfFound Left (limits_at text tokens)
  unfolding limits_at
  limits_of text tokens of =
      bound Left Left (literal_at text (codes "[") tokens) _ (literal_of text (codes "[") tokens of) (λ rest a.
      bound Leaves Left (signed_at text rest) _ (signed_of text rest (behind rest a)) (λ low b.
      bound Left Left (literal_at text (codes "|") low.1) _ (literal_of text (codes "|") low.1 b) (λ after c.
      bound Leaves Left (signed_at text after) _ (signed_of text after (behind after c)) (λ high d. literal_of text (codes "]") high.1 d))))

  node_of : (text : List ℕ) (tokens : List Token) → Behind tokens → IfFound Leaves (node_at text tokens)
  unfolding node_at
  node_of text tokens of =
      bound IsWordBefore Leaves (word_at tokens) _ (word_first text tokens of) (λ word w.
      where_true Leaves (is_free_word text word.0) (Some word) None w.1 tt)

  optional_first : (tokens : List Token) (o : Option (List Token)) → Behind tokens → IfFound Left o → Behind (optional tokens o)
  optional_first tokens None of found = of
  optional_first tokens (Some rest) of found = behind rest found

  pub receiver_of : (text : List ℕ) (tokens : List Token) → Behind tokens → IfFound Leaves (receiver_at text tokens)
  unfolding receiver_at
  receiver_of text tokens of =
      node_of text (optional tokens (literal_at text (codes ",") tokens))
      (optional_first tokens (literal_at text (codes ",") tokens) of (literal_first text (codes ",") tokens of))

  receivers_known : (text : List ℕ) (tokens : List Token) (o : Option (Token × List Token)) → Left tokens → IfFound Leaves o
      → Left (receivers_by text tokens o)
  receivers_known text tokens None of found = of
  receivers_known text tokens (Some first) of found =
      run_of_of text (receiver_at text) (λ ts left. receiver_of text ts (behind ts left)) first.1 found

  receivers_of : (text : List ℕ) (tokens : List Token) → Left tokens → Left (receivers_at text tokens)
  unfolding receivers_at
  receivers_of text tokens of = receivers_known text tokens (node_at text tokens) of (node_of text tokens (behind tokens of))

  abbrev NamesHead : Token × Mark × List Token → Type 0
  NamesHead head = IsWordToken Known head.0 × Left head.2

  head_of : (text : List ℕ) (tokens : List Token) → Behind tokens → IfFound NamesHead (signal_head_at text tokens)
  unfolding signal_head_at
  head_of text tokens of =
      bound Left NamesHead (literal_at text (codes "SG_") tokens) _ (literal_first text (codes "SG_") tokens of) (λ rest a.
      bound IsWordBefore NamesHead (word_at rest) _ (word_of text rest a) (λ name b.
      bound Leaves NamesHead (mark_at text name.1) _ (mark_known text name.1 (word_at name.1) b.1 (word_of text name.1 b.1)) (λ mark c.
      bound Left NamesHead (literal_at text (codes ":") mark.1) _ (literal_of text (codes ":") mark.1 c) (λ after d. (b.0, d)))))

  -- the name of a signal is a word of the text
  abbrev pub NamesSignal : SignalForm → Type 0
  NamesSignal s = IsWordToken Known s.name

  pub signal_of : (text : List ℕ) (tokens : List Token) → Behind tokens → IfFound (Keeps NamesSignal) (signal_at text tokens)
  unfolding signal_at
  signal_of text tokens of =
      let Named : SignalForm × List Token → Type 0 = Keeps NamesSignal in
      bound NamesHead Named (signal_head_at text tokens) _ (head_of text tokens of) (λ head a.
      bound Leaves Named (place_at text head.2) _ (place_of text head.2 a.1) (λ place b.
      bound Leaves Named (scaling_at text place.1) _ (scaling_of text place.1 b) (λ scaling c.
      bound Left Named (limits_at text scaling.1) _ (limits_of text scaling.1 c) (λ rest d.
      bound Leaves Named (string_at rest) _ (string_of text rest d) (λ unit e. (a.0, receivers_of text unit.1 e))))))

  -- the name of a message, and those of its signals
  abbrev NamesHeading : Heading → Type 0
  NamesHeading h = IsWordToken Known h.name

  heading_of : (text : List ℕ) (tokens : List Token) → Behind tokens → IfFound (Keeps NamesHeading) (heading_at text tokens)
  unfolding heading_at
  heading_of text tokens of =
      let Named : Heading × List Token → Type 0 = Keeps NamesHeading in
      bound Left Named (literal_at text (codes "BO_") tokens) _ (literal_first text (codes "BO_") tokens of) (λ rest a.
      bound Leaves Named (small_at text rest) _ (small_of text rest a) (λ id b.
      bound IsWordBefore Named (word_at id.1) _ (word_of text id.1 b) (λ name c.
      bound Left Named (literal_at text (codes ":") name.1) _ (literal_of text (codes ":") name.1 c.1) (λ after d.
      bound Leaves Named (small_at text after) _ (small_of text after d) (λ count e.
      bound IsWordBefore Named (word_at count.1) _ (word_of text count.1 e) (λ sender f.
      where_true Named (is_identifier id.0) _ None (c.0, f.1) tt))))))

  pub record NamesMessage (m : MessageForm) : Type 0 where
    pub message : IsWordToken Known m.heading.name
    pub signals : AllByRecursion NamesSignal m.signals

  message_of : (text : List ℕ) (tokens : List Token) → Behind tokens → IfFound (Keeps NamesMessage) (message_at text tokens)
  unfolding message_at
  message_of text tokens of =
      bound (Keeps NamesHeading) (Keeps NamesMessage) (heading_at text tokens) _ (heading_of text tokens of) (λ heading a.
      let run = run_within_of text NamesSignal (signal_at text) (λ ts left. signal_of text ts (behind ts left)) (length heading.1) heading.1 a.1 in
      (record { message = a.0; signals = run.0 }, run.1))

  -- ---- notes

  abbrev LeavesBehind : ℕ × Token × List Token → Type 0
  LeavesBehind named = Left named.2

  named_of : (text word : List ℕ) (tokens : List Token) → Behind tokens → IfFound LeavesBehind (named_at text word tokens)
  named_of text word tokens of =
      bound Left LeavesBehind (literal_at text word tokens) _ (literal_first text word tokens of) (λ rest a.
      bound Leaves LeavesBehind (small_at text rest) _ (small_of text rest a) (λ id b.
      bound IsWordBefore LeavesBehind (word_at id.1) _ (word_of text id.1 b) (λ name c. c.1)))

  signal_texts_of : (text : List ℕ) (tokens : List Token) → Behind tokens → IfFound Leaves (signal_texts_at text tokens)
  unfolding signal_texts_at
  signal_texts_of text tokens of =
      bound LeavesBehind Leaves (named_at text (codes "VAL_") tokens) _ (named_of text (codes "VAL_") tokens of) (λ named a.
      bound Left Leaves (literal_at text (codes ";") (run_of (value_text_at text) named.2).1) _
      (literal_of text (codes ";") (run_of (value_text_at text) named.2).1
      (run_of_of text (value_text_at text) (λ ts left. value_text_of text ts (behind ts left)) named.2 a)) (λ rest r. r))

  type_of : (text : List ℕ) (tokens : List Token) → Left tokens → IfFound Leaves (type_at text tokens)
  unfolding type_at
  type_of text tokens of =
      let behind = optional tokens (literal_at text (codes ":") tokens) in
      bound Leaves Leaves (whole_at text last_type behind) _
      (whole_of text last_type behind (optional_of text tokens (literal_at text (codes ":") tokens) of (literal_of text (codes ":") tokens of)))
      (λ kind a.
      bound Left Leaves (literal_at text (codes ";") kind.1) _ (literal_of text (codes ";") kind.1 a) (λ rest r. r))

  value_type_of : (text : List ℕ) (tokens : List Token) → Behind tokens → IfFound Leaves (value_type_at text tokens)
  unfolding value_type_at
  value_type_of text tokens of =
      bound LeavesBehind Leaves (named_at text (codes "SIG_VALTYPE_") tokens) _ (named_of text (codes "SIG_VALTYPE_") tokens of) (λ named a.
      bound Leaves Leaves (type_at text named.2) _ (type_of text named.2 a) (λ kind b. b))

  range_of : (text : List ℕ) (tokens : List Token) → Left tokens → IfFound Leaves (range_at text tokens)
  unfolding range_at
  range_of text tokens of =
      bound Leaves Leaves (whole_at text last_range_value tokens) _ (whole_of text last_range_value tokens of) (λ low a.
      bound Left Leaves (literal_at text (codes "-") low.1) _ (literal_of text (codes "-") low.1 a) (λ rest b.
      bound Leaves Leaves (whole_at text last_range_value rest) _ (whole_of text last_range_value rest b) (λ high c. c)))

  pub more_range_of : (text : List ℕ) (tokens : List Token) → Behind tokens → IfFound Leaves (more_range_at text tokens)
  unfolding more_range_at
  more_range_of text tokens of =
      bound Left Leaves (literal_at text (codes ",") tokens) _ (literal_first text (codes ",") tokens of) (λ rest a. range_of text rest a)

  ranges_of : (text : List ℕ) (tokens : List Token) → Left tokens → IfFound Leaves (ranges_at text tokens)
  unfolding ranges_at
  ranges_of text tokens of =
      bound Leaves Leaves (range_at text tokens) _ (range_of text tokens of) (λ first a.
      run_of_of text (more_range_at text) (λ ts left. more_range_of text ts (behind ts left)) first.1 a)

  multiplexing_of : (text : List ℕ) (tokens : List Token) → Behind tokens → IfFound Leaves (multiplexing_at text tokens)
  unfolding multiplexing_at
  multiplexing_of text tokens of =
      bound LeavesBehind Leaves (named_at text (codes "SG_MUL_VAL_") tokens) _ (named_of text (codes "SG_MUL_VAL_") tokens of) (λ named a.
      bound IsWordBefore Leaves (word_at named.2) _ (word_of text named.2 a) (λ multiplexor b.
      bound Leaves Leaves (ranges_at text multiplexor.1) _ (ranges_of text multiplexor.1 b.1) (λ ranges c.
      bound Left Leaves (literal_at text (codes ";") ranges.1) _ (literal_of text (codes ";") ranges.1 c) (λ rest r. r))))

  note_of : (text : List ℕ) (tokens : List Token) → Behind tokens → IfFound Leaves (note_at text tokens)
  unfolding note_at
  note_of text tokens of =
      either_of Leaves (signal_texts_at text tokens) _ (signal_texts_of text tokens of)
      (either_of Leaves (value_type_at text tokens) (multiplexing_at text tokens) (value_type_of text tokens of)
      (multiplexing_of text tokens of))

  -- ---- statements

  abbrev pub NamesStatement : Statement → Type 0
  NamesStatement statement.Unkept = Unit {0}
  NamesStatement (statement.Message m) = NamesMessage m
  NamesStatement (statement.Noted note) = Unit {0}

  pub statement_of : (text : List ℕ) (tokens : List Token) → Behind tokens → IfFound (Keeps NamesStatement) (statement_at text tokens)
  unfolding statement_at
  statement_of text tokens of =
      let Named : Statement × List Token → Type 0 = Keeps NamesStatement in
      either_of Named (option_map as_message (message_at text tokens)) _
      (mapped (Keeps NamesMessage) Named as_message (message_at text tokens) (message_of text tokens of) (λ found h. h))
      (either_of Named (option_map as_note (note_at text tokens)) (option_map (with_rest statement.Unkept) (unkept_at text tokens))
      (mapped Leaves Named as_note (note_at text tokens) (note_of text tokens of) (λ found h. (tt, h)))
      (mapped Left Named (with_rest statement.Unkept) (unkept_at text tokens) (unkept_of text tokens of) (λ rest h. (tt, h))))
