-- The statements of the DBC format as forms over tokens, as the readers find them: what is at the front of the tokens,
-- and the tokens after it. A law says that they find exactly what `Statements` says.
use Rattle.std.specs.Prelude.{ℕ, ◌-◌, ◌==◌, ◌||◌, ◌&&◌, Bool, true, false, List, length, take, slice_index, Option, Some, None, codes, nat_le, nat_lt, if◌then◌else◌}
use Rattle.std.specs.Option.{option_map}
use Rattle.std.specs.Str.{bytes_eq}
use Rattle.byte_forms.specs.declared.numerals.Radix.TheVariants.{Decimal}
use Rattle.byte_forms.specs.Numerals.{number_up_to}
use Rattle.byte_forms.specs.Pieces.{◌>>=◌, after_literal}
use Rattle.multiplex_tree.specs.declared.mark.Mark.{Mark}
use Rattle.multiplex_tree.specs.declared.mark.Range.{Range}
use Rattle.bench_model.specs.declared.database.Order.{Order}
use Rattle.bench_model.specs.declared.database.Order.TheVariants.{Intel, Motorola}
use Rattle.sig_text.specs.declared.token.Token.{Token}
use Rattle.token_forms.specs.Pieces.{token_text, literal_at, word_at, string_at}
use Rattle.token_forms.specs.Numbers.{whole_at, digits_at, signed_at}
use Rattle.token_forms.specs.Runs.{run_of, put_first}
use Rattle.dbc_grammar.specs.declared.statement.Statement.{Statement}
use Rattle.dbc_grammar.specs.declared.statement.Statement.TheVariants as statement
use Rattle.dbc_grammar.specs.declared.statement.Says.TheVariants as says
use Rattle.dbc_grammar.specs.declared.statement.Note.{Note}
use Rattle.dbc_grammar.specs.declared.statement.ValueText.{ValueText}
use Rattle.dbc_grammar.specs.declared.statement.Place.{Place}
use Rattle.dbc_grammar.specs.declared.statement.Scaling.{Scaling}
use Rattle.dbc_grammar.specs.declared.statement.SignalForm.{SignalForm}
use Rattle.dbc_grammar.specs.declared.statement.Heading.{Heading}
use Rattle.dbc_grammar.specs.declared.statement.MessageForm.{MessageForm}
use Rattle.dbc_grammar.specs.Limits.{small_limit, last_short_id, first_long_id, last_range_value, last_type}
use Rattle.dbc_grammar.specs.Statements.{no_mark, place_of_first}
use Rattle.dbc_grammar.specs.Words.{is_free_word, is_among, unkept_words}
use Rattle.dbc_grammar.specs.Passed.{is_symbol, is_before_semicolon, is_before_statement, pass}

-- the first of two that is there
infixr 10 ◌<|>◌
abbrev pub ◌<|>◌ : {A : Type 0} → Option A → Option A → Option A
(Some x) <|> y = Some x
None <|> y = y

-- the first of two, or the tokens as they were
abbrev pub optional : List Token → Option (List Token) → List Token
optional tokens None = tokens
optional tokens (Some rest) = rest

-- a whole number of 32 bits
abbrev pub small_at : List ℕ → List Token → Option (ℕ × List Token)
small_at text tokens = whole_at text small_limit tokens

-- VERSION Str
unfoldable pub version_at : List ℕ → List Token → Option (List Token)
version_at text tokens = do
  rest ← literal_at text (codes "VERSION") tokens
  version ← string_at rest
  Some version.1

-- NS_ : and all following Words but BS_ and BU_
unfoldable pub symbols_at : List ℕ → List Token → Option (List Token)
symbols_at text tokens = do
  rest ← literal_at text (codes "NS_") tokens
  rest ← literal_at text (codes ":") rest
  Some (pass (is_symbol text) rest)

-- digits : digits , digits
unfoldable pub rate_at : List ℕ → List Token → Option (List Token)
rate_at text tokens = do
  rate ← digits_at text tokens
  rest ← literal_at text (codes ":") rate.1
  first ← digits_at text rest
  rest ← literal_at text (codes ",") first.1
  second ← digits_at text rest
  Some second.1

-- BS_ : and optionally the rate
unfoldable pub timing_at : List ℕ → List Token → Option (List Token)
timing_at text tokens = do
  rest ← literal_at text (codes "BS_") tokens
  rest ← literal_at text (codes ":") rest
  Some (optional rest (rate_at text rest))

-- BU_ : and all following Words that are no statement words
unfoldable pub nodes_at : List ℕ → List Token → Option (List Token)
nodes_at text tokens = do
  rest ← literal_at text (codes "BU_") tokens
  rest ← literal_at text (codes ":") rest
  Some (pass (is_free_word text) rest)

-- one of the words whose statements are not kept, any tokens but ; and ;
unfoldable pub other_at : List ℕ → List Token → Option (List Token)
other_at text tokens = do
  word ← word_at tokens
  if is_among (token_text text word.0) unkept_words then literal_at text (codes ";") (pass (is_before_semicolon text) word.1) else None

-- a signed number and a Str
unfoldable pub value_text_at : List ℕ → List Token → Option (ValueText × List Token)
value_text_at text tokens = do
  number ← signed_at text tokens
  string ← string_at number.1
  Some (record { number = number.0; text = string.0 }, string.1)

-- VAL_ Word (number Str)* ; which names an environment variable
unfoldable pub variable_texts_at : List ℕ → List Token → Option (List Token)
variable_texts_at text tokens = do
  rest ← literal_at text (codes "VAL_") tokens
  name ← word_at rest
  literal_at text (codes ";") (run_of (value_text_at text) name.1).1

-- VAL_ , any tokens but ; and statement words, ;
unfoldable pub lenient_texts_at : List ℕ → List Token → Option (List Token)
lenient_texts_at text tokens = do
  rest ← literal_at text (codes "VAL_") tokens
  literal_at text (codes ";") (pass (is_before_statement text) rest)

-- the statements of which nothing is kept
unfoldable pub unkept_at : List ℕ → List Token → Option (List Token)
unkept_at text tokens =
    version_at text tokens <|> (symbols_at text tokens <|> (timing_at text tokens <|> (nodes_at text tokens
    <|> (variable_texts_at text tokens <|> (lenient_texts_at text tokens <|> other_at text tokens)))))

abbrev pub capital_m : ℕ
capital_m = 77

-- M, m and digits, or m, digits and M, with digits of at most 32 bits
abbrev pub without_last_M : List ℕ → Option (List ℕ)
without_last_M text =
    if nat_lt 0 (length text) && (slice_index text (length text - 1) == capital_m) then Some (take (length text - 1) text) else None

abbrev pub group_mark : Bool → ℕ → Mark
group_mark multiplexor n = record { multiplexor = multiplexor; group = Some n }

unfoldable pub mark_of : List ℕ → Option Mark
mark_of text =
    if bytes_eq text (codes "M") then Some (record { multiplexor = true; group = None }) else do
      digits ← after_literal (codes "m") text
      option_map (group_mark false) (number_up_to Decimal small_limit digits) <|> do
        digits ← without_last_M digits
        option_map (group_mark true) (number_up_to Decimal small_limit digits)

-- the mark of a signal, which may be missing
abbrev pub mark_by : List ℕ → List Token → Option (Token × List Token) → Option (Mark × List Token)
mark_by text tokens None = Some (no_mark, tokens)
mark_by text tokens (Some word) = do
  mark ← mark_of (token_text text word.0)
  Some (mark, word.1)

abbrev pub mark_at : List ℕ → List Token → Option (Mark × List Token)
mark_at text tokens = mark_by text tokens (word_at tokens)

-- 1 is Intel, 0 Motorola
abbrev pub with_rest : {A : Type 0} → A → List Token → A × List Token
with_rest x rest = (x, rest)

unfoldable pub order_at : List ℕ → List Token → Option (Order × List Token)
order_at text tokens =
    option_map (with_rest Intel) (literal_at text (codes "1") tokens)
    <|> option_map (with_rest Motorola) (literal_at text (codes "0") tokens)

-- + is unsigned, - signed
unfoldable pub signedness_at : List ℕ → List Token → Option (Bool × List Token)
signedness_at text tokens =
    option_map (with_rest false) (literal_at text (codes "+") tokens)
    <|> option_map (with_rest true) (literal_at text (codes "-") tokens)

-- start | size @ order sign
unfoldable pub place_at : List ℕ → List Token → Option (Place × List Token)
place_at text tokens = do
  start ← small_at text tokens
  rest ← literal_at text (codes "|") start.1
  size ← small_at text rest
  rest ← literal_at text (codes "@") size.1
  order ← order_at text rest
  signedness ← signedness_at text order.1
  Some (record { start = start.0; size = size.0; order = order.0; signed = signedness.0 }, signedness.1)

-- ( factor , offset )
unfoldable pub scaling_at : List ℕ → List Token → Option (Scaling × List Token)
scaling_at text tokens = do
  rest ← literal_at text (codes "(") tokens
  factor ← signed_at text rest
  rest ← literal_at text (codes ",") factor.1
  offset ← signed_at text rest
  rest ← literal_at text (codes ")") offset.1
  Some (record { factor = factor.0; offset = offset.0 }, rest)

-- [ min | max ], which is not kept
unfoldable pub limits_at : List ℕ → List Token → Option (List Token)
limits_at text tokens = do
  rest ← literal_at text (codes "[") tokens
  low ← signed_at text rest
  rest ← literal_at text (codes "|") low.1
  high ← signed_at text rest
  literal_at text (codes "]") high.1

-- a Word that is no statement word
unfoldable pub node_at : List ℕ → List Token → Option (Token × List Token)
node_at text tokens = do
  word ← word_at tokens
  if is_free_word text word.0 then Some word else None

-- one more receiver, with a , before it or nothing
unfoldable pub receiver_at : List ℕ → List Token → Option (Token × List Token)
receiver_at text tokens = node_at text (optional tokens (literal_at text (codes ",") tokens))

-- any number of receivers
abbrev pub receivers_by : List ℕ → List Token → Option (Token × List Token) → List Token
receivers_by text tokens None = tokens
receivers_by text tokens (Some first) = (run_of (receiver_at text) first.1).1

unfoldable pub receivers_at : List ℕ → List Token → List Token
receivers_at text tokens = receivers_by text tokens (node_at text tokens)

-- SG_ Word mark? :
unfoldable pub signal_head_at : List ℕ → List Token → Option (Token × Mark × List Token)
signal_head_at text tokens = do
  rest ← literal_at text (codes "SG_") tokens
  name ← word_at rest
  mark ← mark_at text name.1
  rest ← literal_at text (codes ":") mark.1
  Some (name.0, mark.0, rest)

-- SG_ Word mark? : start | size @ order sign ( factor , offset ) [ min | max ] Str receivers
unfoldable pub signal_at : List ℕ → List Token → Option (SignalForm × List Token)
signal_at text tokens = do
  head ← signal_head_at text tokens
  place ← place_at text head.2
  scaling ← scaling_at text place.1
  rest ← limits_at text scaling.1
  unit ← string_at rest
  Some (
    record {
      at = place_of_first tokens;
      name = head.0;
      mark = head.1;
      place = place.0;
      scaling = scaling.0;
      unit = unit.0;
    },
    receivers_at text unit.1,
  )

-- an identifier of 11 bits, or of 29 bits with bit 31 set
abbrev pub is_identifier : ℕ → Bool
is_identifier id = nat_le id last_short_id || nat_le first_long_id id

-- BO_ id Word : length Word
unfoldable pub heading_at : List ℕ → List Token → Option (Heading × List Token)
heading_at text tokens = do
  rest ← literal_at text (codes "BO_") tokens
  id ← small_at text rest
  name ← word_at id.1
  rest ← literal_at text (codes ":") name.1
  byte_count ← small_at text rest
  sender ← word_at byte_count.1
  if is_identifier id.0
      then Some (record { id = id.0; name = name.0; byte_count = byte_count.0 }, sender.1)
      else None

-- a message, and the signals directly below it
unfoldable pub message_at : List ℕ → List Token → Option (MessageForm × List Token)
message_at text tokens = do
  heading ← heading_at text tokens
  Some (record { heading = heading.0; signals = (run_of (signal_at text) heading.1).0 }, (run_of (signal_at text) heading.1).1)

-- the word of a statement about a signal, its message's identifier and its name
abbrev pub named_at : List ℕ → List ℕ → List Token → Option (ℕ × Token × List Token)
named_at text word tokens = do
  rest ← literal_at text word tokens
  id ← small_at text rest
  name ← word_at id.1
  Some (id.0, name.0, name.1)

-- VAL_ id Word (number Str)* ;
unfoldable pub signal_texts_at : List ℕ → List Token → Option (Note × List Token)
signal_texts_at text tokens = do
  named ← named_at text (codes "VAL_") tokens
  rest ← literal_at text (codes ";") (run_of (value_text_at text) named.2).1
  Some (record { id = named.0; signal = named.1; says = says.Texts (run_of (value_text_at text) named.2).0 }, rest)

-- :? type ;
unfoldable pub type_at : List ℕ → List Token → Option (ℕ × List Token)
type_at text tokens = do
  kind ← whole_at text last_type (optional tokens (literal_at text (codes ":") tokens))
  rest ← literal_at text (codes ";") kind.1
  Some (kind.0, rest)

-- SIG_VALTYPE_ id Word :? type ;
unfoldable pub value_type_at : List ℕ → List Token → Option (Note × List Token)
value_type_at text tokens = do
  named ← named_at text (codes "SIG_VALTYPE_") tokens
  kind ← type_at text named.2
  Some (record { id = named.0; signal = named.1; says = says.Type kind.0 }, kind.1)

-- low - high
unfoldable pub range_at : List ℕ → List Token → Option (Range × List Token)
range_at text tokens = do
  low ← whole_at text last_range_value tokens
  rest ← literal_at text (codes "-") low.1
  high ← whole_at text last_range_value rest
  Some (record { low = low.0; high = high.0 }, high.1)

unfoldable pub more_range_at : List ℕ → List Token → Option (Range × List Token)
more_range_at text tokens = do
  rest ← literal_at text (codes ",") tokens
  range_at text rest

-- range (, range)*
unfoldable pub ranges_at : List ℕ → List Token → Option (List Range × List Token)
ranges_at text tokens = do
  first ← range_at text tokens
  Some (put_first first.0 (run_of (more_range_at text) first.1))

-- SG_MUL_VAL_ id Word Word range (, range)* ;
unfoldable pub multiplexing_at : List ℕ → List Token → Option (Note × List Token)
multiplexing_at text tokens = do
  named ← named_at text (codes "SG_MUL_VAL_") tokens
  multiplexor ← word_at named.2
  ranges ← ranges_at text multiplexor.1
  rest ← literal_at text (codes ";") ranges.1
  Some (record { id = named.0; signal = named.1; says = says.Below multiplexor.0 ranges.0 }, rest)

-- a note on a signal
unfoldable pub note_at : List ℕ → List Token → Option (Note × List Token)
note_at text tokens =
    signal_texts_at text tokens <|> (value_type_at text tokens <|> multiplexing_at text tokens)

-- a statement: a message with the signals directly below it, a note on a signal, or one of which nothing is kept
abbrev pub as_message : MessageForm × List Token → Statement × List Token
as_message found = (statement.Message found.0, found.1)

abbrev pub as_note : Note × List Token → Statement × List Token
as_note found = (statement.Noted found.0, found.1)

unfoldable pub statement_at : List ℕ → List Token → Option (Statement × List Token)
statement_at text tokens =
    option_map as_message (message_at text tokens) <|> (option_map as_note (note_at text tokens)
    <|> option_map (with_rest statement.Unkept) (unkept_at text tokens))
