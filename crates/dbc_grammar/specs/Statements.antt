-- The statements of the DBC format (Vector Informatik, "DBC File Format Documentation") as relations between tokens, a
-- statement and the tokens after it: one for each row of its table, of parts one behind another. Statements of which
-- nothing is kept say no more than that they are there.
use Rattle.std.specs.Prelude.{◌≡◌, ℕ, ◌≤◌, ◌⊎◌, IsTrue, Bool, true, false, List, [], ◌∷◌, ◌++◌, Some, None, codes}
use Rattle.byte_forms.specs.declared.numerals.Radix.TheVariants.{Decimal}
use Rattle.multiplex_tree.specs.declared.mark.Mark.{Mark}
use Rattle.multiplex_tree.specs.declared.mark.Range.{Range}
use Rattle.bench_model.specs.declared.database.Order.{Order}
use Rattle.bench_model.specs.declared.database.Order.TheVariants.{Intel, Motorola}
use Rattle.sig_text.specs.declared.token.Token.{Token}
use Rattle.token_forms.specs.Pieces.{token_text}
use Rattle.token_forms.specs.Grammar.{◌▸◌, Any, Lacks, Optional, Each, One, AllOf, Quoted, IsWord, IsString, HasValue, IsDigits, Whole, Signed}
use Rattle.dbc_grammar.specs.declared.statement.Statement.{Statement}
use Rattle.dbc_grammar.specs.declared.statement.Statement.TheVariants as statement
use Rattle.dbc_grammar.specs.declared.statement.Says.{Says}
use Rattle.dbc_grammar.specs.declared.statement.Says.TheVariants as says
use Rattle.dbc_grammar.specs.declared.statement.Note.{Note}
use Rattle.dbc_grammar.specs.declared.statement.ValueText.{ValueText}
use Rattle.dbc_grammar.specs.declared.statement.Place.{Place}
use Rattle.dbc_grammar.specs.declared.statement.Scaling.{Scaling}
use Rattle.dbc_grammar.specs.declared.statement.SignalForm.{SignalForm}
use Rattle.dbc_grammar.specs.declared.statement.Heading.{Heading}
use Rattle.dbc_grammar.specs.declared.statement.MessageForm.{MessageForm}
use Rattle.dbc_grammar.specs.Limits.{small_limit, last_short_id, first_long_id, last_range_value, last_type}
use Rattle.dbc_grammar.specs.Words.{is_free_word, is_among, unkept_words}
use Rattle.dbc_grammar.specs.Passed.{is_symbol, is_before_semicolon, is_before_statement}

-- ---- pieces

-- a whole number of 32 bits
abbrev pub Small : List ℕ → ℕ → List Token → List Token → Type 0
Small text n = Whole text small_limit n

-- a Word that is no statement word
abbrev pub IsNode : List ℕ → Token → Type 0
IsNode text token = IsTrue (is_free_word text token)

-- ---- statements of which nothing is kept

-- VERSION Str
abbrev pub Version : List ℕ → List Token → List Token → Type 0
Version text = Quoted text (codes "VERSION") ▸ Any (One IsString)

-- NS_ : and all following Words but BS_ and BU_
abbrev pub Symbols : List ℕ → List Token → List Token → Type 0
Symbols text = Quoted text (codes "NS_") ▸ Quoted text (codes ":") ▸ AllOf (λ token. IsTrue (is_symbol text token))

-- digits : digits , digits
abbrev pub Rate : List ℕ → List Token → List Token → Type 0
Rate text =
    Any (One (IsDigits text)) ▸ Quoted text (codes ":") ▸ Any (One (IsDigits text)) ▸ Quoted text (codes ",")
    ▸ Any (One (IsDigits text))

-- BS_ : and optionally the rate
abbrev pub Timing : List ℕ → List Token → List Token → Type 0
Timing text = Quoted text (codes "BS_") ▸ Quoted text (codes ":") ▸ Optional (Rate text)

-- BU_ : and all following Words that are no statement words
abbrev pub Nodes : List ℕ → List Token → List Token → Type 0
Nodes text = Quoted text (codes "BU_") ▸ Quoted text (codes ":") ▸ AllOf (IsNode text)

-- one of the words whose statements are not kept, any tokens but ; and ;
abbrev pub IsUnkeptWord : List ℕ → Token → Type 0
IsUnkeptWord text token = IsWord token × IsTrue (is_among (token_text text token) unkept_words)

abbrev pub Other : List ℕ → List Token → List Token → Type 0
Other text =
    Any (One (IsUnkeptWord text)) ▸ AllOf (λ token. IsTrue (is_before_semicolon text token)) ▸ Quoted text (codes ";")

-- ---- notes on signals

-- a signed number and a Str
abbrev pub ParsesText : List ℕ → ValueText → List Token → List Token → Type 0
ParsesText text v = Signed text v.number ▸ One IsString v.text

-- the word of a statement, the identifier of a message and the name of its signal
abbrev pub Named : List ℕ → List ℕ → ℕ → Token → List Token → List Token → Type 0
Named text word id name = Quoted text word ▸ Small text id ▸ One IsWord name

-- VAL_ id Word (number Str)* ;
abbrev pub SignalTexts : List ℕ → ℕ → Token → List ValueText → List Token → List Token → Type 0
SignalTexts text id signal texts =
    Named text (codes "VAL_") id signal ▸ Each (ParsesText text) texts ▸ Quoted text (codes ";")

-- SIG_VALTYPE_ id Word :? type ;
abbrev pub ValueType : List ℕ → ℕ → Token → ℕ → List Token → List Token → Type 0
ValueType text id signal kind =
    Named text (codes "SIG_VALTYPE_") id signal ▸ Optional (Quoted text (codes ":")) ▸ Whole text last_type kind
    ▸ Quoted text (codes ";")

-- low - high
abbrev pub ParsesRange : List ℕ → Range → List Token → List Token → Type 0
ParsesRange text range =
    Whole text last_range_value range.low ▸ Quoted text (codes "-") ▸ Whole text last_range_value range.high

-- range (, range)*
abbrev pub NextRange : List ℕ → Range → List Token → List Token → Type 0
NextRange text range = Quoted text (codes ",") ▸ ParsesRange text range

abbrev pub Ranges : List ℕ → List Range → List Token → List Token → Type 0
Ranges text [] tokens rest = ⊥
Ranges text (range ∷ ranges) tokens rest = (ParsesRange text range ▸ Each (NextRange text) ranges) tokens rest

-- SG_MUL_VAL_ id Word Word range (, range)* ;
abbrev pub Multiplexing : List ℕ → ℕ → Token → Token → List Range → List Token → List Token → Type 0
Multiplexing text id signal multiplexor ranges =
    Named text (codes "SG_MUL_VAL_") id signal ▸ One IsWord multiplexor ▸ Ranges text ranges ▸ Quoted text (codes ";")

abbrev pub ParsesSaid : List ℕ → ℕ → Token → Says → List Token → List Token → Type 0
ParsesSaid text id signal (says.Texts texts) = SignalTexts text id signal texts
ParsesSaid text id signal (says.Type kind) = ValueType text id signal kind
ParsesSaid text id signal (says.Below multiplexor ranges) = Multiplexing text id signal multiplexor ranges

abbrev pub ParsesNote : List ℕ → Note → List Token → List Token → Type 0
ParsesNote text note = ParsesSaid text note.id note.signal note.says

-- ---- value texts of which nothing is kept

-- VAL_ Word (number Str)* ; which names an environment variable
abbrev pub VariableTexts : List ℕ → List Token → List Token → Type 0
VariableTexts text =
    Quoted text (codes "VAL_") ▸ Any (One IsWord) ▸ Any (Each (ParsesText text)) ▸ Quoted text (codes ";")

-- where neither those of a signal nor those of a variable are found: VAL_ , any tokens but ; and statement words, ;
abbrev pub LenientTexts : List ℕ → List Token → List Token → Type 0
LenientTexts text tokens rest =
    (Quoted text (codes "VAL_") ▸ AllOf (λ token. IsTrue (is_before_statement text token)) ▸ Quoted text (codes ";")) tokens rest
    × Lacks (VariableTexts text) tokens
    × ((id : ℕ) (signal : Token) (texts : List ValueText) → Lacks (SignalTexts text id signal texts) tokens)

-- ---- messages and signals

-- digits of at most 32 bits, and the mark of this group
pub record IsGroupMark (digits : List ℕ) (multiplexor : Bool) (mark : Mark) : Type 0 where
  pub group : ℕ
  pub has_value : HasValue Decimal digits small_limit group
  pub mark_is : mark ≡ record { multiplexor = multiplexor; group = Some group }

-- M, m and digits, or m, digits and M
pub data IsMark (text : List ℕ) (mark : Mark) : Type 0 where
  plain : text ≡ codes "M" → mark ≡ record { multiplexor = true; group = None } → IsMark text mark
  grouped : (digits : List ℕ) → text ≡ codes "m" ++ digits → IsGroupMark digits false mark → IsMark text mark
  both : (digits : List ℕ) → text ≡ codes "m" ++ digits ++ codes "M" → IsGroupMark digits true mark → IsMark text mark

-- a Word that is a mark, or none where there is no Word
abbrev pub no_mark : Mark
no_mark = record { multiplexor = false; group = None }

abbrev pub OptionalMark : List ℕ → Mark → List Token → List Token → Type 0
OptionalMark text mark tokens rest =
    ((word : Token) × One IsWord word tokens rest × IsMark (token_text text word) mark)
    ⊎ ((mark ≡ no_mark) × (tokens ≡ rest) × Lacks (Any (One IsWord)) tokens)

-- 1 is Intel, 0 Motorola; + is unsigned, - signed
abbrev pub order_digit : Order → List ℕ
order_digit Intel = codes "1"
order_digit Motorola = codes "0"

abbrev pub sign_of : Bool → List ℕ
sign_of false = codes "+"
sign_of true = codes "-"

-- start | size @ order sign
abbrev pub ParsesPlace : List ℕ → Place → List Token → List Token → Type 0
ParsesPlace text p =
    Small text p.start ▸ Quoted text (codes "|") ▸ Small text p.size ▸ Quoted text (codes "@")
    ▸ Quoted text (order_digit p.order) ▸ Quoted text (sign_of p.signed)

-- ( factor , offset )
abbrev pub ParsesScaling : List ℕ → Scaling → List Token → List Token → Type 0
ParsesScaling text s =
    Quoted text (codes "(") ▸ Signed text s.factor ▸ Quoted text (codes ",") ▸ Signed text s.offset ▸ Quoted text (codes ")")

-- [ min | max ], which is not kept
abbrev pub Limits : List ℕ → List Token → List Token → Type 0
Limits text =
    Quoted text (codes "[") ▸ Any (Signed text) ▸ Quoted text (codes "|") ▸ Any (Signed text) ▸ Quoted text (codes "]")

-- Words that are no statement words, any number of them, with a , or nothing between two
abbrev pub Receiver : List ℕ → Token → List Token → List Token → Type 0
Receiver text node = Optional (Quoted text (codes ",")) ▸ One (IsNode text) node

abbrev pub Receivers : List ℕ → List Token → List Token → Type 0
Receivers text = Optional (Any (One (IsNode text)) ▸ Any (Each (Receiver text)))

-- the place of the first of tokens
abbrev pub place_of_first : List Token → ℕ
place_of_first [] = 0
place_of_first (token ∷ rest) = token.at

-- SG_ Word mark? : start | size @ order sign ( factor , offset ) [ min | max ] Str receivers
abbrev pub SignalHead : List ℕ → Token → Mark → List Token → List Token → Type 0
SignalHead text name mark = Quoted text (codes "SG_") ▸ One IsWord name ▸ OptionalMark text mark ▸ Quoted text (codes ":")

abbrev pub ParsesSignal : List ℕ → SignalForm → List Token → List Token → Type 0
ParsesSignal text s tokens rest =
    (s.at ≡ place_of_first tokens)
    × (SignalHead text s.name s.mark ▸ ParsesPlace text s.place ▸ ParsesScaling text s.scaling ▸ Limits text ▸ One IsString s.unit
    ▸ Receivers text) tokens rest

-- an identifier of 11 bits, or of 29 bits with bit 31 set
abbrev pub IsIdentifier : ℕ → Type 0
IsIdentifier id = (id ≤ last_short_id) ⊎ (first_long_id ≤ id)

-- BO_ id Word : length Word
abbrev pub ParsesHeading : List ℕ → Heading → List Token → List Token → Type 0
ParsesHeading text h tokens rest =
    IsIdentifier h.id
    × (Quoted text (codes "BO_") ▸ Small text h.id ▸ One IsWord h.name ▸ Quoted text (codes ":") ▸ Small text h.byte_count
    ▸ Any (One IsWord)) tokens rest

-- a message, and the signals directly below it
abbrev pub ParsesMessage : List ℕ → MessageForm → List Token → List Token → Type 0
ParsesMessage text m = ParsesHeading text m.heading ▸ Each (ParsesSignal text) m.signals

-- ---- statements

-- the rows of which nothing is kept
pub data Passed (text : List ℕ) (tokens rest : List Token) : Type 0 where
  version : Version text tokens rest → Passed text tokens rest
  symbols : Symbols text tokens rest → Passed text tokens rest
  timing : Timing text tokens rest → Passed text tokens rest
  nodes : Nodes text tokens rest → Passed text tokens rest
  variable : VariableTexts text tokens rest → Passed text tokens rest
  lenient : LenientTexts text tokens rest → Passed text tokens rest
  other : Other text tokens rest → Passed text tokens rest

-- the statement is at the front of the tokens, and these tokens are left
abbrev pub Parses : List ℕ → Statement → List Token → List Token → Type 0
Parses text (statement.Message m) = ParsesMessage text m
Parses text (statement.Noted note) = ParsesNote text note
Parses text statement.Unkept = Passed text
