-- The tokens of the generated text are whole statements: messages with four signals each.
use Rattle.std.proofs.Common.{◌≡◌, ℕ, zero, suc, ◌+◌, ◌^◌, ◌<◌, ◌≤◌, ◌⊎◌, inl, inr, Bool, true, false, List, [], ◌∷◌, ◌++◌, length, get_or, sym, refl, ap, ◌∙◌, subst, arith}
use Rattle.std.specs.Prelude.{Option, Some, None, IsTrue, not, map, codes, decimal}
use Rattle.std.specs.List.{list_all}
use Rattle.std.specs.Char.{is_ascii_digit}
use Rattle.std.specs.Str.Parse.{digits_value}
use Rattle.std.proofs.lemmas.Bool.{both_ways, and_parts, and_from, not-true, lt-ltb}
use Rattle.std.proofs.lemmas.Fmt.{decimal_is_IsNumeral, decimal_nonempty}
use Rattle.byte_forms.specs.declared.numerals.Radix.TheVariants.{Decimal}
use Rattle.byte_forms.specs.Numerals.{is_numeral}
use Rattle.multiplex_tree.specs.declared.mark.Mark.{Mark}
use Rattle.bench_model.specs.declared.database.Order.{Order}
use Rattle.bench_model.specs.declared.database.Order.TheVariants.{Intel, Motorola}
use Rattle.sig_text.specs.declared.token.TokenKind.{TokenKind}
use Rattle.sig_text.specs.declared.token.TokenKind.TheVariants.{Word, Number, Str, Sign}
use Rattle.sig_text.specs.declared.token.Token.{Token}
use Rattle.token_forms.specs.declared.numbers.SignedNumber.{SignedNumber}
use Rattle.token_forms.specs.Pieces.{token_text}
use Rattle.token_forms.specs.Numbers.{is_hexadecimal, signed_text}
use Rattle.token_forms.specs.Grammar.{◌▸◌, Any, Lacks, Optional, Each, One, Quoted, IsWord, IsString, IsNumber, HasValue, Whole, IsSignToken, OptionalSign, IsUnmarked, Signed}
use Rattle.dbc_grammar.specs.declared.statement.Statement.{Statement}
use Rattle.dbc_grammar.specs.declared.statement.Statement.TheVariants as statement
use Rattle.dbc_grammar.specs.declared.statement.Place.{Place}
use Rattle.dbc_grammar.specs.declared.statement.Scaling.{Scaling}
use Rattle.dbc_grammar.specs.declared.statement.SignalForm.{SignalForm}
use Rattle.dbc_grammar.specs.declared.statement.Heading.{Heading}
use Rattle.dbc_grammar.specs.declared.statement.MessageForm.{MessageForm}
use Rattle.dbc_grammar.specs.Limits.{small_limit}
use Rattle.dbc_grammar.specs.Words.{is_word_kind, is_statement_word, is_free_word, form_words, unkept_words}
use Rattle.dbc_grammar.specs.Statements.{Small, IsNode, no_mark, OptionalMark, order_digit, sign_of, ParsesPlace, ParsesScaling, Limits, Receiver, Receivers, place_of_first, SignalHead, ParsesSignal, ParsesHeading, ParsesMessage, Parses}
use Rattle.mill_database.specs.GeneratedText.{id_of, message_name, message_count}
use Rattle.mill_database.proofs.PieceLaws.{Piece, token_of, behind, tokens_of, HasTexts}
use Rattle.mill_database.proofs.BlockLaws.{word, number, mark, string, blank, next_line, last_line, heading_pieces, place_pieces, offset_pieces, scaling_pieces, limit_pieces, name_pieces, end_pieces, s0_pieces, s1_pieces, s2_pieces, s3_pieces, signals_pieces, message_pieces, file_pieces, decimal_digits}

-- ---- the first of tokens

abbrev first_text : List ℕ → List Token → List ℕ
first_text text [] = []
first_text text (token ∷ tokens) = token_text text token

abbrev first_kind : List Token → TokenKind
first_kind [] = Str
first_kind (token ∷ tokens) = token.kind

-- a text begins with another byte
other_first : (a b : List ℕ) → get_or a 0 0 < get_or b 0 0 → a ≡ b → ⊥
other_first a b less e = let same : get_or a 0 0 ≡ get_or b 0 0 = ap (λ s. get_or s 0 0) e in omega arith

no_token : (token : Token) (rest : List Token) → [] ≡ token ∷ rest → ⊥
no_token token rest e = cc

-- ---- the sorts of pieces

quoted : (text literal : List ℕ) (token : Token) (rest : List Token) → token_text text token ≡ literal → Quoted text literal (token ∷ rest) rest
quoted text literal token rest e = (token, (refl, e))

whole : (text bytes : List ℕ) (limit n : ℕ) (token : Token) (rest : List Token) → token.kind ≡ Number → token_text text token ≡ bytes → HasValue Decimal bytes limit n → Whole text limit n (token ∷ rest) rest
whole text bytes limit n token rest kind e value = (token, (refl, (kind, subst (λ s. HasValue Decimal s limit n) (sym e) value)))

-- a number without a sign and without `0x`
pub record IsPlainNumber (bytes : List ℕ) : Type 0 where
  pub begins : 48 ≤ get_or bytes 0 0
  pub unmarked : is_hexadecimal bytes ≡ false

no_sign_first : (text bytes : List ℕ) (token : Token) (rest : List Token) → token_text text token ≡ bytes → IsPlainNumber bytes → Lacks (Any (One (IsSignToken text))) (token ∷ rest)
no_sign_first text bytes token rest e plain left (other, (same, sign)) =
    let texts : token_text text token ≡ token_text text other = ap (first_text text) same in
    let begins : 48 ≤ get_or bytes 0 0 = plain.begins in
    elim sign [
      | inl plus ↦ let first : get_or bytes 0 0 ≡ 43 = ap (λ s. get_or s 0 0) (sym e ∙ texts ∙ plus) in omega arith
      | inr minus ↦ let first : get_or bytes 0 0 ≡ 45 = ap (λ s. get_or s 0 0) (sym e ∙ texts ∙ minus) in omega arith
    ]

unmarked : (text bytes : List ℕ) (token : Token) → token.kind ≡ Number → token_text text token ≡ bytes → IsPlainNumber bytes → IsUnmarked text token
unmarked text bytes token kind e plain = (kind, ap is_hexadecimal e ∙ plain.unmarked)

unsigned : (text bytes : List ℕ) (token : Token) (rest : List Token) → token.kind ≡ Number → token_text text token ≡ bytes → IsPlainNumber bytes → Signed text (record { sign = None; number = token }) (token ∷ rest) rest
unsigned text bytes token rest kind e plain =
    (token ∷ rest, (refl, no_sign_first text bytes token rest e plain), (refl, unmarked text bytes token kind e plain))

minus : (text bytes : List ℕ) (sign token : Token) (rest : List Token) → token_text text sign ≡ codes "-" → token.kind ≡ Number → token_text text token ≡ bytes → IsPlainNumber bytes → Signed text (record { sign = Some sign; number = token }) (sign ∷ token ∷ rest) rest
minus text bytes sign token rest s kind e plain =
    (token ∷ rest, (refl, inr s), (refl, unmarked text bytes token kind e plain))

-- ---- places

-- the place behind pieces
abbrev pub skip : ℕ → List Piece → ℕ
skip at [] = at
skip at (p ∷ ps) = skip (behind at p) ps

-- what is known of the text behind some pieces
abbrev pub Behind : List ℕ → ℕ → List Piece → List Piece → Type 0
Behind text at ps more = HasTexts text (skip at ps) more

-- ---- the parts of a signal

pub place_parses : (text : List ℕ) (at : ℕ) (start : List ℕ) (n : ℕ) (order : Order) (signed : Bool) (more : List Piece) → HasValue Decimal start small_limit n → HasTexts text at (place_pieces start (order_digit order) (sign_of signed) more)
    → ParsesPlace text (record { start = n; size = 16; order = order; signed = signed }) (tokens_of at (place_pieces start (order_digit order) (sign_of signed) more)) (tokens_of (skip at (place_pieces start (order_digit order) (sign_of signed) [])) more)
    × HasTexts text (skip at (place_pieces start (order_digit order) (sign_of signed) [])) more
place_parses text at start n order signed more value h =
    let size : HasValue Decimal (codes "16") small_limit 16 = record { digits = refl; value = refl; within = omega arith } in (
      (
        _,
        whole text start small_limit n _ _ refl h.0 value,
        (
          _,
          quoted text (codes "|") _ _ h.1.0,
          (
            _,
            whole text (codes "16") small_limit 16 _ _ refl h.1.1.0 size,
            (_, quoted text (codes "@") _ _ h.1.1.1.0, (_, quoted text (order_digit order) _ _ h.1.1.1.1.0, quoted text (sign_of signed) _ _ h.1.1.1.1.1.0)),
          ),
        ),
      ),
      h.1.1.1.1.1.1,
    )

-- the offset of a scaling, which may have a minus
abbrev pub offset_form : ℕ → Bool → List ℕ → SignedNumber
offset_form at false offset = record { sign = None; number = token_of at (number offset []) }
offset_form at true offset = record {
  sign = Some (token_of at (mark (codes "-") []));
  number = token_of (behind at (mark (codes "-") [])) (number offset []);
}

abbrev pub factor_at : ℕ → ℕ
factor_at at = behind at (mark (codes "(") [])

abbrev pub offset_at : ℕ → List ℕ → ℕ
offset_at at factor = behind (behind (factor_at at) (number factor [])) (mark (codes ",") [])

abbrev pub scaling_form : ℕ → List ℕ → Bool → List ℕ → Scaling
scaling_form at factor minus offset = record {
  factor = record { sign = None; number = token_of (factor_at at) (number factor []) };
  offset = offset_form (offset_at at factor) minus offset;
}

pub scaling_parses : (text : List ℕ) (at : ℕ) (factor : List ℕ) (sign : Bool) (offset : List ℕ) (more : List Piece) → IsPlainNumber factor → IsPlainNumber offset → HasTexts text at (scaling_pieces factor sign offset more)
    → ParsesScaling text (scaling_form at factor sign offset) (tokens_of at (scaling_pieces factor sign offset more)) (tokens_of (skip at (scaling_pieces factor sign offset [])) more)
    × HasTexts text (skip at (scaling_pieces factor sign offset [])) more
scaling_parses text at factor false offset more f o h = (
  (
    _,
    quoted text (codes "(") _ _ h.0,
    (
      _,
      unsigned text factor _ _ refl h.1.0 f,
      (
        _,
        quoted text (codes ",") _ _ h.1.1.0,
        (_, unsigned text offset _ _ refl h.1.1.1.0 o, quoted text (codes ")") _ _ h.1.1.1.1.0),
      ),
    ),
  ),
  h.1.1.1.1.1,
)
scaling_parses text at factor true offset more f o h = (
  (
    _,
    quoted text (codes "(") _ _ h.0,
    (
      _,
      unsigned text factor _ _ refl h.1.0 f,
      (
        _,
        quoted text (codes ",") _ _ h.1.1.0,
        (_, minus text offset _ _ _ h.1.1.1.0 refl h.1.1.1.1.0 o, quoted text (codes ")") _ _ h.1.1.1.1.1.0),
      ),
    ),
  ),
  h.1.1.1.1.1.1,
)

any_unsigned : (text bytes : List ℕ) (token : Token) (rest : List Token) → token.kind ≡ Number → token_text text token ≡ bytes → IsPlainNumber bytes → Any (Signed text) (token ∷ rest) rest
any_unsigned text bytes token rest kind e plain = (record { sign = None; number = token }, unsigned text bytes token rest kind e plain)

zero_is_plain : IsPlainNumber (codes "0")
zero_is_plain = record { begins = omega arith; unmarked = refl }

pub limits_parse : (text : List ℕ) (at : ℕ) (more : List Piece) → HasTexts text at (limit_pieces more)
    → Limits text (tokens_of at (limit_pieces more)) (tokens_of (skip at (limit_pieces [])) more) × HasTexts text (skip at (limit_pieces [])) more
limits_parse text at more h = (
  (
    _,
    quoted text (codes "[") _ _ h.0,
    (
      _,
      any_unsigned text (codes "0") _ _ refl h.1.0 zero_is_plain,
      (
        _,
        quoted text (codes "|") _ _ h.1.1.0,
        (_, any_unsigned text (codes "0") _ _ refl h.1.1.1.0 zero_is_plain, quoted text (codes "]") _ _ h.1.1.1.1.0),
      ),
    ),
  ),
  h.1.1.1.1.1,
)

-- no Word is at a colon
no_mark_at : (token : Token) (rest : List Token) → token.kind ≡ Sign → Lacks (Any (One IsWord)) (token ∷ rest)
no_mark_at token rest kind left (other, (same, is)) = let e : Sign ≡ Word = sym kind ∙ ap first_kind same ∙ is in cc

pub head_parses : (text : List ℕ) (at : ℕ) (name : List ℕ) (more : List Piece) → HasTexts text at (name_pieces name more)
    → SignalHead text (token_of (behind at (word (codes "SG_") blank)) (word name blank)) no_mark (tokens_of at (name_pieces name more)) (tokens_of (skip at (name_pieces name [])) more)
    × HasTexts text (skip at (name_pieces name [])) more
head_parses text at name more h =
    ((_, quoted text (codes "SG_") _ _ h.0, (_, (refl, refl), (_, inr (refl, refl, no_mark_at _ _ refl), quoted text (codes ":") _ _ h.1.1.0))), h.1.1.1)

-- ---- what is behind a signal

-- no tokens, or a first one of these bytes
abbrev pub Begins : List ℕ → List ℕ → List Token → Type 0
Begins text word [] = Unit {0}
Begins text word (token ∷ tokens) = token_text text token ≡ word

lacks_comma : (text word : List ℕ) (tokens : List Token) → 44 < get_or word 0 0 → Begins text word tokens → Lacks (Quoted text (codes ",")) tokens
lacks_comma text word [] less begins rest (token, (same, e)) = no_token token rest same
lacks_comma text word (first ∷ tokens) less begins rest (token, (same, e)) =
    other_first (codes ",") word less (sym (sym begins ∙ ap (first_text text) same ∙ e))

lacks_node : (text word : List ℕ) (tokens : List Token) (node : Token) (rest : List Token) → is_statement_word word ≡ true → Begins text word tokens → tokens ≡ node ∷ rest → IsNode text node → ⊥
lacks_node text word [] node rest statement begins same is = no_token node rest same
lacks_node text word (first ∷ tokens) node rest statement begins same is =
    let e : token_text text node ≡ word = sym (ap (first_text text) same) ∙ begins in
    let free = and_parts (is_word_kind node.kind) (not (is_statement_word (token_text text node))) is in
    both_ways (is_statement_word (token_text text node)) (not-true (is_statement_word (token_text text node)) free.1) (ap is_statement_word e ∙ statement)

lacks_receiver : (text word : List ℕ) (tokens : List Token) → 44 < get_or word 0 0 → is_statement_word word ≡ true → Begins text word tokens → Lacks (Any (Receiver text)) tokens
lacks_receiver text word tokens less statement begins rest (node, (between, optional, (same, is))) = elim optional [
  | inl comma ↦ lacks_comma text word tokens less begins between comma
  | inr none ↦ lacks_node text word tokens node rest statement begins (none.0 ∙ same) is
]

mill_is_free : (text : List ℕ) (token : Token) → token.kind ≡ Word → token_text text token ≡ codes "Mill" → IsNode text token
unfolding form_words unkept_words
mill_is_free text token kind e =
    and_from (is_word_kind token.kind) (not (is_statement_word (token_text text token))) (ap is_word_kind kind) (ap (λ s. not (is_statement_word s)) e)

pub receivers_parse : (text word : List ℕ) (token : Token) (rest : List Token) → token.kind ≡ Word → token_text text token ≡ codes "Mill" → 44 < get_or word 0 0 → is_statement_word word ≡ true → Begins text word rest → Receivers text (token ∷ rest) rest
receivers_parse text word token rest kind e less statement begins =
    inl (rest, (token, (refl, mill_is_free text token kind e)), ([], (refl, lacks_receiver text word rest less statement begins)))

-- ---- a signal

-- what a signal's line says
pub record SignalText : Type 0 where
  pub name : List ℕ
  pub start : List ℕ
  pub place : ℕ
  pub order : Order
  pub signed : Bool
  pub factor : List ℕ
  pub minus : Bool
  pub offset : List ℕ

pub record IsSignalText (s : SignalText) : Type 0 where
  pub start : HasValue Decimal s.start small_limit s.place
  pub factor : IsPlainNumber s.factor
  pub offset : IsPlainNumber s.offset

abbrev pub signal_pieces : SignalText → List ℕ → List Piece → List Piece
signal_pieces s gap more = name_pieces s.name (place_pieces s.start (order_digit s.order) (sign_of s.signed)
    (scaling_pieces s.factor s.minus s.offset (limit_pieces (end_pieces gap more))))

-- where its parts begin
abbrev pub place_at : ℕ → SignalText → ℕ
place_at at s = skip at (name_pieces s.name [])

abbrev pub scaling_at : ℕ → SignalText → ℕ
scaling_at at s = skip (place_at at s) (place_pieces s.start (order_digit s.order) (sign_of s.signed) [])

abbrev pub limits_at : ℕ → SignalText → ℕ
limits_at at s = skip (scaling_at at s) (scaling_pieces s.factor s.minus s.offset [])

abbrev pub unit_at : ℕ → SignalText → ℕ
unit_at at s = skip (limits_at at s) (limit_pieces [])

abbrev pub signal_end : ℕ → SignalText → List ℕ → ℕ
signal_end at s gap = skip (unit_at at s) (end_pieces gap [])

abbrev pub signal_form : ℕ → SignalText → SignalForm
signal_form at s = record {
  at = at;
  name = token_of (behind at (word (codes "SG_") blank)) (word s.name blank);
  mark = no_mark;
  place = record { start = s.place; size = 16; order = s.order; signed = s.signed };
  scaling = scaling_form (scaling_at at s) s.factor s.minus s.offset;
  unit = token_of (unit_at at s) (string (34 ∷ 34 ∷ []) blank);
}

pub signal_parses : (text : List ℕ) (at : ℕ) (s : SignalText) (gap next : List ℕ) (more : List Piece) → IsSignalText s → 44 < get_or next 0 0 → is_statement_word next ≡ true
    → (HasTexts text (signal_end at s gap) more → Begins text next (tokens_of (signal_end at s gap) more)) → HasTexts text at (signal_pieces s gap more)
    → ParsesSignal text (signal_form at s) (tokens_of at (signal_pieces s gap more)) (tokens_of (signal_end at s gap) more) × HasTexts text (signal_end at s gap) more
signal_parses text at s gap next more is less statement begins h =
    let head = head_parses text at s.name (place_pieces s.start (order_digit s.order) (sign_of s.signed) (scaling_pieces s.factor s.minus s.offset (limit_pieces (end_pieces gap more)))) h in
    let place = place_parses text (place_at at s) s.start s.place s.order s.signed (scaling_pieces s.factor s.minus s.offset (limit_pieces (end_pieces gap more))) is.start head.1 in
    let scaling = scaling_parses text (scaling_at at s) s.factor s.minus s.offset (limit_pieces (end_pieces gap more)) is.factor is.offset place.1 in
    let limits = limits_parse text (limits_at at s) (end_pieces gap more) scaling.1 in
    let mill = limits.1 in
    ((refl, (_, head.0, (_, place.0, (_, scaling.0, (_, limits.0, (_, (refl, refl), receivers_parse text next _ _ refl mill.1.0 less statement (begins mill.1.1))))))), mill.1.1)

-- ---- a message

abbrev pub s0 : SignalText
s0 = record { name = codes "S0"; start = codes "0"; place = 0; order = Intel; signed = false; factor = codes "0.5"; minus = false; offset = codes "0" }

abbrev pub s1 : SignalText
s1 = record { name = codes "S1"; start = codes "16"; place = 16; order = Intel; signed = true; factor = codes "1"; minus = true; offset = codes "40" }

abbrev pub s2 : SignalText
s2 = record { name = codes "S2"; start = codes "39"; place = 39; order = Motorola; signed = false; factor = codes "0.25"; minus = false; offset = codes "0" }

abbrev pub s3 : SignalText
s3 = record { name = codes "S3"; start = codes "55"; place = 55; order = Motorola; signed = true; factor = codes "1"; minus = false; offset = codes "0" }

s0_is : IsSignalText s0
s0_is = record { start = record { digits = refl; value = refl; within = omega arith }; factor = record { begins = omega arith; unmarked = refl }; offset = record { begins = omega arith; unmarked = refl } }

s1_is : IsSignalText s1
s1_is = record { start = record { digits = refl; value = refl; within = omega arith }; factor = record { begins = omega arith; unmarked = refl }; offset = record { begins = omega arith; unmarked = refl } }

s2_is : IsSignalText s2
s2_is = record { start = record { digits = refl; value = refl; within = omega arith }; factor = record { begins = omega arith; unmarked = refl }; offset = record { begins = omega arith; unmarked = refl } }

s3_is : IsSignalText s3
s3_is = record { start = record { digits = refl; value = refl; within = omega arith }; factor = record { begins = omega arith; unmarked = refl }; offset = record { begins = omega arith; unmarked = refl } }

abbrev pub s0_at : ℕ → ℕ → ℕ
s0_at at j = skip at (heading_pieces j [])

abbrev pub s1_at : ℕ → ℕ → ℕ
s1_at at j = signal_end (s0_at at j) s0 next_line

abbrev pub s2_at : ℕ → ℕ → ℕ
s2_at at j = signal_end (s1_at at j) s1 next_line

abbrev pub s3_at : ℕ → ℕ → ℕ
s3_at at j = signal_end (s2_at at j) s2 next_line

abbrev pub message_end : ℕ → ℕ → ℕ
message_end at j = signal_end (s3_at at j) s3 last_line

abbrev pub message_form : ℕ → ℕ → MessageForm
message_form at j = record {
  heading = record {
    id = id_of j;
    name = token_of (skip at (word (codes "BO_") blank ∷ number (decimal (id_of j)) blank ∷ [])) (word (message_name j) []);
    byte_count = 8;
  };
  signals = signal_form (s0_at at j) s0 ∷ signal_form (s1_at at j) s1 ∷ signal_form (s2_at at j) s2 ∷ signal_form (s3_at at j) s3 ∷ [];
}

pub decimal_value : (n : ℕ) → n < 1000000 → HasValue Decimal (decimal n) small_limit n
decimal_value n small = record {
  digits = and_from _ _ (lt-ltb 0 (length (decimal n)) (decimal_nonempty n (omega arith))) (decimal_digits n (omega arith));
  value = sym (decimal_is_IsNumeral n (omega arith)).1;
  within = omega arith;
}

heading_parses : (text : List ℕ) (at j : ℕ) (more : List Piece) → j < 1000 → HasTexts text at (heading_pieces j more)
    → ParsesHeading text (message_form at j).heading (tokens_of at (heading_pieces j more)) (tokens_of (s0_at at j) more) × HasTexts text (s0_at at j) more
heading_parses text at j more small h =
    let eight : HasValue Decimal (codes "8") small_limit 8 = record { digits = refl; value = refl; within = omega arith } in (
      (
        inl (omega arith),
        (
          _,
          quoted text (codes "BO_") _ _ h.0,
          (
            _,
            whole text (decimal (id_of j)) small_limit (id_of j) _ _ refl h.1.0 (decimal_value (id_of j) (omega arith)),
            (_, (refl, refl), (_, quoted text (codes ":") _ _ h.1.1.1.0, (_, whole text (codes "8") small_limit 8 _ _ refl h.1.1.1.1.0 eight, (_, (refl, refl))))),
          ),
        ),
      ),
      h.1.1.1.1.1.1,
    )

-- no signal is before a message or at the end
lacks_signal : (text : List ℕ) (tokens : List Token) → Begins text (codes "BO_") tokens → Lacks (Any (ParsesSignal text)) tokens
lacks_signal text [] begins rest (s, (at, (first, (second, (token, (same, e)), head), more))) = no_token token second same
lacks_signal text (one ∷ tokens) begins rest (s, (at, (first, (second, (token, (same, e)), head), more))) =
    other_first (codes "BO_") (codes "SG_") (omega arith) (sym begins ∙ ap (first_text text) same ∙ e)

pub message_parses : (text : List ℕ) (at j : ℕ) (more : List Piece) → j < 1000 → (HasTexts text (message_end at j) more → Begins text (codes "BO_") (tokens_of (message_end at j) more)) → HasTexts text at (message_pieces j more)
    → ParsesMessage text (message_form at j) (tokens_of at (message_pieces j more)) (tokens_of (message_end at j) more) × HasTexts text (message_end at j) more
unfolding form_words unkept_words
message_parses text at j more small begins h =
    let heading = heading_parses text at j (s0_pieces (s1_pieces (s2_pieces (s3_pieces more)))) small h in
    let first = signal_parses text (s0_at at j) s0 next_line (codes "SG_") (s1_pieces (s2_pieces (s3_pieces more))) s0_is (omega arith) refl (λ t. t.0) heading.1 in
    let second = signal_parses text (s1_at at j) s1 next_line (codes "SG_") (s2_pieces (s3_pieces more)) s1_is (omega arith) refl (λ t. t.0) first.1 in
    let third = signal_parses text (s2_at at j) s2 next_line (codes "SG_") (s3_pieces more) s2_is (omega arith) refl (λ t. t.0) second.1 in
    let fourth = signal_parses text (s3_at at j) s3 last_line (codes "BO_") more s3_is (omega arith) refl begins third.1 in
    ((_, heading.0, (_, first.0, (_, second.0, (_, third.0, (_, fourth.0, (refl, lacks_signal text _ (begins fourth.1))))))), fourth.1)

-- ---- the file

unfoldable pub file_forms : ℕ → ℕ → ℕ → List MessageForm
file_forms at a zero = []
file_forms at a (suc n) = message_form at a ∷ file_forms (message_end at a) (a + 1) n

file_begins : (text : List ℕ) (at a n : ℕ) → HasTexts text at (file_pieces a n) → Begins text (codes "BO_") (tokens_of at (file_pieces a n))
unfolding file_pieces
file_begins text at a zero h = tt
file_begins text at a (suc n) h = h.0

-- the messages are all statements of the file, where no statement is without tokens
pub file_parses : (text : List ℕ) (at a n : ℕ) → a + n < 1000 → Lacks (Any (Parses text)) [] → HasTexts text at (file_pieces a n)
    → Each (Parses text) (map statement.Message (file_forms at a n)) (tokens_of at (file_pieces a n)) []
unfolding file_pieces file_forms
file_parses text at a zero small none h = (refl, none)
file_parses text at a (suc n) small none h =
    let m = message_parses text at a (file_pieces (a + 1) n) (omega arith) (file_begins text (message_end at a) (a + 1) n) h in
    (_, m.0, file_parses text (message_end at a) (a + 1) n (omega arith) none m.1)

-- ---- what is known of the text behind parts

signal_behind : (text : List ℕ) (at : ℕ) (s : SignalText) (gap : List ℕ) (more : List Piece) → IsSignalText s → HasTexts text at (signal_pieces s gap more) → HasTexts text (signal_end at s gap) more
signal_behind text at s gap more is h =
    let place = place_parses text (place_at at s) s.start s.place s.order s.signed (scaling_pieces s.factor s.minus s.offset (limit_pieces (end_pieces gap more))) is.start h.1.1.1 in
    let scaling = scaling_parses text (scaling_at at s) s.factor s.minus s.offset (limit_pieces (end_pieces gap more)) is.factor is.offset place.1 in
    scaling.1.1.1.1.1.1.1.1

-- the texts that a signal's tokens have
abbrev pub signed_bytes : Bool → List ℕ → List ℕ
signed_bytes false bytes = bytes
signed_bytes true bytes = codes "-" ++ bytes

pub record SignalTexts (text : List ℕ) (at : ℕ) (s : SignalText) : Type 0 where
  pub name : token_text text (signal_form at s).name ≡ s.name
  pub factor : signed_text text (signal_form at s).scaling.factor ≡ s.factor
  pub offset : signed_text text (signal_form at s).scaling.offset ≡ signed_bytes s.minus s.offset

offset_texts : (text : List ℕ) (at : ℕ) (factor : List ℕ) (sign : Bool) (offset : List ℕ) (more : List Piece) → HasTexts text at (scaling_pieces factor sign offset more) → signed_text text (offset_form (offset_at at factor) sign offset) ≡ signed_bytes sign offset
offset_texts text at factor false offset more h = h.1.1.1.0
offset_texts text at factor true offset more h =
    let first : token_text text (token_of (offset_at at factor) (mark (codes "-") [])) ≡ codes "-" = h.1.1.1.0 in
    let second : token_text text (token_of (behind (offset_at at factor) (mark (codes "-") [])) (number offset [])) ≡ offset = h.1.1.1.1.0 in
    cc

signal_texts : (text : List ℕ) (at : ℕ) (s : SignalText) (gap : List ℕ) (more : List Piece) → IsSignalText s → HasTexts text at (signal_pieces s gap more) → SignalTexts text at s
signal_texts text at s gap more is h =
    let place = place_parses text (place_at at s) s.start s.place s.order s.signed (scaling_pieces s.factor s.minus s.offset (limit_pieces (end_pieces gap more))) is.start h.1.1.1 in
    record {
      name = h.1.0;
      factor = place.1.1.0;
      offset = offset_texts text (scaling_at at s) s.factor s.minus s.offset (limit_pieces (end_pieces gap more)) place.1;
    }

-- those of a message, and what is known behind it
pub record MessageTexts (text : List ℕ) (at j : ℕ) (more : List Piece) : Type 0 where
  pub name : token_text text (message_form at j).heading.name ≡ message_name j
  pub first : SignalTexts text (s0_at at j) s0
  pub second : SignalTexts text (s1_at at j) s1
  pub third : SignalTexts text (s2_at at j) s2
  pub fourth : SignalTexts text (s3_at at j) s3
  pub later : HasTexts text (message_end at j) more

pub message_texts : (text : List ℕ) (at j : ℕ) (more : List Piece) → HasTexts text at (message_pieces j more) → MessageTexts text at j more
message_texts text at j more h =
    let a : HasTexts text (s0_at at j) (signals_pieces more) = h.1.1.1.1.1.1 in
    let b = signal_behind text (s0_at at j) s0 next_line (s1_pieces (s2_pieces (s3_pieces more))) s0_is a in
    let c = signal_behind text (s1_at at j) s1 next_line (s2_pieces (s3_pieces more)) s1_is b in
    let d = signal_behind text (s2_at at j) s2 next_line (s3_pieces more) s2_is c in
    record {
      name = h.1.1.0;
      first = signal_texts text (s0_at at j) s0 next_line (s1_pieces (s2_pieces (s3_pieces more))) s0_is a;
      second = signal_texts text (s1_at at j) s1 next_line (s2_pieces (s3_pieces more)) s1_is b;
      third = signal_texts text (s2_at at j) s2 next_line (s3_pieces more) s2_is c;
      fourth = signal_texts text (s3_at at j) s3 last_line more s3_is d;
      later = signal_behind text (s3_at at j) s3 last_line more s3_is d;
    }
