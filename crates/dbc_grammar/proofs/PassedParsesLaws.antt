-- The forms of statements of which nothing is kept find exactly those that are at the front of the tokens.
use Rattle.std.proofs.Common.{◌≡◌, ◌∙◌, sym, ap, subst, refl, inl, inr, ℕ, Bool, true, false, List}
use Rattle.std.specs.Prelude.{Option, Some, None, codes, if◌then◌else◌}
use Rattle.std.specs.Str.{bytes_eq}
use Rattle.std.proofs.lemmas.Option.{none-some}
use Rattle.sig_text.specs.declared.token.Token.{Token}
use Rattle.sig_text.specs.declared.token.TokenKind.TheVariants.{Word, Number}
use Rattle.token_forms.specs.Pieces.{token_text, literal_at, word_at, string_at}
use Rattle.token_forms.specs.Numbers.{digits_at}
use Rattle.token_forms.specs.Runs.{run_of}
use Rattle.token_forms.specs.Grammar.{◌▸◌, Lacks, One, AllOf, Quoted, IsWord, IsString, IsDigits}
use Rattle.dbc_grammar.specs.declared.statement.Says.{Says as AnySays}
use Rattle.dbc_grammar.specs.declared.statement.Says.TheVariants as says
use Rattle.dbc_grammar.specs.declared.statement.Note.{Note}
use Rattle.dbc_grammar.specs.declared.statement.ValueText.{ValueText}
use Rattle.dbc_grammar.specs.Limits.{small_limit}
use Rattle.dbc_grammar.specs.Words.{is_free_word, is_among, unkept_words}
use Rattle.dbc_grammar.specs.Passed.{is_symbol, is_before_semicolon, is_before_statement, pass}
use Rattle.dbc_grammar.specs.Statements as rows
use Rattle.dbc_grammar.specs.Statements.{Version, Symbols, Rate, Timing, Nodes, IsUnkeptWord, Other, ParsesText, SignalTexts, VariableTexts}
use Rattle.dbc_grammar.specs.Statements.{LenientTexts, ParsesSaid, ParsesNote, Passed}
use Rattle.dbc_grammar.specs.Forms.{◌<|>◌, version_at, symbols_at, rate_at, timing_at, nodes_at, other_at, value_text_at}
use Rattle.dbc_grammar.specs.Forms.{variable_texts_at, lenient_texts_at, unkept_at, signal_texts_at, heading_at, message_at, note_at}
use Rattle.dbc_grammar.specs.Forms.{small_at, value_type_at, multiplexing_at}
use Rattle.dbc_grammar.proofs.FormLaws.{IfFound, bound}
use Rattle.dbc_grammar.proofs.TakesLaws.{value_text_takes}
use Rattle.dbc_grammar.proofs.PartLaws.{Says, Ends, Pieces, Runs, step, true_false, none_or_some, lacks_part, none_part, cons_head}
use Rattle.dbc_grammar.proofs.PartLaws.{optional_found, optional_there, each_found, each_there, pass_found, pass_there}
use Rattle.dbc_grammar.proofs.PartLaws.{quoted, word, string, digits}
use Rattle.dbc_grammar.proofs.NoteParsesLaws.{other_word, either_none, either_some, texts_none, type_none, multiplexing_none, value_text}
use Rattle.dbc_grammar.proofs.NoteParsesLaws.{IsTexts, texts_found, texts_there}
use Rattle.dbc_grammar.proofs.SignalParsesLaws.{where_is, on_found}

-- ---- each row

version_part : Pieces → (text : List ℕ) → Ends (version_at text) (Version text)
unfolding version_at
version_part below text = record {
  found = λ tokens.
      bound (Quoted text (codes "VERSION") tokens) (Version text tokens) (literal_at text (codes "VERSION") tokens) _
      ((quoted below text (codes "VERSION")).found tokens) (λ t a.
      bound (Says (One IsString) t) (Version text tokens) (string_at t) _ ((string below).found t) (λ s b. (t, a, (s.0, b))));
  there = λ tokens rest part.
      step (literal_at text (codes "VERSION") tokens) _ part.0 _ ((quoted below text (codes "VERSION")).there tokens part.0 part.1)
      (step (string_at part.0) _ (part.2.0, rest) _ ((string below).there part.0 part.2.0 rest part.2.1) refl);
}

symbols_part : Pieces → (text : List ℕ) → Ends (symbols_at text) (Symbols text)
unfolding symbols_at
symbols_part below text = record {
  found = λ tokens.
      bound (Quoted text (codes "NS_") tokens) (Symbols text tokens) (literal_at text (codes "NS_") tokens) _
      ((quoted below text (codes "NS_")).found tokens) (λ t a.
      bound (Quoted text (codes ":") t) (Symbols text tokens) (literal_at text (codes ":") t) _ ((quoted below text (codes ":")).found t) (λ u b.
      (t, a, (u, b, pass_found (is_symbol text) u))));
  there = λ tokens rest part.
      let b = part.2 in
      step (literal_at text (codes "NS_") tokens) _ part.0 _ ((quoted below text (codes "NS_")).there tokens part.0 part.1)
      (step (literal_at text (codes ":") part.0) _ b.0 _ ((quoted below text (codes ":")).there part.0 b.0 b.1)
      (ap Some (pass_there (is_symbol text) b.0 rest b.2)));
}

rate_part : Pieces → (text : List ℕ) → Ends (rate_at text) (Rate text)
unfolding rate_at
rate_part below text = record {
  found = λ tokens.
      let Q : List Token → Type 0 = Rate text tokens in
      bound (Says (One (IsDigits text)) tokens) Q (digits_at text tokens) _ ((digits below text).found tokens) (λ x a.
      bound (Quoted text (codes ":") x.1) Q (literal_at text (codes ":") x.1) _ ((quoted below text (codes ":")).found x.1) (λ t b.
      bound (Says (One (IsDigits text)) t) Q (digits_at text t) _ ((digits below text).found t) (λ y c.
      bound (Quoted text (codes ",") y.1) Q (literal_at text (codes ",") y.1) _ ((quoted below text (codes ",")).found y.1) (λ u d.
      bound (Says (One (IsDigits text)) u) Q (digits_at text u) _ ((digits below text).found u) (λ z e.
      (x.1, (x.0, a), (t, b, (y.1, (y.0, c), (u, d, (z.0, e))))))))));
  there = λ tokens rest part.
      let b = part.2 in
      let c = b.2 in
      let d = c.2 in
      step (digits_at text tokens) _ (part.1.0, part.0) _ ((digits below text).there tokens part.1.0 part.0 part.1.1)
      (step (literal_at text (codes ":") part.0) _ b.0 _ ((quoted below text (codes ":")).there part.0 b.0 b.1)
      (step (digits_at text b.0) _ (c.1.0, c.0) _ ((digits below text).there b.0 c.1.0 c.0 c.1.1)
      (step (literal_at text (codes ",") c.0) _ d.0 _ ((quoted below text (codes ",")).there c.0 d.0 d.1)
      (step (digits_at text d.0) _ (d.2.0, rest) _ ((digits below text).there d.0 d.2.0 rest d.2.1) refl))));
}

timing_part : Pieces → (text : List ℕ) → Ends (timing_at text) (Timing text)
unfolding timing_at
timing_part below text = record {
  found = λ tokens.
      bound (Quoted text (codes "BS_") tokens) (Timing text tokens) (literal_at text (codes "BS_") tokens) _
      ((quoted below text (codes "BS_")).found tokens) (λ t a.
      bound (Quoted text (codes ":") t) (Timing text tokens) (literal_at text (codes ":") t) _ ((quoted below text (codes ":")).found t) (λ u b.
      (t, a, (u, b, optional_found (rate_at text) (Rate text) (rate_part below text) u))));
  there = λ tokens rest part.
      let b = part.2 in
      step (literal_at text (codes "BS_") tokens) _ part.0 _ ((quoted below text (codes "BS_")).there tokens part.0 part.1)
      (step (literal_at text (codes ":") part.0) _ b.0 _ ((quoted below text (codes ":")).there part.0 b.0 b.1)
      (ap Some (optional_there (rate_at text) (Rate text) (rate_part below text) b.0 rest b.2)));
}

nodes_part : Pieces → (text : List ℕ) → Ends (nodes_at text) (Nodes text)
unfolding nodes_at
nodes_part below text = record {
  found = λ tokens.
      bound (Quoted text (codes "BU_") tokens) (Nodes text tokens) (literal_at text (codes "BU_") tokens) _
      ((quoted below text (codes "BU_")).found tokens) (λ t a.
      bound (Quoted text (codes ":") t) (Nodes text tokens) (literal_at text (codes ":") t) _ ((quoted below text (codes ":")).found t) (λ u b.
      (t, a, (u, b, pass_found (is_free_word text) u))));
  there = λ tokens rest part.
      let b = part.2 in
      step (literal_at text (codes "BU_") tokens) _ part.0 _ ((quoted below text (codes "BU_")).there tokens part.0 part.1)
      (step (literal_at text (codes ":") part.0) _ b.0 _ ((quoted below text (codes ":")).there part.0 b.0 b.1)
      (ap Some (pass_there (is_free_word text) b.0 rest b.2)));
}

other_part : Pieces → (text : List ℕ) → Ends (other_at text) (Other text)
unfolding other_at
other_part below text = record {
  found = λ tokens.
      let p = is_before_semicolon text in
      bound (Says (One IsWord) tokens) (Other text tokens) (word_at tokens) _ ((word below).found tokens) (λ w a.
      where_is (Other text tokens) (is_among (token_text text w.0) unkept_words) (literal_at text (codes ";") (pass p w.1)) (λ is.
      on_found (Quoted text (codes ";") (pass p w.1)) (Other text tokens) (literal_at text (codes ";") (pass p w.1))
      ((quoted below text (codes ";")).found (pass p w.1)) (λ rest q.
      (w.1, (w.0, (a.0, (a.1, is))), (pass p w.1, pass_found p w.1, q)))));
  there = λ tokens rest part.
      let p = is_before_semicolon text in
      let w = part.1.0 in
      let one = part.1.1 in
      let b = part.2 in
      step (word_at tokens) _ (w, part.0) _ ((word below).there tokens w part.0 (one.0, one.1.0))
      (ap (λ (is : Bool). if is then literal_at text (codes ";") (pass p part.0) else None) one.1.1
      ∙ ap (literal_at text (codes ";")) (pass_there p part.0 b.0 b.1) ∙ (quoted below text (codes ";")).there b.0 rest b.2);
}

variable_part : Pieces → Runs ValueText → (text : List ℕ) → Ends (variable_texts_at text) (VariableTexts text)
unfolding variable_texts_at
variable_part below runs text = record {
  found = λ tokens.
      let Q : List Token → Type 0 = VariableTexts text tokens in
      bound (Quoted text (codes "VAL_") tokens) Q (literal_at text (codes "VAL_") tokens) _ ((quoted below text (codes "VAL_")).found tokens) (λ t a.
      bound (Says (One IsWord) t) Q (word_at t) _ ((word below).found t) (λ w b.
      let run = run_of (value_text_at text) w.1 in
      on_found (Quoted text (codes ";") run.1) Q (literal_at text (codes ";") run.1) ((quoted below text (codes ";")).found run.1) (λ rest q. (
        t,
        a,
        (
          w.1,
          (w.0, b),
          (run.1, (run.0, each_found (value_text_at text) (ParsesText text) (value_text below text) runs (value_text_takes text) w.1), q),
        ),
      ))));
  there = λ tokens rest part.
      let b = part.2 in
      let c = b.2 in
      let run = each_there (value_text_at text) (ParsesText text) (value_text below text) runs (value_text_takes text) b.0 c.1.0 c.0 c.1.1 in
      step (literal_at text (codes "VAL_") tokens) _ part.0 _ ((quoted below text (codes "VAL_")).there tokens part.0 part.1)
      (step (word_at part.0) _ (b.1.0, b.0) _ ((word below).there part.0 b.1.0 b.0 b.1.1)
      (ap (λ (r : List ValueText × List Token). literal_at text (codes ";") r.1) run ∙ (quoted below text (codes ";")).there c.0 rest c.2));
}

abbrev LenientRow : List ℕ → List Token → List Token → Type 0
LenientRow text = Quoted text (codes "VAL_") ▸ AllOf (λ token. is_before_statement text token ≡ true) ▸ Quoted text (codes ";")

lenient_part : Pieces → (text : List ℕ) → Ends (lenient_texts_at text) (LenientRow text)
unfolding lenient_texts_at
lenient_part below text = record {
  found = λ tokens.
      let p = is_before_statement text in
      bound (Quoted text (codes "VAL_") tokens) (LenientRow text tokens) (literal_at text (codes "VAL_") tokens) _
      ((quoted below text (codes "VAL_")).found tokens) (λ t a.
      on_found (Quoted text (codes ";") (pass p t)) (LenientRow text tokens) (literal_at text (codes ";") (pass p t))
      ((quoted below text (codes ";")).found (pass p t)) (λ rest q. (t, a, (pass p t, pass_found p t, q))));
  there = λ tokens rest part.
      let p = is_before_statement text in
      let b = part.2 in
      step (literal_at text (codes "VAL_") tokens) _ part.0 _ ((quoted below text (codes "VAL_")).there tokens part.0 part.1)
      (ap (literal_at text (codes ";")) (pass_there p part.0 b.0 b.1) ∙ (quoted below text (codes ";")).there b.0 rest b.2);
}

-- ---- what begins with another word is not found

version_none : (text : List ℕ) (tokens : List Token) → literal_at text (codes "VERSION") tokens ≡ None → version_at text tokens ≡ None
unfolding version_at
version_none text tokens none = rw none refl

symbols_none : (text : List ℕ) (tokens : List Token) → literal_at text (codes "NS_") tokens ≡ None → symbols_at text tokens ≡ None
unfolding symbols_at
symbols_none text tokens none = rw none refl

timing_none : (text : List ℕ) (tokens : List Token) → literal_at text (codes "BS_") tokens ≡ None → timing_at text tokens ≡ None
unfolding timing_at
timing_none text tokens none = rw none refl

nodes_none : (text : List ℕ) (tokens : List Token) → literal_at text (codes "BU_") tokens ≡ None → nodes_at text tokens ≡ None
unfolding nodes_at
nodes_none text tokens none = rw none refl

variable_none : (text : List ℕ) (tokens : List Token) → literal_at text (codes "VAL_") tokens ≡ None → variable_texts_at text tokens ≡ None
unfolding variable_texts_at
variable_none text tokens none = rw none refl

lenient_none : (text : List ℕ) (tokens : List Token) → literal_at text (codes "VAL_") tokens ≡ None → lenient_texts_at text tokens ≡ None
unfolding lenient_texts_at
lenient_none text tokens none = rw none refl

message_none : (text : List ℕ) (tokens : List Token) → literal_at text (codes "BO_") tokens ≡ None → message_at text tokens ≡ None
unfolding message_at heading_at
message_none text tokens none = rw none refl

-- a word whose statements are not kept is none of the others
not_among : Pieces → (text m : List ℕ) (tokens rest : List Token) (w : Token) → One (IsUnkeptWord text) w tokens rest
    → is_among m unkept_words ≡ false → literal_at text m tokens ≡ None
not_among below text m tokens rest w (prefix, (kind, among)) isnt = elim (none_or_some (literal_at text m tokens)) [
  | inl none ↦ none
  | inr (left, e) ↦
      let seen = (quoted_part below text m tokens left e) in
      let same : w ≡ seen.0 = cons_head w seen.0 rest left (sym prefix ∙ seen.1.0) in
      let words : token_text text w ≡ m = ap (token_text text) same ∙ seen.1.1 in
      absurd (true_false (is_among m unkept_words) (sym (ap (λ t. is_among t unkept_words) words) ∙ among) isnt)
] where
  quoted_part : Pieces → (text m : List ℕ) (tokens left : List Token) → literal_at text m tokens ≡ Some left → Quoted text m tokens left
  quoted_part below text m tokens left e = (below.quoted text m tokens left).0 e

-- ---- all rows

pub either_else : {A : Type 0} (Q : A → Type 0) (x y : Option A) → IfFound Q x → (x ≡ None → IfFound Q y) → IfFound Q (x <|> y)
either_else Q None y first second = second refl
either_else Q (Some x) y first second = first

pub passed_found : Pieces → Runs ValueText → (text : List ℕ) (tokens : List Token) → signal_texts_at text tokens ≡ None
    → IfFound (Passed text tokens) (unkept_at text tokens)
unfolding unkept_at
passed_found below runs text tokens none =
    let Q : List Token → Type 0 = Passed text tokens in
    either_else Q (version_at text tokens) _
    (on_found (Version text tokens) Q (version_at text tokens) ((version_part below text).found tokens) (λ rest row. rows.version row)) (λ a.
    either_else Q (symbols_at text tokens) _
    (on_found (Symbols text tokens) Q (symbols_at text tokens) ((symbols_part below text).found tokens) (λ rest row. rows.symbols row)) (λ b.
    either_else Q (timing_at text tokens) _
    (on_found (Timing text tokens) Q (timing_at text tokens) ((timing_part below text).found tokens) (λ rest row. rows.timing row)) (λ c.
    either_else Q (nodes_at text tokens) _
    (on_found (Nodes text tokens) Q (nodes_at text tokens) ((nodes_part below text).found tokens) (λ rest row. rows.nodes row)) (λ d.
    either_else Q (variable_texts_at text tokens) _
    (on_found (VariableTexts text tokens) Q (variable_texts_at text tokens) ((variable_part below runs text).found tokens) (λ rest row.
    rows.variable row)) (λ e.
    either_else Q (lenient_texts_at text tokens) _
    (on_found (LenientRow text tokens) Q (lenient_texts_at text tokens) ((lenient_part below text).found tokens) (λ rest row.
    rows.lenient (
      row,
      lacks_part (variable_texts_at text) (VariableTexts text) (variable_part below runs text) tokens e,
      λ id signal texts left part. none-some _ (sym none ∙ texts_there below runs text id signal texts tokens left part),
    ))) (λ f.
    on_found (Other text tokens) Q (other_at text tokens) ((other_part below text).found tokens) (λ rest row. rows.other row)))))))

-- the first word of a row is none of the words m
abbrev Without : List ℕ → List Token → List ℕ → Type 0
Without text tokens m = literal_at text m tokens ≡ None

version_there : Pieces → (text : List ℕ) (tokens rest : List Token) → Version text tokens rest → unkept_at text tokens ≡ Some rest
unfolding unkept_at
version_there below text tokens rest row =
    either_some (version_at text tokens) _ rest ((version_part below text).there tokens rest row)

symbols_there : Pieces → (text : List ℕ) (tokens rest : List Token) → Symbols text tokens rest → unkept_at text tokens ≡ Some rest
unfolding unkept_at
symbols_there below text tokens rest row =
    either_none (version_at text tokens) _ _ (version_none text tokens (other_word below text (codes "NS_") (codes "VERSION") tokens row.0 row.1 refl))
    (either_some (symbols_at text tokens) _ rest ((symbols_part below text).there tokens rest row))

timing_there : Pieces → (text : List ℕ) (tokens rest : List Token) → Timing text tokens rest → unkept_at text tokens ≡ Some rest
unfolding unkept_at
timing_there below text tokens rest row =
    let other : (m : List ℕ) → bytes_eq (codes "BS_") m ≡ false → Without text tokens m =
    λ m differ. other_word below text (codes "BS_") m tokens row.0 row.1 differ in
    either_none (version_at text tokens) _ _ (version_none text tokens (other (codes "VERSION") refl))
    (either_none (symbols_at text tokens) _ _ (symbols_none text tokens (other (codes "NS_") refl))
    (either_some (timing_at text tokens) _ rest ((timing_part below text).there tokens rest row)))

-- where none of the first four rows is
behind_four : (text : List ℕ) (tokens rest : List Token) → Without text tokens (codes "VERSION") → Without text tokens (codes "NS_")
    → Without text tokens (codes "BS_") → Without text tokens (codes "BU_")
    → (variable_texts_at text tokens <|> (lenient_texts_at text tokens <|> other_at text tokens)) ≡ Some rest → unkept_at text tokens ≡ Some rest
unfolding unkept_at
behind_four text tokens rest a b c d e =
    either_none (version_at text tokens) _ _ (version_none text tokens a)
    (either_none (symbols_at text tokens) _ _ (symbols_none text tokens b)
    (either_none (timing_at text tokens) _ _ (timing_none text tokens c)
    (either_none (nodes_at text tokens) _ _ (nodes_none text tokens d) e)))

nodes_there : Pieces → (text : List ℕ) (tokens rest : List Token) → Nodes text tokens rest → unkept_at text tokens ≡ Some rest
unfolding unkept_at
nodes_there below text tokens rest row =
    let other : (m : List ℕ) → bytes_eq (codes "BU_") m ≡ false → Without text tokens m =
    λ m differ. other_word below text (codes "BU_") m tokens row.0 row.1 differ in
    either_none (version_at text tokens) _ _ (version_none text tokens (other (codes "VERSION") refl))
    (either_none (symbols_at text tokens) _ _ (symbols_none text tokens (other (codes "NS_") refl))
    (either_none (timing_at text tokens) _ _ (timing_none text tokens (other (codes "BS_") refl))
    (either_some (nodes_at text tokens) _ rest ((nodes_part below text).there tokens rest row))))

behind_texts : Pieces → (text : List ℕ) (tokens t rest : List Token) → Quoted text (codes "VAL_") tokens t
    → (variable_texts_at text tokens <|> (lenient_texts_at text tokens <|> other_at text tokens)) ≡ Some rest → unkept_at text tokens ≡ Some rest
behind_texts below text tokens t rest first e =
    let other : (m : List ℕ) → bytes_eq (codes "VAL_") m ≡ false → Without text tokens m =
    λ m differ. other_word below text (codes "VAL_") m tokens t first differ in
    behind_four text tokens rest (other (codes "VERSION") refl) (other (codes "NS_") refl) (other (codes "BS_") refl) (other (codes "BU_") refl) e

none_variable : Pieces → Runs ValueText → (text : List ℕ) (tokens : List Token) → Lacks (VariableTexts text) tokens
    → variable_texts_at text tokens ≡ None
none_variable below runs text tokens lacks =
    none_part (variable_texts_at text) (VariableTexts text) (variable_part below runs text) tokens lacks

other_there : Pieces → (text : List ℕ) (tokens rest : List Token) → Other text tokens rest → unkept_at text tokens ≡ Some rest
unfolding unkept_words
other_there below text tokens rest row =
    let w = row.1.0 in
    let none : (m : List ℕ) → is_among m unkept_words ≡ false → Without text tokens m =
    λ m isnt. not_among below text m tokens row.0 w row.1.1 isnt in
    behind_four text tokens rest (none (codes "VERSION") refl) (none (codes "NS_") refl) (none (codes "BS_") refl) (none (codes "BU_") refl)
    (either_none (variable_texts_at text tokens) _ _ (variable_none text tokens (none (codes "VAL_") refl))
    (either_none (lenient_texts_at text tokens) _ _ (lenient_none text tokens (none (codes "VAL_") refl))
    ((other_part below text).there tokens rest row)))

pub passed_there : Pieces → Runs ValueText → (text : List ℕ) (tokens rest : List Token) → Passed text tokens rest → unkept_at text tokens ≡ Some rest
passed_there below runs text tokens rest (rows.version row) = version_there below text tokens rest row
passed_there below runs text tokens rest (rows.symbols row) = symbols_there below text tokens rest row
passed_there below runs text tokens rest (rows.timing row) = timing_there below text tokens rest row
passed_there below runs text tokens rest (rows.nodes row) = nodes_there below text tokens rest row
passed_there below runs text tokens rest (rows.variable row) =
    behind_texts below text tokens row.0 rest row.1
    (either_some (variable_texts_at text tokens) _ rest ((variable_part below runs text).there tokens rest row))
passed_there below runs text tokens rest (rows.lenient row) =
    behind_texts below text tokens row.0.0 rest row.0.1
    (either_none (variable_texts_at text tokens) _ _ (none_variable below runs text tokens row.1)
    (either_some (lenient_texts_at text tokens) _ rest ((lenient_part below text).there tokens rest row.0)))
passed_there below runs text tokens rest (rows.other row) = other_there below text tokens rest row

-- ---- where such a row is, neither a message nor a note does

pub record Neither (text : List ℕ) (tokens : List Token) : Type 0 where
  pub message : message_at text tokens ≡ None
  pub note : note_at text tokens ≡ None

no_note : (text : List ℕ) (tokens : List Token) → signal_texts_at text tokens ≡ None → Without text tokens (codes "SIG_VALTYPE_")
    → Without text tokens (codes "SG_MUL_VAL_") → note_at text tokens ≡ None
unfolding note_at
no_note text tokens a b c =
    either_none (signal_texts_at text tokens) _ None a
    (either_none (value_type_at text tokens) (multiplexing_at text tokens) None (type_none text tokens b) (multiplexing_none text tokens c))

neither_word : Pieces → (text l : List ℕ) (tokens t : List Token) → Quoted text l tokens t → bytes_eq l (codes "BO_") ≡ false
    → bytes_eq l (codes "VAL_") ≡ false → bytes_eq l (codes "SIG_VALTYPE_") ≡ false → bytes_eq l (codes "SG_MUL_VAL_") ≡ false
    → Neither text tokens
neither_word below text l tokens t first a b c d = record {
  message = message_none text tokens (other_word below text l (codes "BO_") tokens t first a);
  note = no_note text tokens (texts_none text tokens (other_word below text l (codes "VAL_") tokens t first b))
      (other_word below text l (codes "SIG_VALTYPE_") tokens t first c) (other_word below text l (codes "SG_MUL_VAL_") tokens t first d);
}

neither_texts : Pieces → (text : List ℕ) (tokens t : List Token) → Quoted text (codes "VAL_") tokens t → signal_texts_at text tokens ≡ None
    → Neither text tokens
neither_texts below text tokens t first none = record {
  message = message_none text tokens (other_word below text (codes "VAL_") (codes "BO_") tokens t first refl);
  note = no_note text tokens none (other_word below text (codes "VAL_") (codes "SIG_VALTYPE_") tokens t first refl)
      (other_word below text (codes "VAL_") (codes "SG_MUL_VAL_") tokens t first refl);
}

-- a word is no number
word_number : (w : Token) → w.kind ≡ Word → w.kind ≡ Number → ⊥
word_number w is e = word_or_number (sym is ∙ e) where
  word_or_number : Word ≡ Number → ⊥
  word_or_number e = cc

no_small : Pieces → (text : List ℕ) (tokens rest : List Token) (w : Token) → One IsWord w tokens rest → small_at text tokens ≡ None
no_small below text tokens rest w (prefix, kind) = elim (none_or_some (small_at text tokens)) [
  | inl none ↦ none
  | inr (n, e) ↦
      let seen = (below.whole text small_limit tokens n.0 n.1).0 e in
      let same : w ≡ seen.0 = cons_head w seen.0 rest n.1 (sym prefix ∙ seen.1.0) in
      absurd (word_number w kind (ap (λ (t : Token). t.kind) same ∙ seen.1.1.0))
]

no_texts : Pieces → (text : List ℕ) (tokens t : List Token) → Quoted text (codes "VAL_") tokens t → small_at text t ≡ None
    → signal_texts_at text tokens ≡ None
unfolding signal_texts_at
no_texts below text tokens t first none =
    let there = (quoted below text (codes "VAL_")).there tokens t first in rw (there, none) refl

not_found_texts : Pieces → Runs ValueText → (text : List ℕ) (tokens : List Token)
    → ((id : ℕ) (signal : Token) (texts : List ValueText) → Lacks (SignalTexts text id signal texts) tokens) → signal_texts_at text tokens ≡ None
not_found_texts below runs text tokens lacks = elim (none_or_some (signal_texts_at text tokens)) [
  | inl none ↦ none
  | inr (x, e) ↦
      let P : Option (Note × List Token) → Type 0 = IfFound (IsTexts text tokens) in
      let is = subst P e (texts_found below runs text tokens) in
      absurd (lacks x.0.id x.0.signal is.texts x.1 is.parses)
]

pub neither : Pieces → Runs ValueText → (text : List ℕ) (tokens rest : List Token) → Passed text tokens rest → Neither text tokens
unfolding unkept_words
neither below runs text tokens rest (rows.version row) = neither_word below text (codes "VERSION") tokens row.0 row.1 refl refl refl refl
neither below runs text tokens rest (rows.symbols row) = neither_word below text (codes "NS_") tokens row.0 row.1 refl refl refl refl
neither below runs text tokens rest (rows.timing row) = neither_word below text (codes "BS_") tokens row.0 row.1 refl refl refl refl
neither below runs text tokens rest (rows.nodes row) = neither_word below text (codes "BU_") tokens row.0 row.1 refl refl refl refl
neither below runs text tokens rest (rows.variable row) =
    let w = row.2.1 in
    neither_texts below text tokens row.0 row.1 (no_texts below text tokens row.0 row.1 (no_small below text row.0 row.2.0 w.0 w.1))
neither below runs text tokens rest (rows.lenient row) =
    neither_texts below text tokens row.0.0 row.0.1 (not_found_texts below runs text tokens row.2)
neither below runs text tokens rest (rows.other row) =
    let none : (m : List ℕ) → is_among m unkept_words ≡ false → Without text tokens m =
    λ m isnt. not_among below text m tokens row.0 row.1.0 row.1.1 isnt in
    record {
      message = message_none text tokens (none (codes "BO_") refl);
      note = no_note text tokens (texts_none text tokens (none (codes "VAL_") refl)) (none (codes "SIG_VALTYPE_") refl)
          (none (codes "SG_MUL_VAL_") refl);
    }

-- and where a note is, no message does
said_first : Pieces → (text : List ℕ) (id : ℕ) (signal : Token) (s : AnySays) (tokens rest : List Token)
    → ParsesSaid text id signal s tokens rest → message_at text tokens ≡ None
said_first below text id signal (says.Texts texts) tokens rest part =
    message_none text tokens (other_word below text (codes "VAL_") (codes "BO_") tokens part.1.0 part.1.1 refl)
said_first below text id signal (says.Type kind) tokens rest part =
    message_none text tokens (other_word below text (codes "SIG_VALTYPE_") (codes "BO_") tokens part.1.0 part.1.1 refl)
said_first below text id signal (says.Below multiplexor ranges) tokens rest part =
    message_none text tokens (other_word below text (codes "SG_MUL_VAL_") (codes "BO_") tokens part.1.0 part.1.1 refl)

pub before_note : Pieces → (text : List ℕ) (note : Note) (tokens rest : List Token) → ParsesNote text note tokens rest
    → message_at text tokens ≡ None
before_note below text note tokens rest part = said_first below text note.id note.signal note.says tokens rest part
