-- The forms of notes on signals find exactly the notes that are at the front of the tokens.
use Rattle.std.proofs.Common.{◌≡◌, ◌∙◌, sym, ap, subst, refl, inl, inr, ℕ, false, List, [], ◌∷◌}
use Rattle.std.specs.Prelude.{Option, Some, None, codes}
use Rattle.std.specs.Str.{bytes_eq}
use Rattle.std.proofs.lemmas.Slice.Eq.{bytes_eq-Decides}
use Rattle.multiplex_tree.specs.declared.mark.Range.{Range}
use Rattle.sig_text.specs.declared.token.Token.{Token}
use Rattle.token_forms.specs.Pieces.{token_text, literal_at, word_at, string_at}
use Rattle.token_forms.specs.Numbers.{whole_at, signed_at}
use Rattle.token_forms.specs.Runs.{run_of, put_first}
use Rattle.token_forms.specs.Grammar.{◌▸◌, Optional, One, Quoted, IsWord, IsString, Whole, Signed}
use Rattle.dbc_grammar.specs.declared.statement.Says.{Says as AnySays}
use Rattle.dbc_grammar.specs.declared.statement.Says.TheVariants as says
use Rattle.dbc_grammar.specs.declared.statement.Note.{Note}
use Rattle.dbc_grammar.specs.declared.statement.ValueText.{ValueText}
use Rattle.dbc_grammar.specs.Limits.{small_limit, last_range_value, last_type}
use Rattle.dbc_grammar.specs.Statements.{Small, ParsesText, Named, SignalTexts, ValueType, ParsesRange, NextRange, Ranges, Multiplexing}
use Rattle.dbc_grammar.specs.Statements.{ParsesSaid, ParsesNote}
use Rattle.dbc_grammar.specs.Forms.{◌<|>◌, optional, small_at, value_text_at, named_at, signal_texts_at, type_at, value_type_at, range_at}
use Rattle.dbc_grammar.specs.Forms.{more_range_at, ranges_at, multiplexing_at, note_at}
use Rattle.dbc_grammar.proofs.FormLaws.{IfFound, bound, either_of}
use Rattle.dbc_grammar.proofs.TakesLaws.{value_text_takes, more_range_takes}
use Rattle.dbc_grammar.proofs.PartLaws.{Says, Finds, Pieces, Runs, step, true_false, none_or_some, cons_head, optional_found, optional_there}
use Rattle.dbc_grammar.proofs.PartLaws.{each_found, each_there, quoted, word, string, whole, signed}

-- ---- what begins with another word is not found

pub other_word : Pieces → (text l m : List ℕ) (tokens rest : List Token) → Quoted text l tokens rest → bytes_eq l m ≡ false
    → literal_at text m tokens ≡ None
other_word below text l m tokens rest (t, (prefix, is)) differ = elim (none_or_some (literal_at text m tokens)) [
  | inl none ↦ none
  | inr (left, e) ↦
      let seen = (below.quoted text m tokens left).0 e in
      let same : t ≡ seen.0 = cons_head t seen.0 rest left (sym prefix ∙ seen.1.0) in
      let words : l ≡ m = sym is ∙ ap (token_text text) same ∙ seen.1.1 in
      absurd (true_false (bytes_eq l m) ((bytes_eq-Decides l m).1 words) differ)
]

pub either_none : {A : Type 0} (x y : Option A) (r : Option A) → x ≡ None → y ≡ r → (x <|> y) ≡ r
either_none x y r none e = ap (λ o. o <|> y) none ∙ e

pub either_some : {A : Type 0} (x y : Option A) (v : A) → x ≡ Some v → (x <|> y) ≡ Some v
either_some x y v e = ap (λ o. o <|> y) e

pub texts_none : (text : List ℕ) (tokens : List Token) → literal_at text (codes "VAL_") tokens ≡ None → signal_texts_at text tokens ≡ None
unfolding signal_texts_at
texts_none text tokens none = rw none refl

pub type_none : (text : List ℕ) (tokens : List Token) → literal_at text (codes "SIG_VALTYPE_") tokens ≡ None → value_type_at text tokens ≡ None
unfolding value_type_at
type_none text tokens none = rw none refl

pub multiplexing_none : (text : List ℕ) (tokens : List Token) → literal_at text (codes "SG_MUL_VAL_") tokens ≡ None
    → multiplexing_at text tokens ≡ None
unfolding multiplexing_at
multiplexing_none text tokens none = rw none refl

-- ---- value texts

pub small : Pieces → (text : List ℕ) → Finds (small_at text) (Small text)
small below text = whole below text small_limit

pub value_text : Pieces → (text : List ℕ) → Finds (value_text_at text) (ParsesText text)
unfolding value_text_at
value_text below text = record {
  found = λ tokens.
      bound (Says (Signed text) tokens) (Says (ParsesText text) tokens) (signed_at text tokens) _ ((signed below text).found tokens) (λ number a.
      bound (Says (One IsString) number.1) (Says (ParsesText text) tokens) (string_at number.1) _ ((string below).found number.1) (λ s b.
      (number.1, a, b)));
  there = λ tokens v rest part.
      step (signed_at text tokens) _ (v.number, part.0) _ ((signed below text).there tokens v.number part.0 part.1)
      (step (string_at part.0) _ (v.text, rest) _ ((string below).there part.0 v.text rest part.2) refl);
}

pub named_found : Pieces → (text head : List ℕ) (tokens : List Token)
    → IfFound (λ (found : ℕ × Token × List Token). Named text head found.0 found.1 tokens found.2) (named_at text head tokens)
named_found below text head tokens =
    let Q : ℕ × Token × List Token → Type 0 = λ found. Named text head found.0 found.1 tokens found.2 in
    bound (Quoted text head tokens) Q (literal_at text head tokens) _ ((quoted below text head).found tokens) (λ rest a.
    bound (Says (Small text) rest) Q (small_at text rest) _ ((small below text).found rest) (λ id b.
    bound (Says (One IsWord) id.1) Q (word_at id.1) _ ((word below).found id.1) (λ name c. (rest, a, (id.1, b, c)))))

pub named_there : Pieces → (text head : List ℕ) (id : ℕ) (name : Token) (tokens rest : List Token) → Named text head id name tokens rest
    → named_at text head tokens ≡ Some (id, name, rest)
named_there below text head id name tokens rest (t, a, (u, b, c)) =
    step (literal_at text head tokens) _ t _ ((quoted below text head).there tokens t a)
    (step (small_at text t) _ (id, u) _ ((small below text).there t id u b)
    (step (word_at u) _ (name, rest) _ ((word below).there u name rest c) refl))

-- what a note of this kind says
pub record IsTexts (text : List ℕ) (tokens : List Token) (found : Note × List Token) : Type 0 where
  pub texts : List ValueText
  pub says_is : found.0.says ≡ says.Texts texts
  pub parses : SignalTexts text found.0.id found.0.signal texts tokens found.1

pub texts_found : Pieces → Runs ValueText → (text : List ℕ) (tokens : List Token) → IfFound (IsTexts text tokens) (signal_texts_at text tokens)
unfolding signal_texts_at
texts_found below runs text tokens =
    bound (λ (found : ℕ × Token × List Token). Named text (codes "VAL_") found.0 found.1 tokens found.2) (IsTexts text tokens)
    (named_at text (codes "VAL_") tokens) _ (named_found below text (codes "VAL_") tokens) (λ named a.
    let run = run_of (value_text_at text) named.2 in
    bound (Quoted text (codes ";") run.1) (IsTexts text tokens) (literal_at text (codes ";") run.1) _ ((quoted below text (codes ";")).found run.1)
    (λ rest c. record {
      texts = run.0;
      says_is = refl;
      parses = (named.2, a, (run.1, each_found (value_text_at text) (ParsesText text) (value_text below text) runs (value_text_takes text) named.2, c));
    }))

pub texts_there : Pieces → Runs ValueText → (text : List ℕ) (id : ℕ) (signal : Token) (texts : List ValueText) (tokens rest : List Token)
    → SignalTexts text id signal texts tokens rest
    → signal_texts_at text tokens ≡ Some (record { id = id; signal = signal; says = says.Texts texts }, rest)
unfolding signal_texts_at
texts_there below runs text id signal texts tokens rest (t, a, (u, b, c)) =
    let run = each_there (value_text_at text) (ParsesText text) (value_text below text) runs (value_text_takes text) t texts u b in
    step (named_at text (codes "VAL_") tokens) _ (id, signal, t) _ (named_there below text (codes "VAL_") id signal tokens t a)
    (step (literal_at text (codes ";") (run_of (value_text_at text) t).1) _ rest _
    (ap (λ (r : List ValueText × List Token). literal_at text (codes ";") r.1) run ∙ (quoted below text (codes ";")).there u rest c)
    (ap (λ (r : List ValueText × List Token). Some (record { id = id; signal = signal; says = says.Texts r.0 }, rest)) run))

-- ---- value types

abbrev TypeOf : List ℕ → ℕ → List Token → List Token → Type 0
TypeOf text kind = Optional (Quoted text (codes ":")) ▸ Whole text last_type kind ▸ Quoted text (codes ";")

kind_of : Pieces → (text : List ℕ) → Finds (type_at text) (TypeOf text)
unfolding type_at
kind_of below text = record {
  found = λ tokens.
      let colon = quoted below text (codes ":") in
      let after = optional tokens (literal_at text (codes ":") tokens) in
      bound (Says (Whole text last_type) after) (Says (TypeOf text) tokens) (whole_at text last_type after) _
      ((whole below text last_type).found after) (λ kind a.
      bound (Quoted text (codes ";") kind.1) (Says (TypeOf text) tokens) (literal_at text (codes ";") kind.1) _
      ((quoted below text (codes ";")).found kind.1) (λ rest b.
      (after, optional_found (literal_at text (codes ":")) (Quoted text (codes ":")) colon tokens, (kind.1, a, b))));
  there = λ tokens kind rest part.
      let after = optional tokens (literal_at text (codes ":") tokens) in
      let same = optional_there (literal_at text (codes ":")) (Quoted text (codes ":")) (quoted below text (codes ":")) tokens part.0 part.1 in
      step (whole_at text last_type after) _ (kind, part.2.0) _
      (ap (whole_at text last_type) same ∙ (whole below text last_type).there part.0 kind part.2.0 part.2.1)
      (step (literal_at text (codes ";") part.2.0) _ rest _ ((quoted below text (codes ";")).there part.2.0 rest part.2.2) refl);
}

type_found : Pieces → (text : List ℕ) (tokens : List Token) → IfFound (Says (ParsesNote text) tokens) (value_type_at text tokens)
unfolding value_type_at
type_found below text tokens =
    bound (λ (found : ℕ × Token × List Token). Named text (codes "SIG_VALTYPE_") found.0 found.1 tokens found.2) (Says (ParsesNote text) tokens)
    (named_at text (codes "SIG_VALTYPE_") tokens) _ (named_found below text (codes "SIG_VALTYPE_") tokens) (λ named a.
    bound (Says (TypeOf text) named.2) (Says (ParsesNote text) tokens) (type_at text named.2) _ ((kind_of below text).found named.2) (λ kind b.
    (named.2, a, b)))

type_there : Pieces → (text : List ℕ) (id : ℕ) (signal : Token) (kind : ℕ) (tokens rest : List Token)
    → ValueType text id signal kind tokens rest
    → value_type_at text tokens ≡ Some (record { id = id; signal = signal; says = says.Type kind }, rest)
unfolding value_type_at
type_there below text id signal kind tokens rest (t, a, b) =
    step (named_at text (codes "SIG_VALTYPE_") tokens) _ (id, signal, t) _ (named_there below text (codes "SIG_VALTYPE_") id signal tokens t a)
    (step (type_at text t) _ (kind, rest) _ ((kind_of below text).there t kind rest b) refl)

-- ---- extended multiplexing

range : Pieces → (text : List ℕ) → Finds (range_at text) (ParsesRange text)
unfolding range_at
range below text = record {
  found = λ tokens.
      let number = whole below text last_range_value in
      bound (Says (Whole text last_range_value) tokens) (Says (ParsesRange text) tokens) (whole_at text last_range_value tokens) _
      (number.found tokens) (λ low a.
      bound (Quoted text (codes "-") low.1) (Says (ParsesRange text) tokens) (literal_at text (codes "-") low.1) _
      ((quoted below text (codes "-")).found low.1) (λ rest b.
      bound (Says (Whole text last_range_value) rest) (Says (ParsesRange text) tokens) (whole_at text last_range_value rest) _
      (number.found rest) (λ high c. (low.1, a, (rest, b, c)))));
  there = λ tokens r rest part.
      let number = whole below text last_range_value in
      step (whole_at text last_range_value tokens) _ (r.low, part.0) _ (number.there tokens r.low part.0 part.1)
      (step (literal_at text (codes "-") part.0) _ part.2.0 _ ((quoted below text (codes "-")).there part.0 part.2.0 part.2.1)
      (step (whole_at text last_range_value part.2.0) _ (r.high, rest) _ (number.there part.2.0 r.high rest part.2.2) refl));
}

next_range : Pieces → (text : List ℕ) → Finds (more_range_at text) (NextRange text)
unfolding more_range_at
next_range below text = record {
  found = λ tokens.
      bound (Quoted text (codes ",") tokens) (Says (NextRange text) tokens) (literal_at text (codes ",") tokens) _
      ((quoted below text (codes ",")).found tokens) (λ rest a.
      passed_on text tokens rest a (range_at text rest) ((range below text).found rest));
  there = λ tokens r rest part.
      step (literal_at text (codes ",") tokens) _ part.0 _ ((quoted below text (codes ",")).there tokens part.0 part.1)
      ((range below text).there part.0 r rest part.2);
} where
  passed_on : (text : List ℕ) (tokens rest : List Token) → Quoted text (codes ",") tokens rest → (o : Option (Range × List Token))
      → IfFound (Says (ParsesRange text) rest) o → IfFound (Says (NextRange text) tokens) o
  passed_on text tokens rest a None found = tt
  passed_on text tokens rest a (Some r) found = (rest, a, found)

ranges_found : Pieces → Runs Range → (text : List ℕ) (tokens : List Token) → IfFound (Says (Ranges text) tokens) (ranges_at text tokens)
unfolding ranges_at
ranges_found below runs text tokens =
    bound (Says (ParsesRange text) tokens) (Says (Ranges text) tokens) (range_at text tokens) _ ((range below text).found tokens) (λ first a.
    (first.1, a, each_found (more_range_at text) (NextRange text) (next_range below text) runs (more_range_takes text) first.1))

ranges_there : Pieces → Runs Range → (text : List ℕ) (tokens : List Token) (rs : List Range) (rest : List Token) → Ranges text rs tokens rest
    → ranges_at text tokens ≡ Some (rs, rest)
unfolding ranges_at
ranges_there below runs text tokens [] rest part = absurd part
ranges_there below runs text tokens (r ∷ rs) rest (t, a, b) =
    step (range_at text tokens) _ (r, t) _ ((range below text).there tokens r t a)
    (ap (λ (run : List Range × List Token). Some (put_first r run))
    (each_there (more_range_at text) (NextRange text) (next_range below text) runs (more_range_takes text) t rs rest b))

multiplexing_found : Pieces → Runs Range → (text : List ℕ) (tokens : List Token)
    → IfFound (Says (ParsesNote text) tokens) (multiplexing_at text tokens)
unfolding multiplexing_at
multiplexing_found below runs text tokens =
    bound (λ (found : ℕ × Token × List Token). Named text (codes "SG_MUL_VAL_") found.0 found.1 tokens found.2) (Says (ParsesNote text) tokens)
    (named_at text (codes "SG_MUL_VAL_") tokens) _ (named_found below text (codes "SG_MUL_VAL_") tokens) (λ named a.
    bound (Says (One IsWord) named.2) (Says (ParsesNote text) tokens) (word_at named.2) _ ((word below).found named.2) (λ multiplexor b.
    bound (Says (Ranges text) multiplexor.1) (Says (ParsesNote text) tokens) (ranges_at text multiplexor.1) _
    (ranges_found below runs text multiplexor.1) (λ rs c.
    bound (Quoted text (codes ";") rs.1) (Says (ParsesNote text) tokens) (literal_at text (codes ";") rs.1) _
    ((quoted below text (codes ";")).found rs.1) (λ rest d. (named.2, a, (multiplexor.1, b, (rs.1, c, d)))))))

multiplexing_there : Pieces → Runs Range → (text : List ℕ) (id : ℕ) (signal multiplexor : Token) (rs : List Range) (tokens rest : List Token)
    → Multiplexing text id signal multiplexor rs tokens rest
    → multiplexing_at text tokens ≡ Some (record { id = id; signal = signal; says = says.Below multiplexor rs }, rest)
unfolding multiplexing_at
multiplexing_there below runs text id signal multiplexor rs tokens rest (t, a, (u, b, (v, c, d))) =
    step (named_at text (codes "SG_MUL_VAL_") tokens) _ (id, signal, t) _ (named_there below text (codes "SG_MUL_VAL_") id signal tokens t a)
    (step (word_at t) _ (multiplexor, u) _ ((word below).there t multiplexor u b)
    (step (ranges_at text u) _ (rs, v) _ (ranges_there below runs text u rs v c)
    (step (literal_at text (codes ";") v) _ rest _ ((quoted below text (codes ";")).there v rest d) refl)))

-- ---- a note

as_texts : (text : List ℕ) (tokens : List Token) (o : Option (Note × List Token)) → IfFound (IsTexts text tokens) o
    → IfFound (Says (ParsesNote text) tokens) o
as_texts text tokens None found = tt
as_texts text tokens (Some x) found =
    let P : AnySays → Type 0 = λ s. ParsesSaid text x.0.id x.0.signal s tokens x.1 in
    subst P (sym found.says_is) found.parses

pub note_found : Pieces → Runs ValueText → Runs Range → (text : List ℕ) (tokens : List Token)
    → IfFound (Says (ParsesNote text) tokens) (note_at text tokens)
unfolding note_at
note_found below texts ranges text tokens =
    either_of (Says (ParsesNote text) tokens) (signal_texts_at text tokens) _
    (as_texts text tokens (signal_texts_at text tokens) (texts_found below texts text tokens))
    (either_of (Says (ParsesNote text) tokens) (value_type_at text tokens) (multiplexing_at text tokens) (type_found below text tokens)
    (multiplexing_found below ranges text tokens))

said_there : Pieces → Runs ValueText → Runs Range → (text : List ℕ) (id : ℕ) (signal : Token) (s : AnySays) (tokens rest : List Token)
    → ParsesSaid text id signal s tokens rest → note_at text tokens ≡ Some (record { id = id; signal = signal; says = s }, rest)
unfolding note_at
said_there below texts ranges text id signal (says.Texts list) tokens rest part =
    either_some (signal_texts_at text tokens) _ _ (texts_there below texts text id signal list tokens rest part)
said_there below texts ranges text id signal (says.Type kind) tokens rest part =
    let first = part.1.1 in
    either_none (signal_texts_at text tokens) _ _
    (texts_none text tokens (other_word below text (codes "SIG_VALTYPE_") (codes "VAL_") tokens part.1.0 first refl))
    (either_some (value_type_at text tokens) _ _ (type_there below text id signal kind tokens rest part))
said_there below texts ranges text id signal (says.Below multiplexor rs) tokens rest part =
    let first = part.1.1 in
    either_none (signal_texts_at text tokens) _ _
    (texts_none text tokens (other_word below text (codes "SG_MUL_VAL_") (codes "VAL_") tokens part.1.0 first refl))
    (either_none (value_type_at text tokens) _ _
    (type_none text tokens (other_word below text (codes "SG_MUL_VAL_") (codes "SIG_VALTYPE_") tokens part.1.0 first refl))
    (multiplexing_there below ranges text id signal multiplexor rs tokens rest part))

pub note_there : Pieces → Runs ValueText → Runs Range → (text : List ℕ) (note : Note) (tokens rest : List Token)
    → ParsesNote text note tokens rest → note_at text tokens ≡ Some (note, rest)
note_there below texts ranges text note tokens rest part = said_there below texts ranges text note.id note.signal note.says tokens rest part
