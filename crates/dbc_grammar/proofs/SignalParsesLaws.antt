-- The forms of messages and their signals find exactly those that are at the front of the tokens.
use Rattle.std.proofs.Common.{◌≡◌, ◌∙◌, sym, ap, subst, refl, arith, inl, inr, ℕ, ◌≤◌, Bool, true, false, ◌||◌, List}
use Rattle.std.specs.Prelude.{Option, Some, None, codes, nat_le, if◌then◌else◌}
use Rattle.std.specs.Option.{option_map}
use Rattle.std.proofs.lemmas.Bool.{and_parts, or_cases, leb-true}
use Rattle.multiplex_tree.specs.declared.mark.Mark.{Mark}
use Rattle.bench_model.specs.declared.database.Order.{Order}
use Rattle.bench_model.specs.declared.database.Order.TheVariants.{Intel, Motorola}
use Rattle.sig_text.specs.declared.token.Token.{Token}
use Rattle.sig_text.specs.declared.token.TokenKind.{TokenKind}
use Rattle.sig_text.specs.declared.token.TokenKind.TheVariants.{Word, Number, Str, Sign}
use Rattle.token_forms.specs.Pieces.{token_text, literal_at, word_at, string_at}
use Rattle.token_forms.specs.Numbers.{signed_at}
use Rattle.token_forms.specs.Runs.{run_of}
use Rattle.token_forms.specs.Grammar.{◌▸◌, Any, Each, One, Quoted, IsWord, IsString, Signed}
use Rattle.dbc_grammar.specs.declared.statement.Place.{Place}
use Rattle.dbc_grammar.specs.declared.statement.SignalForm.{SignalForm}
use Rattle.dbc_grammar.specs.declared.statement.Heading.{Heading}
use Rattle.dbc_grammar.specs.Words.{is_word_kind, is_free_word}
use Rattle.dbc_grammar.specs.Limits.{last_short_id, first_long_id}
use Rattle.dbc_grammar.specs.Statements.{Small, IsNode, IsMark, OptionalMark, order_digit, sign_of, ParsesPlace, ParsesScaling}
use Rattle.dbc_grammar.specs.Statements.{Limits, Receiver, Receivers, place_of_first, SignalHead, ParsesSignal, IsIdentifier}
use Rattle.dbc_grammar.specs.Statements.{ParsesHeading, ParsesMessage}
use Rattle.dbc_grammar.specs.Forms.{optional, small_at, mark_of, mark_by, mark_at, with_rest, order_at, signedness_at, place_at}
use Rattle.dbc_grammar.specs.Forms.{scaling_at, limits_at, node_at, receiver_at, receivers_by, receivers_at, signal_head_at, signal_at}
use Rattle.dbc_grammar.specs.Forms.{is_identifier, heading_at, message_at}
use Rattle.dbc_grammar.proofs.FormLaws.{IfFound, bound, either_of, mapped}
use Rattle.dbc_grammar.proofs.TakesLaws.{receiver_takes, signal_takes}
use Rattle.dbc_grammar.proofs.PartLaws.{Says, Finds, Ends, Pieces, Runs, if_found, step, none_or_some, lacks_any, none_any}
use Rattle.dbc_grammar.proofs.PartLaws.{optional_found, optional_there, each_found, each_there, quoted, word, string, signed}
use Rattle.dbc_grammar.proofs.NoteParsesLaws.{other_word, either_none, either_some, small}
use Rattle.dbc_grammar.proofs.MarkLaws.{Values, mark_found, mark_there}

-- ---- the mark

mark_by_found : Pieces → Values → (text : List ℕ) (tokens : List Token) (o : Option (Token × List Token)) → word_at tokens ≡ o
    → IfFound (Says (OptionalMark text) tokens) (mark_by text tokens o)
mark_by_found below values text tokens None e = inr (refl, refl, lacks_any word_at (One IsWord) (word below) tokens e)
mark_by_found below values text tokens (Some w) e =
    bound (IsMark (token_text text w.0)) (Says (OptionalMark text) tokens) (mark_of (token_text text w.0)) _
    (if_found (IsMark (token_text text w.0)) (mark_of (token_text text w.0)) (mark_found values (token_text text w.0)))
    (λ mark is. inl (w.0, (below.word tokens w.0 w.1).0 e, is))

mark_by_there : Pieces → Values → (text : List ℕ) (tokens : List Token) (mark : Mark) (rest : List Token) → OptionalMark text mark tokens rest
    → mark_at text tokens ≡ Some (mark, rest)
mark_by_there below values text tokens mark rest (inl (w, one, is)) =
    ap (mark_by text tokens) ((word below).there tokens w rest one)
    ∙ step (mark_of (token_text text w)) _ mark _ (mark_there values (token_text text w) mark is) refl
mark_by_there below values text tokens mark rest (inr (mark_is, same, lacks)) =
    ap (mark_by text tokens) (none_any word_at (One IsWord) (word below) tokens lacks)
    ∙ ap (λ (m : Mark). Some (m, tokens)) (sym mark_is) ∙ ap (λ (r : List Token). Some (mark, r)) same

mark_part : Pieces → Values → (text : List ℕ) → Finds (mark_at text) (OptionalMark text)
mark_part below values text = record {
  found = λ tokens. mark_by_found below values text tokens (word_at tokens) refl;
  there = mark_by_there below values text;
}

-- ---- the place

abbrev OrderPart : List ℕ → Order → List Token → List Token → Type 0
OrderPart text o = Quoted text (order_digit o)

abbrev SignPart : List ℕ → Bool → List Token → List Token → Type 0
SignPart text b = Quoted text (sign_of b)

order_there : Pieces → (text : List ℕ) (tokens : List Token) (o : Order) (rest : List Token) → OrderPart text o tokens rest
    → order_at text tokens ≡ Some (o, rest)
unfolding order_at
order_there below text tokens Intel rest q =
    either_some (option_map (with_rest Intel) (literal_at text (codes "1") tokens)) _ _
    (ap (option_map (with_rest Intel)) ((quoted below text (codes "1")).there tokens rest q))
order_there below text tokens Motorola rest q =
    either_none (option_map (with_rest Intel) (literal_at text (codes "1") tokens)) _ _
    (ap (option_map (with_rest Intel)) (other_word below text (codes "0") (codes "1") tokens rest q refl))
    (ap (option_map (with_rest Motorola)) ((quoted below text (codes "0")).there tokens rest q))

order_part : Pieces → (text : List ℕ) → Finds (order_at text) (OrderPart text)
unfolding order_at
order_part below text = record {
  found = λ tokens.
      let Q : Order × List Token → Type 0 = Says (OrderPart text) tokens in
      either_of Q (option_map (with_rest Intel) (literal_at text (codes "1") tokens)) _
      (mapped (Quoted text (codes "1") tokens) Q (with_rest Intel) (literal_at text (codes "1") tokens)
      ((quoted below text (codes "1")).found tokens) (λ rest q. q))
      (mapped (Quoted text (codes "0") tokens) Q (with_rest Motorola) (literal_at text (codes "0") tokens)
      ((quoted below text (codes "0")).found tokens) (λ rest q. q));
  there = order_there below text;
}

sign_there : Pieces → (text : List ℕ) (tokens : List Token) (b : Bool) (rest : List Token) → SignPart text b tokens rest
    → signedness_at text tokens ≡ Some (b, rest)
unfolding signedness_at
sign_there below text tokens false rest q =
    either_some (option_map (with_rest false) (literal_at text (codes "+") tokens)) _ _
    (ap (option_map (with_rest false)) ((quoted below text (codes "+")).there tokens rest q))
sign_there below text tokens true rest q =
    either_none (option_map (with_rest false) (literal_at text (codes "+") tokens)) _ _
    (ap (option_map (with_rest false)) (other_word below text (codes "-") (codes "+") tokens rest q refl))
    (ap (option_map (with_rest true)) ((quoted below text (codes "-")).there tokens rest q))

sign_part : Pieces → (text : List ℕ) → Finds (signedness_at text) (SignPart text)
unfolding signedness_at
sign_part below text = record {
  found = λ tokens.
      let Q : Bool × List Token → Type 0 = Says (SignPart text) tokens in
      either_of Q (option_map (with_rest false) (literal_at text (codes "+") tokens)) _
      (mapped (Quoted text (codes "+") tokens) Q (with_rest false) (literal_at text (codes "+") tokens)
      ((quoted below text (codes "+")).found tokens) (λ rest q. q))
      (mapped (Quoted text (codes "-") tokens) Q (with_rest true) (literal_at text (codes "-") tokens)
      ((quoted below text (codes "-")).found tokens) (λ rest q. q));
  there = sign_there below text;
}

place_part : Pieces → (text : List ℕ) → Finds (place_at text) (ParsesPlace text)
unfolding place_at
place_part below text = record {
  found = λ tokens.
      let Q : Place × List Token → Type 0 = Says (ParsesPlace text) tokens in
      bound (Says (Small text) tokens) Q (small_at text tokens) _ ((small below text).found tokens) (λ start a.
      bound (Quoted text (codes "|") start.1) Q (literal_at text (codes "|") start.1) _ ((quoted below text (codes "|")).found start.1) (λ t b.
      bound (Says (Small text) t) Q (small_at text t) _ ((small below text).found t) (λ size c.
      bound (Quoted text (codes "@") size.1) Q (literal_at text (codes "@") size.1) _ ((quoted below text (codes "@")).found size.1) (λ u d.
      bound (Says (OrderPart text) u) Q (order_at text u) _ ((order_part below text).found u) (λ order e.
      bound (Says (SignPart text) order.1) Q (signedness_at text order.1) _ ((sign_part below text).found order.1) (λ sign f.
      (start.1, a, (t, b, (size.1, c, (u, d, (order.1, e, f)))))))))));
  there = λ tokens p rest part.
      let b = part.2 in
      let c = b.2 in
      let d = c.2 in
      let e = d.2 in
      step (small_at text tokens) _ (p.start, part.0) _ ((small below text).there tokens p.start part.0 part.1)
      (step (literal_at text (codes "|") part.0) _ b.0 _ ((quoted below text (codes "|")).there part.0 b.0 b.1)
      (step (small_at text b.0) _ (p.size, c.0) _ ((small below text).there b.0 p.size c.0 c.1)
      (step (literal_at text (codes "@") c.0) _ d.0 _ ((quoted below text (codes "@")).there c.0 d.0 d.1)
      (step (order_at text d.0) _ (p.order, e.0) _ (order_there below text d.0 p.order e.0 e.1)
      (step (signedness_at text e.0) _ (p.signed, rest) _ (sign_there below text e.0 p.signed rest e.2) refl)))));
}

-- ---- the scaling and the limits

scaling_part : Pieces → (text : List ℕ) → Finds (scaling_at text) (ParsesScaling text)
unfolding scaling_at
scaling_part below text = record {
  found = λ tokens.
      let Q = Says (ParsesScaling text) tokens in
      bound (Quoted text (codes "(") tokens) Q (literal_at text (codes "(") tokens) _ ((quoted below text (codes "(")).found tokens) (λ t a.
      bound (Says (Signed text) t) Q (signed_at text t) _ ((signed below text).found t) (λ factor b.
      bound (Quoted text (codes ",") factor.1) Q (literal_at text (codes ",") factor.1) _ ((quoted below text (codes ",")).found factor.1) (λ u c.
      bound (Says (Signed text) u) Q (signed_at text u) _ ((signed below text).found u) (λ offset d.
      bound (Quoted text (codes ")") offset.1) Q (literal_at text (codes ")") offset.1) _ ((quoted below text (codes ")")).found offset.1) (λ rest e.
      (t, a, (factor.1, b, (u, c, (offset.1, d, e)))))))));
  there = λ tokens s rest part.
      let b = part.2 in
      let c = b.2 in
      let d = c.2 in
      step (literal_at text (codes "(") tokens) _ part.0 _ ((quoted below text (codes "(")).there tokens part.0 part.1)
      (step (signed_at text part.0) _ (s.factor, b.0) _ ((signed below text).there part.0 s.factor b.0 b.1)
      (step (literal_at text (codes ",") b.0) _ c.0 _ ((quoted below text (codes ",")).there b.0 c.0 c.1)
      (step (signed_at text c.0) _ (s.offset, d.0) _ ((signed below text).there c.0 s.offset d.0 d.1)
      (step (literal_at text (codes ")") d.0) _ rest _ ((quoted below text (codes ")")).there d.0 rest d.2) refl))));
}

limits_part : Pieces → (text : List ℕ) → Ends (limits_at text) (Limits text)
unfolding limits_at
limits_part below text = record {
  found = λ tokens.
      let Q : List Token → Type 0 = Limits text tokens in
      bound (Quoted text (codes "[") tokens) Q (literal_at text (codes "[") tokens) _ ((quoted below text (codes "[")).found tokens) (λ t a.
      bound (Says (Signed text) t) Q (signed_at text t) _ ((signed below text).found t) (λ low b.
      bound (Quoted text (codes "|") low.1) Q (literal_at text (codes "|") low.1) _ ((quoted below text (codes "|")).found low.1) (λ u c.
      bound (Says (Signed text) u) Q (signed_at text u) _ ((signed below text).found u) (λ high d.
      closed text tokens t low.1 u high.1 a (low.0, b) c (high.0, d) (literal_at text (codes "]") high.1)
      ((quoted below text (codes "]")).found high.1)))));
  there = λ tokens rest part.
      let b = part.2 in
      let c = b.2 in
      let d = c.2 in
      step (literal_at text (codes "[") tokens) _ part.0 _ ((quoted below text (codes "[")).there tokens part.0 part.1)
      (step (signed_at text part.0) _ (b.1.0, b.0) _ ((signed below text).there part.0 b.1.0 b.0 b.1.1)
      (step (literal_at text (codes "|") b.0) _ c.0 _ ((quoted below text (codes "|")).there b.0 c.0 c.1)
      (step (signed_at text c.0) _ (d.1.0, d.0) _ ((signed below text).there c.0 d.1.0 d.0 d.1.1)
      ((quoted below text (codes "]")).there d.0 rest d.2))));
} where
  closed : (text : List ℕ) (tokens t u v w : List Token) → Quoted text (codes "[") tokens t → Any (Signed text) t u
      → Quoted text (codes "|") u v → Any (Signed text) v w → (o : Option (List Token)) → IfFound (Quoted text (codes "]") w) o
      → IfFound (Limits text tokens) o
  closed text tokens t u v w a b c d None e = tt
  closed text tokens t u v w a b c d (Some rest) e = (t, a, (u, b, (v, c, (w, d, e))))

-- ---- receivers

word_kind : (k : TokenKind) → is_word_kind k ≡ true → k ≡ Word
word_kind Word e = refl
word_kind Number e = absurd cc
word_kind Str e = absurd cc
word_kind Sign e = absurd cc

pub where_is : {A : Type 0} (Q : A → Type 0) (b : Bool) (x : Option A) → (b ≡ true → IfFound Q x) → IfFound Q (if b then x else None)
where_is Q true x each = each refl
where_is Q false x each = tt

pub node_part : Pieces → (text : List ℕ) → Finds (node_at text) (One (IsNode text))
unfolding node_at
node_part below text = record {
  found = λ tokens.
      let Q : Token × List Token → Type 0 = Says (One (IsNode text)) tokens in
      bound (Says (One IsWord) tokens) Q (word_at tokens) _ ((word below).found tokens) (λ w a.
      where_is Q (is_free_word text w.0) (Some w) (λ is. (a.0, is)));
  there = λ tokens n rest part.
      let parts = and_parts (is_word_kind n.kind) _ part.1 in
      step (word_at tokens) _ (n, rest) _ ((word below).there tokens n rest (part.0, word_kind n.kind parts.0))
      (ap (λ (b : Bool). if b then Some (n, rest) else None) part.1);
}

pub on_found : {A : Type 0} (P Q : A → Type 0) (o : Option A) → IfFound P o → ((x : A) → P x → Q x) → IfFound Q o
on_found P Q None found each = tt
on_found P Q (Some x) found each = each x found

receiver_part : Pieces → (text : List ℕ) → Finds (receiver_at text) (Receiver text)
unfolding receiver_at
receiver_part below text = record {
  found = λ tokens.
      let after = optional tokens (literal_at text (codes ",") tokens) in
      let comma = optional_found (literal_at text (codes ",")) (Quoted text (codes ",")) (quoted below text (codes ",")) tokens in
      on_found (Says (One (IsNode text)) after) (Says (Receiver text) tokens) (node_at text after) ((node_part below text).found after)
      (λ n a. (after, comma, a));
  there = λ tokens n rest part.
      ap (node_at text) (optional_there (literal_at text (codes ",")) (Quoted text (codes ",")) (quoted below text (codes ",")) tokens part.0 part.1)
      ∙ (node_part below text).there part.0 n rest part.2;
}

abbrev SomeReceivers : List ℕ → List Token → List Token → Type 0
SomeReceivers text = Any (One (IsNode text)) ▸ Any (Each (Receiver text))

receivers_by_found : Pieces → Runs Token → (text : List ℕ) (tokens : List Token) (o : Option (Token × List Token)) → node_at text tokens ≡ o
    → Receivers text tokens (receivers_by text tokens o)
receivers_by_found below runs text tokens None e =
    inr (refl, λ rest some. lacks_any (node_at text) (One (IsNode text)) (node_part below text) tokens e some.0 some.1)
receivers_by_found below runs text tokens (Some n) e =
    let run = run_of (receiver_at text) n.1 in
    let P : Option (Token × List Token) → Type 0 = IfFound (Says (One (IsNode text)) tokens) in
    inl (
      n.1,
      (n.0, subst P e ((node_part below text).found tokens)),
      (run.0, each_found (receiver_at text) (Receiver text) (receiver_part below text) runs (receiver_takes text) n.1),
    )

pub receivers_found : Pieces → Runs Token → (text : List ℕ) (tokens : List Token) → Receivers text tokens (receivers_at text tokens)
unfolding receivers_at
receivers_found below runs text tokens = receivers_by_found below runs text tokens (node_at text tokens) refl

pub receivers_there : Pieces → Runs Token → (text : List ℕ) (tokens rest : List Token) → Receivers text tokens rest → receivers_at text tokens ≡ rest
unfolding receivers_at
receivers_there below runs text tokens rest (inl (between, (n, one), (rs, each))) =
    ap (receivers_by text tokens) ((node_part below text).there tokens n between one)
    ∙ ap (λ (r : List Token × List Token). r.1)
    (each_there (receiver_at text) (Receiver text) (receiver_part below text) runs (receiver_takes text) between rs rest each)
receivers_there below runs text tokens rest (inr (same, lacks)) = elim (none_or_some (node_at text tokens)) [
  | inl none ↦ ap (receivers_by text tokens) none ∙ same
  | inr (n, e) ↦
      let run = run_of (receiver_at text) n.1 in
      let P : Option (Token × List Token) → Type 0 = IfFound (Says (One (IsNode text)) tokens) in
      absurd (lacks run.1 (
        n.1,
        (n.0, subst P e ((node_part below text).found tokens)),
        (run.0, each_found (receiver_at text) (Receiver text) (receiver_part below text) runs (receiver_takes text) n.1),
      ))
]

-- ---- a signal

head_found : Pieces → Values → (text : List ℕ) (tokens : List Token)
    → IfFound (λ (h : Token × Mark × List Token). SignalHead text h.0 h.1 tokens h.2) (signal_head_at text tokens)
unfolding signal_head_at
head_found below values text tokens =
    let Q : Token × Mark × List Token → Type 0 = λ h. SignalHead text h.0 h.1 tokens h.2 in
    bound (Quoted text (codes "SG_") tokens) Q (literal_at text (codes "SG_") tokens) _ ((quoted below text (codes "SG_")).found tokens) (λ t a.
    bound (Says (One IsWord) t) Q (word_at t) _ ((word below).found t) (λ name b.
    bound (Says (OptionalMark text) name.1) Q (mark_at text name.1) _ ((mark_part below values text).found name.1) (λ mark c.
    bound (Quoted text (codes ":") mark.1) Q (literal_at text (codes ":") mark.1) _ ((quoted below text (codes ":")).found mark.1) (λ rest d.
    (t, a, (name.1, b, (mark.1, c, d)))))))

head_there : Pieces → Values → (text : List ℕ) (name : Token) (mark : Mark) (tokens rest : List Token) → SignalHead text name mark tokens rest
    → signal_head_at text tokens ≡ Some (name, mark, rest)
unfolding signal_head_at
head_there below values text name mark tokens rest (t, a, (u, b, (v, c, d))) =
    step (literal_at text (codes "SG_") tokens) _ t _ ((quoted below text (codes "SG_")).there tokens t a)
    (step (word_at t) _ (name, u) _ ((word below).there t name u b)
    (step (mark_at text u) _ (mark, v) _ ((mark_part below values text).there u mark v c)
    (step (literal_at text (codes ":") v) _ rest _ ((quoted below text (codes ":")).there v rest d) refl)))

abbrev signal_with : List ℕ → ℕ → SignalForm → List Token → SignalForm × List Token
signal_with text n s left = (
  record { at = n; name = s.name; mark = s.mark; place = s.place; scaling = s.scaling; unit = s.unit },
  receivers_at text left,
)

pub signal_part : Pieces → Values → Runs Token → (text : List ℕ) → Finds (signal_at text) (ParsesSignal text)
unfolding signal_at
signal_part below values runs text = record {
  found = λ tokens.
      let Q : SignalForm × List Token → Type 0 = Says (ParsesSignal text) tokens in
      bound (λ (h : Token × Mark × List Token). SignalHead text h.0 h.1 tokens h.2) Q (signal_head_at text tokens) _
      (head_found below values text tokens) (λ head a.
      bound (Says (ParsesPlace text) head.2) Q (place_at text head.2) _ ((place_part below text).found head.2) (λ place b.
      bound (Says (ParsesScaling text) place.1) Q (scaling_at text place.1) _ ((scaling_part below text).found place.1) (λ scaling c.
      bound (Limits text scaling.1) Q (limits_at text scaling.1) _ ((limits_part below text).found scaling.1) (λ t d.
      bound (Says (One IsString) t) Q (string_at t) _ ((string below).found t) (λ unit e.
      (refl, (head.2, a, (place.1, b, (scaling.1, c, (t, d, (unit.1, e, receivers_found below runs text unit.1)))))))))));
  there = λ tokens s rest part.
      let a = part.1 in
      let b = a.2 in
      let c = b.2 in
      let d = c.2 in
      let e = d.2 in
      step (signal_head_at text tokens) _ (s.name, s.mark, a.0) _ (head_there below values text s.name s.mark tokens a.0 a.1)
      (step (place_at text a.0) _ (s.place, b.0) _ ((place_part below text).there a.0 s.place b.0 b.1)
      (step (scaling_at text b.0) _ (s.scaling, c.0) _ ((scaling_part below text).there b.0 s.scaling c.0 c.1)
      (step (limits_at text c.0) _ d.0 _ ((limits_part below text).there c.0 d.0 d.1)
      (step (string_at d.0) _ (s.unit, e.0) _ ((string below).there d.0 s.unit e.0 e.1)
      (finished text tokens s e.0 rest part.0 (receivers_there below runs text e.0 rest e.2))))));
} where
  finished : (text : List ℕ) (tokens : List Token) (s : SignalForm) (left rest : List Token) → s.at ≡ place_of_first tokens
      → receivers_at text left ≡ rest
      → Some (signal_with text (place_of_first tokens) s left) ≡ Some (s, rest)
  finished text tokens s left rest at after =
      let F : List Token → SignalForm × List Token = λ r. (s, r) in
      ap (λ n. Some (signal_with text n s left)) (sym at) ∙ ap (λ (r : List Token). Some (F r)) after

-- ---- a message

identifier_found : (id : ℕ) → is_identifier id ≡ true → IsIdentifier id
identifier_found id e = elim (or_cases (nat_le id last_short_id) (nat_le first_long_id id) e) [
  | inl short ↦ inl (leb-true id last_short_id short)
  | inr long ↦ inr (leb-true first_long_id id long)
]

le_true : (a b : ℕ) → a ≤ b → nat_le a b ≡ true
le_true a b le = grind (arith, le)

or_true : (b : Bool) → (b || true) ≡ true
or_true true = refl
or_true false = refl

identifier_there : (id : ℕ) → IsIdentifier id → is_identifier id ≡ true
identifier_there id (inl short) = ap (λ b. b || nat_le first_long_id id) (le_true id last_short_id short)
identifier_there id (inr long) =
    ap (λ b. nat_le id last_short_id || b) (le_true first_long_id id long) ∙ or_true (nat_le id last_short_id)

heading_part : Pieces → (text : List ℕ) → Finds (heading_at text) (ParsesHeading text)
unfolding heading_at
heading_part below text = record {
  found = λ tokens.
      let Q : Heading × List Token → Type 0 = Says (ParsesHeading text) tokens in
      bound (Quoted text (codes "BO_") tokens) Q (literal_at text (codes "BO_") tokens) _ ((quoted below text (codes "BO_")).found tokens) (λ t a.
      bound (Says (Small text) t) Q (small_at text t) _ ((small below text).found t) (λ id b.
      bound (Says (One IsWord) id.1) Q (word_at id.1) _ ((word below).found id.1) (λ name c.
      bound (Quoted text (codes ":") name.1) Q (literal_at text (codes ":") name.1) _ ((quoted below text (codes ":")).found name.1) (λ u d.
      bound (Says (Small text) u) Q (small_at text u) _ ((small below text).found u) (λ count e.
      bound (Says (One IsWord) count.1) Q (word_at count.1) _ ((word below).found count.1) (λ sender f.
      where_is Q (is_identifier id.0) _ (λ is.
      (identifier_found id.0 is, (t, a, (id.1, b, (name.1, c, (u, d, (count.1, e, (sender.0, f))))))))))))));
  there = λ tokens h rest part.
      let a = part.1 in
      let b = a.2 in
      let c = b.2 in
      let d = c.2 in
      let e = d.2 in
      step (literal_at text (codes "BO_") tokens) _ a.0 _ ((quoted below text (codes "BO_")).there tokens a.0 a.1)
      (step (small_at text a.0) _ (h.id, b.0) _ ((small below text).there a.0 h.id b.0 b.1)
      (step (word_at b.0) _ (h.name, c.0) _ ((word below).there b.0 h.name c.0 c.1)
      (step (literal_at text (codes ":") c.0) _ d.0 _ ((quoted below text (codes ":")).there c.0 d.0 d.1)
      (step (small_at text d.0) _ (h.byte_count, e.0) _ ((small below text).there d.0 h.byte_count e.0 e.1)
      (step (word_at e.0) _ (e.2.0, rest) _ ((word below).there e.0 e.2.0 rest e.2.1)
      (ap (λ (b : Bool). if b then Some (h, rest) else None) (identifier_there h.id part.0)))))));
}

pub message_part : Pieces → Values → Runs Token → Runs SignalForm → (text : List ℕ) → Finds (message_at text) (ParsesMessage text)
unfolding message_at
message_part below values tokens_run signals_run text = record {
  found = λ tokens.
      bound (Says (ParsesHeading text) tokens) (Says (ParsesMessage text) tokens) (heading_at text tokens) _ ((heading_part below text).found tokens)
      (λ h a. (h.1, a, each_found (signal_at text) (ParsesSignal text) (signal_part below values tokens_run text) signals_run (signal_takes text) h.1));
  there = λ tokens m rest part.
      let run = each_there (signal_at text) (ParsesSignal text) (signal_part below values tokens_run text) signals_run (signal_takes text)
      part.0 m.signals rest part.2 in
      step (heading_at text tokens) _ (m.heading, part.0) _ ((heading_part below text).there tokens m.heading part.0 part.1)
      (ap (λ (r : List SignalForm × List Token). Some (record { heading = m.heading; signals = r.0 }, r.1)) run);
}
