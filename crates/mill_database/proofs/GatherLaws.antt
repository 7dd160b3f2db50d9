-- The statements of the generated text make the generated database.
use Rattle.std.proofs.Common.{◌≡◌, ℕ, zero, suc, ◌+◌, ◌-◌, ◌<◌, ◌≤◌, ◌⊎◌, inl, inr, Bool, true, false, List, [], ◌∷◌, ◌++◌, length, take, drop, sym, refl, ap, ◌∙◌, subst, arith}
use Rattle.std.specs.Prelude.{Option, Some, None, Ok, slice_index_or, IsTrue, IsUtf8, ◌↔◌, ◌==◌, ◌&&◌, nat_lt, map, replicate, codes, decimal, if◌then◌else◌}
use Rattle.std.specs.List.{flat_map, range_with_len, list_all, enumerate_from, AllZip}
use Rattle.std.specs.Str.{IsAscii}
use Rattle.std.proofs.lemmas.Bool.{and_parts, ltb-true, lt-ltb, cond-true, cond-false, ne_eqb}
use Rattle.std.proofs.lemmas.Fmt.{IsAscii-decimal}
use Rattle.std.proofs.lemmas.Str.{IsUtf8-append, IsUtf8-nil, IsUtf8-from_ascii}
use Rattle.exact_scale.specs.declared.scaling.Scale.{Scale}
use Rattle.multiplex_tree.specs.declared.mark.Link.{Link}
use Rattle.multiplex_tree.specs.declared.mark.Mark.{Mark}
use Rattle.multiplex_tree.specs.Fault.{IsTree}
use Rattle.multiplex_tree.specs.Trees.{IsTreeOver}
use Rattle.multiplex_tree.specs.Parents.{AreParents, parent_by_rules}
use Rattle.bench_model.specs.declared.database.Key.{Key}
use Rattle.bench_model.specs.declared.database.Signal.{Signal}
use Rattle.bench_model.specs.declared.database.Message.{Message}
use Rattle.bench_model.specs.declared.database.Coding.TheVariants.{Scaled}
use Rattle.sig_text.specs.Content.{content_of, encoded, unescaped}
use Rattle.token_forms.specs.Pieces.{token_text}
use Rattle.token_forms.specs.Grammar.{Any, Lacks, Each}
use Rattle.token_forms.specs.Scaling.{IsScaling}
use Rattle.dbc_grammar.specs.declared.statement.Statement.{Statement}
use Rattle.dbc_grammar.specs.declared.statement.Statement.TheVariants as statement
use Rattle.dbc_grammar.specs.declared.statement.Note.{Note}
use Rattle.dbc_grammar.specs.declared.statement.SignalForm.{SignalForm}
use Rattle.dbc_grammar.specs.declared.statement.MessageForm.{MessageForm}
use Rattle.dbc_grammar.specs.Limits.{first_long_id}
use Rattle.dbc_grammar.specs.Statements.{no_mark, Parses}
use Rattle.dbc_grammar.specs.Naming.{Noted, independent, is_place, key_of, message_key, noted_in, places_in, notes_on, is_first_message}
use Rattle.dbc_grammar.specs.Gather.{messages_in, notes_in, messages_of, notes_of, links_in, signal_links, message_links, message_marks, IsSignalOf, IsSignalAt}
use Rattle.dbc_grammar.specs.Contract.{IsMessageAt, Gathers, AreStatements, IsDatabaseOf}
use Rattle.mill_database.specs.GeneratedText.{message_count, id_of, message_name, message_line, signal_lines, message_text, generated_text}
use Rattle.mill_database.specs.GeneratedDatabase.{signal, generated_message, generated_database}
use Rattle.mill_database.proofs.PieceLaws.{Piece, token_of, tokens_of, HasTexts}
use Rattle.mill_database.proofs.BlockLaws.{string, blank, file_pieces, generated_tokens, generated_texts}
use Rattle.mill_database.proofs.StatementLaws.{SignalText, SignalTexts, signal_form, signed_bytes, MessageTexts, message_texts, message_form, message_end, file_forms, file_parses, unit_at, s0, s1, s2, s3, s0_at, s1_at, s2_at, s3_at}
use Rattle.mill_database.proofs.ScaleLaws.{half_scale, forty_scale, quarter_scale, one_scale}
use Rattle.mill_database.proofs.ValidLaws.{is_made, keeps_rules}
use Rattle.bench_model.specs.Check.{IsValid}

-- ---- signals

abbrev the_none : List Note
the_none = []

no_notes : (b : Bool) → (if b then the_none else the_none) ≡ the_none
no_notes true = refl
no_notes false = refl

-- a unit without bytes
no_unit : (text : List ℕ) (at : ℕ) → content_of text (token_of at (string (34 ∷ 34 ∷ []) blank)) true ≡ []
no_unit text at =
    let none : at + 2 - 1 - (at + 1) ≡ 0 = omega arith in
    ap (λ n. flat_map (encoded true) (unescaped (take n (drop (at + 1) text)))) none

signal_is : (text : List ℕ) (at : ℕ) (s : SignalText) (scale : Scale) → SignalTexts text at s → IsScaling s.factor (signed_bytes s.minus s.offset) scale → IsSignalOf text true (signal_form at s) [] (signal s.name s.place s.order s.signed scale)
signal_is text at s scale texts is = record {
  name = sym texts.name;
  start = refl;
  size = refl;
  order = refl;
  signed = refl;
  float = refl;
  scale = scale;
  is_scale = rw (texts.factor, texts.offset) is;
  coding = ap (λ unit. Scaled scale unit []) (sym (no_unit text (unit_at at s)));
}

-- where there are no notes at all
signal_at : (text : List ℕ) (named : Bool) (m : MessageForm) (j at : ℕ) (s : SignalText) (scale : Scale) → SignalTexts text at s → IsScaling s.factor (signed_bytes s.minus s.offset) scale
    → IsSignalAt text true (noted_in text []) named m (j, signal_form at s) (signal s.name s.place s.order s.signed scale)
signal_at text named m j at s scale texts is =
    subst (λ notes. IsSignalOf text true (signal_form at s) notes (signal s.name s.place s.order s.signed scale)) (sym (no_notes (named && is_place j (places_in text m (token_text text (signal_form at s).name))))) (signal_is text at s scale texts is)

-- ---- messages

flat_none : {A B : Type 0} (f : A → List B) → ((x : A) → f x ≡ []) → (xs : List A) → flat_map f xs ≡ []
flat_none f none [] = refl
flat_none f none (x ∷ xs) = ap (λ ys. ys ++ flat_map f xs) (none x) ∙ flat_none f none xs

no_links : (text : List ℕ) (named : Bool) (m : MessageForm) → message_links text (noted_in text []) named m ≡ []
no_links text named m = flat_none (signal_links text (noted_in text []) named m) (λ x. ap (λ notes. flat_map (links_in text (places_in text m) x.0) notes) (no_notes (named && is_place x.0 (places_in text m (token_text text x.1.name))))) (enumerate_from 0 m.signals)

abbrev four_marks : List Mark
four_marks = no_mark ∷ no_mark ∷ no_mark ∷ no_mark ∷ []

each_parent : (i : ℕ) → i < 4 → parent_by_rules four_marks [] i ≡ Ok (slice_index_or (replicate 4 None) i None)
each_parent zero less = refl
each_parent (suc zero) less = refl
each_parent (suc (suc zero)) less = refl
each_parent (suc (suc (suc zero))) less = refl
each_parent (suc (suc (suc (suc i)))) less = absurd (omega arith)

no_parents : IsTreeOver 4 (replicate 4 None) → IsTree four_marks [] (replicate 4 None)
no_parents tree = record { parents = record { number = refl; each = each_parent }; shallow = tree.shallow }

short_key : (id : ℕ) → id < 2000 → key_of id ≡ record { extended = false; id = id }
short_key id less = cond-true (nat_lt id first_long_id) _ _ (lt-ltb id first_long_id (omega arith))

message_is : (text : List ℕ) (messages : List MessageForm) (i at j : ℕ) (more : List Piece) → j < 1000 → IsTreeOver 4 (replicate 4 None) → MessageTexts text at j more
    → IsMessageAt text true (noted_in text []) messages (i, message_form at j) (generated_message j)
message_is text messages i at j more small tree texts =
    let named = is_first_message messages i (message_form at j) in
    record {
      name = sym texts.name;
      key = sym (short_key (id_of j) (omega arith));
      byte_count = refl;
      signals = (
        signal_at text named (message_form at j) 0 (s0_at at j) s0 _ texts.first half_scale,
        (
          signal_at text named (message_form at j) 1 (s1_at at j) s1 _ texts.second forty_scale,
          (signal_at text named (message_form at j) 2 (s2_at at j) s2 _ texts.third quarter_scale, (signal_at text named (message_form at j) 3 (s3_at at j) s3 _ texts.fourth one_scale, tt)),
        ),
      );
      tree = subst (λ (links : List Link). IsTree four_marks links (replicate 4 None)) (sym (no_links text named (message_form at j))) (no_parents tree);
    }

file_is : (text : List ℕ) (messages : List MessageForm) (i at a n : ℕ) → a + n < 1000 → IsTreeOver 4 (replicate 4 None) → HasTexts text at (file_pieces a n)
    → AllZip (IsMessageAt text true (noted_in text []) messages) (enumerate_from i (file_forms at a n)) (map generated_message (range_with_len a n))
unfolding file_pieces file_forms
file_is text messages i at a zero small tree h = tt
file_is text messages i at a (suc n) small tree h =
    let texts = message_texts text at a (file_pieces (a + 1) n) h in
    (message_is text messages i at a (file_pieces (a + 1) n) (omega arith) tree texts, file_is text messages (i + 1) (message_end at a) (a + 1) n (omega arith) tree texts.later)

-- ---- statements

messages_are : (at a n : ℕ) → a + n < 1000 → messages_of (map statement.Message (file_forms at a n)) ≡ file_forms at a n
unfolding file_forms
messages_are at a zero small = refl
messages_are at a (suc n) small =
    ap (λ xs. xs ++ messages_of (map statement.Message (file_forms (message_end at a) (a + 1) n)))
    (cond-false (id_of a == independent) [] (message_form at a ∷ []) (ne_eqb (id_of a) independent (λ e. omega arith)))
    ∙ ap (λ xs. message_form at a ∷ xs) (messages_are (message_end at a) (a + 1) n (omega arith))

notes_are : (forms : List MessageForm) → notes_of (map statement.Message forms) ≡ []
notes_are [] = refl
notes_are (m ∷ forms) = notes_are forms

-- ---- bytes

ascii : (bytes : List ℕ) → list_all (λ b. nat_lt b 128) bytes ≡ true → IsAscii bytes
ascii [] h i = omega arith
ascii (b ∷ bytes) h zero = ltb-true b 128 (and_parts (nat_lt b 128) (list_all (λ b. nat_lt b 128) bytes) h).0
ascii (b ∷ bytes) h (suc i) = ascii bytes (and_parts (nat_lt b 128) (list_all (λ b. nat_lt b 128) bytes) h).1 i

message_utf8 : (j : ℕ) → j < 1000 → IsUtf8 (message_text j)
unfolding message_text signal_lines
message_utf8 j small =
    let first = IsUtf8-from_ascii (codes "BO_ ") (ascii (codes "BO_ ") refl) in
    let id = IsUtf8-from_ascii (decimal (id_of j)) (IsAscii-decimal (id_of j) (omega arith)) in
    let number = IsUtf8-from_ascii (decimal j) (IsAscii-decimal j (omega arith)) in
    let blank_is = IsUtf8-from_ascii (codes " ") (ascii (codes " ") refl) in
    let letter = IsUtf8-from_ascii (codes "M") (ascii (codes "M") refl) in
    let end = IsUtf8-from_ascii (codes ": 8 Mill\n") (ascii (codes ": 8 Mill\n") refl) in
    let name = IsUtf8-append (codes "M") (decimal j) letter number in
    let line = IsUtf8-append _ _ first (IsUtf8-append _ _ id (IsUtf8-append _ _ blank_is (IsUtf8-append _ _ name end))) in
    IsUtf8-append (message_line j) signal_lines line (IsUtf8-from_ascii signal_lines (ascii signal_lines refl))

text_utf8 : (a n : ℕ) → a + n < 1000 → IsUtf8 (flat_map message_text (range_with_len a n))
text_utf8 a zero small = IsUtf8-nil
text_utf8 a (suc n) small = IsUtf8-append (message_text a) _ (message_utf8 a (omega arith)) (text_utf8 (a + 1) n (omega arith))

whole_utf8 : IsUtf8 generated_text
unfolding generated_text
whole_utf8 = text_utf8 0 message_count (omega arith)

-- ---- the whole

abbrev forms : List MessageForm
forms = file_forms 0 0 message_count

abbrev statements : List Statement
statements = map statement.Message forms

gathers : IsTreeOver 4 (replicate 4 None) → Gathers generated_text statements generated_database
unfolding generated_database
gathers tree =
    let database = map generated_message (range_with_len 0 message_count) in
    let own : AllZip (IsMessageAt generated_text true (noted_in generated_text []) forms) (enumerate_from 0 forms) database = file_is generated_text forms 0 0 0 message_count (omega arith) tree generated_texts in
    let noted : AllZip (IsMessageAt generated_text true (noted_in generated_text (notes_of statements)) forms) (enumerate_from 0 forms) database =
    subst (λ notes. AllZip (IsMessageAt generated_text true (noted_in generated_text notes) forms) (enumerate_from 0 forms) database) (sym (notes_are forms)) own in
    record {
      utf8 = true;
      is_utf8 = (λ t. whole_utf8, λ u. refl);
      messages = subst (λ ms. AllZip (IsMessageAt generated_text true (noted_in generated_text (notes_of statements)) ms) (enumerate_from 0 ms) database) (sym (messages_are 0 0 message_count (omega arith))) noted;
    }

-- where no statement is without tokens, trees are made without parents, and databases that keep the rules are valid
pub is_database : Lacks (Any (Parses generated_text)) [] → ((n : ℕ) → IsTreeOver n (replicate n None)) → IsValid generated_database → IsDatabaseOf generated_text generated_database
is_database none tree valid = record {
  statements = statements;
  are_statements = record { tokens = tokens_of 0 (file_pieces 0 message_count); are_tokens = generated_tokens; all = file_parses generated_text 0 0 message_count (omega arith) none generated_texts };
  gathers = gathers (tree 4);
  valid = valid;
}
