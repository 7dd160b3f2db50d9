-- The database that statements make is one that `check` may judge.
use Rattle.std.proofs.Common.{◌≡◌, ◌∙◌, sym, ap, subst, ℕ, suc, ◌+◌, ◌≤◌, List, [], ◌∷◌, length, Bool, ◌&&◌, refl, arith, inl, inr, Option, Some, None, ℤ, pos, neg_ℤ}
use Rattle.std.specs.Prelude.{nat_le}
use Rattle.std.specs.List.{flat_map, enumerate_from, AllByRecursion, AllZip}
use Rattle.std.specs.Option.{option_map}
use Rattle.std.proofs.lemmas.Bool.{cases_Bool, and_parts}
use Rattle.std.proofs.lemmas.List.{length-map}
use Rattle.exact_scale.specs.Limits.{IsRawValue}
use Rattle.multiplex_tree.specs.declared.mark.Link.{Link}
use Rattle.multiplex_tree.specs.declared.mark.Mark.{Mark}
use Rattle.multiplex_tree.specs.declared.mark.Parent.{Parent}
use Rattle.multiplex_tree.specs.Fault.{IsTree}
use Rattle.multiplex_tree.specs.Trees.{IsTreeOver}
use Rattle.byte_forms.specs.declared.numerals.Radix.TheVariants.{Decimal}
use Rattle.byte_forms.specs.Numerals.{number_up_to, number_of, is_numeral}
use Rattle.bench_model.specs.declared.database.Signal.{Signal}
use Rattle.bench_model.specs.declared.database.Message.{Message}
use Rattle.bench_model.specs.Limits.{IsLabel, IsCoding, IsMade}
use Rattle.sig_text.specs.declared.token.Token.{Token}
use Rattle.token_forms.specs.Pieces.{token_text}
use Rattle.token_forms.specs.Numbers.{is_minus, whole_value}
use Rattle.token_forms.specs.declared.numbers.SignedNumber.{SignedNumber}
use Rattle.dbc_grammar.specs.declared.statement.Note.{Note}
use Rattle.dbc_grammar.specs.declared.statement.Says.{Says}
use Rattle.dbc_grammar.specs.declared.statement.Says.TheVariants as says
use Rattle.dbc_grammar.specs.declared.statement.ValueText.{ValueText}
use Rattle.dbc_grammar.specs.declared.statement.SignalForm.{SignalForm}
use Rattle.dbc_grammar.specs.declared.statement.MessageForm.{MessageForm}
use Rattle.dbc_grammar.specs.Naming.{Noted, message_key, places_in, notes_on, is_first_message}
use Rattle.dbc_grammar.specs.Gather.{IsSignalAt, label_by, labels_of_text, labels_said, labels_in, message_marks, message_links}
use Rattle.dbc_grammar.specs.Contract.{IsMessageAt}
use Rattle.dbc_grammar.proofs.RowLaws.{rec-append, rec-all}

-- a number of digits that is at most a limit is so
within_limit : (limit : ℕ) (text : List ℕ) (n : ℕ) → number_up_to Decimal limit text ≡ Some n → n ≤ limit
unfolding number_up_to
within_limit limit text n e =
    elim (cases_Bool (is_numeral Decimal text && nat_le (number_of Decimal text) limit)) [
      | inl here ↦ grind (arith, and_parts (is_numeral Decimal text) (nat_le (number_of Decimal text) limit) here)
      | inr none ↦ absurd (cc (rw none at e))
    ]

-- a whole number of a value text is one that raw values may have
raw_of_digits : (o : Option ℕ) (raw : ℤ) → ((n : ℕ) → o ≡ Some n → n ≤ 18446744073709551615) → option_map pos o ≡ Some raw → IsRawValue raw
raw_of_digits (Some n) raw within e = let small = within n refl in grind arith
raw_of_digits None raw within e = absurd cc

raw_below_zero : (o : Option ℕ) (raw : ℤ) → ((n : ℕ) → o ≡ Some n → n ≤ 9223372036854775808) → option_map (λ n. neg_ℤ (pos n)) o ≡ Some raw → IsRawValue raw
raw_below_zero (Some n) raw within e = let small = within n refl in grind arith
raw_below_zero None raw within e = absurd cc

is_raw : (text : List ℕ) (n : SignedNumber) (raw : ℤ) → whole_value text n ≡ Some raw → IsRawValue raw
unfolding whole_value
is_raw text n raw e =
    elim (cases_Bool (is_minus text n.sign)) [
      | inl minus ↦ raw_below_zero (number_up_to Decimal 9223372036854775808 (token_text text n.number)) raw
          (within_limit 9223372036854775808 (token_text text n.number)) (rw minus at e)
      | inr plus ↦ raw_of_digits (number_up_to Decimal 18446744073709551615 (token_text text n.number)) raw
          (within_limit 18446744073709551615 (token_text text n.number)) (rw plus at e)
    ]

label_made : (text : List ℕ) (utf8 : Bool) (token : Token) (o : Option ℤ) → ((raw : ℤ) → o ≡ Some raw → IsRawValue raw) →
    AllByRecursion IsLabel (label_by text utf8 token o)
label_made text utf8 token None raws = tt
label_made text utf8 token (Some raw) raws = (raws raw refl, tt)

texts_made : (text : List ℕ) (utf8 : Bool) (texts : List ValueText) → AllByRecursion IsLabel (flat_map (labels_of_text text utf8) texts)
texts_made text utf8 [] = tt
texts_made text utf8 (v ∷ texts) =
    rec-append IsLabel (labels_of_text text utf8 v) (flat_map (labels_of_text text utf8) texts)
    (label_made text utf8 v.text (whole_value text v.number) (is_raw text v.number)) (texts_made text utf8 texts)

said_made : (text : List ℕ) (utf8 : Bool) (s : Says) → AllByRecursion IsLabel (labels_said text utf8 s)
said_made text utf8 (says.Texts texts) = texts_made text utf8 texts
said_made text utf8 (says.Type kind) = tt
said_made text utf8 (says.Below multiplexor ranges) = tt

notes_made : (text : List ℕ) (utf8 : Bool) (notes : List Note) → AllByRecursion IsLabel (flat_map (labels_in text utf8) notes)
notes_made text utf8 [] = tt
notes_made text utf8 (note ∷ notes) =
    rec-append IsLabel (labels_in text utf8 note) (flat_map (labels_in text utf8) notes) (said_made text utf8 note.says) (notes_made text utf8 notes)

-- the codings of a message's signals, and how many there are
codings_made : (text : List ℕ) (utf8 : Bool) (noted : Noted) (named : Bool) (m : MessageForm) (n : ℕ) (forms : List SignalForm) (signals : List Signal) →
    AllZip (IsSignalAt text utf8 noted named m) (enumerate_from n forms) signals → AllByRecursion (λ (s : Signal). IsCoding s.coding) signals
codings_made text utf8 noted named m n [] [] each = tt
codings_made text utf8 noted named m n [] (s ∷ signals) each = absurd each
codings_made text utf8 noted named m n (f ∷ forms) [] each = absurd each
codings_made text utf8 noted named m n (f ∷ forms) (s ∷ signals) each =
    let one = each.0 in
    let notes = notes_on text noted (places_in text m) named (message_key m) n f in (
      subst IsCoding (sym one.coding) (one.is_scale.within, rec-all IsLabel (flat_map (labels_in text utf8) notes) (notes_made text utf8 notes)),
      codings_made text utf8 noted named m (n + 1) forms signals each.1,
    )

as_many : {A B : Type 0} (R : ℕ × A → B → Type 0) (n : ℕ) (xs : List A) (ys : List B) → AllZip R (enumerate_from n xs) ys → length ys ≡ length xs
as_many R n [] [] each = refl
as_many R n [] (y ∷ ys) each = absurd each
as_many R n (x ∷ xs) [] each = absurd each
as_many R n (x ∷ xs) (y ∷ ys) each = ap suc (as_many R (n + 1) xs ys each.1)

-- each tree is one over the message's signals
pub messages_made : (text : List ℕ) (utf8 : Bool) (noted : Noted) (all : List MessageForm) (n : ℕ) (forms : List MessageForm) (messages : List Message) →
    ((marks : List Mark) (links : List Link) (parents : List (Option Parent)) → IsTree marks links parents → IsTreeOver (length marks) parents) →
    AllZip (IsMessageAt text utf8 noted all) (enumerate_from n forms) messages → AllByRecursion IsMade messages
messages_made text utf8 noted all n [] [] over each = tt
messages_made text utf8 noted all n [] (m ∷ messages) over each = absurd each
messages_made text utf8 noted all n (f ∷ forms) [] over each = absurd each
messages_made text utf8 noted all n (f ∷ forms) (m ∷ messages) over each =
    let one = each.0 in
    let many : length (message_marks f) ≡ length m.signals =
    length-map f.signals (λ (s : SignalForm). s.mark) ∙ sym (as_many (IsSignalAt text utf8 noted (is_first_message all n f) f) 0 f.signals m.signals one.signals) in (
      record {
        tree = subst (λ k. IsTreeOver k m.tree.parents) many (over (message_marks f) (message_links text noted (is_first_message all n f) f) m.tree.parents one.tree);
        codings = rec-all (λ (s : Signal). IsCoding s.coding) m.signals (codings_made text utf8 noted (is_first_message all n f) f 0 f.signals m.signals one.signals);
      },
      messages_made text utf8 noted all (n + 1) forms messages over each.1,
    )
