-- A line's place among names is that of the first name equal to its interface.
use Rattle.std.proofs.Common.{◌≡◌, ◌⊎◌, ◌↔◌, ℕ, ◌+◌, ◌-◌, ◌<◌, ◌≤◌, ltb, Bool, true, false, List, [], ◌++◌, length, get_or, take, drop, Option, None, Some, refl, sym, ap, ◌∙◌, arith, inl, inr}
use Rattle.std.specs.Prelude.{slice_get, slice_range}
use Rattle.std.specs.List.{position_or_len}
use Rattle.std.specs.Str.{bytes_eq}
use Rattle.std.proofs.Math.Seq.{take-append_seam}
use Rattle.std.proofs.lemmas.List.{drop_at}
use Rattle.std.proofs.lemmas.Bool.{cases_Bool, ltb-false}
use Rattle.std.proofs.lemmas.List.Sums.{fails_before_first}
use Rattle.std.proofs.lemmas.List.Quantifiers.{position-Some}
use Rattle.std.proofs.lemmas.Option.{none-some, slice_get-get_or, slice_get_within, get_or_from_slice_get}
use Rattle.std.proofs.lemmas.Slice.Eq.{bytes_eq-Decides}
use Rattle.candump_log.specs.declared.log_line.LogLine.TheVariants as line
use Rattle.candump_log.specs.declared.log_line.Span.{Span}
use Rattle.candump_log.specs.Line.{prefix_text, behind_text, IsLine, IsInterface}
use Rattle.candump_log.specs.LineOf.{interface_of}
use Rattle.candump_log.specs.Routing.{name_place, place_of, HasInterface, IsFirstName, IsNoName}
use Rattle.candump_log.proofs.LineLaws.{span_of, InterfaceAt, IsExact, interface-at}
use Rattle.candump_log.proofs.RoutingLaws.{first_here, none_here}

-- ---- the first name

same_name : (name word : List ℕ) → bytes_eq name word ≡ true → name ≡ word
same_name name word = (bytes_eq-Decides name word).0

other_name : (name word : List ℕ) → (name ≡ word → ⊥) → bytes_eq name word ≡ false
other_name name word unlike = by_test (bytes_eq name word) (same_name name word)
  where
    by_test : (b : Bool) → (b ≡ true → name ≡ word) → b ≡ false
    by_test true same = absurd (unlike (same refl))
    by_test false same = refl

name_at : (names : List (List ℕ)) (word : List ℕ) (k : ℕ) → k < length names → get_or names k [] ≡ word → slice_get names k ≡ Some word
name_at names word k lt e = slice_get-get_or names k [] lt ∙ ap (λ (n : List ℕ). Some n) e

not_at : (names : List (List ℕ)) (word : List ℕ) (k : ℕ) → k < length names → (slice_get names k ≡ Some word → ⊥) → bytes_eq (get_or names k []) word ≡ false
not_at names word k lt unlike = other_name (get_or names k []) word (λ e. unlike (name_at names word k lt e))

first_is : (names : List (List ℕ)) (word : List ℕ) (i : ℕ) → name_place names word ≡ Some i → IsFirstName names word i
first_is names word i e =
    let at = position-Some (λ (name : List ℕ). bytes_eq name word) names i [] e in (
      name_at names word i at.0 (same_name (get_or names i []) word at.1),
      λ k low is_at.
          let no = at.2 k low in
          let yes : bytes_eq (get_or names k []) word ≡ true = (bytes_eq-Decides (get_or names k []) word).1 (get_or_from_slice_get names k word [] is_at) in
          cc,
    )

first_found : (names : List (List ℕ)) (word : List ℕ) (i : ℕ) → IsFirstName names word i → name_place names word ≡ Some i
first_found names word i first =
    let lt = slice_get_within names i word first.0 in
    let here : bytes_eq (get_or names i []) word ≡ true = (bytes_eq-Decides (get_or names i []) word).1 (get_or_from_slice_get names i word [] first.0) in
    sym (first_here names word i lt (λ k low. not_at names word k (omega (arith, low, lt)) (first.1 k low)) here)

none_found : (names : List (List ℕ)) (word : List ℕ) → IsNoName names word → name_place names word ≡ None
none_found names word none = sym (none_here names word (λ k lt. not_at names word k lt (none k)))

-- where a name equals the word, one is the first
none_is : (names : List (List ℕ)) (word : List ℕ) → name_place names word ≡ None → IsNoName names word
none_is names word e k is_at =
    let test : List ℕ → Bool = λ (name : List ℕ). bytes_eq name word in
    let at = position_or_len test names in
    let lt = slice_get_within names k word is_at in
    let yes : bytes_eq (get_or names k []) word ≡ true = (bytes_eq-Decides (get_or names k []) word).1 (get_or_from_slice_get names k word [] is_at) in
    elim (cases_Bool (ltb at (length names))) [
      | inl first ↦ let no : Some at ≡ None = rw first at e in absurd (none-some at (sym no))
      | inr none ↦
          let past : length names ≤ at = ltb-false at (length names) none in
          let no = fails_before_first test names k [] (omega (arith, lt, past)) in
          absurd cc
    ]

-- ---- the interface

-- the interface's word is where the interface is
word_at : (prefix word behind text : List ℕ) (at end : ℕ) → text ≡ prefix ++ (word ++ behind) → at ≡ length prefix → end ≡ at + length word → slice_range text at end ≡ word
word_at prefix word behind text at end e a n =
    let behind_prefix : drop at text ≡ word ++ behind = ap (drop at) e ∙ drop_at prefix (word ++ behind) at (sym a) in
    let long : end - at ≡ length word = omega (arith, n) in
    ap (take (end - at)) behind_prefix ∙ ap (λ (k : ℕ). take k (word ++ behind)) long ∙ take-append_seam word behind

word_of : (text : List ℕ) (span : Span) → IsInterface text span → HasInterface text (slice_range text span.at span.end)
word_of text span is =
    (is.pieces, is.line, is.encodes, sym (word_at (prefix_text is.pieces) is.pieces.interface (behind_text is.pieces) text span.at span.end is.encodes.parted is.at is.end))

has_place : (names : List (List ℕ)) (text word : List ℕ) → IsExact text → HasInterface text word → place_of names text ≡ name_place names word
unfolding place_of
has_place names text word exact has =
    let p = has.0 in
    let span = span_of p in
    let found = (exact.0 span).1 (record { pieces = p; line = has.1; encodes = has.2; at = refl; end = refl }) in
    let same = word_at (prefix_text p) p.interface (behind_text p) text span.at span.end has.2.parted refl refl ∙ has.3 in
    rw found (ap (name_place names) same)

bad_place : (names : List (List ℕ)) (text : List ℕ) → IsExact text → IsLine text line.Bad → place_of names text ≡ None
unfolding place_of
bad_place names text exact bad = rw (exact.1.1 bad) refl

bad_or_word : (text : List ℕ) → IsExact text → IsLine text line.Bad ⊎ ((word : List ℕ) × HasInterface text word)
bad_or_word text exact = by_place (interface_of text) (interface-at text exact)
  where
    by_place : (o : Option Span) → InterfaceAt text o → IsLine text line.Bad ⊎ ((word : List ℕ) × HasInterface text word)
    by_place None at = inl at
    by_place (Some span) at = inr (slice_range text span.at span.end, word_of text span at)

-- ---- the place

pub place_some : (names : List (List ℕ)) (text : List ℕ) (place : ℕ) → IsExact text → (place_of names text ≡ Some place) ↔ ((word : List ℕ) × HasInterface text word × IsFirstName names word place)
place_some names text place exact = (
  λ e. by_word (bad_or_word text exact) e,
  λ found. has_place names text found.0 exact found.1 ∙ first_found names found.0 place found.2,
)
  where
    by_word : IsLine text line.Bad ⊎ ((word : List ℕ) × HasInterface text word) → place_of names text ≡ Some place → (word : List ℕ) × HasInterface text word × IsFirstName names word place
    by_word (inl bad) e = absurd (none-some place (sym (bad_place names text exact bad) ∙ e))
    by_word (inr has) e = (has.0, has.1, first_is names has.0 place (sym (has_place names text has.0 exact has.1) ∙ e))

pub place_none : (names : List (List ℕ)) (text : List ℕ) → IsExact text → (place_of names text ≡ None) ↔ (IsLine text line.Bad ⊎ ((word : List ℕ) × HasInterface text word × IsNoName names word))
place_none names text exact = (λ e. by_word (bad_or_word text exact) e, no_place)
  where
    by_word : IsLine text line.Bad ⊎ ((word : List ℕ) × HasInterface text word) → place_of names text ≡ None → IsLine text line.Bad ⊎ ((word : List ℕ) × HasInterface text word × IsNoName names word)
    by_word (inl bad) e = inl bad
    by_word (inr has) e = inr (has.0, has.1, none_is names has.0 (sym (has_place names text has.0 exact has.1) ∙ e))

    no_place : IsLine text line.Bad ⊎ ((word : List ℕ) × HasInterface text word × IsNoName names word) → place_of names text ≡ None
    no_place (inl bad) = bad_place names text exact bad
    no_place (inr has) = has_place names text has.0 exact has.1 ∙ none_found names has.0 has.2
