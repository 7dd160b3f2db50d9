-- What the lines of a text of wants ask for, read one after another.
use Rattle.std.proofs.Common.{◌≡◌, ℕ, zero, suc, ◌+◌, ◌-◌, ◌<◌, ◌≤◌, Bool, true, false, cond, List, [], ◌∷◌, ◌++◌, length, get_or, take, drop, Ok, Err, Result, refl, sym, ap, ◌∙◌, arith, inl, inr}
use Rattle.std.specs.Prelude.{filter, not}
use Rattle.std.specs.Prelude.{◌==◌, ◌&&◌, Some, None, position}
use Rattle.std.specs.List.{position_or_len}
use Rattle.std.proofs.lemmas.Bool.{cases_Bool, eqb-true, lt-ltb, le-ltb}
use Rattle.std.proofs.lemmas.List.Sums.{prefix_len_is}
use Rattle.std.proofs.lemmas.Bool.{cases_lt}
use Rattle.std.proofs.lemmas.List.{take_rest, length-drop, get_or-drop}
use Rattle.std.proofs.Math.ListN.{drop_of_length-le}
use Rattle.std.proofs.Common.{add-zero}
use Rattle.byte_forms.specs.Lines.{onto_first, all_lines}
use Rattle.text_words.specs.Words.{is_empty, is_blank, parts_of, words_of}
use Rattle.text_words.specs.TextLines.{without_return}
use Rattle.subscriber_text.specs.Wants.{Want}
use Rattle.subscriber_text.specs.WantLines.{line_words, format_of, want_line, WantLine, IsWant, onto_wants, wants_from, lines_wants, in_format, asked}
use Rattle.subscriber_text.specs.declared.fault.WantsFault.{WantsFault}

-- wants before others
pub onto_all : List Want → Result (List Want) WantsFault → Result (List Want) WantsFault
onto_all [] later = later
onto_all (want ∷ wants) later = onto_wants want (onto_all wants later)

pub onto_all-push : (wants : List Want) (want : Want) (later : Result (List Want) WantsFault) → onto_all (wants ++ want ∷ []) later ≡ onto_all wants (onto_wants want later)
unfolding onto_all
onto_all-push [] want later = refl
onto_all-push (w ∷ wants) want later = ap (onto_wants w) (onto_all-push wants want later)

pub onto_all-ok : (wants : List Want) → onto_all wants (Ok []) ≡ Ok wants
unfolding onto_all
onto_all-ok [] = refl
onto_all-ok (w ∷ wants) = ap (onto_wants w) (onto_all-ok wants)

pub onto_all-err : (wants : List Want) (fault : WantsFault) → onto_all wants (Err fault) ≡ Err fault
unfolding onto_all
onto_all-err [] fault = refl
onto_all-err (w ∷ wants) fault = ap (onto_wants w) (onto_all-err wants fault)

-- nothing was read yet
pub onto_all-none : (later : Result (List Want) WantsFault) → onto_all [] later ≡ later
unfolding onto_all
onto_all-none later = refl

-- a text that begins with a line that names a format, and one that doesn't
pub asked-named : (names : List (List ℕ)) (text line : List ℕ) (lines : List (List ℕ)) (format : ℕ) → all_lines text ≡ line ∷ lines → Some format ≡ format_of (line_words line)
    → asked names text ≡ in_format format names (lines_wants names 2 lines)
unfolding asked
asked-named names text line lines format e f = rw (e, ← f) refl

pub asked-unnamed : (names : List (List ℕ)) (text line : List ℕ) (lines : List (List ℕ)) → all_lines text ≡ line ∷ lines → None ≡ format_of (line_words line)
    → asked names text ≡ in_format 2 names (lines_wants names 1 (all_lines text))
unfolding asked
asked-unnamed names text line lines e f = rw (e, ← f) refl

pub asked-empty : (names : List (List ℕ)) (text : List ℕ) → text ≡ [] → asked names text ≡ in_format 2 names (lines_wants names 1 (all_lines text))
unfolding asked all_lines lines_wants
asked-empty names text e = rw e refl

-- a line more
pub lines_wants-cons : (names : List (List ℕ)) (number : ℕ) (line : List ℕ) (lines : List (List ℕ))
    → lines_wants names number (line ∷ lines) ≡ wants_from (want_line names (line_words line)) number (lines_wants names (number + 1) lines)
unfolding lines_wants
lines_wants-cons names number line lines = refl

pub lines_wants-none : (names : List (List ℕ)) (number : ℕ) (text : List ℕ) → text ≡ [] → lines_wants names number (all_lines text) ≡ Ok []
unfolding lines_wants all_lines
lines_wants-none names number text e = rw e refl

-- the first place that passes
pub place_found : {X : Type 0} (p : X → Bool) (xs : List X) (i : ℕ) (d : X) → i < length xs → ((k : ℕ) → k < i → p (get_or xs k d) ≡ false) → p (get_or xs i d) ≡ true → Some i ≡ position p xs
place_found p xs i d within before here =
    let place : position_or_len p xs ≡ i =
    prefix_len_is (λ x. not (p x)) xs i d (omega arith) (λ k lt. ap not (before k lt)) (λ lt. ap not here) in
    rw (place, lt-ltb i (length xs) within) refl

pub place_none : {X : Type 0} (p : X → Bool) (xs : List X) (d : X) → ((k : ℕ) → k < length xs → p (get_or xs k d) ≡ false) → None ≡ position p xs
place_none p xs d none =
    let place : position_or_len p xs ≡ length xs =
    prefix_len_is (λ x. not (p x)) xs (length xs) d (omega arith) (λ k lt. ap not (none k lt)) (λ lt. absurd (omega arith)) in
    rw (place, le-ltb (length xs) (length xs) (omega arith)) refl

-- a faulty line decides
pub line_fault : (whole : Result (List Want) WantsFault) (names : List (List ℕ)) (number : ℕ) (rest line : List ℕ) (lines : List (List ℕ)) (wants : List Want) (what : WantLine) (fault : WantsFault)
    → whole ≡ onto_all wants (lines_wants names number (all_lines rest)) → all_lines rest ≡ line ∷ lines → what ≡ want_line names (line_words line)
    → ((later : Result (List Want) WantsFault) → wants_from what number later ≡ Err fault) → whole ≡ Err fault
line_fault whole names number rest line lines wants what fault inv cut says decides =
    let here : lines_wants names number (all_lines rest) ≡ Err fault =
    ap (lines_wants names number) cut ∙ lines_wants-cons names number line lines
    ∙ ap (λ (w : WantLine). wants_from w number (lines_wants names (number + 1) lines)) (sym says) ∙ decides (lines_wants names (number + 1) lines) in
    inv ∙ ap (onto_all wants) here ∙ onto_all-err wants fault

-- a line that is a want
pub line_read : (whole : Result (List Want) WantsFault) (names : List (List ℕ)) (number : ℕ) (rest line : List ℕ) (lines : List (List ℕ)) (wants now : List Want) (want : Want)
    → whole ≡ onto_all wants (lines_wants names number (all_lines rest)) → all_lines rest ≡ line ∷ lines → IsWant want ≡ want_line names (line_words line)
    → now ≡ wants ++ want ∷ [] → whole ≡ onto_all now (lines_wants names (number + 1) lines)
line_read whole names number rest line lines wants now want inv cut says pushed =
    let here : lines_wants names number (all_lines rest) ≡ onto_wants want (lines_wants names (number + 1) lines) =
    ap (lines_wants names number) cut ∙ lines_wants-cons names number line lines
    ∙ ap (λ (w : WantLine). wants_from w number (lines_wants names (number + 1) lines)) (sym says) in
    inv ∙ ap (onto_all wants) here ∙ sym (onto_all-push wants want (lines_wants names (number + 1) lines))
    ∙ ap (λ ws. onto_all ws (lines_wants names (number + 1) lines)) (sym pushed)

-- all lines were read
pub lines_read : (whole : Result (List Want) WantsFault) (names : List (List ℕ)) (number : ℕ) (rest : List ℕ) (wants : List Want)
    → whole ≡ onto_all wants (lines_wants names number (all_lines rest)) → rest ≡ [] → whole ≡ Ok wants
lines_read whole names number rest wants inv end = inv ∙ ap (onto_all wants) (lines_wants-none names number rest end) ∙ onto_all-ok wants
