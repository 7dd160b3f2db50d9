-- A text of wants is refused for its first faulty line.
use Rattle.std.proofs.Common.{◌≡◌, ℕ, ◌+◌, Bool, true, false, List, [], ◌∷◌, ◌++◌, length, map, Ok, Err, Result, refl, sym, ap, ◌∙◌, arith}
use Rattle.std.specs.Prelude.{◌↔◌, ◌&&◌, Option, Some, None, is_some, if◌then◌else◌}
use Rattle.std.specs.List.{list_all}
use Rattle.std.proofs.lemmas.Bool.{and_parts}
use Rattle.byte_forms.specs.Lines.{all_lines}
use Rattle.subscriber_text.specs.Wants.{Want, WantList}
use Rattle.subscriber_text.specs.WantLines.{WantLine, IsWant, OfNoBus, OtherForm, line_words, format_of, want_line, onto_wants, wants_from, lines_wants, in_format, asked_from, asked_lines, asked}
use Rattle.subscriber_text.specs.FirstFault.{names_format, fault_of, is_want_line, is_want, behind_format, are_wants, fault_behind, IsFirstFault}
use Rattle.subscriber_text.specs.declared.fault.WantsFault.{WantsFault}
use Rattle.subscriber_text.specs.declared.fault.WantsFault.TheVariants.{Line, UnknownBus}
use Rattle.subscriber_text.proofs.ReadLaws.{lines_wants-cons}

-- the first line that is no want, of lines of which the first has this number
record FirstFrom (names : List (List ℕ)) (number : ℕ) (lines : List (List ℕ)) (fault : WantsFault) : Type 0 where
  before : List (List ℕ)
  line : List ℕ
  after : List (List ℕ)
  split : lines ≡ before ++ line ∷ after
  wants : list_all (is_want names) before ≡ true
  faulty : fault_of (number + length before) (want_line names (line_words line)) ≡ Some fault

onto-err : (want : Want) (later : Result (List Want) WantsFault) (fault : WantsFault) → onto_wants want later ≡ Err fault → later ≡ Err fault
onto-err want (Ok wants) fault e = absurd (cc e)
onto-err want (Err f) fault e = e

-- ---- a fault is that of the first line that is no want

fault_here : (names : List (List ℕ)) (number : ℕ) (line : List ℕ) (lines : List (List ℕ)) (fault : WantsFault) (what : WantLine) → want_line names (line_words line) ≡ what
    → wants_from what number (lines_wants names (number + 1) lines) ≡ Err fault
    → (lines_wants names (number + 1) lines ≡ Err fault → FirstFrom names (number + 1) lines fault) → FirstFrom names number (line ∷ lines) fault
fault_here names number line lines fault (IsWant want) is e later =
    let r = later (onto-err want (lines_wants names (number + 1) lines) fault e) in
    let count : number + length (line ∷ r.before) ≡ number + 1 + length r.before = omega arith in
    record {
      before = line ∷ r.before;
      line = r.line;
      after = r.after;
      split = ap (λ ls. line ∷ ls) r.split;
      wants = rw (is, r.wants) refl;
      faulty = ap (λ n. fault_of n (want_line names (line_words r.line))) count ∙ r.faulty;
    }
fault_here names number line lines fault OfNoBus is e later =
    let same : UnknownBus number ≡ fault = cc e in
    let count : number + 0 ≡ number = omega arith in
    record { before = []; line = line; after = lines; split = refl; wants = refl; faulty = rw is (ap (λ n. Some (UnknownBus n)) count ∙ ap (λ (f : WantsFault). Some f) same) }
fault_here names number line lines fault OtherForm is e later =
    let same : Line number ≡ fault = cc e in
    let count : number + 0 ≡ number = omega arith in
    record { before = []; line = line; after = lines; split = refl; wants = refl; faulty = rw is (ap (λ n. Some (Line n)) count ∙ ap (λ (f : WantsFault). Some f) same) }

fault_from : (names : List (List ℕ)) (number : ℕ) (lines : List (List ℕ)) (fault : WantsFault) → lines_wants names number lines ≡ Err fault → FirstFrom names number lines fault
unfolding lines_wants
fault_from names number [] fault e = absurd (cc e)
fault_from names number (line ∷ lines) fault e =
    fault_here names number line lines fault (want_line names (line_words line)) refl e (λ f. fault_from names (number + 1) lines fault f)

-- ---- and that line decides

decides_here : (number : ℕ) (later : Result (List Want) WantsFault) (fault : WantsFault) (what : WantLine) → fault_of number what ≡ Some fault → wants_from what number later ≡ Err fault
decides_here number later fault (IsWant want) e = absurd (cc e)
decides_here number later fault OfNoBus e = let same : UnknownBus number ≡ fault = cc e in ap (λ (f : WantsFault). Err f) same
decides_here number later fault OtherForm e = let same : Line number ≡ fault = cc e in ap (λ (f : WantsFault). Err f) same

passes_on : (number : ℕ) (fault : WantsFault) (later : Result (List Want) WantsFault) (what : WantLine) → is_want_line what ≡ true → later ≡ Err fault → wants_from what number later ≡ Err fault
passes_on number fault later (IsWant want) is e = ap (onto_wants want) e
passes_on number fault later OfNoBus is e = absurd (cc is)
passes_on number fault later OtherForm is e = absurd (cc is)

fault_decides : (names : List (List ℕ)) (number : ℕ) (before : List (List ℕ)) (line : List ℕ) (after : List (List ℕ)) (fault : WantsFault) → list_all (is_want names) before ≡ true
    → fault_of (number + length before) (want_line names (line_words line)) ≡ Some fault → lines_wants names number (before ++ line ∷ after) ≡ Err fault
fault_decides names number [] line after fault wants e =
    let count : number ≡ number + 0 = omega arith in
    lines_wants-cons names number line after
    ∙ decides_here number (lines_wants names (number + 1) after) fault (want_line names (line_words line)) (ap (λ n. fault_of n (want_line names (line_words line))) count ∙ e)
fault_decides names number (l ∷ before) line after fault wants e =
    let parts = and_parts (is_want names l) (list_all (is_want names) before) wants in
    let count : number + 1 + length before ≡ number + length (l ∷ before) = omega arith in
    lines_wants-cons names number l (before ++ line ∷ after)
    ∙ passes_on number fault (lines_wants names (number + 1) (before ++ line ∷ after)) (want_line names (line_words l)) parts.0
    (fault_decides names (number + 1) before line after fault parts.1 (ap (λ n. fault_of n (want_line names (line_words line))) count ∙ e))

-- ---- the lines of a text, of which the first may name the format

in_format-err : (format : ℕ) (names : List (List ℕ)) (wants : Result (List Want) WantsFault) (fault : WantsFault) → in_format format names wants ≡ Err fault → wants ≡ Err fault
in_format-err format names (Ok wants) fault e = absurd (cc e)
in_format-err format names (Err f) fault e = let same : f ≡ fault = cc e in ap (λ (g : WantsFault). Err g) same

first_fault : (names : List (List ℕ)) (line : List ℕ) (lines : List (List ℕ)) (fault : WantsFault) (o : Option ℕ) → format_of (line_words line) ≡ o → asked_from names o line lines ≡ Err fault → IsFirstFault names (line ∷ lines) fault
first_fault names line lines fault (Some format) is e =
    let r = fault_from names 2 lines fault (in_format-err format names (lines_wants names 2 lines) fault e) in
    let count : length (line ∷ r.before) + 1 ≡ 2 + length r.before = omega arith in
    record {
      before = line ∷ r.before;
      line = r.line;
      after = r.after;
      split = ap (λ ls. line ∷ ls) r.split;
      wants = rw is r.wants;
      faulty = ap (λ n. fault_of n (want_line names (line_words r.line))) count ∙ r.faulty;
    }
first_fault names line lines fault None is e =
    let r = fault_from names 1 (line ∷ lines) fault (in_format-err 2 names (lines_wants names 1 (line ∷ lines)) fault e) in
    unnamed r.before r.line r.after r.split r.wants r.faulty
  where
    unnamed : (before : List (List ℕ)) (l : List ℕ) (after : List (List ℕ)) → line ∷ lines ≡ before ++ l ∷ after → list_all (is_want names) before ≡ true
        → fault_of (1 + length before) (want_line names (line_words l)) ≡ Some fault → IsFirstFault names (line ∷ lines) fault
    unnamed [] l after split wants faulty =
        let same : line ≡ l = cc split in
        record { before = []; line = l; after = after; split = split; wants = refl; faulty = rw (sym same, is) (rw (sym same) at faulty) }
    unnamed (b ∷ before) l after split wants faulty =
        let same : line ≡ b = cc split in
        let count : length (b ∷ before) + 1 ≡ 1 + length (b ∷ before) = omega arith in
        record {
          before = b ∷ before;
          line = l;
          after = after;
          split = split;
          wants = rw (sym same, is) (rw (sym same) at wants);
          faulty = ap (λ n. fault_of n (want_line names (line_words l))) count ∙ faulty;
        }

pub fault_is_first : (names lines : List (List ℕ)) (fault : WantsFault) → asked_lines names lines ≡ Err fault → IsFirstFault names lines fault
fault_is_first names [] fault e = absurd (cc e)
fault_is_first names (line ∷ lines) fault e = first_fault names line lines fault (format_of (line_words line)) refl e

-- the first faulty line decides
pub first_decides : (names lines : List (List ℕ)) (fault : WantsFault) (first : IsFirstFault names lines fault) → asked_lines names lines ≡ Err fault
first_decides names lines fault first = ap (asked_lines names) first.split ∙ decided first.before first.line first.after first.wants first.faulty
  where
    behind : (b : List ℕ) (before : List (List ℕ)) (line : List ℕ) (after : List (List ℕ)) (o : Option ℕ) → format_of (line_words b) ≡ o → list_all (is_want names) (if is_some o then before else b ∷ before) ≡ true
        → fault_of (length (b ∷ before) + 1) (want_line names (line_words line)) ≡ Some fault → asked_from names o b (before ++ line ∷ after) ≡ Err fault
    behind b before line after (Some format) is wants e =
        let count : 2 + length before ≡ length (b ∷ before) + 1 = omega arith in
        ap (in_format format names) (fault_decides names 2 before line after fault wants (ap (λ n. fault_of n (want_line names (line_words line))) count ∙ e))
    behind b before line after None is wants e =
        let count : 1 + length (b ∷ before) ≡ length (b ∷ before) + 1 = omega arith in
        ap (in_format 2 names) (fault_decides names 1 (b ∷ before) line after fault wants (ap (λ n. fault_of n (want_line names (line_words line))) count ∙ e))

    alone : (line : List ℕ) (after : List (List ℕ)) (o : Option ℕ) → (if is_some o then None else fault_of 1 (want_line names (line_words line))) ≡ Some fault → asked_from names o line after ≡ Err fault
    alone line after (Some format) e = absurd (cc e)
    alone line after None e = ap (in_format 2 names) (fault_decides names 1 [] line after fault refl e)

    decided : (before : List (List ℕ)) (line : List ℕ) (after : List (List ℕ)) → are_wants names before ≡ true → fault_behind names before line ≡ Some fault → asked_lines names (before ++ line ∷ after) ≡ Err fault
    decided [] line after wants e = alone line after (format_of (line_words line)) e
    decided (b ∷ before) line after wants e = behind b before line after (format_of (line_words b)) refl wants e

-- ---- without a fault each line is the want of its place

want_here : (names : List (List ℕ)) (number : ℕ) (line : List ℕ) (lines : List (List ℕ)) (wants : List Want) (what : WantLine) (later : Result (List Want) WantsFault) → want_line names (line_words line) ≡ what
    → ((ws : List Want) → later ≡ Ok ws → map (λ line. want_line names (line_words line)) lines ≡ map IsWant ws)
    → wants_from what number later ≡ Ok wants → map (λ line. want_line names (line_words line)) (line ∷ lines) ≡ map IsWant wants
want_here names number line lines wants (IsWant want) (Ok ws) is each e =
    let all : want ∷ ws ≡ wants = cc e in
    rw (sym all) (rw is (ap (λ (rest : List WantLine). IsWant want ∷ rest) (each ws refl)))
want_here names number line lines wants (IsWant want) (Err f) is each e = absurd (cc e)
want_here names number line lines wants OfNoBus later is each e = absurd (cc e)
want_here names number line lines wants OtherForm later is each e = absurd (cc e)

each_want : (names : List (List ℕ)) (number : ℕ) (lines : List (List ℕ)) (wants : List Want) → lines_wants names number lines ≡ Ok wants → map (λ line. want_line names (line_words line)) lines ≡ map IsWant wants
unfolding lines_wants
each_want names number [] wants e = let none : [] ≡ wants = cc e in ap (map IsWant) none
each_want names number (line ∷ lines) wants e =
    want_here names number line lines wants (want_line names (line_words line)) (lines_wants names (number + 1) lines) refl (λ ws l. each_want names (number + 1) lines ws l) e

in_format-ok : (format : ℕ) (names : List (List ℕ)) (wants : Result (List Want) WantsFault) (w : WantList) → in_format format names wants ≡ Ok w → wants ≡ Ok w.wants
in_format-ok format names (Ok wants) w e =
    let same : record { format = format; names = names; wants = wants } ≡ w = cc e in
    ap (λ (v : WantList). Ok v.wants) same
in_format-ok format names (Err f) w e = absurd (cc e)

pub lines_are_wants : (names lines : List (List ℕ)) (w : WantList) → asked_lines names lines ≡ Ok w → map (λ line. want_line names (line_words line)) (behind_format lines) ≡ map IsWant w.wants
lines_are_wants names [] w e =
    let none : Ok [] ≡ Ok w.wants = in_format-ok 2 names (Ok []) w e in
    let same : [] ≡ w.wants = cc none in
    ap (map IsWant) same
lines_are_wants names (line ∷ lines) w e = here (format_of (line_words line)) refl e
  where
    here : (o : Option ℕ) → format_of (line_words line) ≡ o → asked_from names o line lines ≡ Ok w → map (λ line. want_line names (line_words line)) (behind_format (line ∷ lines)) ≡ map IsWant w.wants
    here (Some format) is e = rw is (each_want names 2 lines w.wants (in_format-ok format names (lines_wants names 2 lines) w e))
    here None is e = rw is (each_want names 1 (line ∷ lines) w.wants (in_format-ok 2 names (lines_wants names 1 (line ∷ lines)) w e))

-- ---- of a text

pub text_fault : (names : List (List ℕ)) (text : List ℕ) (fault : WantsFault) → (asked names text ≡ Err fault) ↔ IsFirstFault names (all_lines text) fault
unfolding asked
text_fault names text fault = (fault_is_first names (all_lines text) fault, first_decides names (all_lines text) fault)

pub text_wants : (names : List (List ℕ)) (text : List ℕ) (w : WantList) → asked names text ≡ Ok w → map (λ line. want_line names (line_words line)) (behind_format (all_lines text)) ≡ map IsWant w.wants
unfolding asked
text_wants names text w e = lines_are_wants names (all_lines text) w e
