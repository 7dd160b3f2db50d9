-- A line that a reader gives, a whole one or the last, is the next of the lines of its log.
use Rattle.std.proofs.Common.{◌≡◌, ◌⊎◌, ℕ, ◌+◌, ◌-◌, ◌<◌, ◌≤◌, Bool, true, false, List, [], ◌∷◌, ◌++◌, length, Option, None, Some, IfSome, Result, Ok, refl, sym, ap, subst, ◌∙◌, arith, length-append, inl, inr}
use Rattle.std.proofs.lemmas.List.{append-nil, nil_from_length}
use Rattle.std.proofs.lemmas.Bool.{cases_Bool, le-leb}
use Rattle.std.specs.Prelude.{nat_lt}
use Rattle.std.specs.Option.{option_map}
use Rattle.byte_forms.specs.Lines.{all_lines}
use Rattle.port_io.specs.OtherSide.{SourceState, OtherSide}
use Rattle.candump_log.specs.declared.place.Place.{Place}
use Rattle.candump_log.specs.declared.place.Routed.{Routed}
use Rattle.candump_log.specs.declared.place.LinesRefused.{LinesRefused}
use Rattle.candump_log.specs.LogLines.{NoFeed}
use Rattle.candump_log.specs.LinesState.{LinesState, log_by}
use Rattle.candump_log.specs.Routing.{place_of}
use Rattle.candump_log.specs.NextLine.{Advances, GivesLine, AnswersOn}
use Rattle.candump_log.specs.Cut.{has_feed}
use Rattle.candump_log.specs.Steps.{route, IsInLog, next_place, GivesWhole, TakesLast}
use Rattle.candump_log.specs.LinesView.{is_ready, texts_to, shown, IsAt, Keeps}
use Rattle.candump_log.proofs.CutLaws.{has_feed-some}
use Rattle.candump_log.proofs.LineRuleLaws.{OneMore, texts_at, whole_by, last_by, advances, Asked, Goes, unasked_by}

-- ---- a whole line

ready_feed : (ended : Bool) (was : List ℕ) (long : Bool) (piece rest : List ℕ) → was ≡ piece ++ 10 ∷ rest → is_ready ended was long ≡ true
ready_feed ended was long piece rest e = let feed : has_feed was ≡ true = ap has_feed e ∙ has_feed-some piece rest in rw feed refl

whole_numbers : (place : Place) (was held piece : List ℕ) → IsInLog place was → was ≡ piece ++ 10 ∷ held → IsInLog (next_place place (place.taken - length held)) held
whole_numbers place was held piece h e =
    let n : length was ≡ length piece + (1 + length held) = omega (arith, ap length e, length-append piece (10 ∷ held)) in
    record { limit = h.limit; given = omega (arith, h.given, h.behind); behind = omega (arith, h.behind); long = λ no'. absurd (cc) }

grown_asked : (start : LinesState) (src : SourceState) (was : List ℕ) (place : Place) → is_ready src.ended was place.long ≡ true → Asked start src was place → start.ready ≡ false →
    (start.taken < place.taken) ⊎ ((start.source.ended ≡ false) × (src.ended ≡ true))
grown_asked start src was place ready (inl same) none = absurd (let a = same.2 in cc)
grown_asked start src was place ready (inr did) none = by_progress did.3
  where
    by_progress : (start.taken < place.taken) ⊎ (src.ended ≡ true) → (start.taken < place.taken) ⊎ ((start.source.ended ≡ false) × (src.ended ≡ true))
    by_progress (inl more) = inl more
    by_progress (inr end) = inr (did.1, end)

-- a line more, by the rule at the next line
gives_by : (names : List (List ℕ)) (start : LinesState) (src : SourceState) (other : OtherSide) (was held piece : List ℕ) (place : Place) (at : ℕ) (failed : Bool) (routed : Routed) →
    Goes start src other was place → OneMore names (log_by place.taken src.taken) src.ended place piece held at → routed ≡ route names place.long piece →
    (start.ready ≡ false → (start.taken < place.taken) ⊎ ((start.source.ended ≡ false) × (src.ended ≡ true))) →
    (line : GivesLine start routed.line (shown src other held (next_place place at) failed)) × (routed.place ≡ place_of names line.text)
gives_by names start src other was held piece place at failed routed g m is asked =
    let says : routed ≡ route names false m.text = is ∙ m.says in (
      record {
        text = m.text;
        texts = m.texts ∙ ap (option_map (λ (ts : List (List ℕ)). ts ++ m.text ∷ [])) g.texts;
        line_is = ap (λ (r : Routed). r.line) says;
        given = ap (λ (n : ℕ). n + 1) g.given;
        asked = asked;
      },
      ap (λ (r : Routed). r.place) says,
    )

-- the state after the next line keeps the rule
keeps_next : (src : SourceState) (held : List ℕ) (place : Place) (at : ℕ) → IsInLog (next_place place at) held → IfSome src.taken (λ bytes. place.taken ≤ length bytes) →
    IfSome (log_by place.taken src.taken) (IsAt src.ended (next_place place at) held) → (src.ended ≡ true → IfSome src.left (λ left. left ≡ [])) → Keeps src held (next_place place at)
keeps_next src held place at numbers within is_at end = record { numbers = numbers; within = within; is_at = is_at; end = end }

abbrev pub Ends : List (List ℕ) → LinesState → Result (Option Routed) LinesRefused → SourceState → OtherSide → List ℕ → Place → Bool → Type 0
Ends names start result src other held place failed =
    Keeps src held place × Advances start (shown src other held place failed) × AnswersOn names start result (shown src other held place failed)

pub gives_whole : (names : List (List ℕ)) (start : LinesState) (src : SourceState) (other : OtherSide) (was held : List ℕ) (place now : Place) (failed : Bool) (routed : Routed) →
    Goes start src other was place → GivesWhole names was place routed held now → Ends names start (Ok (Some routed)) src other held now failed
gives_whole names start src other was held place now failed routed g w =
    let m = whole_by names (log_by place.taken src.taken) src.ended place was held w.piece g.keeps.is_at w.plain w.parted in
    let at = place.taken - length held in
    let keeps = keeps_next src held place at (whole_numbers place was held w.piece g.keeps.numbers w.parted) g.keeps.within m.is_at g.keeps.end in
    let ready = ready_feed src.ended was place.long w.piece held w.parted in
    let P : Place → Type 0 = λ p. Ends names start (Ok (Some routed)) src other held p failed in
    subst P (sym w.now_is) (
      keeps,
      advances start src other held (next_place place at) failed g.went (unasked_by start src was place g.asked) keeps,
      gives_by names start src other was held w.piece place at failed routed g m w.routed_is (grown_asked start src was place ready g.asked),
    )

-- ---- the last line, or none

last_numbers : (place : Place) (was : List ℕ) → IsInLog place was → (0 < length was) ⊎ (place.long ≡ true) → IsInLog (next_place place place.taken) []
last_numbers place was h (inl some) = record { limit = h.limit; given = omega (arith, h.given, h.behind); behind = omega arith; long = λ no'. absurd (cc) }
last_numbers place was h (inr some) = let b = h.long some in record { limit = h.limit; given = omega (arith, h.given); behind = omega arith; long = λ no'. absurd (cc) }

ready_last : (ended : Bool) (was : List ℕ) (long : Bool) → ended ≡ true → (0 < length was) ⊎ (long ≡ true) → is_ready ended was long ≡ true
ready_last ended [] long end (inl some) = absurd (omega arith)
ready_last ended [] long end (inr some) = rw (end, some) refl
ready_last ended (b ∷ bs) long end some =
    let many : nat_lt 0 (length (b ∷ bs)) ≡ true = le-leb 1 (length (b ∷ bs)) (omega arith) in
    elim (cases_Bool (has_feed (b ∷ bs))) [
      | inl feed ↦ rw feed refl
      | inr none ↦ rw (none, end, many) refl
    ]

none_known : (ended : Bool) (place : Place) (was bytes : List ℕ) → IsAt ended place was bytes → length was ≡ 0 → place.long ≡ false → texts_to place.start bytes ≡ all_lines bytes
none_known ended place was bytes s none short =
    let P : List ℕ → Type 0 = λ d. bytes ≡ s.done ++ (d ++ was) in
    let Q : List ℕ → Type 0 = λ w. bytes ≡ s.done ++ w in
    let e : bytes ≡ s.done = subst Q (nil_from_length was none) (subst P (s.short short) s.parted) ∙ append-nil s.done in
    texts_at s.done (s.dropped ++ was) bytes place.start s.parted s.start ∙ ap all_lines (sym e)

none_by : (o : Option (List ℕ)) (ended : Bool) (place : Place) (was : List ℕ) → IfSome o (IsAt ended place was) → length was ≡ 0 → place.long ≡ false → option_map (texts_to place.start) o ≡ option_map all_lines o
none_by None ended place was s none short = refl
none_by (Some bytes) ended place was s none short = ap (λ (ts : List (List ℕ)). Some ts) (none_known ended place was bytes s none short)

not_ready_done : (ended : Bool) (was : List ℕ) (long : Bool) → length was ≡ 0 → long ≡ false → is_ready ended was long ≡ false
not_ready_done true [] long none short = rw short refl
not_ready_done false [] long none short = refl
not_ready_done ended (b ∷ bs) long none short = absurd (omega arith)

pub was_not_ready : (start : LinesState) (src : SourceState) (was : List ℕ) (place : Place) → is_ready src.ended was place.long ≡ false → Asked start src was place → start.ready ≡ false
was_not_ready start src was place none (inl same) = sym same.2 ∙ none
was_not_ready start src was place none (inr did) = did.0

pub takes_last : (names : List (List ℕ)) (start : LinesState) (src : SourceState) (other : OtherSide) (was held : List ℕ) (place now : Place) (failed : Bool) (r : Option Routed) →
    Goes start src other was place → src.ended ≡ true → NoFeed was → TakesLast names was place r held now → Ends names start (Ok r) src other held now failed
takes_last names start src other was held place now failed None g end plain t =
    let P : List ℕ → Type 0 = λ h. Ends names start (Ok None) src other h now failed in
    let Q : Place → Type 0 = λ p. Ends names start (Ok None) src other was p failed in
    let none = not_ready_done src.ended was place.long t.2 t.3 in
    subst P (sym t.0) (subst Q (sym t.1) (
      g.keeps,
      advances start src other was place failed g.went (unasked_by start src was place g.asked) g.keeps,
      (
        record { texts = g.texts; given = g.given; was_not_ready = was_not_ready start src was place none g.asked; is_not_ready = none },
        record { ended = end; left = g.keeps.end end; all = none_by (log_by place.taken src.taken) src.ended place was g.keeps.is_at t.2 t.3 },
      ),
    ))
takes_last names start src other was held place now failed (Some routed) g end plain t =
    let m = last_by names (log_by place.taken src.taken) src.ended place was end g.keeps.is_at plain t.some in
    let keeps = keeps_next src [] place place.taken (last_numbers place was g.keeps.numbers t.some) g.keeps.within m.is_at g.keeps.end in
    let P : List ℕ → Type 0 = λ h. Ends names start (Ok (Some routed)) src other h now failed in
    let Q : Place → Type 0 = λ p. Ends names start (Ok (Some routed)) src other [] p failed in
    subst P (sym t.held_is) (subst Q (sym t.now_is) (
      keeps,
      advances start src other [] (next_place place place.taken) failed g.went (unasked_by start src was place g.asked) keeps,
      gives_by names start src other was [] was place place.taken failed routed g m t.routed_is
          (grown_asked start src was place (ready_last src.ended was place.long end t.some) g.asked),
    ))

-- the same state under other names
pub moved : (start : LinesState) (src : SourceState) (other : OtherSide) (was held : List ℕ) (place now : Place) → Goes start src other was place → held ≡ was → now ≡ place → Goes start src other held now
moved start src other was held place now g h p =
    let P : List ℕ → Type 0 = λ x. Goes start src other x now in
    let Q : Place → Type 0 = λ x. Goes start src other was x in
    subst P (sym h) (subst Q (sym p) g)
