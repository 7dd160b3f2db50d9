-- The wants of a subscriber are the lines before the first line `GO`.
use Rattle.std.proofs.Common.{◌≡◌, ℕ, ◌+◌, ◌-◌, ◌<◌, ◌≤◌, Bool, true, false, List, [], ◌∷◌, ◌++◌, length, refl, sym, ap, subst, ◌∙◌, arith, inl, inr, length-append, append_assoc}
use Rattle.std.specs.Prelude.{◌==◌, ◌&&◌, ◌||◌, nat_lt, Option, Some, None}
use Rattle.std.specs.List.{list_any}
use Rattle.std.specs.Option.{option_map}
use Rattle.std.proofs.lemmas.Bool.{cases_Bool}
use Rattle.std.proofs.lemmas.Bool.Decides.{nat_tests}
use Rattle.std.proofs.lemmas.Grind.{flat_map-append}
use Rattle.std.proofs.lemmas.List.{append-nil}
use Rattle.std.proofs.lemmas.Option.{none-some, same_Some}
use Rattle.byte_forms.specs.Lines.{onto_first, all_lines, IsCut}
use Rattle.subscriber_text.specs.WantLines.{line_words}
use Rattle.subscriber_text.specs.Parts.{fed_lines, without_feed, no_feed}
use Rattle.subscriber_text.specs.declared.before_go.Asking.TheVariants.{Go}
use Rattle.subscriber_text.specs.BeforeGo.{is_go_alone, has_feed, is_go, before_go, bytes_of, counts_last, without_go, heard_of, heard, asking_of, wants_before_go}
use Rattle.subscriber_text.proofs.PartLaws.{fed_lines-line, without_feed-line}

onto_bytes : (b : ℕ) (lines : List (List ℕ)) → bytes_of (onto_first b lines) ≡ b ∷ bytes_of lines
onto_bytes b [] = refl
onto_bytes b (line ∷ lines) = refl

-- the lines of a text are its bytes
pub fed_bytes : (bytes : List ℕ) → bytes_of (fed_lines bytes) ≡ bytes
unfolding fed_lines
fed_bytes [] = refl
fed_bytes (b ∷ bs) = elim (cases_Bool (b == 10)) [
  | inl feed ↦ rw feed (ap (λ xs. 10 ∷ xs) (fed_bytes bs) ∙ ap (λ x. x ∷ bs) (ten b feed))
  | inr plain ↦ rw plain (onto_bytes b (fed_lines bs) ∙ ap (λ xs. b ∷ xs) (fed_bytes bs))
]
  where
    ten : (b : ℕ) → (b == 10) ≡ true → 10 ≡ b
    ten b e = grind arith

-- the lines before the first such line: that line, those behind it, and what they are
GoesFirst : Bool → List (List ℕ) → List (List ℕ) → Type 0
GoesFirst last lines before = (line : List ℕ) × (after : List (List ℕ)) × (lines ≡ before ++ line ∷ after) × (is_go last line ≡ true) × (list_any (is_go last) before ≡ false)

goes_here : (last : Bool) (l : List ℕ) (ls before : List (List ℕ)) → Some [] ≡ Some before → is_go last l ≡ true → GoesFirst last (l ∷ ls) before
unfolding GoesFirst
goes_here last l ls before s found = rw (sym (same_Some _ _ s)) (l, ls, refl, found, refl)

goes_there : (last : Bool) (l : List ℕ) (ls before : List (List ℕ)) (o : Option (List (List ℕ))) → ((b : List (List ℕ)) → o ≡ Some b → GoesFirst last ls b) → option_map (λ b. l ∷ b) o ≡ Some before → is_go last l ≡ false → GoesFirst last (l ∷ ls) before
unfolding GoesFirst
goes_there last l ls before None later s other = absurd (none-some _ s)
goes_there last l ls before (Some b) later s other =
    let f = later b refl in
    rw (sym (same_Some _ _ s)) (f.0, f.1, ap (λ xs. l ∷ xs) f.2, f.3, rw (other, f.4) refl)

goes_first : (last : Bool) (lines before : List (List ℕ)) → before_go last lines ≡ Some before → GoesFirst last lines before
unfolding before_go
goes_first last [] before e = absurd (none-some _ e)
goes_first last (l ∷ ls) before e = elim (cases_Bool (is_go last l)) [
  | inl found ↦ goes_here last l ls before (rw found at e) found
  | inr other ↦ goes_there last l ls before (before_go last ls) (λ b o. goes_first last ls b o) (rw other at e) other
]

pub go_first : (last : Bool) (lines before : List (List ℕ)) → before_go last lines ≡ Some before
    → (line : List ℕ) × (after : List (List ℕ)) × (lines ≡ before ++ line ∷ after) × (is_go last line ≡ true) × (list_any (is_go last) before ≡ false)
unfolding GoesFirst
go_first last lines before e = goes_first last lines before e

no_more : (l : List ℕ) (o : Option (List (List ℕ))) → option_map (λ b. l ∷ b) o ≡ None → o ≡ None
no_more l None e = refl
no_more l (Some b) e = absurd (none-some _ (sym e))

pub go_nowhere : (last : Bool) (lines : List (List ℕ)) → before_go last lines ≡ None → list_any (is_go last) lines ≡ false
unfolding before_go
go_nowhere last [] e = refl
go_nowhere last (l ∷ ls) e = elim (cases_Bool (is_go last l)) [
  | inl found ↦ absurd (none-some _ (sym (rw found at e)))
  | inr other ↦ rw (other, go_nowhere last ls (no_more l (before_go last ls) (rw other at e))) refl
]

-- ---- line by line

-- no line feed is in the first line
head_is_plain : List (List ℕ) → Bool
head_is_plain [] = true
head_is_plain (line ∷ lines) = no_feed line

onto_plain : (b : ℕ) (lines : List (List ℕ)) → (b == 10) ≡ false → head_is_plain lines ≡ true → head_is_plain (onto_first b lines) ≡ true
unfolding head_is_plain
onto_plain b [] plain h = rw plain refl
onto_plain b (line ∷ lines) plain h = rw (plain, h) refl

heads_plain : (bytes : List ℕ) → head_is_plain (all_lines bytes) ≡ true
unfolding head_is_plain all_lines
heads_plain [] = refl
heads_plain (b ∷ bs) = elim (cases_Bool (b == 10)) [
  | inl feed ↦ rw feed refl
  | inr plain ↦ rw plain (onto_plain b (all_lines bs) plain (heads_plain bs))
]

first_plain : (bytes line : List ℕ) (lines : List (List ℕ)) → all_lines bytes ≡ line ∷ lines → no_feed line ≡ true
unfolding head_is_plain
first_plain bytes line lines e = ap head_is_plain (sym e) ∙ heads_plain bytes

plain_part : (x : ℕ) (xs : List ℕ) → no_feed (x ∷ xs) ≡ true → ((x == 10) ≡ false) × (no_feed xs ≡ true)
plain_part x xs p = elim (cases_Bool (x == 10)) [
  | inl feed ↦ absurd (false_true (rw feed at p))
  | inr plain ↦ (plain, rw plain at p)
]
  where
    false_true : false ≡ true → ⊥
    false_true e = cc

plain_has_none : (line : List ℕ) → no_feed line ≡ true → has_feed line ≡ false
plain_has_none [] p = refl
plain_has_none (x ∷ xs) p = let parts = plain_part x xs p in rw (parts.0, plain_has_none xs parts.1) refl

fed_has_one : (line : List ℕ) → has_feed (line ++ 10 ∷ []) ≡ true
fed_has_one [] = refl
fed_has_one (x ∷ xs) = elim (cases_Bool (x == 10)) [ inl feed ↦ rw feed refl | inr plain ↦ rw (plain, fed_has_one xs) refl ]

plain_stays : (line : List ℕ) → no_feed line ≡ true → without_feed line ≡ line
unfolding without_feed
plain_stays [] p = refl
plain_stays (x ∷ xs) p = let parts = plain_part x xs p in rw parts.0 (ap (λ l. x ∷ l) (plain_stays xs parts.1))

fed_alone : (x : ℕ) (xs : List ℕ) → no_feed (x ∷ xs) ≡ true → fed_lines (x ∷ xs) ≡ (x ∷ xs) ∷ []
unfolding fed_lines
fed_alone x [] p = rw (plain_part x [] p).0 refl
fed_alone x (y ∷ ys) p = let parts = plain_part x (y ∷ ys) p in rw (parts.0, fed_alone y ys parts.1) refl

-- the first line of a text as it is there
pub record Fed (text line after : List ℕ) : Type 0 where
  pub fed : List ℕ
  pub parted : fed_lines text ≡ fed ∷ fed_lines after
  pub size : length text ≡ length fed + length after
  pub line_is : without_feed fed ≡ line
  pub feed : has_feed fed ≡ nat_lt (length line) (length text)

below_itself : (n : ℕ) → false ≡ nat_lt n n
below_itself n = grind (arith, nat_tests)

below_more : (n m : ℕ) → n < m → true ≡ nat_lt n m
below_more n m lt = grind (arith, nat_tests)

fed_last : (line : List ℕ) (lines : List (List ℕ)) → all_lines line ≡ line ∷ lines → no_feed line ≡ true → Fed line line []
unfolding all_lines fed_lines
fed_last [] lines e p = absurd (nothing e)
  where
    nothing : [] ≡ [] ∷ lines → ⊥
    nothing e = cc
fed_last (x ∷ xs) lines e p = record {
  fed = x ∷ xs;
  parted = fed_alone x xs p;
  size = omega arith;
  line_is = plain_stays (x ∷ xs) p;
  feed = plain_has_none (x ∷ xs) p ∙ below_itself (length (x ∷ xs));
}

pub fed_first : (text line after : List ℕ) → all_lines text ≡ line ∷ all_lines after → IsCut text line after → Fed text line after
fed_first text line after e (inl whole) =
    let plain = first_plain text line (all_lines after) e in
    record {
      fed = line ++ 10 ∷ [];
      parted = ap fed_lines whole ∙ fed_lines-line line after plain;
      size = omega (arith, ap length whole, length-append line (10 ∷ after), length-append line (10 ∷ []));
      line_is = without_feed-line line plain;
      feed = fed_has_one line ∙ below_more (length line) (length text) (omega (arith, ap length whole, length-append line (10 ∷ after)));
    }
fed_first text line after e (inr last) =
    let plain = first_plain text line (all_lines after) e in
    let P : List ℕ → Type 0 = λ t. Fed t line [] in
    let Q : List ℕ → Type 0 = λ a. Fed text line a in
    subst Q (sym last.1) (subst P (sym last.0) (fed_last line (all_lines after) (ap all_lines (sym last.0) ∙ e) plain))

-- the lines read so far, none of them that line, and those of the rest
pub record ReadTo (last : Bool) (bytes rest : List ℕ) (count : ℕ) : Type 0 where
  pub done : List (List ℕ)
  pub parted : fed_lines bytes ≡ done ++ fed_lines rest
  pub size : length bytes ≡ length (bytes_of done) + length rest
  pub go : before_go last (fed_lines bytes) ≡ option_map (λ b. done ++ b) (before_go last (fed_lines rest))
  pub numbered : count ≡ length done
  pub bound : count + length rest ≤ length bytes

same_option : (o : Option (List (List ℕ))) → o ≡ option_map (λ b. b) o
same_option None = refl
same_option (Some b) = refl

pub read_nothing : (last : Bool) (bytes : List ℕ) → ReadTo last bytes bytes 0
read_nothing last bytes = record { done = []; parted = refl; size = omega arith; go = same_option (before_go last (fed_lines bytes)); numbered = refl; bound = omega arith }

option_more : (done : List (List ℕ)) (line : List ℕ) (o : Option (List (List ℕ))) → option_map (λ b. done ++ b) (option_map (λ b. line ∷ b) o) ≡ option_map (λ b. (done ++ line ∷ []) ++ b) o
option_more done line None = refl
option_more done line (Some b) = ap (λ (l : List (List ℕ)). Some l) (sym (append_assoc done (line ∷ []) b))

go_later : (last : Bool) (line : List ℕ) (lines : List (List ℕ)) → is_go last line ≡ false → before_go last (line ∷ lines) ≡ option_map (λ b. line ∷ b) (before_go last lines)
unfolding before_go
go_later last line lines other = rw other refl

go_now : (last : Bool) (line : List ℕ) (lines : List (List ℕ)) → is_go last line ≡ true → before_go last (line ∷ lines) ≡ Some []
unfolding before_go
go_now last line lines found = rw found refl

judged : (last : Bool) (text line after : List ℕ) (f : Fed text line after) (test : Bool) → test ≡ ((nat_lt (length line) (length text) || last) && is_go_alone (line_words line)) → is_go last f.fed ≡ test
judged last text line after f test e = rw (f.feed, f.line_is) (sym e)

pub read_line : (last : Bool) (bytes rest line after : List ℕ) (count : ℕ) (test : Bool) → ReadTo last bytes rest count → Fed rest line after
    → test ≡ ((nat_lt (length line) (length rest) || last) && is_go_alone (line_words line)) → test ≡ false → length after < length rest → ReadTo last bytes after (count + 1)
read_line last bytes rest line after count test r f e other shorter = record {
  done = r.done ++ f.fed ∷ [];
  parted = r.parted ∙ ap (λ ls. r.done ++ ls) f.parted ∙ sym (append_assoc r.done (f.fed ∷ []) (fed_lines after));
  size = omega (arith, r.size, f.size, ap length (flat_map-append (λ l. l) r.done (f.fed ∷ [])), length-append (bytes_of r.done) (f.fed ++ []), length-append f.fed []);
  go = r.go ∙ ap (λ ls. option_map (λ b. r.done ++ b) (before_go last ls)) f.parted
      ∙ ap (option_map (λ b. r.done ++ b)) (go_later last f.fed (fed_lines after) (judged last rest line after f test e ∙ other)) ∙ option_more r.done f.fed (before_go last (fed_lines after));
  numbered = omega (arith, r.numbered, length-append r.done (f.fed ∷ []));
  bound = omega (arith, r.bound, shorter);
}

-- that line is behind the lines read
pub found_go : (bytes rest line after : List ℕ) (ended last : Bool) (count : ℕ) (test : Bool) → last ≡ counts_last bytes ended → ReadTo last bytes rest count → Fed rest line after
    → test ≡ ((nat_lt (length line) (length rest) || last) && is_go_alone (line_words line)) → test ≡ true → Go (length bytes - length rest) ≡ wants_before_go bytes ended
unfolding heard
found_go bytes rest line after ended last count test same r f e found =
    let go : before_go last (fed_lines bytes) ≡ Some (r.done ++ []) =
    r.go ∙ ap (λ ls. option_map (λ b. r.done ++ b) (before_go last ls)) f.parted ∙ ap (option_map (λ b. r.done ++ b)) (go_now last f.fed (fed_lines after) (judged last rest line after f test e ∙ found)) in
    let wants : length bytes - length rest ≡ length (bytes_of (r.done ++ [])) = omega (arith, r.size, ap (λ ls. length (bytes_of ls)) (append-nil r.done)) in
    ap (λ n. Go n) wants ∙ ap (λ o. asking_of (heard_of o bytes ended)) (sym go ∙ ap (λ l. before_go l (fed_lines bytes)) same)

-- no line is that one
pub all_read : (bytes rest : List ℕ) (ended last : Bool) (count : ℕ) → last ≡ counts_last bytes ended → rest ≡ [] → ReadTo last bytes rest count → (count ≡ length (fed_lines bytes)) × (asking_of (without_go bytes ended) ≡ wants_before_go bytes ended)
unfolding heard before_go fed_lines
all_read bytes rest ended last count same none r = (
  r.numbered ∙ ap length (sym (append-nil r.done) ∙ ap (λ t. r.done ++ fed_lines t) (sym none) ∙ sym r.parted),
  ap (λ o. asking_of (heard_of o bytes ended)) (sym (r.go ∙ ap (λ t. option_map (λ b. r.done ++ b) (before_go last (fed_lines t))) none) ∙ ap (λ l. before_go l (fed_lines bytes)) same),
)
