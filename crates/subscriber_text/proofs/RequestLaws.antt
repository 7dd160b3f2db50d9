-- What a subscriber asks is what its wants before `GO` say.
use Rattle.std.proofs.Common.{◌≡◌, ℕ, suc, ◌+◌, ◌≤◌, Bool, true, false, List, [], ◌∷◌, ◌++◌, length, map, take, refl, sym, ap, ◌∙◌, arith, inl, inr, length-append}
use Rattle.std.specs.Prelude.{◌==◌, nat_le, Option, Some, None}
use Rattle.std.proofs.lemmas.Bool.{cases_Bool}
use Rattle.std.proofs.lemmas.Grind.{flat_map-append}
use Rattle.byte_forms.specs.Lines.{onto_first, all_lines}
use Rattle.subscriber_text.specs.Parts.{fed_lines, without_feed}
use Rattle.subscriber_text.specs.WantLines.{asked_lines, asked}
use Rattle.subscriber_text.specs.declared.fault.WantsFault.TheVariants as faults
use Rattle.subscriber_text.specs.declared.before_go.Asking.TheVariants.{Go, Open, Gone, Long}
use Rattle.subscriber_text.specs.BeforeGo.{Heard, Before, Awaited, Ended, Limit, Refused, Unfinished, Unasked, before_go_limit, before_go, bytes_of, counts_last, without_go, heard_of, heard, asking_of, wants_before_go, request_of_wants, request_of, request}
use Rattle.subscriber_text.proofs.GoLaws.{fed_bytes, go_first}

-- ---- lines with and without their line feeds

onto_unfed : (b : ℕ) (lines : List (List ℕ)) → (b == 10) ≡ false → map without_feed (onto_first b lines) ≡ onto_first b (map without_feed lines)
unfolding without_feed
onto_unfed b [] plain = rw plain refl
onto_unfed b (line ∷ lines) plain = rw plain refl

pub lines_unfed : (bytes : List ℕ) → all_lines bytes ≡ map without_feed (fed_lines bytes)
unfolding all_lines fed_lines without_feed
lines_unfed [] = refl
lines_unfed (b ∷ bs) = elim (cases_Bool (b == 10)) [
  | inl feed ↦ rw feed (ap (λ ls. [] ∷ ls) (lines_unfed bs))
  | inr plain ↦ rw plain (ap (onto_first b) (lines_unfed bs) ∙ sym (onto_unfed b (fed_lines bs) plain))
]

-- ---- the lines before one are the lines of their bytes

-- a line more before the others
onto_cut : (b : ℕ) (lines before : List (List ℕ)) (line : List ℕ) (after : List (List ℕ)) → (b == 10) ≡ false
    → ((fore : List (List ℕ)) → lines ≡ fore ++ line ∷ after → fed_lines (bytes_of fore) ≡ fore)
    → onto_first b lines ≡ before ++ line ∷ after → fed_lines (bytes_of before) ≡ before
unfolding fed_lines
onto_cut b lines [] line after plain later e = refl
onto_cut b [] (l ∷ ls) line after plain later e = absurd (too_short ls (cc e))
  where
    too_short : (ls : List (List ℕ)) → [] ≡ ls ++ line ∷ after → ⊥
    too_short [] e = cc e
    too_short (l ∷ ls) e = cc e
onto_cut b (m ∷ ms) (l ∷ ls) line after plain later e =
    let first : b ∷ m ≡ l = cc e in
    let others : ms ≡ ls ++ line ∷ after = cc e in
    rw (sym first) (rw plain (ap (onto_first b) (later (m ∷ ls) (ap (λ xs. m ∷ xs) others))))

pub fed_before : (bytes : List ℕ) (before : List (List ℕ)) (line : List ℕ) (after : List (List ℕ)) → fed_lines bytes ≡ before ++ line ∷ after → fed_lines (bytes_of before) ≡ before
unfolding fed_lines
fed_before [] [] line after e = refl
fed_before [] (l ∷ ls) line after e = absurd (cc e)
fed_before (b ∷ bs) before line after e = elim (cases_Bool (b == 10)) [
  | inl feed ↦ fed_line (fed_lines bs) before line after (λ fore f. fed_before bs fore line after f) (rw feed at e)
  | inr plain ↦ onto_cut b (fed_lines bs) before line after plain (λ fore f. fed_before bs fore line after f) (rw plain at e)
]
  where
    fed_line : (lines before : List (List ℕ)) (line : List ℕ) (after : List (List ℕ))
        → ((fore : List (List ℕ)) → lines ≡ fore ++ line ∷ after → fed_lines (bytes_of fore) ≡ fore)
        → (10 ∷ []) ∷ lines ≡ before ++ line ∷ after → fed_lines (bytes_of before) ≡ before
    fed_line lines [] line after later e = refl
    fed_line lines (l ∷ ls) line after later e =
        let first : 10 ∷ [] ≡ l = cc e in
        let others : lines ≡ ls ++ line ∷ after = cc e in
        rw (sym first) (ap (λ xs. (10 ∷ []) ∷ xs) (later ls others))

-- the bytes up to the end of these lines
take_prefix : (a b : List ℕ) → take (length a) (a ++ b) ≡ a
take_prefix [] b = refl
take_prefix (x ∷ a) b = ap (λ xs. x ∷ xs) (take_prefix a b)

record Prefix (bytes : List ℕ) (before : List (List ℕ)) : Type 0 where
  within : length (bytes_of before) ≤ length bytes
  taken : take (length (bytes_of before)) bytes ≡ bytes_of before

prefix : (bytes : List ℕ) (before : List (List ℕ)) (line : List ℕ) (after : List (List ℕ)) → fed_lines bytes ≡ before ++ line ∷ after → Prefix bytes before
prefix bytes before line after e =
    let parted : bytes ≡ bytes_of before ++ bytes_of (line ∷ after) =
    sym (fed_bytes bytes) ∙ ap bytes_of e ∙ flat_map-append (λ l. l) before (line ∷ after) in
    record {
      within = omega (arith, ap length parted, length-append (bytes_of before) (bytes_of (line ∷ after)));
      taken = ap (take (length (bytes_of before))) parted ∙ take_prefix (bytes_of before) (bytes_of (line ∷ after));
    }

-- ---- what is heard and what is asked

-- the lines before `GO` are those of the first bytes
Known : List ℕ → Heard → Type 0
Known bytes (Before before) = Prefix bytes before × (fed_lines (bytes_of before) ≡ before)
Known bytes Awaited = Unit {0}
Known bytes Ended = Unit {0}
Known bytes (Limit n) = Unit {0}

known_without : (bytes : List ℕ) (ended : Bool) → Known bytes (without_go bytes ended)
unfolding Known
known_without bytes ended = elim (cases_Bool (nat_le before_go_limit (length bytes))) [
  | inl long ↦ rw long tt
  | inr short ↦ rw short (elim (cases_Bool ended) [ inl e ↦ rw e tt | inr e ↦ rw e tt ])
]

known_of : (bytes : List ℕ) (ended : Bool) (o : Option (List (List ℕ))) → before_go (counts_last bytes ended) (fed_lines bytes) ≡ o → Known bytes (heard_of o bytes ended)
unfolding Known
known_of bytes ended (Some before) found =
    let first = go_first (counts_last bytes ended) (fed_lines bytes) before found in
    (prefix bytes before first.0 first.1 first.2, fed_before bytes before first.0 first.1 first.2)
known_of bytes ended None none = known_without bytes ended

known : (bytes : List ℕ) (ended : Bool) → Known bytes (heard bytes ended)
unfolding heard
known bytes ended = known_of bytes ended (before_go (counts_last bytes ended) (fed_lines bytes)) refl

go_asks : (names : List (List ℕ)) (bytes : List ℕ) (h : Heard) (n : ℕ) → Known bytes h → asking_of h ≡ Go n
    → (n ≤ length bytes) × (request_of names h ≡ request_of_wants (asked names (take n bytes)))
unfolding Known asked
go_asks names bytes (Before before) n k e =
    let here : length (bytes_of before) ≡ n = cc e in
    rw (sym here) (
      k.0.within,
      ap (λ ls. request_of_wants (asked_lines names (map without_feed ls))) (sym k.1)
          ∙ ap (λ ls. request_of_wants (asked_lines names ls)) (sym (lines_unfed (bytes_of before)))
          ∙ ap (λ t. request_of_wants (asked_lines names (all_lines t))) (sym k.0.taken),
    )
go_asks names bytes Awaited n k e = absurd (cc e)
go_asks names bytes Ended n k e = absurd (cc e)
go_asks names bytes (Limit m) n k e = absurd (cc e)

long_asks : (names : List (List ℕ)) (h : Heard) (n : ℕ) → asking_of h ≡ Long n → request_of names h ≡ Refused (faults.Line n)
long_asks names (Before before) n e = absurd (cc e)
long_asks names Awaited n e = absurd (cc e)
long_asks names Ended n e = absurd (cc e)
long_asks names (Limit m) n e =
    let here : m ≡ n = cc e in
    ap (λ k. Refused (faults.Line k)) here

gone_asks : (names : List (List ℕ)) (h : Heard) → asking_of h ≡ Gone → request_of names h ≡ Unasked
gone_asks names (Before before) e = absurd (cc e)
gone_asks names Awaited e = absurd (cc e)
gone_asks names Ended e = refl
gone_asks names (Limit m) e = absurd (cc e)

open_asks : (names : List (List ℕ)) (h : Heard) → asking_of h ≡ Open → request_of names h ≡ Unfinished
open_asks names (Before before) e = absurd (cc e)
open_asks names Awaited e = refl
open_asks names Ended e = absurd (cc e)
open_asks names (Limit m) e = absurd (cc e)

pub go_request : (names : List (List ℕ)) (bytes : List ℕ) (ended : Bool) (n : ℕ) → wants_before_go bytes ended ≡ Go n
    → (n ≤ length bytes) × (request names bytes ended ≡ request_of_wants (asked names (take n bytes)))
go_request names bytes ended n e = go_asks names bytes (heard bytes ended) n (known bytes ended) e

pub long_request : (names : List (List ℕ)) (bytes : List ℕ) (ended : Bool) (n : ℕ) → wants_before_go bytes ended ≡ Long n → request names bytes ended ≡ Refused (faults.Line n)
long_request names bytes ended n e = long_asks names (heard bytes ended) n e

pub gone_request : (names : List (List ℕ)) (bytes : List ℕ) (ended : Bool) → wants_before_go bytes ended ≡ Gone → request names bytes ended ≡ Unasked
gone_request names bytes ended e = gone_asks names (heard bytes ended) e

pub open_request : (names : List (List ℕ)) (bytes : List ℕ) (ended : Bool) → wants_before_go bytes ended ≡ Open → request names bytes ended ≡ Unfinished
open_request names bytes ended e = open_asks names (heard bytes ended) e
