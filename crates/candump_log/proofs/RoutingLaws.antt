-- The first name that equals a word, and the place of a line's interface.
use Rattle.std.proofs.Common.{◌≡◌, ℕ, zero, suc, ◌∷◌, ◌<◌, Bool, true, false, not, List, [], length, get_or, Option, None, Some, refl, sym, ◌∙◌, arith}
use Rattle.std.specs.Prelude.{slice_range}
use Rattle.std.specs.List.{prefix_len}
use Rattle.std.specs.Str.{bytes_eq}
use Rattle.std.proofs.lemmas.List.Sums.{prefix_len_is}
use Rattle.std.proofs.lemmas.Bool.{lt-ltb, le-ltb}
use Rattle.candump_log.specs.declared.log_line.LogLine.{LogLine}
use Rattle.candump_log.specs.declared.log_line.LogLine.TheVariants as line
use Rattle.candump_log.specs.declared.log_line.Span.{Span}
use Rattle.candump_log.specs.LineOf.{read_line, line_of, interface_of}
use Rattle.candump_log.specs.Routing.{name_place, place_of}
use Rattle.candump_log.specs.Steps.{route}
use Rattle.candump_log.specs.declared.place.Routed.{Routed}

not_of : (b : Bool) → b ≡ false → not b ≡ true
not_of true h = absurd cc
not_of false h = refl

not_at : (b : Bool) → b ≡ true → not b ≡ false
not_at true h = refl
not_at false h = absurd cc

-- an element by its place, whatever stands for one that is not there
pub same_at : (names : List (List ℕ)) (i : ℕ) (d e : List ℕ) → i < length names → get_or names i d ≡ get_or names i e
same_at [] i d e lt = absurd (omega arith)
same_at (name ∷ names) zero d e lt = refl
same_at (name ∷ names) (suc i) d e lt = same_at names i d e (omega arith)

pub first_here : (names : List (List ℕ)) (word : List ℕ) (i : ℕ) → i < length names → ((k : ℕ) → k < i → bytes_eq (get_or names k []) word ≡ false) → bytes_eq (get_or names i []) word ≡ true →
    Some i ≡ name_place names word
first_here names word i lt before here =
    let n : prefix_len (λ name. not (bytes_eq name word)) names ≡ i =
    prefix_len_is (λ (name : List ℕ). not (bytes_eq name word)) names i [] (omega arith) (λ k low. not_of (bytes_eq (get_or names k []) word) (before k low)) (λ _. not_at (bytes_eq (get_or names i []) word) here) in
    let t = lt-ltb i (length names) lt in
    rw (n, t) refl

pub none_here : (names : List (List ℕ)) (word : List ℕ) → ((k : ℕ) → k < length names → bytes_eq (get_or names k []) word ≡ false) → None ≡ name_place names word
none_here names word before =
    let n : prefix_len (λ name. not (bytes_eq name word)) names ≡ length names =
    prefix_len_is (λ (name : List ℕ). not (bytes_eq name word)) names (length names) [] (omega arith) (λ k low. not_of (bytes_eq (get_or names k []) word) (before k low)) (λ past. absurd (omega arith)) in
    let t = le-ltb (length names) (length names) (omega arith) in
    rw (n, t) refl

-- by what is read of the line
pub place_of-bad : (names : List (List ℕ)) (text : List ℕ) → None ≡ read_line text → place_of names text ≡ None
unfolding place_of interface_of
place_of-bad names text e = rw (← e) refl

pub place_of-read : (names : List (List ℕ)) (text : List ℕ) (span : Span) (l : LogLine) → Some (span, l) ≡ read_line text → place_of names text ≡ name_place names (slice_range text span.at span.end)
unfolding place_of interface_of
place_of-read names text span l e = rw (← e) refl

pub line_of-bad : (text : List ℕ) → None ≡ read_line text → line_of text ≡ line.Bad
unfolding line_of
line_of-bad text e = rw (← e) refl

pub line_of-read : (text : List ℕ) (span : Span) (l : LogLine) → Some (span, l) ≡ read_line text → line_of text ≡ l
unfolding line_of
line_of-read text span l e = rw (← e) refl

routed_same : (k l : LogLine) (p q : Option ℕ) → k ≡ l → p ≡ q → ◌≡◌ {A = Routed} (record { line = k; place = p }) (record { line = l; place = q })
routed_same k l p q e f = rw (e, f) refl

pub route-read : (names : List (List ℕ)) (long : Bool) (text : List ℕ) (span : Span) (l : LogLine) (place : Option ℕ) → long ≡ false → Some (span, l) ≡ read_line text →
    place ≡ name_place names (slice_range text span.at span.end) → ◌≡◌ {A = Routed} (record { line = l; place = place }) (route names long text)
route-read names long text span l place short e p =
    rw short (routed_same l (line_of text) place (place_of names text) (sym (line_of-read text span l e)) (p ∙ sym (place_of-read names text span l e)))

pub route-bad : (names : List (List ℕ)) (long : Bool) (text : List ℕ) → long ≡ false → None ≡ read_line text → ◌≡◌ {A = Routed} (record { line = line.Bad; place = None }) (route names long text)
route-bad names long text short e =
    rw short (routed_same line.Bad (line_of text) None (place_of names text) (sym (line_of-bad text e)) (sym (place_of-bad names text e)))
