-- The name of a file is 1 to 255 bytes of UTF-8.
use Rattle.std.proofs.Common.{◌≡◌, ℕ, ◌<◌, ◌≤◌, true, false, List, length, Some, None, Result, Ok, Err, Option, refl, sym, ap, ◌∙◌, arith, inl, inr}
use Rattle.std.specs.Prelude.{◌&&◌, nat_le, MatchResult}
use Rattle.std.specs.Result.{result_ok}
use Rattle.std.specs.Borrow.{Bor}
use Rattle.std.specs.Str.{IsUtf8, is_utf8}
use Rattle.std.proofs.lemmas.Bool.{cases_Bool, le-leb}
use Rattle.std.proofs.lemmas.Str.{IsUtf8-from_is_utf8, is_utf8-from_IsUtf8}
use Rattle.bench_file.specs.LineMeaning.{longest_file_name, is_file_name}
use Rattle.bench_file.specs.ReadingView.{text_view, name_view}

name_is : (name : List ℕ) → 1 ≤ length name → length name ≤ longest_file_name → is_file_name name ≡ is_utf8 name
name_is name some short = rw (le-leb 1 (length name) some, le-leb (length name) longest_file_name short) refl

pub name_of_text : {E : Type 0} (name : List ℕ) (text : Result (Bor (List ℕ)) E) (result : Option (Bor (List ℕ))) (Q : E → Type 0) → 1 ≤ length name → length name ≤ longest_file_name
    → MatchResult text (λ s. (s.now ≡ name) × IsUtf8 name) (λ e. (IsUtf8 name → ⊥) × Q e) → result ≡ result_ok text → text_view result ≡ name_view name
name_of_text name (Ok s) result Q some short is e =
    rw (e, name_is name some short, is_utf8-from_IsUtf8 name is.1) (ap (λ (t : List ℕ). Some t) is.0)
name_of_text name (Err fault) result Q some short is e =
    elim (cases_Bool (is_utf8 name)) [
      | inl text ↦ absurd (is.0 (IsUtf8-from_is_utf8 name text))
      | inr other ↦ rw (e, name_is name some short, other) refl
    ]
