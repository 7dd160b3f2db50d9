-- What a run of a form gives, one after another and as many as there are, is the longest run, and the only one.
use Rattle.std.proofs.Common.{◌≡◌, ◌∙◌, sym, ap, subst, refl, arith, ℕ, zero, suc, ◌≤◌, List, [], ◌∷◌, length}
use Rattle.std.specs.Prelude.{Option, Some, None}
use Rattle.sig_text.specs.declared.token.Token.{Token}
use Rattle.token_forms.specs.Runs.{Form, TakesTokens, AreRun, IsLongestRun, run_by, run_within, run_of}

-- one more of the form, or none
one_step : {A : Type 0} (form : Form A) → TakesTokens form → (n : ℕ) (tokens : List Token) (o : Option (A × List Token))
    → form tokens ≡ o → length tokens ≤ suc n
    → ((rest : List Token) → length rest ≤ n → IsLongestRun form rest (run_within n form rest).0 (run_within n form rest).1)
    → IsLongestRun form tokens (run_by (run_within n form) tokens o).0 (run_by (run_within n form) tokens o).1
one_step form takes n tokens None e short later = record { run = refl; longest = e }
one_step form takes n tokens (Some found) e short later =
    let less = takes tokens found e in
    let rest = later found.1 (omega arith) in
    record { run = (found.1, e, rest.run); longest = rest.longest }

none_left : {A : Type 0} (form : Form A) → TakesTokens form → (tokens : List Token) (o : Option (A × List Token)) → form tokens ≡ o
    → length tokens ≤ 0 → form tokens ≡ None
none_left form takes tokens None e short = e
none_left form takes tokens (Some found) e short = let less = takes tokens found e in absurd (omega arith)

longest_within : {A : Type 0} (form : Form A) → TakesTokens form → (n : ℕ) (tokens : List Token) → length tokens ≤ n
    → IsLongestRun form tokens (run_within n form tokens).0 (run_within n form tokens).1
unfolding run_within
longest_within form takes zero tokens short = record { run = refl; longest = none_left form takes tokens (form tokens) refl short }
longest_within form takes (suc n) tokens short = one_step form takes n tokens (form tokens) refl short (longest_within form takes n)

pub run_is_longest : {A : Type 0} (form : Form A) (tokens : List Token) → TakesTokens form
    → IsLongestRun form tokens (run_of form tokens).0 (run_of form tokens).1
run_is_longest form tokens takes = longest_within form takes (length tokens) tokens (omega arith)

-- two runs that none of the form follows are the same
some_same : {A : Type 0} (o : Option A) (x y : A) → o ≡ Some x → o ≡ Some y → x ≡ y
some_same o x y e f = cc

found_same : {A : Type 0} (o : Option (A × List Token)) (x y : A) (rest left : List Token) → o ≡ Some (x, rest) → o ≡ Some (y, left)
    → (x ≡ y) × (rest ≡ left)
found_same {A} o x y rest left e f =
    let same : ◌≡◌ {A = A × List Token} (x, rest) (y, left) = some_same o (x, rest) (y, left) e f in
    (ap (λ (p : A × List Token). p.0) same, ap (λ (p : A × List Token). p.1) same)

none_found : {A : Type 0} (o : Option A) (x : A) → o ≡ None → o ≡ Some x → ⊥
none_found o x e f = cc

cons_same : {A : Type 0} (x y : A) (xs ys : List A) → x ≡ y → xs ≡ ys → x ∷ xs ≡ y ∷ ys
cons_same x y xs ys e f = rw (e, f) refl

same_run : {A : Type 0} (form : Form A) (tokens : List Token) (xs ys : List A) (rest left : List Token) → AreRun form tokens xs rest
    → AreRun form tokens ys left
    → form rest ≡ None → form left ≡ None → (xs ≡ ys) × (rest ≡ left)
same_run form tokens [] [] rest left p q last end = (refl, sym p ∙ q)
same_run {A} form tokens [] (y ∷ ys) rest left p (middle, found, later) last end =
    let P : List Token → Type 0 = λ t. form t ≡ None in
    absurd (none_found (form tokens) (y, middle) (subst P (sym p) last) found)
same_run {A} form tokens (x ∷ xs) [] rest left (middle, found, later) q last end =
    let P : List Token → Type 0 = λ t. form t ≡ None in
    absurd (none_found (form tokens) (x, middle) (subst P (sym q) end) found)
same_run form tokens (x ∷ xs) (y ∷ ys) rest left (middle, found, later) (between, seen, after) last end =
    let same = found_same (form tokens) x y middle between found seen in
    let P : List Token → Type 0 = λ t. AreRun form t xs rest in
    let more = same_run form between xs ys rest left (subst P same.1 later) after last end in
    (cons_same x y xs ys same.0 more.0, more.1)

pub runs_are_one : {A : Type 0} (form : Form A) (tokens : List Token) (xs ys : List A) (rest left : List Token)
    → IsLongestRun form tokens xs rest → IsLongestRun form tokens ys left
    → (xs ≡ ys) × (rest ≡ left)
runs_are_one form tokens xs ys rest left p q = same_run form tokens xs ys rest left p.run q.run p.longest q.longest
