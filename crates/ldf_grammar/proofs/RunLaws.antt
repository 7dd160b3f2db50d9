-- A statement takes a token at least; and a run of statements with one more at its end is a run.
use Rattle.std.proofs.Common.{◌≡◌, ◌∙◌, sym, ap, refl, subst, arith, ℕ, ◌<◌, ◌≤◌, ◌⊎◌, inl, inr, true, false, List, [], ◌∷◌, ◌++◌, length}
use Rattle.std.specs.Prelude.{Option, Some, None, nat_lt}
use Rattle.std.proofs.lemmas.Bool.Decides.{nat_tests}
use Rattle.sig_text.specs.declared.token.Token.{Token}
use Rattle.token_forms.specs.Runs.{Form, TakesTokens, AreRun}
use Rattle.ldf_grammar.specs.Forms.{taken, taking}
use Rattle.ldf_grammar.specs.StatementForms.{statement, whole_statement}

lt_cases : (m n : ℕ) → ((nat_lt m n ≡ true) × (m < n)) ⊎ ((nat_lt m n ≡ false) × (n ≤ m))
lt_cases m n = grind (arith, nat_tests)

lt_is_true : (m n : ℕ) → m < n → nat_lt m n ≡ true
lt_is_true m n h = grind (arith, nat_tests)

lt_is_false : (m n : ℕ) → n ≤ m → nat_lt m n ≡ false
lt_is_false m n h = grind (arith, nat_tests)

pub taking_some : {A : Type 0} (p : Form A) (tokens rest : List Token) (x : A) → p tokens ≡ Some (x, rest) → length rest < length tokens → taking p tokens ≡ Some (x, rest)
unfolding taking
taking_some p tokens rest x e h = ap (taken tokens) e ∙ rw (lt_is_true (length rest) (length tokens) h) refl

pub taking_idle : {A : Type 0} (p : Form A) (tokens rest : List Token) (x : A) → p tokens ≡ Some (x, rest) → length tokens ≤ length rest → taking p tokens ≡ None
unfolding taking
taking_idle p tokens rest x e h = ap (taken tokens) e ∙ rw (lt_is_false (length rest) (length tokens) h) refl

pub taking_none : {A : Type 0} (p : Form A) (tokens : List Token) → p tokens ≡ None → taking p tokens ≡ None
unfolding taking
taking_none p tokens e = ap (taken tokens) e

-- what is taken leaves fewer tokens
taken_short : {A : Type 0} (tokens : List Token) (o : Option (A × List Token)) (found : A × List Token) → taken tokens o ≡ Some found
    → length found.1 < length tokens
taken_short tokens None found e = absurd cc
taken_short {A} tokens (Some x) found e = elim (lt_cases (length x.1) (length tokens)) [
  | inl short ↦
      let f : Some x ≡ Some found = sym (rw short.0 refl) ∙ e in
      let g : x ≡ found = cc in
      let P : A × List Token → Type 0 = λ z. length z.1 < length tokens in
      subst P g short.1
  | inr long ↦ let f : ◌≡◌ {A = Option (A × List Token)} None (Some found) = sym (rw long.0 refl) ∙ e in absurd cc
]

pub statement_takes : (text : List ℕ) → TakesTokens (whole_statement text)
unfolding taking
statement_takes text tokens found e = taken_short tokens (statement text tokens) found e

run_more : {A : Type 0} (form : Form A) (tokens : List Token) (xs : List A) (middle rest : List Token) (x : A) → AreRun form tokens xs middle → form middle ≡ Some (x, rest)
    → AreRun form tokens (xs ++ x ∷ []) rest
run_more form tokens [] middle rest x run e = (rest, ap form run ∙ e, refl)
run_more form tokens (y ∷ ys) middle rest x run e = (run.0, run.1, run_more form run.0 ys middle rest x run.2 e)

pub run_pushed : {A : Type 0} (form : Form A) (tokens : List Token) (xs zs : List A) (middle rest : List Token) (x : A) → AreRun form tokens xs middle → form middle ≡ Some (x, rest)
    → zs ≡ xs ++ x ∷ [] → AreRun form tokens zs rest
run_pushed {A} form tokens xs zs middle rest x run e is =
    let P : List A → Type 0 = λ ys. AreRun form tokens ys rest in
    subst P (sym is) (run_more form tokens xs middle rest x run e)
