-- A form that finds exactly what is, and how such forms are joined: one behind another, one or none, as many as there are.
use Rattle.std.proofs.Common.{◌≡◌, ◌∙◌, sym, ap, subst, refl, arith, ℕ, suc, ◌+◌, ◌⊎◌, inl, inr, Bool, true, false, List, [], ◌∷◌, drop}
use Rattle.std.specs.Prelude.{Option, Some, None, ◌↔◌, IsTrue}
use Rattle.std.proofs.lemmas.Option.{none-some}
use Rattle.byte_forms.specs.Pieces.{◌>>=◌}
use Rattle.sig_text.specs.declared.token.Token.{Token}
use Rattle.token_forms.specs.declared.numbers.SignedNumber.{SignedNumber}
use Rattle.token_forms.specs.Pieces.{literal_at, word_at, string_at}
use Rattle.token_forms.specs.Numbers.{whole_at, digits_at, signed_at}
use Rattle.token_forms.specs.Runs.{Form, TakesTokens, AreRun, IsLongestRun, run_of}
use Rattle.token_forms.specs.Grammar.{Any, Lacks, Optional, Each, One, AllOf, Quoted, IsWord, IsString, IsDigits, Whole, Signed}
use Rattle.dbc_grammar.specs.Forms.{optional}
use Rattle.dbc_grammar.specs.Passed.{pass}
use Rattle.dbc_grammar.proofs.FormLaws.{IfFound}

-- ---- forms and parts

-- what is found says this of the tokens before and behind it
abbrev pub Says : {A : Type 0} → (A → List Token → List Token → Type 0) → List Token → A × List Token → Type 0
Says Part tokens found = Part found.0 tokens found.1

pub record Finds {A : Type 0} (form : Form A) (Part : A → List Token → List Token → Type 0) : Type 0 where
  pub found : (tokens : List Token) → IfFound (Says Part tokens) (form tokens)
  pub there : (tokens : List Token) (x : A) (rest : List Token) → Part x tokens rest → form tokens ≡ Some (x, rest)

-- the same of a form that says nothing but where it ends
pub record Ends (form : List Token → Option (List Token)) (Part : List Token → List Token → Type 0) : Type 0 where
  pub found : (tokens : List Token) → IfFound (Part tokens) (form tokens)
  pub there : (tokens rest : List Token) → Part tokens rest → form tokens ≡ Some rest

-- ---- steps

pub if_found : {A : Type 0} (P : A → Type 0) (o : Option A) → ((x : A) → o ≡ Some x → P x) → IfFound P o
if_found P None each = tt
if_found P (Some x) each = each x refl

pub step : {A B : Type 0} (o : Option A) (f : A → Option B) (x : A) (r : Option B) → o ≡ Some x → f x ≡ r → (o >>= f) ≡ r
step o f x r e h = ap (λ v. v >>= f) e ∙ h

pub unbind : {A B : Type 0} (o : Option A) (f : A → Option B) (y : B) → (o >>= f) ≡ Some y → (x : A) × (o ≡ Some x) × (f x ≡ Some y)
unbind None f y e = absurd (none-some y e)
unbind (Some x) f y e = (x, refl, e)

pub either_bool : (b : Bool) → (b ≡ true) ⊎ (b ≡ false)
either_bool true = inl refl
either_bool false = inr refl

pub true_false : (b : Bool) → b ≡ true → b ≡ false → ⊥
true_false b t f = cc

pub none_or_some : {A : Type 0} (o : Option A) → (o ≡ None) ⊎ ((x : A) × (o ≡ Some x))
none_or_some None = inl refl
none_or_some (Some x) = inr (x, refl)

-- a part that a form finds is not where the form finds none
pub lacks_part : (form : List Token → Option (List Token)) (Part : List Token → List Token → Type 0) → Ends form Part
    → (tokens : List Token) → form tokens ≡ None → Lacks Part tokens
lacks_part form Part ends tokens none rest part = none-some rest (sym none ∙ ends.there tokens rest part)

pub lacks_any : {A : Type 0} (form : Form A) (Part : A → List Token → List Token → Type 0) → Finds form Part
    → (tokens : List Token) → form tokens ≡ None → Lacks (Any Part) tokens
lacks_any form Part finds tokens none rest (x, part) = none-some (x, rest) (sym none ∙ finds.there tokens x rest part)

pub none_part : (form : List Token → Option (List Token)) (Part : List Token → List Token → Type 0) → Ends form Part
    → (tokens : List Token) → Lacks Part tokens → form tokens ≡ None
none_part form Part ends tokens lacks = elim (none_or_some (form tokens)) [
  | inl none ↦ none
  | inr (rest, e) ↦ let P : Option (List Token) → Type 0 = IfFound (Part tokens) in absurd (lacks rest (subst P e (ends.found tokens)))
]

pub none_any : {A : Type 0} (form : Form A) (Part : A → List Token → List Token → Type 0) → Finds form Part
    → (tokens : List Token) → Lacks (Any Part) tokens → form tokens ≡ None
none_any {A} form Part finds tokens lacks = elim (none_or_some (form tokens)) [
  | inl none ↦ none
  | inr (x, e) ↦
      let P : Option (A × List Token) → Type 0 = IfFound (Says Part tokens) in
      absurd (lacks x.1 (x.0, subst P e (finds.found tokens)))
]

-- ---- a part or nothing

pub optional_found : (form : List Token → Option (List Token)) (Part : List Token → List Token → Type 0) → Ends form Part
    → (tokens : List Token) → Optional Part tokens (optional tokens (form tokens))
optional_found form Part ends tokens = elim (none_or_some (form tokens)) [
  | inl none ↦
      let P : Option (List Token) → Type 0 = λ o. Optional Part tokens (optional tokens o) in
      subst P (sym none) (inr (refl, lacks_part form Part ends tokens none))
  | inr (rest, e) ↦
      let P : Option (List Token) → Type 0 = λ o. Optional Part tokens (optional tokens o) in
      let Q : Option (List Token) → Type 0 = IfFound (Part tokens) in
      subst P (sym e) (inl (subst Q e (ends.found tokens)))
]

pub optional_there : (form : List Token → Option (List Token)) (Part : List Token → List Token → Type 0) → Ends form Part
    → (tokens rest : List Token) → Optional Part tokens rest → optional tokens (form tokens) ≡ rest
optional_there form Part ends tokens rest (inl part) = ap (optional tokens) (ends.there tokens rest part)
optional_there form Part ends tokens rest (inr (same, lacks)) = ap (optional tokens) (none_part form Part ends tokens lacks) ∙ same

-- ---- as many as there are

pub record Runs (A : Type 0) : Type 0 where
  pub some : (form : Form A) (tokens : List Token) → TakesTokens form
      → IsLongestRun form tokens (run_of form tokens).0 (run_of form tokens).1
  pub one : (form : Form A) (tokens : List Token) (xs ys : List A) (rest left : List Token) → IsLongestRun form tokens xs rest
      → IsLongestRun form tokens ys left → (xs ≡ ys) × (rest ≡ left)

run_each : {A : Type 0} (form : Form A) (Part : A → List Token → List Token → Type 0) → Finds form Part
    → (tokens : List Token) (xs : List A) (rest : List Token) → form rest ≡ None → AreRun form tokens xs rest → Each Part xs tokens rest
run_each form Part finds tokens [] rest none run = (run, lacks_any form Part finds rest none)
run_each {A} form Part finds tokens (x ∷ xs) rest none (middle, e, later) =
    let P : Option (A × List Token) → Type 0 = IfFound (Says Part tokens) in
    (middle, subst P e (finds.found tokens), run_each form Part finds middle xs rest none later)

pub longest_each : {A : Type 0} (form : Form A) (Part : A → List Token → List Token → Type 0) → Finds form Part
    → (tokens : List Token) (xs : List A) (rest : List Token) → IsLongestRun form tokens xs rest → Each Part xs tokens rest
longest_each form Part finds tokens xs rest longest = run_each form Part finds tokens xs rest longest.longest longest.run

pub each_longest : {A : Type 0} (form : Form A) (Part : A → List Token → List Token → Type 0) → Finds form Part
    → (tokens : List Token) (xs : List A) (rest : List Token) → Each Part xs tokens rest → IsLongestRun form tokens xs rest
each_longest form Part finds tokens [] rest (same, lacks) =
    record { run = same; longest = none_any form Part finds rest lacks }
each_longest form Part finds tokens (x ∷ xs) rest (middle, part, later) =
    let more = each_longest form Part finds middle xs rest later in
    record { run = (middle, finds.there tokens x middle part, more.run); longest = more.longest }

pub each_found : {A : Type 0} (form : Form A) (Part : A → List Token → List Token → Type 0) → Finds form Part → Runs A → TakesTokens form
    → (tokens : List Token) → Each Part (run_of form tokens).0 tokens (run_of form tokens).1
each_found form Part finds runs takes tokens =
    longest_each form Part finds tokens (run_of form tokens).0 (run_of form tokens).1 (runs.some form tokens takes)

pub each_there : {A : Type 0} (form : Form A) (Part : A → List Token → List Token → Type 0) → Finds form Part → Runs A → TakesTokens form
    → (tokens : List Token) (xs : List A) (rest : List Token) → Each Part xs tokens rest → run_of form tokens ≡ (xs, rest)
each_there {A} form Part finds runs takes tokens xs rest each =
    let run = run_of form tokens in
    let same = runs.one form tokens run.0 xs run.1 rest (runs.some form tokens takes)
    (each_longest form Part finds tokens xs rest each) in
    let P : List A → List A × List Token = λ ys. (ys, run.1) in
    let Q : List Token → List A × List Token = λ r. (xs, r) in
    ap P same.0 ∙ ap Q same.1

-- ---- all tokens of a sort

pub nil_cons : {A : Type 0} (x : A) (xs : List A) → [] ≡ x ∷ xs → ⊥
nil_cons x xs e = cc

pub cons_head : {A : Type 0} (x y : A) (xs ys : List A) → x ∷ xs ≡ y ∷ ys → x ≡ y
cons_head x y xs ys e = cc

drop_one : (n : ℕ) (token : Token) (tokens : List Token) → drop (1 + n) (token ∷ tokens) ≡ drop n tokens
drop_one n token tokens = let e : 1 + n ≡ suc n = omega arith in ap (λ k. drop k (token ∷ tokens)) e

pass_step : (p : Token → Bool) (token : Token) (tokens : List Token) → p token ≡ true → pass p (token ∷ tokens) ≡ pass p tokens
pass_step p token tokens is = rw is (drop_one _ token tokens)

pass_stop : (p : Token → Bool) (token : Token) (tokens : List Token) → p token ≡ false → pass p (token ∷ tokens) ≡ token ∷ tokens
pass_stop p token tokens isnt = rw isnt refl

pub pass_found : (p : Token → Bool) (tokens : List Token) → AllOf (λ token. IsTrue (p token)) tokens (pass p tokens)
pass_found p [] = ([], (refl, λ rest one. nil_cons one.0 rest one.1.0))
pass_found p (token ∷ tokens) =
    let P : List Token → Type 0 = AllOf (λ token. IsTrue (p token)) (token ∷ tokens) in
    elim (either_bool (p token)) [
      | inl is ↦
          let later = pass_found p tokens in
          subst P (sym (pass_step p token tokens is)) (token ∷ later.0, (tokens, (refl, is), later.1))
      | inr isnt ↦ subst P (sym (pass_stop p token tokens isnt)) (
        [],
        (
          refl,
          λ rest one.
              true_false (p token) (ap p (cons_head token one.0 tokens rest one.1.0) ∙ one.1.1) isnt,
        ),
      )
    ]

pass_none : (p : Token → Bool) (tokens : List Token) → Lacks (Any (One (λ token. IsTrue (p token)))) tokens → pass p tokens ≡ tokens
pass_none p [] lacks = refl
pass_none p (token ∷ tokens) lacks = elim (either_bool (p token)) [
  | inl is ↦ absurd (lacks tokens (token, (refl, is)))
  | inr isnt ↦ pass_stop p token tokens isnt
]

pass_each : (p : Token → Bool) (tokens passed rest : List Token) → Each (One (λ token. IsTrue (p token))) passed tokens rest
    → pass p tokens ≡ rest
pass_each p tokens [] rest (same, lacks) = ap (pass p) same ∙ pass_none p rest lacks
pass_each p tokens (x ∷ passed) rest (between, (prefix, is), later) =
    ap (pass p) prefix ∙ pass_step p x between is ∙ pass_each p between passed rest later

pub pass_there : (p : Token → Bool) (tokens rest : List Token) → AllOf (λ token. IsTrue (p token)) tokens rest → pass p tokens ≡ rest
pass_there p tokens rest all = pass_each p tokens all.0 rest all.1

-- ---- the pieces that all statements are made of, as the crate below has them

pub record Pieces : Type 0 where
  pub quoted : (text literal : List ℕ) (tokens rest : List Token) → (literal_at text literal tokens ≡ Some rest) ↔ Quoted text literal tokens rest
  pub word : (tokens : List Token) (word : Token) (rest : List Token) → (word_at tokens ≡ Some (word, rest)) ↔ One IsWord word tokens rest
  pub string : (tokens : List Token) (string : Token) (rest : List Token) → (string_at tokens ≡ Some (string, rest)) ↔ One IsString string tokens rest
  pub whole : (text : List ℕ) (limit : ℕ) (tokens : List Token) (n : ℕ) (rest : List Token)
      → (whole_at text limit tokens ≡ Some (n, rest)) ↔ Whole text limit n tokens rest
  pub digits : (text : List ℕ) (tokens : List Token) (digits : Token) (rest : List Token)
      → (digits_at text tokens ≡ Some (digits, rest)) ↔ One (IsDigits text) digits tokens rest
  pub signed : (text : List ℕ) (tokens : List Token) (n : SignedNumber) (rest : List Token)
      → (signed_at text tokens ≡ Some (n, rest)) ↔ Signed text n tokens rest

pub finds_of : {A : Type 0} (form : Form A) (Part : A → List Token → List Token → Type 0)
    → ((tokens : List Token) (x : A) (rest : List Token) → (form tokens ≡ Some (x, rest)) ↔ Part x tokens rest) → Finds form Part
finds_of form Part both = record {
  found = λ tokens. if_found (Says Part tokens) (form tokens) (λ x e. (both tokens x.0 x.1).0 e);
  there = λ tokens x rest part. (both tokens x rest).1 part;
}

-- and back
pub found_both : {A : Type 0} (form : Form A) (Part : A → List Token → List Token → Type 0) → Finds form Part
    → (tokens : List Token) (x : A) (rest : List Token) → (form tokens ≡ Some (x, rest)) ↔ Part x tokens rest
found_both {A} form Part finds tokens x rest =
    let P : Option (A × List Token) → Type 0 = IfFound (Says Part tokens) in
    (λ e. subst P e (finds.found tokens), finds.there tokens x rest)

pub quoted : Pieces → (text literal : List ℕ) → Ends (literal_at text literal) (Quoted text literal)
quoted below text literal = record {
  found = λ tokens. if_found (Quoted text literal tokens) (literal_at text literal tokens) (λ rest e. (below.quoted text literal tokens rest).0 e);
  there = λ tokens rest part. (below.quoted text literal tokens rest).1 part;
}

pub word : Pieces → Finds word_at (One IsWord)
word below = finds_of word_at (One IsWord) below.word

pub string : Pieces → Finds string_at (One IsString)
string below = finds_of string_at (One IsString) below.string

pub whole : Pieces → (text : List ℕ) (limit : ℕ) → Finds (whole_at text limit) (Whole text limit)
whole below text limit = finds_of (whole_at text limit) (Whole text limit) (below.whole text limit)

pub digits : Pieces → (text : List ℕ) → Finds (digits_at text) (One (IsDigits text))
digits below text = finds_of (digits_at text) (One (IsDigits text)) (below.digits text)

pub signed : Pieces → (text : List ℕ) → Finds (signed_at text) (Signed text)
signed below text = finds_of (signed_at text) (Signed text) (below.signed text)
