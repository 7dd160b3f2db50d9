-- Forms one behind another, a choice and parts up to a sign find what is there, where their pieces do.
use Rattle.std.proofs.Common.{◌≡◌, ◌∙◌, sym, ap, refl, subst, arith, ℕ, zero, suc, ◌<◌, ◌⊎◌, inl, inr, Bool, true, false, List, [], ◌∷◌, length}
use Rattle.std.specs.Prelude.{◌↔◌, Option, Some, None, nat_lt, if◌then◌else◌}
use Rattle.std.specs.Str.{bytes_eq}
use Rattle.std.proofs.lemmas.Option.{none-some}
use Rattle.std.proofs.lemmas.Slice.Eq.{bytes_eq-Decides}
use Rattle.sig_text.specs.declared.token.Token.{Token}
use Rattle.token_forms.specs.declared.numbers.SignedNumber.{SignedNumber}
use Rattle.token_forms.specs.Pieces.{literal_at, word_at, string_at}
use Rattle.token_forms.specs.Numbers.{number_up_to_at, signed_at}
use Rattle.token_forms.specs.Runs.{Form}
use Rattle.ldf_grammar.specs.Forms.{go_on, followed_by, say, demand, expect, passed, either, chosen, put_before, until_part, until_by, until_within, until}
use Rattle.token_forms.specs.Grammar.{◌▸◌, Any, Lacks, One, Quoted, IsWord, IsString, NumberUpTo, OptionalSign, Signed}
use Rattle.ldf_grammar.specs.Statements.{Part, UpTo}
use Rattle.ldf_grammar.proofs.UntilLaws.{until_closed, until_goes_on}

-- what the crate below says of its pieces: they find exactly what is there
pub record Pieces : Type 0 where
  pub quoted : (text literal : List ℕ) (tokens rest : List Token) → (literal_at text literal tokens ≡ Some rest) ↔ Quoted text literal tokens rest
  pub word : (tokens : List Token) (word : Token) (rest : List Token) → (word_at tokens ≡ Some (word, rest)) ↔ One IsWord word tokens rest
  pub string : (tokens : List Token) (string : Token) (rest : List Token) → (string_at tokens ≡ Some (string, rest)) ↔ One IsString string tokens rest
  pub number : (text : List ℕ) (limit : ℕ) (tokens : List Token) (n : ℕ) (rest : List Token)
      → (number_up_to_at text limit tokens ≡ Some (n, rest)) ↔ NumberUpTo text limit n tokens rest
  pub signed : (text : List ℕ) (tokens : List Token) (n : SignedNumber) (rest : List Token)
      → (signed_at text tokens ≡ Some (n, rest)) ↔ Signed text n tokens rest

-- what a form finds is there, and what is there it finds
abbrev pub IsSound : {A : Type 0} → (A → Part) → Form A → Type 0
IsSound {A} Row form = (tokens : List Token) (found : A × List Token) → form tokens ≡ Some found → Row found.0 tokens found.1

abbrev pub IsComplete : {A : Type 0} → (A → Part) → Form A → Type 0
IsComplete {A} Row form = (x : A) (tokens rest : List Token) → Row x tokens rest → form tokens ≡ Some (x, rest)

pub same_some : {A : Type 0} (x y : A) → Some x ≡ Some y → x ≡ y
same_some x y e = cc

pub no_some : {A : Type 0} (o : Option A) (x : A) → o ≡ None → o ≡ Some x → ⊥
no_some o x e f = cc

pub bool_cases : (b : Bool) → (b ≡ true) ⊎ (b ≡ false)
bool_cases true = inl refl
bool_cases false = inr refl

pub cases_of : {A : Type 0} (o : Option A) → (o ≡ None) ⊎ ((x : A) × (o ≡ Some x))
cases_of None = inl refl
cases_of (Some x) = inr (x, refl)

pub first_same : (x y : Token) (xs ys : List Token) → x ∷ xs ≡ y ∷ ys → x ≡ y
first_same x y xs ys e = cc

pub apart : (a b : List ℕ) → bytes_eq a b ≡ false → ¬ (a ≡ b)
apart a b e same = let f = (bytes_eq-Decides a b).1 same in cc

pub equal_or_not : (a b : List ℕ) → ((a ≡ b) × (bytes_eq a b ≡ true)) ⊎ ((¬ (a ≡ b)) × (bytes_eq a b ≡ false))
equal_or_not a b = elim (bool_cases (bytes_eq a b)) [
  | inl e ↦ inl ((bytes_eq-Decides a b).0 e, e)
  | inr e ↦ inr (apart a b e, e)
]

pub differs : (a b : List ℕ) → ¬ (a ≡ b) → bytes_eq a b ≡ false
differs a b never = elim (equal_or_not a b) [ inl same ↦ absurd (never same.0) | inr e ↦ e.1 ]

-- ---- one behind another

opened_by : {A B : Type 0} (q : A → Form B) (o : Option (A × List Token)) (found : B × List Token) → go_on q o ≡ Some found
    → (x : A) × (middle : List Token) × (o ≡ Some (x, middle)) × (q x middle ≡ Some found)
opened_by q None found e = absurd (none-some found e)
opened_by q (Some x) found e = (x.0, x.1, refl, e)

pub opened : {A B : Type 0} (p : Form A) (q : A → Form B) (tokens : List Token) (found : B × List Token) → followed_by p q tokens ≡ Some found
    → (x : A) × (middle : List Token) × (p tokens ≡ Some (x, middle)) × (q x middle ≡ Some found)
unfolding followed_by
opened p q tokens found e = opened_by q (p tokens) found e

pub joined : {A B : Type 0} (p : Form A) (q : A → Form B) (tokens middle : List Token) (x : A) (found : Option (B × List Token))
    → p tokens ≡ Some (x, middle) → q x middle ≡ found → followed_by p q tokens ≡ found
unfolding followed_by
joined p q tokens middle x found e f = ap (go_on q) e ∙ f

pub ends : {A : Type 0} (Row : A → Part) (tokens rest : List Token) (x : A) (found : A × List Token) → say x rest ≡ Some found
    → Row x tokens rest → Row found.0 tokens found.1
unfolding say
ends {A} Row tokens rest x found e there =
    let P : A × List Token → Type 0 = λ f. Row f.0 tokens f.1 in
    let start : A × List Token = (x, rest) in
    subst P (same_some start found e) there

pub says : {A : Type 0} (x : A) (tokens : List Token) → say x tokens ≡ Some (x, tokens)
unfolding say
says x tokens = refl

pub demanded : (b : Bool) (tokens : List Token) (found : Unit {0} × List Token) → demand b tokens ≡ Some found → (b ≡ true) × (tokens ≡ found.1)
unfolding demand
demanded true tokens found e =
    let start : Unit {0} × List Token = (tt, tokens) in
    (refl, ap (λ (f : Unit {0} × List Token). f.1) (same_some start found e))
demanded false tokens found e = absurd (none-some found e)

pub demand_kept : (b : Bool) (tokens : List Token) → b ≡ true → demand b tokens ≡ Some (tt, tokens)
unfolding demand
demand_kept b tokens e = rw e refl

pub passed_back : (o : Option (List Token)) (found : Unit {0} × List Token) → passed o ≡ Some found → o ≡ Some found.1
passed_back None found e = absurd (none-some found e)
passed_back (Some rest) found e =
    let start : Unit {0} × List Token = (tt, rest) in
    ap (λ (f : Unit {0} × List Token). Some f.1) (same_some start found e)

-- ---- each part takes a token at least

abbrev pub Takes : Part → Type 0
Takes Row = (tokens rest : List Token) → Row tokens rest → length rest < length tokens

pub fewer : (x : Token) (tokens rest : List Token) → tokens ≡ x ∷ rest → length rest < length tokens
fewer x tokens rest e = rw e (omega arith)

pub then_takes : (p q : Part) → Takes p → Takes q → Takes (p ▸ q)
then_takes p q first second tokens rest (middle, a, b) =
    let m = first tokens middle a in
    let n = second middle rest b in
    omega (arith, m, n)

pub any_takes : {A : Type 0} (Row : A → Part) → ((x : A) → Takes (Row x)) → Takes (Any Row)
any_takes Row each tokens rest (x, there) = each x tokens rest there

pub one_takes : (Sort : Token → Type 0) (token : Token) → Takes (One Sort token)
one_takes Sort token tokens rest (prefix, is) = fewer token tokens rest prefix

pub quoted_takes : (text literal : List ℕ) → Takes (Quoted text literal)
quoted_takes text literal tokens rest (token, (prefix, is)) = fewer token tokens rest prefix

pub number_takes : (text : List ℕ) (limit n : ℕ) → Takes (NumberUpTo text limit n)
number_takes text limit n tokens rest (token, (prefix, is)) = fewer token tokens rest prefix

sign_leaves : (text : List ℕ) (sign : Option Token) (tokens rest left : List Token) → OptionalSign text sign tokens rest → length left < length rest → length left < length tokens
sign_leaves text None tokens rest left (same, none) h = rw same h
sign_leaves text (Some sign) tokens rest left (prefix, is) h = rw prefix (omega (arith, h))

pub signed_takes : (text : List ℕ) (n : SignedNumber) → Takes (Signed text n)
signed_takes text n tokens rest (middle, sign, (prefix, is)) = sign_leaves text n.sign tokens middle rest sign (fewer n.number middle rest prefix)

pub up_to_takes : {A : Type 0} (text close : List ℕ) (Row : A → Part) → ((x : A) → Takes (Row x)) → (xs : List A) → Takes (UpTo text close Row xs)
up_to_takes text close Row takes [] tokens rest q = quoted_takes text close tokens rest q
up_to_takes text close Row takes (x ∷ xs) tokens rest (none, (middle, one, more)) =
    let m = takes x tokens middle one in
    let n = up_to_takes text close Row takes xs middle rest more in
    omega (arith, m, n)

module _ (pieces : Pieces) where
  -- ---- a quoted token

  pub not_quoted : (text literal : List ℕ) (tokens : List Token) → Lacks (Quoted text literal) tokens → literal_at text literal tokens ≡ None
  not_quoted text literal tokens none = elim (cases_of (literal_at text literal tokens)) [
    | inl e ↦ e
    | inr some ↦ absurd (none some.0 ((pieces.quoted text literal tokens some.0).0 some.1))
  ]

  pub none_quoted : (text literal : List ℕ) (tokens : List Token) → literal_at text literal tokens ≡ None → Lacks (Quoted text literal) tokens
  none_quoted text literal tokens e rest q = no_some (literal_at text literal tokens) rest e ((pieces.quoted text literal tokens rest).1 q)

  pub expect_found : (text literal : List ℕ) (tokens : List Token) (found : Unit {0} × List Token) → expect text literal tokens ≡ Some found
      → Quoted text literal tokens found.1
  unfolding expect
  expect_found text literal tokens found e = (pieces.quoted text literal tokens found.1).0 (passed_back (literal_at text literal tokens) found e)

  pub expect_there : (text literal : List ℕ) (tokens rest : List Token) → Quoted text literal tokens rest → expect text literal tokens ≡ Some (tt, rest)
  unfolding expect
  expect_there text literal tokens rest q = ap passed ((pieces.quoted text literal tokens rest).1 q)

  -- ---- a choice

  chosen_found : {A : Type 0} (text literal : List ℕ) (behind other : Form A) (tokens : List Token) (found : A × List Token) (o : Option (List Token))
      → literal_at text literal tokens ≡ o → chosen o behind other tokens ≡ Some found
      → ((rest : List Token) × Quoted text literal tokens rest × (behind rest ≡ Some found)) ⊎ (Lacks (Quoted text literal) tokens × (other tokens ≡ Some found))
  chosen_found text literal behind other tokens found None is e = inr (none_quoted text literal tokens is, e)
  chosen_found text literal behind other tokens found (Some rest) is e = inl (rest, (pieces.quoted text literal tokens rest).0 is, e)

  pub either_found : {A : Type 0} (text literal : List ℕ) (behind other : Form A) (tokens : List Token) (found : A × List Token)
      → either text literal behind other tokens ≡ Some found
      → ((rest : List Token) × Quoted text literal tokens rest × (behind rest ≡ Some found)) ⊎ (Lacks (Quoted text literal) tokens × (other tokens ≡ Some found))
  unfolding either
  either_found text literal behind other tokens found e = chosen_found text literal behind other tokens found (literal_at text literal tokens) refl e

  pub either_behind : {A : Type 0} (text literal : List ℕ) (behind other : Form A) (tokens rest : List Token) (found : Option (A × List Token))
      → Quoted text literal tokens rest → behind rest ≡ found → either text literal behind other tokens ≡ found
  unfolding either
  either_behind text literal behind other tokens rest found q e =
      ap (λ (o : Option (List Token)). chosen o behind other tokens) ((pieces.quoted text literal tokens rest).1 q) ∙ e

  pub either_other : {A : Type 0} (text literal : List ℕ) (behind other : Form A) (tokens : List Token) (found : Option (A × List Token))
      → Lacks (Quoted text literal) tokens → other tokens ≡ found → either text literal behind other tokens ≡ found
  unfolding either
  either_other text literal behind other tokens found none e =
      ap (λ (o : Option (List Token)). chosen o behind other tokens) (not_quoted text literal tokens none) ∙ e

  -- ---- parts up to a sign

  pub until_there : {A : Type 0} (text close : List ℕ) (Row : A → Part) (part : Form A) → ((x : A) → Takes (Row x)) → IsComplete Row part
      → IsComplete (UpTo text close Row) (until text close part)
  until_there text close Row part takes finds [] tokens rest q = until_closed text close part tokens rest (sym ((pieces.quoted text close tokens rest).1 q))
  until_there text close Row part takes finds (x ∷ xs) tokens rest (none, (middle, one, more)) =
      until_goes_on text close part tokens middle x (sym (not_quoted text close tokens none)) (finds x tokens middle one) (takes x tokens middle one)
      ∙ ap (put_before x) (until_there text close Row part takes finds xs middle rest more)

  put_found : {A : Type 0} (text close : List ℕ) (Row : A → Part) (tokens middle : List Token) (x : A) (o : Option (List A × List Token)) (found : List A × List Token)
      → Lacks (Quoted text close) tokens → Row x tokens middle → ((later : List A × List Token) → o ≡ Some later → UpTo text close Row later.0 middle later.1)
      → put_before x o ≡ Some found → UpTo text close Row found.0 tokens found.1
  put_found text close Row tokens middle x None found none one more e = absurd (none-some found e)
  put_found {A} text close Row tokens middle x (Some later) found none one more e =
      let start : List A × List Token = (x ∷ later.0, later.1) in
      let P : List A × List Token → Type 0 = λ f. UpTo text close Row f.0 tokens f.1 in
      subst P (same_some start found e) (none, (middle, one, more later refl))

  test_found : {A : Type 0} (text close : List ℕ) (Row : A → Part) (later : Form (List A)) (tokens : List Token) (x : A × List Token) (b : Bool) (found : List A × List Token)
      → IsSound (UpTo text close Row) later → Lacks (Quoted text close) tokens → Row x.0 tokens x.1
      → (if b then put_before x.0 (later x.1) else None) ≡ Some found → UpTo text close Row found.0 tokens found.1
  test_found text close Row later tokens x true found sound none one e = put_found text close Row tokens x.1 x.0 (later x.1) found none one (sound x.1) e
  test_found text close Row later tokens x false found sound none one e = absurd (none-some found e)

  part_found : {A : Type 0} (text close : List ℕ) (Row : A → Part) (later : Form (List A)) (tokens : List Token) (o : Option (A × List Token)) (found : List A × List Token)
      → IsSound (UpTo text close Row) later → Lacks (Quoted text close) tokens → ((x : A × List Token) → o ≡ Some x → Row x.0 tokens x.1)
      → until_part later tokens o ≡ Some found → UpTo text close Row found.0 tokens found.1
  part_found text close Row later tokens None found sound none one e = absurd (none-some found e)
  part_found text close Row later tokens (Some x) found sound none one e =
      test_found text close Row later tokens x (nat_lt (length x.1) (length tokens)) found sound none (one x refl) e

  by_found : {A : Type 0} (text close : List ℕ) (Row : A → Part) (part : Form A) (later : Form (List A)) (tokens : List Token) (o : Option (List Token)) (found : List A × List Token)
      → literal_at text close tokens ≡ o → IsSound Row part → IsSound (UpTo text close Row) later
      → until_by later part tokens o ≡ Some found → UpTo text close Row found.0 tokens found.1
  by_found {A} text close Row part later tokens (Some rest) found is one sound e =
      let start : List A × List Token = ([], rest) in
      let P : List A × List Token → Type 0 = λ f. UpTo text close Row f.0 tokens f.1 in
      subst P (same_some start found e) ((pieces.quoted text close tokens rest).0 is)
  by_found text close Row part later tokens None found is one sound e =
      part_found text close Row later tokens (part tokens) found sound (none_quoted text close tokens is) (one tokens) e

  within_found : {A : Type 0} (text close : List ℕ) (Row : A → Part) (part : Form A) → IsSound Row part → (n : ℕ) → IsSound (UpTo text close Row) (until_within n text close part)
  unfolding until_within
  within_found text close Row part one zero tokens found e = absurd (none-some found e)
  within_found text close Row part one (suc n) tokens found e =
      by_found text close Row part (until_within n text close part) tokens (literal_at text close tokens) found refl one (within_found text close Row part one n) e

  pub until_found : {A : Type 0} (text close : List ℕ) (Row : A → Part) (part : Form A) → IsSound Row part → IsSound (UpTo text close Row) (until text close part)
  unfolding until
  until_found text close Row part one tokens found e = within_found text close Row part one (length tokens) tokens found e
