-- Parts up to a closing sign: either the sign is there, or a part and behind it the others.
use Rattle.std.proofs.Common.{◌≡◌, ◌∙◌, sym, ap, refl, arith, ℕ, zero, suc, ◌<◌, ◌≤◌, ◌⊎◌, inl, inr, true, false, List, [], ◌∷◌, ◌++◌, length, append_assoc, append-nil}
use Rattle.std.specs.Prelude.{nat_lt, Option, Some, None}
use Rattle.std.proofs.lemmas.Bool.Decides.{nat_tests}
use Rattle.sig_text.specs.declared.token.Token.{Token}
use Rattle.token_forms.specs.Pieces.{literal_at}
use Rattle.token_forms.specs.Runs.{Form}
use Rattle.ldf_grammar.specs.Forms.{put_before, put_all_before, until_part, until_by, until_within, until}

lt_cases : (m n : ℕ) → ((nat_lt m n ≡ true) × (m < n)) ⊎ ((nat_lt m n ≡ false) × (n ≤ m))
lt_cases m n = grind (arith, nat_tests)

none_is_shorter : (n : ℕ) → nat_lt n 0 ≡ false
none_is_shorter n = grind (arith, nat_tests)

-- without tokens nothing is found
no_token : {A : Type 0} (text close : List ℕ) (part : Form A) (later : Form (List A)) (found : Option (A × List Token)) → until_part later [] found ≡ None
no_token text close part later None = refl
no_token text close part later (Some found) = rw (none_is_shorter (length found.1)) refl

none_within : {A : Type 0} (text close : List ℕ) (part : Form A) (n : ℕ) → until_within n text close part [] ≡ None
unfolding until_within literal_at
none_within text close part zero = refl
none_within text close part (suc n) = no_token text close part (until_within n text close part) (part [])

-- what is found is the same under every limit that the tokens keep
pub any_limit : {A : Type 0} (text close : List ℕ) (part : Form A) (n m : ℕ) (tokens : List Token) → length tokens ≤ n → length tokens ≤ m
    → until_within n text close part tokens ≡ until_within m text close part tokens
unfolding until_within
any_limit text close part zero zero tokens p q = refl
any_limit text close part zero (suc m) [] p q = sym (none_within text close part (suc m))
any_limit text close part zero (suc m) (t ∷ ts) p q = absurd (omega arith)
any_limit text close part (suc n) zero [] p q = none_within text close part (suc n)
any_limit text close part (suc n) zero (t ∷ ts) p q = absurd (omega arith)
any_limit text close part (suc n) (suc m) tokens p q =
    elim (literal_at text close tokens) as (λ rest. until_by (until_within n text close part) part tokens rest ≡ until_by (until_within m text close part) part tokens rest) [
      | Some rest ↦ refl
      | None ↦ elim (part tokens) as (λ found. until_part (until_within n text close part) tokens found ≡ until_part (until_within m text close part) tokens found) [
        | None ↦ refl
        | Some found ↦ elim (lt_cases (length found.1) (length tokens)) [
          | inl shorter ↦ rw shorter.0 (ap (put_before found.0) (any_limit text close part n m found.1 (omega arith) (omega arith)))
          | inr longer ↦ rw longer.0 refl
        ]
      ]
    ]

-- the sign, or a part and the others
pub until_once : {A : Type 0} (text close : List ℕ) (part : Form A) (tokens : List Token)
    → until text close part tokens ≡ until_by (until text close part) part tokens (literal_at text close tokens)
unfolding until until_within literal_at
until_once text close part [] = sym (no_token text close part (until text close part) (part []))
until_once text close part (t ∷ ts) =
    elim (literal_at text close (t ∷ ts)) as (λ rest. until_by (until_within (length ts) text close part) part (t ∷ ts) rest ≡ until_by (until text close part) part (t ∷ ts) rest) [
      | Some rest ↦ refl
      | None ↦ elim (part (t ∷ ts)) as (λ found. until_part (until_within (length ts) text close part) (t ∷ ts) found ≡ until_part (until text close part) (t ∷ ts) found) [
        | None ↦ refl
        | Some found ↦ elim (lt_cases (length found.1) (length (t ∷ ts))) [
          | inl shorter ↦ rw shorter.0 (ap (put_before found.0) (any_limit text close part (length ts) (length found.1) found.1 (omega arith) (omega arith)))
          | inr longer ↦ rw longer.0 refl
        ]
      ]
    ]

pub until_closed : {A : Type 0} (text close : List ℕ) (part : Form A) (tokens rest : List Token) → Some rest ≡ literal_at text close tokens
    → until text close part tokens ≡ Some ([], rest)
until_closed text close part tokens rest e = until_once text close part tokens ∙ rw (← e) refl

pub until_stopped : {A : Type 0} (text close : List ℕ) (part : Form A) (tokens : List Token) → None ≡ literal_at text close tokens → part tokens ≡ None
    → until text close part tokens ≡ None
until_stopped text close part tokens e f = until_once text close part tokens ∙ rw (← e, f) refl

pub until_idle : {A : Type 0} (text close : List ℕ) (part : Form A) (tokens rest : List Token) (x : A) → None ≡ literal_at text close tokens
    → part tokens ≡ Some (x, rest) → length tokens ≤ length rest → until text close part tokens ≡ None
until_idle text close part tokens rest x e f long =
    until_once text close part tokens
    ∙ rw (← e, f) (elim (lt_cases (length rest) (length tokens)) [ inl shorter ↦ absurd (omega arith) | inr longer ↦ rw longer.0 refl ])

pub until_goes_on : {A : Type 0} (text close : List ℕ) (part : Form A) (tokens rest : List Token) (x : A) → None ≡ literal_at text close tokens
    → part tokens ≡ Some (x, rest) → length rest < length tokens → until text close part tokens ≡ put_before x (until text close part rest)
until_goes_on text close part tokens rest x e f short =
    until_once text close part tokens
    ∙ rw (← e, f) (elim (lt_cases (length rest) (length tokens)) [ inl shorter ↦ rw shorter.0 refl | inr longer ↦ absurd (omega arith) ])

pub put_nothing : {A : Type 0} (found : Option (List A × List Token)) → put_all_before [] found ≡ found
put_nothing None = refl
put_nothing (Some found) = refl

pub put_one_more : {A : Type 0} (xs : List A) (x : A) (found : Option (List A × List Token)) → put_all_before (xs ++ x ∷ []) found ≡ put_all_before xs (put_before x found)
put_one_more xs x None = refl
put_one_more xs x (Some found) = ap (λ ys. Some (ys, found.1)) (append_assoc xs (x ∷ []) found.0)

-- the same with the list that the code has
pub put_pushed : {A : Type 0} (ys xs : List A) (x : A) (found : Option (List A × List Token)) → ys ≡ xs ++ x ∷ [] → put_all_before ys found ≡ put_all_before xs (put_before x found)
put_pushed ys xs x found e = ap (λ zs. put_all_before zs found) e ∙ put_one_more xs x found

pub put_last : {A : Type 0} (ys xs : List A) (rest : List Token) → ys ≡ xs → put_all_before xs (Some ([], rest)) ≡ Some (ys, rest)
put_last ys xs rest e = ap (λ zs. Some (zs, rest)) (append-nil xs ∙ sym e)
