-- One element more of a list that a loop goes over.
use Rattle.std.proofs.Common.{◌≡◌, ◌∙◌, sym, ap, refl, arith, ℕ, zero, suc, ◌+◌, ◌<◌, List, [], ◌∷◌, ◌++◌, length, take, drop, get_or, map, append-nil, add-one, drop-cons}
use Rattle.std.specs.Prelude.{Option, Some, None}
use Rattle.std.specs.List.{flat_map, AllZip}
use Rattle.std.proofs.lemmas.List.{map_more, take_more}
use Rattle.std.proofs.lemmas.Grind.{flat_map-append}
use Rattle.decisions.specs.ListDecisions.{FirstFails, FirstFailsFor}
use Rattle.sig_text.specs.declared.token.Token.{Token}
use Rattle.token_forms.specs.Pieces.{token_text}
use Rattle.ldf_grammar.specs.declared.statement.SignalLine.{SignalLine}
use Rattle.ldf_grammar.specs.Gather.{named_line, stated}
use Rattle.ldf_grammar.specs.Unknown.{place_or, first_place}

pub map_step : {A B : Type 0} (f : A → B) (xs : List A) (i : ℕ) (x : A) (y : B) → i < length xs → x ≡ get_or xs i x → f x ≡ y
    → map f (take (i + 1) xs) ≡ map f (take i xs) ++ y ∷ []
map_step f xs i x y h is e = map_more f xs i x h ∙ ap (λ z. map f (take i xs) ++ z ∷ []) (ap f (sym is) ∙ e)

pub flat_step : {A B : Type 0} (f : A → List B) (xs : List A) (i : ℕ) (x : A) → i < length xs → x ≡ get_or xs i x
    → flat_map f (take (i + 1) xs) ≡ flat_map f (take i xs) ++ f x
flat_step f xs i x h is =
    ap (flat_map f) (take_more xs i x h)
    ∙ flat_map-append f (take i xs) (get_or xs i x ∷ [])
    ∙ ap (λ ys. flat_map f (take i xs) ++ ys) (append-nil (f (get_or xs i x)) ∙ ap f (sym is))

pub line_step : (text : List ℕ) (lines : List SignalLine) (i : ℕ) (x : SignalLine) (name : List ℕ) → i < length lines → x ≡ get_or lines i x → name ≡ token_text text x.name
    → map (named_line text) (take (i + 1) lines) ≡ map (named_line text) (take i lines) ++ (name, x) ∷ []
line_step text lines i x name h is e = map_step (named_line text) lines i x (name, x) h is (ap (λ n. (n, x)) (sym e))

pub stated_step : (text : List ℕ) (encoding : Token) (signals : List Token) (i : ℕ) (x : Token) (name : List ℕ) → i < length signals → x ≡ get_or signals i x → name ≡ token_text text x
    → map (stated text encoding) (take (i + 1) signals) ≡ map (stated text encoding) (take i signals) ++ (name, encoding) ∷ []
stated_step text encoding signals i x name h is e = map_step (stated text encoding) signals i x (name, encoding) h is (ap (λ n. (n, encoding)) (sym e))

pub own_default : {A : Type 0} (xs : List A) (i : ℕ) (d : A) → i < length xs → get_or xs i d ≡ get_or xs i (get_or xs i d)
own_default [] i d h = absurd (omega arith)
own_default (x ∷ xs) zero d h = refl
own_default (x ∷ xs) (suc i) d h = own_default xs i d (omega arith)

-- the first place of those that are left
pub place_found : {A : Type 0} (place : A → Option ℕ) (xs : List A) (i : ℕ) (x : A) (at : ℕ) → i < length xs → x ≡ get_or xs i x → place x ≡ Some at
    → first_place place (drop i xs) ≡ Some at
unfolding first_place
place_found place xs i x at h is e = ap (first_place place) (drop-cons xs i x h) ∙ ap (λ o. place_or o (first_place place (drop (suc i) xs))) (ap place (sym is) ∙ e)

pub place_passed : {A : Type 0} (place : A → Option ℕ) (xs : List A) (i : ℕ) (x : A) → i < length xs → x ≡ get_or xs i x → place x ≡ None
    → first_place place (drop (i + 1) xs) ≡ first_place place (drop i xs)
unfolding first_place
place_passed place xs i x h is e =
    ap (λ n. first_place place (drop n xs)) (add-one i)
    ∙ sym (ap (first_place place) (drop-cons xs i x h) ∙ ap (λ o. place_or o (first_place place (drop (suc i) xs))) (ap place (sym is) ∙ e))

drop_all : {A : Type 0} (xs : List A) (i : ℕ) → length xs ≡ i → drop i xs ≡ []
drop_all [] i e = ap (λ n. drop n []) (sym e)
drop_all (x ∷ xs) zero e = absurd (omega arith)
drop_all (x ∷ xs) (suc i) e = drop_all xs i (omega arith)

pub no_place : {A : Type 0} (place : A → Option ℕ) (xs : List A) (i : ℕ) → length xs ≡ i → first_place place (drop i xs) ≡ None
unfolding first_place
no_place place xs i e = ap (first_place place) (drop_all xs i e)

-- counterparts, one after another
pub each_append : {A B : Type 0} (R : A → B → Type 0) (xs : List A) (ys : List B) (more : List A) (others : List B) → AllZip R xs ys → AllZip R more others → AllZip R (xs ++ more) (ys ++ others)
each_append R [] [] more others each later = later
each_append R [] (y ∷ ys) more others each later = absurd each
each_append R (x ∷ xs) [] more others each later = absurd each
each_append R (x ∷ xs) (y ∷ ys) more others each later = (each.0, each_append R xs ys more others each.1 later)

-- the first that fails, behind some that do not
pub first_after : {A B : Type 0} (R : A → B → Type 0) (Fails : A → ℕ → Type 0) (xs : List A) (ys : List B) (more : List A) (at : ℕ) → AllZip R xs ys
    → FirstFailsFor R Fails more at → FirstFailsFor R Fails (xs ++ more) at
first_after R Fails [] ys more at each first = first
first_after R Fails (x ∷ xs) [] more at each first = absurd each
first_after R Fails (x ∷ xs) (y ∷ ys) more at each first =
    let later = first_after R Fails xs ys more at each.1 first in
    (suc later.0, ((y, each.0), later.1))

-- and with others behind it
still_first : {A B : Type 0} (R : A → B → Type 0) (Fails : A → ℕ → Type 0) (xs more : List A) (n at : ℕ) → FirstFails R Fails xs n at → FirstFails R Fails (xs ++ more) n at
still_first R Fails [] more n at first = absurd first
still_first R Fails (x ∷ xs) more zero at first = first
still_first R Fails (x ∷ xs) more (suc n) at first = (first.0, still_first R Fails xs more n at first.1)

pub first_before : {A B : Type 0} (R : A → B → Type 0) (Fails : A → ℕ → Type 0) (xs more : List A) (at : ℕ) → FirstFailsFor R Fails xs at → FirstFailsFor R Fails (xs ++ more) at
first_before R Fails xs more at first = (first.0, still_first R Fails xs more first.0 at first.1)
