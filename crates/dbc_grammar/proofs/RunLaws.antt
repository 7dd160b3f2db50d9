-- A loop that reads one form after another has, with what is still ahead, the longest run of the form.
use Rattle.std.proofs.Common.{◌≡◌, ℕ, ◌+◌, ◌-◌, ◌<◌, ◌≤◌, suc, List, [], ◌∷◌, ◌++◌, Some, None, refl, sym, ap, ◌∙◌, append_assoc, arith}
use Rattle.std.proofs.lemmas.List.{append-nil}
use Rattle.std.specs.List.{flat_map}
use Rattle.sig_text.specs.declared.token.Token.{Token}
use Rattle.token_forms.specs.Runs.{Form, run_by, run_within}

-- one step of a run that may take n forms, of which i were taken
pub run_step : {A : Type 0} (form : Form A) (n i : ℕ) (tokens : List Token) → i < n →
    run_within (n - i) form tokens ≡ run_by (run_within (n - (i + 1)) form) tokens (form tokens)
unfolding run_within
run_step form n i tokens below = let e : n - i ≡ suc (n - (i + 1)) = omega arith in rw e refl

pub run_none : {A : Type 0} (form : Form A) (n i : ℕ) (tokens : List Token) → n ≤ i → run_within (n - i) form tokens ≡ ([], tokens)
unfolding run_within
run_none form n i tokens past = let e : n - i ≡ 0 = omega arith in rw e refl

-- what was taken and what is ahead are all
pub record IsAhead {A : Type 0} (form : Form A) (left : ℕ) (done : List A) (rest : List Token) (all : List A × List Token) : Type 0 where
  pub items : done ++ (run_within left form rest).0 ≡ all.0
  pub after : (run_within left form rest).1 ≡ all.1

pub one_taken : {A : Type 0} (form : Form A) (n i : ℕ) (done : List A) (rest later : List Token) (x : A) (all : List A × List Token) → i < n →
    form rest ≡ Some (x, later) → IsAhead form (n - i) done rest all → IsAhead form (n - (i + 1)) (done ++ x ∷ []) later all
one_taken form n i done rest later x all below found ahead =
    let step = run_step form n i rest below ∙ ap (run_by (run_within (n - (i + 1)) form) rest) found in
    record {
      items = append_assoc done (x ∷ []) (run_within (n - (i + 1)) form later).0 ∙ ap (λ r. done ++ r.0) (sym step) ∙ ahead.items;
      after = ap (λ r. r.1) (sym step) ∙ ahead.after;
    }

pub none_follows : {A : Type 0} (form : Form A) (n i : ℕ) (done : List A) (rest : List Token) (all : List A × List Token) → i < n →
    form rest ≡ None → IsAhead form (n - i) done rest all → (done, rest) ≡ all
none_follows form n i done rest all below none ahead =
    let step = run_step form n i rest below ∙ ap (run_by (run_within (n - (i + 1)) form) rest) none in
    let items : done ≡ all.0 = sym (append-nil done) ∙ ap (λ r. done ++ r.0) (sym step) ∙ ahead.items in
    let after : rest ≡ all.1 = ap (λ r. r.1) (sym step) ∙ ahead.after in
    ap (λ d. (d, rest)) items ∙ ap (λ r. (all.0, r)) after

pub all_taken : {A : Type 0} (form : Form A) (n i : ℕ) (done : List A) (rest : List Token) (all : List A × List Token) → n ≤ i →
    IsAhead form (n - i) done rest all → (done, rest) ≡ all
all_taken form n i done rest all past ahead =
    let step = run_none form n i rest past in
    let items : done ≡ all.0 = sym (append-nil done) ∙ ap (λ r. done ++ r.0) (sym step) ∙ ahead.items in
    let after : rest ≡ all.1 = ap (λ r. r.1) (sym step) ∙ ahead.after in
    ap (λ d. (d, rest)) items ∙ ap (λ r. (all.0, r)) after

-- the same of the tokens alone
pub rest_taken : {A : Type 0} (form : Form A) (n i : ℕ) (rest later : List Token) (x : A) (end : List Token) → i < n →
    form rest ≡ Some (x, later) → (run_within (n - i) form rest).1 ≡ end → (run_within (n - (i + 1)) form later).1 ≡ end
rest_taken form n i rest later x end below found ahead =
    ap (λ r. r.1) (sym (run_step form n i rest below ∙ ap (run_by (run_within (n - (i + 1)) form) rest) found)) ∙ ahead

pub rest_follows : {A : Type 0} (form : Form A) (n i : ℕ) (rest end : List Token) → i < n →
    form rest ≡ None → (run_within (n - i) form rest).1 ≡ end → rest ≡ end
rest_follows form n i rest end below none ahead =
    ap (λ r. r.1) (sym (run_step form n i rest below ∙ ap (run_by (run_within (n - (i + 1)) form) rest) none)) ∙ ahead

pub rest_left : {A : Type 0} (form : Form A) (n i : ℕ) (rest end : List Token) → n ≤ i →
    (run_within (n - i) form rest).1 ≡ end → rest ≡ end
rest_left form n i rest end past ahead = ap (λ r. r.1) (sym (run_none form n i rest past)) ∙ ahead

-- the same of what g keeps of each
pub record IsKeptAhead {A B : Type 0} (form : Form A) (g : A → List B) (left : ℕ) (done : List B) (rest : List Token) (all : List A) : Type 0 where
  pub items : done ++ flat_map g (run_within left form rest).0 ≡ flat_map g all

pub kept_taken : {A B : Type 0} (form : Form A) (g : A → List B) (n i : ℕ) (done more : List B) (rest later : List Token) (x : A) (all : List A) → i < n →
    form rest ≡ Some (x, later) → more ≡ done ++ g x → IsKeptAhead form g (n - i) done rest all → IsKeptAhead form g (n - (i + 1)) more later all
kept_taken form g n i done more rest later x all below found added ahead =
    let step = run_step form n i rest below ∙ ap (run_by (run_within (n - (i + 1)) form) rest) found in
    let later_items = flat_map g (run_within (n - (i + 1)) form later).0 in
    record {
      items = ap (λ d. d ++ later_items) added ∙ append_assoc done (g x) later_items ∙ ap (λ r. done ++ flat_map g r.0) (sym step) ∙ ahead.items;
    }

pub kept_follows : {A B : Type 0} (form : Form A) (g : A → List B) (n i : ℕ) (done : List B) (rest : List Token) (all : List A) → i < n →
    form rest ≡ None → IsKeptAhead form g (n - i) done rest all → done ≡ flat_map g all
kept_follows form g n i done rest all below none ahead =
    let step = run_step form n i rest below ∙ ap (run_by (run_within (n - (i + 1)) form) rest) none in
    sym (append-nil done) ∙ ap (λ r. done ++ flat_map g r.0) (sym step) ∙ ahead.items

pub kept_left : {A B : Type 0} (form : Form A) (g : A → List B) (n i : ℕ) (done : List B) (rest : List Token) (all : List A) → n ≤ i →
    IsKeptAhead form g (n - i) done rest all → done ≡ flat_map g all
kept_left form g n i done rest all past ahead =
    sym (append-nil done) ∙ ap (λ r. done ++ flat_map g r.0) (sym (run_none form n i rest past)) ∙ ahead.items
