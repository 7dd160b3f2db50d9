-- Lines keep the rules or have one first fault, and never both.
use Rattle.std.proofs.Common.{◌≡◌, ◌⊎◌, ℕ, zero, suc, ◌+◌, ◌-◌, ◌<◌, ◌≤◌, List, [], ◌∷◌, ◌++◌, length, take, drop, refl, sym, ap, subst, ◌∙◌, arith, inl, inr, append_assoc}
use Rattle.std.proofs.lemmas.Bool.{cases_lt}
use Rattle.std.proofs.lemmas.List.{append-nil, length-append, take-append-drop}
use Rattle.std.proofs.Math.Seq.{take-append_seam, take-append-add, take-length}
use Rattle.bench_file.specs.LineMeaning.{LineMeaning}
use Rattle.bench_file.specs.PlanOf.{KeepRules, IsFirstFault}
use Rattle.bench_file.proofs.RuleLaws.{rules_of_prefix, rules_of_none, keep_or_break}

take_take : (m n : ℕ) (xs : List LineMeaning) → m ≤ n → take m (take n xs) ≡ take m xs
take_take zero n xs le = refl
take_take (suc m) zero xs le = absurd (omega arith)
take_take (suc m) (suc n) [] le = refl
take_take (suc m) (suc n) (x ∷ xs) le = ap (λ ys. x ∷ ys) (take_take m n xs (omega arith))

-- the first lines of lines that keep the rules
pub rules_of_take : (m : ℕ) (lines : List LineMeaning) → KeepRules lines → KeepRules (take m lines)
rules_of_take m lines k =
    let P : List LineMeaning → Type 0 = λ ls. KeepRules ls in
    rules_of_prefix (take m lines) (drop m lines) (subst P (sym (take-append-drop m lines)) k)

rules_of_fewer : (m n : ℕ) (lines : List LineMeaning) → m ≤ n → KeepRules (take n lines) → KeepRules (take m lines)
rules_of_fewer m n lines le k =
    let P : List LineMeaning → Type 0 = λ ls. KeepRules ls in
    subst P (take_take m n lines le) (rules_of_take m (take n lines) k)

-- lines that keep the rules up to a line that breaks one
pub fault_found : (whole done : List LineMeaning) (line : LineMeaning) (rest : List LineMeaning) (n : ℕ) → whole ≡ done ++ line ∷ rest → n ≡ length done + 1
    → KeepRules done → (KeepRules (done ++ line ∷ []) → ⊥) → IsFirstFault whole n
fault_found whole done line rest n split number k breaks =
    let P : List LineMeaning → Type 0 = λ ls. KeepRules ls in
    let before : take (length done) (done ++ line ∷ rest) ≡ done = take-append_seam done (line ∷ rest) in
    let with_it : take (length done + 1) (done ++ line ∷ rest) ≡ done ++ line ∷ [] = take-append-add done (line ∷ rest) 1 in
    let less : n - 1 ≡ length done = omega arith in
    record {
      from_one = omega arith;
      within = rw (split, length-append done (line ∷ rest)) (omega arith);
      before = rw (less, split, before) k;
      breaks = λ kept. breaks (subst P with_it (rw (number, split) at kept));
    }

walk : (done rest : List LineMeaning) → KeepRules done → KeepRules (done ++ rest) ⊎ ((n : ℕ) × IsFirstFault (done ++ rest) n)
walk done [] k = inl (rw (append-nil done) k)
walk done (line ∷ rest) k =
    let again : (done ++ line ∷ []) ++ rest ≡ done ++ line ∷ rest = append_assoc done (line ∷ []) rest in
    elim (keep_or_break done line k) [
      | inl more ↦ rw again at (walk (done ++ line ∷ []) rest more)
      | inr breaks ↦ inr (length done + 1, fault_found (done ++ line ∷ rest) done line rest (length done + 1) refl refl k breaks)
    ]

pub rules_or_fault : (lines : List LineMeaning) → KeepRules lines ⊎ ((n : ℕ) × IsFirstFault lines n)
rules_or_fault lines = walk [] lines rules_of_none

pub never_both : (lines : List LineMeaning) (n : ℕ) → KeepRules lines → IsFirstFault lines n → ⊥
never_both lines n k fault = fault.breaks (rules_of_take n lines k)

pub only_fault : (lines : List LineMeaning) (m n : ℕ) → IsFirstFault lines m → IsFirstFault lines n → m ≡ n
only_fault lines m n f g =
    elim (cases_lt m n) [
      | inl less ↦ absurd (f.breaks (rules_of_fewer m (n - 1) lines (omega arith) g.before))
      | inr le ↦ elim (cases_lt n m) [
        | inl more ↦ absurd (g.breaks (rules_of_fewer n (m - 1) lines (omega arith) f.before))
        | inr ge ↦ omega arith
      ]
    ]
