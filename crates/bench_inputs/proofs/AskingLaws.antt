-- Calls for names and then for further names are calls for all of them.
use Rattle.std.proofs.Common.{◌≡◌, ℕ, zero, suc, ◌+◌, ◌<◌, ◌≤◌, List, [], ◌∷◌, ◌++◌, length, map, get_or, take, drop, refl, sym, ap, ◌∙◌, arith, append_assoc, add-one, cond}
use Rattle.std.specs.Prelude.{Option, Some, None, All, IsSome, is_some, IfSome, true, flat_map}
use Rattle.std.specs.List.{AllZip}
use Rattle.std.proofs.lemmas.List.{append-nil, take-append-drop, drop_more}
use Rattle.std.proofs.lemmas.Grind.{flat_map-append}
use Rattle.std.proofs.Math.Seq.{take-suc}
use Rattle.port_io.specs.Library.{named, strays_after}
use Rattle.port_io.specs.Causes.{raised}
use Rattle.bench_file.specs.declared.plan.PlannedBus.{PlannedBus}
use Rattle.bench_inputs.specs.declared.database_file.DatabaseFile.{DatabaseFile}
use Rattle.bench_inputs.specs.Asking.{Files, LibraryState, strays_over, Asks, AsksFirst}
use Rattle.bench_inputs.specs.BenchFiles.{name_list, database_names, IsDatabaseOfBus}
use Rattle.bench_inputs.specs.Reading.{AreDatabases}

pub AllZip-snoc : {A B : Type 0} (R : A → B → Type 0) (xs : List A) (ys : List B) (x : A) (y : B) → AllZip R xs ys → R x y → AllZip R (xs ++ x ∷ []) (ys ++ y ∷ [])
AllZip-snoc R [] [] x y h r = (r, tt)
AllZip-snoc R [] (w ∷ ys) x y h r = absurd h
AllZip-snoc R (z ∷ xs) [] x y h r = absurd h
AllZip-snoc R (z ∷ xs) (w ∷ ys) x y h r = (h.0, AllZip-snoc R xs ys x y h.1 r)

strays-append : (files : Option Files) (names more : List (List ℕ)) (n : ℕ) → strays_over files (names ++ more) n ≡ strays_over files more (strays_over files names n)
strays-append files [] more n = refl
strays-append files (name ∷ names) more n = strays-append files names more (strays_after files name n)

pub asks_none : (s : LibraryState) → Asks s [] s
asks_none s = record { files = refl; opens = omega arith; reads = omega arith; strays = refl }

pub asks_more : (before was now : LibraryState) (names more : List (List ℕ)) → Asks before names was → Asks was more now → Asks before (names ++ more) now
asks_more before was now names more a b = record {
  files = b.files ∙ a.files;
  opens = omega (arith, a.opens, b.opens);
  reads = omega (arith, a.reads, b.reads);
  strays = b.strays ∙ ap (λ (fs : Option Files). strays_over fs more was.strays) a.files ∙ ap (strays_over before.files more) a.strays ∙ sym (strays-append before.files names more before.strays);
}

-- names that are all there
stray_none : (files : Files) (name : List ℕ) (n : ℕ) → IsSome (named files name) → strays_after (Some files) name n ≡ n
stray_none files name n there = elim (named files name) as (λ r. IsSome r → cond (is_some r) n (raised n) ≡ n) [ Some b ↦ λ h. refl | None ↦ λ h. absurd (cc h) ] there

pub no_strays : (files : Files) (names : List (List ℕ)) (n : ℕ) → All (λ name. IsSome (named files name)) names → strays_over (Some files) names n ≡ n
no_strays files [] n there = refl
no_strays files (name ∷ names) n there =
    ap (strays_over (Some files) names) (stray_none files name n (there 0 [] (omega arith)))
    ∙ no_strays files names n (λ k d within. there (suc k) d (omega arith))

-- one bus more
pub names-more : (buses : List PlannedBus) (i : ℕ) (d bus : PlannedBus) → i < length buses → bus ≡ get_or buses i d
    → database_names (take (i + 1) buses) ≡ database_names (take i buses) ++ name_list bus.database
names-more buses i d bus within is =
    let next : take (i + 1) buses ≡ take i buses ++ bus ∷ [] = rw (is, add-one) (take-suc buses i d within) in
    ap database_names next ∙ flat_map-append (λ (b : PlannedBus). name_list b.database) (take i buses) (bus ∷ []) ∙ ap (λ ns. database_names (take i buses) ++ ns) (append-nil (name_list bus.database))

pub names_left : (buses : List PlannedBus) (i : ℕ) (d bus : PlannedBus) → i < length buses → bus ≡ get_or buses i d
    → (database_names (take i buses) ++ name_list bus.database) ++ database_names (drop (i + 1) buses) ≡ database_names buses
names_left buses i d bus within is =
    ap (λ ns. ns ++ database_names (drop (i + 1) buses)) (sym (names-more buses i d bus within is))
    ∙ sym (flat_map-append (λ (b : PlannedBus). name_list b.database) (take (i + 1) buses) (drop (i + 1) buses))
    ∙ ap database_names (take-append-drop (i + 1) buses)

pub databases-more : (files : Option Files) (buses : List PlannedBus) (i : ℕ) (d bus : PlannedBus) (read : List DatabaseFile) (file : DatabaseFile) → i < length buses → bus ≡ get_or buses i d
    → AreDatabases files (take i buses) read → IfSome files (λ fs. IsDatabaseOfBus fs bus file) → AreDatabases files (take (i + 1) buses) (read ++ file ∷ [])
databases-more None buses i d bus read file within is are one = tt
databases-more (Some fs) buses i d bus read file within is are one =
    let next : take (i + 1) buses ≡ take i buses ++ bus ∷ [] = rw (is, add-one) (take-suc buses i d within) in
    rw next (AllZip-snoc (IsDatabaseOfBus fs) (take i buses) read bus file are one)
