-- Files of pairs that were asked for and then one more, and what is left of a library whose files are all there.
use Rattle.std.proofs.Common.{◌≡◌, ℕ, ◌+◌, ◌<◌, ◌≤◌, true, false, cond, List, [], ◌∷◌, ◌++◌, length, get_or, take, drop, refl, sym, ap, subst, ◌∙◌, arith, add-one}
use Rattle.std.specs.Prelude.{Option, Some, None, All, IsSome, IfSome, is_some}
use Rattle.std.proofs.lemmas.List.{take-append-drop, length-append, map-append}
use Rattle.std.proofs.Math.ListN.{get_or-append}
use Rattle.std.proofs.Math.Seq.{take-suc}
use Rattle.port_io.specs.Causes.{raised}
use Rattle.port_io.specs.Library.{named, strays_after}
use Rattle.bench_inputs.specs.declared.database_file.DatabaseFile.{DatabaseFile}
use Rattle.bench_inputs.specs.Asking.{Files, LibraryState, strays_over, Asks, AsksFirst}
use Rattle.bench_inputs.specs.BenchFiles.{HasDatabase}
use Rattle.bench_loader.specs.declared.load_line.Pair.{Pair}
use Rattle.bench_loader.specs.NextBench.{file_names, AreFiles}
use Rattle.bench_loader.proofs.ZipLaws.{AllZip-snoc}

strays-append : (files : Option Files) (names more : List (List ℕ)) (n : ℕ) → strays_over files (names ++ more) n ≡ strays_over files more (strays_over files names n)
strays-append files [] more n = refl
strays-append files (name ∷ names) more n = strays-append files names more (strays_after files name n)

-- the number of stray calls does not fall
one_rises : (files : Files) (name : List ℕ) (n : ℕ) → n ≤ strays_after (Some files) name n
one_rises files name n = elim (is_some (named files name)) as (λ b. n ≤ cond b n (raised n)) [ true ↦ omega arith | false ↦ omega arith ]

pub strays_rise : (files : Option Files) (names : List (List ℕ)) (n : ℕ) → n ≤ strays_over files names n
strays_rise files [] n = omega arith
strays_rise None (name ∷ names) n = strays_rise None names n
strays_rise (Some files) (name ∷ names) n =
    omega (arith, one_rises files name n, strays_rise (Some files) names (strays_after (Some files) name n))

pub asks_none : (s : LibraryState) → Asks s [] s
asks_none s = record { files = refl; opens = omega arith; reads = omega arith; strays = refl }

asks_more : (before was now : LibraryState) (names more : List (List ℕ)) → Asks before names was → Asks was more now → Asks before (names ++ more) now
asks_more before was now names more a b = record {
  files = b.files ∙ a.files;
  opens = omega (arith, a.opens, b.opens);
  reads = omega (arith, a.reads, b.reads);
  strays = b.strays ∙ ap (λ (fs : Option Files). strays_over fs more was.strays) a.files ∙ ap (strays_over before.files more) a.strays ∙ sym (strays-append before.files names more before.strays);
}

-- one pair more
next_names : (pairs : List Pair) (i : ℕ) (pair : Pair) → i < length pairs → pair ≡ get_or pairs i pair → file_names (take (i + 1) pairs) ≡ file_names (take i pairs) ++ pair.file ∷ []
next_names pairs i pair within is =
    let next : take (i + 1) pairs ≡ take i pairs ++ pair ∷ [] = rw add-one (take-suc pairs i pair within) ∙ ap (λ (p : Pair). take i pairs ++ p ∷ []) (sym is) in
    ap file_names next ∙ map-append (λ (p : Pair). p.file) (take i pairs) (pair ∷ [])

pub asks_next : (before was now : LibraryState) (pairs : List Pair) (i : ℕ) (pair : Pair) → i < length pairs → pair ≡ get_or pairs i pair
    → Asks before (file_names (take i pairs)) was → Asks was (pair.file ∷ []) now → Asks before (file_names (take (i + 1) pairs)) now
asks_next before was now pairs i pair within is a b =
    rw (next_names pairs i pair within is) (asks_more before was now (file_names (take i pairs)) (pair.file ∷ []) a b)

pub files_next : (files : Option Files) (pairs : List Pair) (i : ℕ) (pair : Pair) (read after : List DatabaseFile) (file : DatabaseFile) → i < length pairs → pair ≡ get_or pairs i pair
    → AreFiles files (take i pairs) read → IfSome files (λ fs. HasDatabase fs pair.file file) → after ≡ read ++ file ∷ [] → AreFiles files (take (i + 1) pairs) after
files_next None pairs i pair read after file within is are one pushed = tt
files_next (Some fs) pairs i pair read after file within is are one pushed =
    rw (pushed, next_names pairs i pair within is) (AllZip-snoc (HasDatabase fs) (file_names (take i pairs)) read pair.file file are one)

-- those up to one pair are the first of all
pub asks_first : (before was now : LibraryState) (pairs : List Pair) (i : ℕ) (pair : Pair) → i < length pairs → pair ≡ get_or pairs i pair
    → Asks before (file_names (take i pairs)) was → Asks was (pair.file ∷ []) now → AsksFirst before (file_names pairs) now
asks_first before was now pairs i pair within is a b = record {
  asked = file_names (take (i + 1) pairs);
  unasked = file_names (drop (i + 1) pairs);
  parted = sym (map-append (λ (p : Pair). p.file) (take (i + 1) pairs) (drop (i + 1) pairs)) ∙ ap file_names (take-append-drop (i + 1) pairs);
  calls = asks_next before was now pairs i pair within is a b;
}

-- the first names of names that are all there
pub prefix_there : (files : Files) (asked unasked names : List (List ℕ)) → asked ++ unasked ≡ names → All (λ name. IsSome (named files name)) names → All (λ name. IsSome (named files name)) asked
prefix_there files asked unasked names parted there = λ k d within.
    let inside : k < length names = omega (arith, length-append asked unasked, ap length parted) in
    let same : get_or names k d ≡ get_or asked k d = ap (λ xs. get_or xs k d) (sym parted) ∙ get_or-append asked unasked d k within in
    let P : List ℕ → Type 0 = λ name. IsSome (named files name) in
    subst P same (there k d inside)
