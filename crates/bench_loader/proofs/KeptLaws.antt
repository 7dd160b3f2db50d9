-- Commands keep the library's files and the names and kinds of the buses, and so what their lines name.
use Rattle.std.proofs.Common.{◌≡◌, ℕ, zero, suc, ◌+◌, List, [], ◌∷◌, length, map, cond, refl, sym, ap, subst, ◌∙◌, arith}
use Rattle.std.specs.Prelude.{Option, Some, None, All, IfSome, not, nat_lt, slice_get}
use Rattle.std.specs.List.{AllZip, position_or_len}
use Rattle.std.specs.Str.{bytes_eq}
use Rattle.bench_model.specs.declared.database.Kind.{Kind}
use Rattle.bench_model.specs.declared.database.Bus.{Bus}
use Rattle.bench_model.specs.declared.database.Bench.{Bench}
use Rattle.region_store.specs.Images.{name_of, names_of}
use Rattle.bench_inputs.specs.Asking.{Files, LibraryState}
use Rattle.bench_loader.specs.declared.load_line.Pair.{Pair}
use Rattle.bench_loader.specs.declared.targets.Target.{Target}
use Rattle.bench_loader.specs.declared.reply.Reply.{Reply}
use Rattle.bench_loader.specs.declared.reply.Reply.TheVariants as replies
use Rattle.bench_loader.specs.Targets.{place_of_bus, IsTarget, NamesBuses}
use Rattle.bench_loader.specs.Due.{Limits}
use Rattle.bench_loader.specs.Commands.{LoaderState, HasAllFiles, KeepsLibrary, Leaves}
use Rattle.bench_loader.specs.Runs.{Answered, Moment, Runs, KeepsLibraryOver}
use Rattle.bench_loader.proofs.PutLaws.{names_after}

-- one command keeps the names and kinds
names_left : (library : LibraryState) (before now : LoaderState) (line : List ℕ) (reply : Reply) → Leaves library before line reply now → names_of now.bench ≡ names_of before.bench
names_left library before now line (replies.Ok version) leaves = names_after before.bench now.bench leaves.next.changes leaves.next.after
names_left library before now line (replies.Busy holders) leaves = ap names_of leaves.0
names_left library before now line replies.Words leaves = ap (λ (s : LoaderState). names_of s.bench) leaves
names_left library before now line (replies.UnknownBus place name) leaves = ap (λ (s : LoaderState). names_of s.bench) leaves
names_left library before now line (replies.OpenFault bus) leaves = ap (λ (s : LoaderState). names_of s.bench) leaves
names_left library before now line (replies.ReadFault bus) leaves = ap (λ (s : LoaderState). names_of s.bench) leaves
names_left library before now line (replies.Refused bus fault) leaves = ap (λ (s : LoaderState). names_of s.bench) leaves
names_left library before now line (replies.TooLarge need room) leaves = ap (λ (s : LoaderState). names_of s.bench) leaves
names_left library before now line replies.VersionsSpent leaves = ap (λ (s : LoaderState). names_of s.bench) leaves
names_left library before now line replies.Memory leaves = ap (λ (s : LoaderState). names_of s.bench) leaves

-- and so do many
pub same_names : (limits : Limits) (before now : Moment) (log : List Answered) → Runs limits before log now → names_of now.loader.bench ≡ names_of before.loader.bench
same_names limits before now [] h = ap (λ (m : Moment). names_of m.loader.bench) h
same_names limits before now (entry ∷ log) h =
    same_names limits h.0 now log h.1.1 ∙ names_left before.library before.loader h.0.loader entry.line entry.reply h.1.0.answers.leaves

-- buses of the same names and kinds are named by the same pairs
same_place : (a b : List Bus) (name : List ℕ) → map name_of a ≡ map name_of b → position_or_len (λ (bus : Bus). bytes_eq bus.name name) a ≡ position_or_len (λ (bus : Bus). bytes_eq bus.name name) b
same_place [] [] name e = refl
same_place [] (y ∷ ys) name e = absurd (cc (e))
same_place (x ∷ xs) [] name e = absurd (cc (e))
same_place (x ∷ xs) (y ∷ ys) name e =
    let first : name_of x ≡ name_of y = cc (e) in
    let rest : map name_of xs ≡ map name_of ys = cc (e) in
    let same : x.name ≡ y.name = ap (λ (p : Kind × List ℕ). p.1) first in
    let behind : position_or_len (λ (bus : Bus). bytes_eq bus.name name) xs ≡ position_or_len (λ (bus : Bus). bytes_eq bus.name name) ys = same_place xs ys name rest in
    (λ i. cond (not (bytes_eq (same i) name)) (1 + behind i) 0)

same_length : (a b : List Bus) → map name_of a ≡ map name_of b → length a ≡ length b
same_length [] [] e = refl
same_length [] (y ∷ ys) e = absurd (cc (e))
same_length (x ∷ xs) [] e = absurd (cc (e))
same_length (x ∷ xs) (y ∷ ys) e = let rest : map name_of xs ≡ map name_of ys = cc (e) in ap suc (same_length xs ys rest)

place_kept : (a b : List Bus) (name : List ℕ) → map name_of a ≡ map name_of b → place_of_bus a name ≡ place_of_bus b name
place_kept a b name e =
    let place = same_place a b name e in
    let count = same_length a b e in
    (λ i. cond (nat_lt (place i) (count i)) (Some (place i)) None)

kind_kept : (a b : List Bus) (n : ℕ) (x : Bus) → map name_of a ≡ map name_of b → slice_get a n ≡ Some x → (y : Bus) × ((slice_get b n ≡ Some y) × (y.kind ≡ x.kind))
kind_kept [] b zero x e h = absurd (cc (h))
kind_kept [] b (suc n) x e h = absurd (cc (h))
kind_kept (z ∷ zs) [] n x e h = absurd (cc (e))
kind_kept (z ∷ zs) (w ∷ ws) zero x e h =
    let first : name_of z ≡ name_of w = cc (e) in
    let same : z ≡ x = cc (h) in
    (w, (refl, sym (ap (λ (p : Kind × List ℕ). p.0) first) ∙ ap (λ (bus : Bus). bus.kind) same))
kind_kept (z ∷ zs) (w ∷ ws) (suc n) x e h = let rest : map name_of zs ≡ map name_of ws = cc (e) in kind_kept zs ws n x rest h

target_kept : (a b : List Bus) (pair : Pair) (t : Target) → map name_of a ≡ map name_of b → IsTarget a pair t → IsTarget b pair t
target_kept a b pair t e h =
    let found = kind_kept a b t.bus h.bus e h.there in
    record { bus = found.0; place = sym (place_kept a b pair.bus e) ∙ h.place; there = found.1.0; kind = h.kind ∙ sym found.1.1 }

targets_kept : (a b : List Bus) (pairs : List Pair) (ts : List Target) → map name_of a ≡ map name_of b → AllZip (IsTarget a) pairs ts → AllZip (IsTarget b) pairs ts
targets_kept a b [] [] e h = tt
targets_kept a b [] (t ∷ ts) e h = absurd h
targets_kept a b (p ∷ ps) [] e h = absurd h
targets_kept a b (p ∷ ps) (t ∷ ts) e h = (target_kept a b p t e h.0, targets_kept a b ps ts e h.1)

-- the files that a line names are there, also where an earlier bench is asked
all_there : (files : Files) (bench next : Bench) (line : List ℕ) → names_of next ≡ names_of bench → HasAllFiles files bench line → HasAllFiles files next line
all_there files bench next line same all = λ pairs targets names.
    let before : NamesBuses bench.buses line pairs targets = record {
      load = names.load;
      found = targets_kept next.buses bench.buses pairs targets same names.found;
    } in
    all pairs targets before

-- one command and then others
more_strays : (files : Option Files) (bench next : Bench) (entry : Answered) (log : List Answered) (n m k : ℕ) → names_of next ≡ names_of bench
    → IfSome files (λ fs. HasAllFiles fs bench entry.line → m ≡ n) → IfSome files (λ fs. All (λ (e : Answered). HasAllFiles fs next e.line) log → k ≡ m)
    → IfSome files (λ fs. All (λ (e : Answered). HasAllFiles fs bench e.line) (entry ∷ log) → k ≡ n)
more_strays None bench next entry log n m k same one rest = tt
more_strays (Some fs) bench next entry log n m k same one rest = λ all.
    rest (λ i d within. all_there fs bench next _ same (all (suc i) d (omega (arith, within)))) ∙ one (all zero entry (omega arith))

no_strays : (files : Option Files) (bench : Bench) (n m : ℕ) → m ≡ n → IfSome files (λ fs. All (λ (e : Answered). HasAllFiles fs bench e.line) [] → m ≡ n)
no_strays None bench n m e = tt
no_strays (Some fs) bench n m e = λ all. e

pub keeps_over : (limits : Limits) (before now : Moment) (log : List Answered) → Runs limits before log now → KeepsLibraryOver before.loader.bench log before.library now.library
keeps_over limits before now [] h = record {
  files = ap (λ (m : Moment). m.library.files) h;
  opens = omega (arith, ap (λ (m : Moment). m.library.open_faults) h);
  reads = omega (arith, ap (λ (m : Moment). m.library.more_faults) h);
  rises = omega (arith, ap (λ (m : Moment). m.library.strays) h);
  strays = no_strays before.library.files before.loader.bench before.library.strays now.library.strays (ap (λ (m : Moment). m.library.strays) h);
}
keeps_over limits before now (entry ∷ log) h =
    let one : KeepsLibrary before.loader.bench entry.line before.library h.0.library = h.1.0.answers.asks in
    let rest : KeepsLibraryOver h.0.loader.bench log h.0.library now.library = keeps_over limits h.0 now log h.1.1 in
    let P : Option Files → Type 0 = λ files. IfSome files (λ fs. All (λ (e : Answered). HasAllFiles fs h.0.loader.bench e.line) log → now.library.strays ≡ h.0.library.strays) in
    record {
      files = rest.files ∙ one.files;
      opens = omega (arith, one.opens, rest.opens);
      reads = omega (arith, one.reads, rest.reads);
      rises = omega (arith, one.rises, rest.rises);
      strays = more_strays before.library.files before.loader.bench h.0.loader.bench entry log before.library.strays h.0.library.strays now.library.strays
          (names_left before.library before.loader h.0.loader entry.line entry.reply h.1.0.answers.leaves) one.strays (subst P one.files rest.strays);
    }
