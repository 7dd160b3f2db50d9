-- At most one reply is due to a line, where the library's files are known.
use Rattle.std.proofs.Common.{◌≡◌, ℕ, zero, suc, ◌+◌, Bool, List, [], ◌∷◌, ◌++◌, length, map, Option, Some, None, refl, sym, ap, subst, ◌∙◌, arith, inl, inr}
use Rattle.std.specs.Prelude.{◌⊎◌, ◌==◌, zip, find, slice_get}
use Rattle.std.specs.List.{AllZip, enumerate_from}
use Rattle.std.proofs.lemmas.Bool.{cases_Bool}
use Rattle.std.proofs.lemmas.List.{append-nil}
use Rattle.std.proofs.lemmas.Option.{slice_get_cases}
use Rattle.port_io.specs.Library.{named}
use Rattle.decisions.specs.Decisions.{Decides}
use Rattle.decisions.specs.ListDecisions.{FirstFails, FirstFailsFor, decides_list, decides_first}
use Rattle.bench_model.specs.declared.database.Kind.{Kind}
use Rattle.bench_model.specs.declared.database.Database.{Database}
use Rattle.bench_model.specs.declared.database.Bus.{Bus}
use Rattle.bench_model.specs.declared.database.Bench.{Bench}
use Rattle.bench_model.specs.declared.replace.Change.{Change}
use Rattle.bench_model.specs.Replaced.{names_bus, database_after, bus_after, bench_after}
use Rattle.image_compiler.specs.Size.{image_size}
use Rattle.bench_inputs.specs.declared.database_file.DatabaseFile.{DatabaseFile}
use Rattle.bench_inputs.specs.Asking.{Files, LibraryState}
use Rattle.bench_inputs.specs.BenchFiles.{HasDatabase}
use Rattle.bench_loader.specs.declared.fault.DatabaseFault.{DatabaseFault}
use Rattle.bench_loader.specs.declared.load_line.Pair.{Pair}
use Rattle.bench_loader.specs.declared.targets.Target.{Target}
use Rattle.bench_loader.specs.declared.reply.Reply.{Reply}
use Rattle.bench_loader.specs.declared.reply.Reply.TheVariants as replies
use Rattle.bench_loader.specs.Judging.{Holds, IsRefused}
use Rattle.bench_loader.specs.LoadLine.{words_of_pairs, IsLoad}
use Rattle.bench_loader.specs.Targets.{place_of_bus, IsTarget, IsUnknown, NamesBuses, NamesNoBus}
use Rattle.bench_loader.specs.NextBench.{file_names, IsChange, IsRefusedChange, NamesFiles, IsRefusedLoad, IsNextBench, IsTooLarge, IsFitting}
use Rattle.bench_loader.specs.Due.{Limits, Due}
use Rattle.bench_loader.specs.Commands.{LoaderState, version_in, Answers, IsFromOutside}
use Rattle.bench_loader.specs.Runs.{Answered, AddsBench, PublishedAfter, Published}
use Rattle.bench_loader.proofs.LineLaws.{pairs_begin}
use Rattle.bench_loader.proofs.TargetLaws.{place_within}

-- a line names one list of pairs
none_left : (more : List Pair) → words_of_pairs more ≡ [] → more ≡ []
none_left [] e = refl
none_left (m ∷ ms) e = absurd (cc (e))

pub same_pairs : (p q : List Pair) → words_of_pairs p ≡ words_of_pairs q → p ≡ q
same_pairs p q same =
    let found = pairs_begin p q [] (same ∙ sym (append-nil (words_of_pairs q))) in
    found.1.0 ∙ ap (λ (xs : List Pair). q ++ xs) (none_left found.0 found.1.1) ∙ append-nil q

pub one_load : (line : List ℕ) (p q : List Pair) → IsLoad line p → IsLoad line q → p ≡ q
one_load line p q h k = let same : words_of_pairs p ≡ words_of_pairs q = cc (h.words, k.words) in same_pairs p q same

-- a pair names one bus, or none
target_path : (t u : Target) → t.bus ≡ u.bus → t.kind ≡ u.kind → t ≡ u
target_path t u b k =
    ap (λ x. let r : Target = record t { bus = x } in r) b ∙ ap (λ x. let r : Target = record u { kind = x } in r) k

some_target : (buses : List Bus) (pair : Pair) (at : ℕ) → place_of_bus buses pair.bus ≡ Some at → (t : Target) × IsTarget buses pair t
some_target buses pair at e =
    elim (slice_get_cases buses at).1 [
      | inl found ↦
          let t : Target = record { bus = at; kind = found.0.kind } in
          let is : IsTarget buses pair t = record { bus = found.0; place = e; there = found.2; kind = refl } in
          (t, is)
      | inr past ↦ absurd (omega (arith, place_within buses pair.bus at e, past.0))
    ]

some_or_none : (buses : List Bus) (pair : Pair) → ((t : Target) × IsTarget buses pair t) ⊎ ((name : List ℕ) × IsUnknown buses pair name)
some_or_none buses pair =
    elim (place_of_bus buses pair.bus) as (λ r. place_of_bus buses pair.bus ≡ r → ((t : Target) × IsTarget buses pair t) ⊎ ((name : List ℕ) × IsUnknown buses pair name)) [
      | Some at ↦ λ e. inl (some_target buses pair at e)
      | None ↦ λ e. (let is : IsUnknown buses pair pair.bus = record { none = e; name_is = refl } in inr (pair.bus, is))
    ] refl

one_target : (buses : List Bus) (pair : Pair) (t u : Target) → IsTarget buses pair t → IsTarget buses pair u → t ≡ u
one_target buses pair t u h k =
    let at : t.bus ≡ u.bus = cc (h.place, k.place) in
    let there : Some h.bus ≡ Some k.bus = sym h.there ∙ ap (λ n. slice_get buses n) at ∙ k.there in
    let same : h.bus ≡ k.bus = cc (there) in
    target_path t u at (h.kind ∙ ap (λ (b : Bus). b.kind) same ∙ sym k.kind)

target_or_none : (buses : List Bus) (pair : Pair) (t : Target) (name : List ℕ) → IsTarget buses pair t → IsUnknown buses pair name → ⊥
target_or_none buses pair t name h k = absurd (cc (h.place, k.none))

pub targets : (buses : List Bus) → Decides (IsTarget buses) (IsUnknown buses)
targets buses = record {
  some = some_or_none buses;
  one = one_target buses;
  only = λ pair m n h k. h.name_is ∙ sym k.name_is;
  apart = target_or_none buses;
}

-- the bench after changes is decided by their buses and databases
abbrev pub HasFor : Target × DatabaseFile → ℕ × Database → Type 0
HasFor asked made = (made.0 ≡ asked.0.bus) × Holds asked.0.kind asked.1 made.1

abbrev as_pair : Change → ℕ × Database
as_pair c = (c.bus, c.database.database)

abbrev database_in : Database → Option (ℕ × Database) → Database
database_in own None = own
database_in own (Some p) = p.1

abbrev is_at : ℕ → ℕ × Database → Bool
is_at place p = p.0 == place

find-pairs : (place : ℕ) (own : Database) (cs : List Change) → database_after own (find (names_bus place) cs) ≡ database_in own (find (is_at place) (map as_pair cs))
find-pairs place own [] = refl
find-pairs place own (c ∷ cs) =
    elim (cases_Bool (c.bus == place)) [
      | inl here ↦ rw (here) refl
      | inr other ↦ rw (other) (find-pairs place own cs)
    ]

abbrev bus_in : List (ℕ × Database) → ℕ × Bus → Bus
bus_in ps x = record x.1 { database = database_in x.1.database (find (is_at x.0) ps) }

buses-pairs : (cs : List Change) (xs : List (ℕ × Bus)) → map (bus_after cs) xs ≡ map (bus_in (map as_pair cs)) xs
buses-pairs cs [] = refl
buses-pairs cs (x ∷ xs) =
    let first : bus_after cs x ≡ bus_in (map as_pair cs) x = ap (λ (d : Database). let b : Bus = record x.1 { database = d } in b) (find-pairs x.0 x.1.database cs) in
    ap (λ (b : Bus). b ∷ map (bus_after cs) xs) first ∙ ap (λ (bs : List Bus). bus_in (map as_pair cs) x ∷ bs) (buses-pairs cs xs)

same_after : (bench : Bench) (cs es : List Change) → map as_pair cs ≡ map as_pair es → bench_after bench cs ≡ bench_after bench es
same_after bench cs es e =
    let all : List (ℕ × Bus) = enumerate_from 0 bench.buses in
    ap (λ (bs : List Bus). let b : Bench = record { buses = bs } in b)
    (buses-pairs cs all ∙ ap (λ (ps : List (ℕ × Database)). map (bus_in ps) all) e ∙ sym (buses-pairs es all))

all_have : (xs : List (Target × DatabaseFile)) (cs : List Change) → AllZip IsChange xs cs → AllZip HasFor xs (map as_pair cs)
all_have [] [] h = tt
all_have [] (c ∷ cs) h = absurd h
all_have (x ∷ xs) [] h = absurd h
all_have (x ∷ xs) (c ∷ cs) h = ((h.0.bus, h.0.database), all_have xs cs h.1)

first_has : (xs : List (Target × DatabaseFile)) (n : ℕ) (r : ℕ × DatabaseFault) → FirstFails IsChange IsRefusedChange xs n r → FirstFails HasFor IsRefusedChange xs n r
first_has [] n r h = h
first_has (x ∷ xs) zero r h = h
first_has (x ∷ xs) (suc n) r h = ((as_pair h.0.0, (h.0.1.bus, h.0.1.database)), first_has xs n r h.1)

number_pair : {B : Type 0} (p q : ℕ × B) → p.0 ≡ q.0 → p.1 ≡ q.1 → p ≡ q
number_pair {B} p q e f =
    let first : ℕ → ℕ × B = λ a. (a, p.1) in
    let second : B → ℕ × B = λ b. (q.0, b) in
    ap first e ∙ ap second f

module _ (F : (files : Files) → Decides (HasDatabase files) (λ (name : List ℕ) (why : Unit {0}). named files name ≡ None))
    (J : Decides (λ (p : Kind × DatabaseFile) (d : Database). Holds p.0 p.1 d) (λ (p : Kind × DatabaseFile) (f : DatabaseFault). IsRefused p.0 p.1 f)) where
  some_change : (x : Target × DatabaseFile) → ((y : ℕ × Database) × HasFor x y) ⊎ ((r : ℕ × DatabaseFault) × IsRefusedChange x r)
  some_change x =
      elim (J.some (x.0.kind, x.1)) [
        | inl d ↦ inl ((x.0.bus, d.0), (refl, d.1))
        | inr f ↦ (let is : IsRefusedChange x (x.0.bus, f.0) = record { bus = refl; fault = f.1 } in inr ((x.0.bus, f.0), is))
      ]

  pub changes : Decides HasFor IsRefusedChange
  changes = record {
    some = some_change;
    one = λ x y z h k. number_pair y z (h.0 ∙ sym k.0) (J.one (x.0.kind, x.1) y.1 z.1 h.1 k.1);
    only = λ x r s h k. number_pair r s (h.bus ∙ sym k.bus) (J.only (x.0.kind, x.1) r.1 s.1 h.fault k.fault);
    apart = λ x y r h k. J.apart (x.0.kind, x.1) y.1 r.1 h.1 k.fault;
  }

  -- what a line names is one list of buses and of files
  same_asked : (fs : Files) (bench : Bench) (line : List ℕ) (t u : List Target) (r s : List DatabaseFile) → NamesFiles (Some fs) bench line t r → NamesFiles (Some fs) bench line u s
      → zip t r ≡ zip u s
  same_asked fs bench line t u r s h k =
      let pairs : h.pairs ≡ k.pairs = one_load line h.pairs k.pairs h.names.load k.names.load in
      let P : List Pair → Type 0 = λ p. AllZip (IsTarget bench.buses) p t in
      let Q : List Pair → Type 0 = λ p. AllZip (HasDatabase fs) (file_names p) r in
      let same : t ≡ u = (decides_list (IsTarget bench.buses) (IsUnknown bench.buses) (targets bench.buses)).one k.pairs t u (subst P pairs h.names.found) k.names.found in
      let read : r ≡ s = (decides_list (HasDatabase fs) (λ (name : List ℕ) (why : Unit {0}). named fs name ≡ None) (F fs)).one (file_names k.pairs) r s (subst Q pairs h.are_files) k.are_files in
      ap (λ (x : List Target). zip x r) same ∙ ap (λ (x : List DatabaseFile). zip u x) read

  one_next : (fs : Files) (bench : Bench) (line : List ℕ) (a b : Bench) → IsNextBench (Some fs) bench line a → IsNextBench (Some fs) bench line b → a ≡ b
  one_next fs bench line a b h k =
      let asked : zip h.targets h.read ≡ zip k.targets k.read = same_asked fs bench line h.targets k.targets h.read k.read h.names k.names in
      let P : List (Target × DatabaseFile) → Type 0 = λ x. AllZip IsChange x h.changes in
      let pairs : map as_pair h.changes ≡ map as_pair k.changes =
      (decides_list HasFor IsRefusedChange changes).one (zip k.targets k.read) (map as_pair h.changes) (map as_pair k.changes)
      (all_have (zip k.targets k.read) h.changes (subst P asked h.each)) (all_have (zip k.targets k.read) k.changes k.each) in
      h.after ∙ same_after bench h.changes k.changes pairs ∙ sym k.after

  -- what one command adds
  one_added : (fs : Files) (count : ℕ) (bench : Bench) (line : List ℕ) (reply : Reply) (xs ys : List Bench) (m n : Bench)
      → AddsBench (Some fs) count bench line reply xs m → AddsBench (Some fs) count bench line reply ys n → (xs ≡ ys) × (m ≡ n)
  one_added fs count bench line (replies.Ok version) xs ys m n h k =
      let same : m ≡ n = one_next fs bench line m n h.0 k.0 in
      (h.2 ∙ ap (λ (b : Bench). b ∷ []) same ∙ sym k.2, same)
  one_added fs count bench line replies.Words xs ys m n h k = (h.1 ∙ sym k.1, h.0 ∙ sym k.0)
  one_added fs count bench line (replies.UnknownBus place name) xs ys m n h k = (h.1 ∙ sym k.1, h.0 ∙ sym k.0)
  one_added fs count bench line (replies.OpenFault bus) xs ys m n h k = (h.1 ∙ sym k.1, h.0 ∙ sym k.0)
  one_added fs count bench line (replies.ReadFault bus) xs ys m n h k = (h.1 ∙ sym k.1, h.0 ∙ sym k.0)
  one_added fs count bench line (replies.Refused bus fault) xs ys m n h k = (h.1 ∙ sym k.1, h.0 ∙ sym k.0)
  one_added fs count bench line (replies.TooLarge need room) xs ys m n h k = (h.1 ∙ sym k.1, h.0 ∙ sym k.0)
  one_added fs count bench line replies.VersionsSpent xs ys m n h k = (h.1 ∙ sym k.1, h.0 ∙ sym k.0)
  one_added fs count bench line (replies.Busy holders) xs ys m n h k = (h.1 ∙ sym k.1, h.0 ∙ sym k.0)
  one_added fs count bench line replies.Memory xs ys m n h k = (h.1 ∙ sym k.1, h.0 ∙ sym k.0)

  -- the benches that commands publish
  one_after : (fs : Files) (log : List Answered) (count : ℕ) (bench : Bench) (a b : List Bench) → PublishedAfter (Some fs) log count bench a → PublishedAfter (Some fs) log count bench b → a ≡ b
  one_after fs [] count bench a b h k = h ∙ sym k
  one_after fs (entry ∷ log) count bench a b h k =
      let same = one_added fs count bench entry.line entry.reply h.added k.added h.next k.next h.adds k.adds in
      let P : List Bench → Bench → Type 0 = λ xs next. PublishedAfter (Some fs) log (count + length xs) next h.rest in
      let rest : h.rest ≡ k.rest = one_after fs log (count + length k.added) k.next h.rest k.rest
      (subst (λ (x : List Bench × Bench). P x.0 x.1) (λ i. (same.0 i, same.1 i)) h.others) k.others in
      h.all ∙ (λ i. same.0 i ++ rest i) ∙ sym k.all

  pub one_published : (fs : Files) (start : Bench) (log : List Answered) (a b : List Bench) → Published start (Some fs) log a → Published start (Some fs) log b → a ≡ b
  one_published fs start log a b h k =
      h.all ∙ ap (λ (xs : List Bench). start ∷ xs) (one_after fs log 1 start h.more k.more h.added k.added) ∙ sym k.all

  first_refused : (fs : Files) (bench : Bench) (line : List ℕ) (r : ℕ × DatabaseFault) (u : List Target) (s : List DatabaseFile) (h : IsRefusedLoad (Some fs) bench line r)
      → NamesFiles (Some fs) bench line u s → FirstFailsFor HasFor IsRefusedChange (zip u s) r
  first_refused fs bench line r u s h names =
      let asked : zip h.targets h.read ≡ zip u s = same_asked fs bench line h.targets u h.read s h.names names in
      let P : List (Target × DatabaseFile) → Type 0 = λ x. FirstFailsFor HasFor IsRefusedChange x r in
      subst P asked (h.first.0, first_has (zip h.targets h.read) h.first.0 r h.first.1)

  one_refused : (fs : Files) (bench : Bench) (line : List ℕ) (r q : ℕ × DatabaseFault) → IsRefusedLoad (Some fs) bench line r → IsRefusedLoad (Some fs) bench line q → r ≡ q
  one_refused fs bench line r q h k =
      (decides_first HasFor IsRefusedChange changes).only (zip k.targets k.read) r q (first_refused fs bench line r k.targets k.read h k.names)
      (k.first.0, first_has (zip k.targets k.read) k.first.0 q k.first.1)

  next_or_refused : (fs : Files) (bench : Bench) (line : List ℕ) (a : Bench) (r : ℕ × DatabaseFault) → IsNextBench (Some fs) bench line a → IsRefusedLoad (Some fs) bench line r → ⊥
  next_or_refused fs bench line a r k h =
      (decides_first HasFor IsRefusedChange changes).apart (zip k.targets k.read) (map as_pair k.changes) r
      (all_have (zip k.targets k.read) k.changes k.each) (first_refused fs bench line r k.targets k.read h k.names)

  one_unknown : (buses : List Bus) (line : List ℕ) (m n : ℕ) (x y : List ℕ) → NamesNoBus buses line m x → NamesNoBus buses line n y → replies.UnknownBus m x ≡ replies.UnknownBus n y
  one_unknown buses line m n x y h k =
      let pairs : h.pairs ≡ k.pairs = one_load line h.pairs k.pairs h.load k.load in
      let P : List Pair → Type 0 = λ p. FirstFails (IsTarget buses) (IsUnknown buses) p m x in
      let p : ℕ × List ℕ = (m, x) in
      let q : ℕ × List ℕ = (n, y) in
      ap (λ (z : ℕ × List ℕ). replies.UnknownBus z.0 z.1)
      ((decides_list (IsTarget buses) (IsUnknown buses) (targets buses)).only k.pairs p q (subst P pairs h.first) k.first)

  pub named_or_unknown : (buses : List Bus) (line : List ℕ) (m : ℕ) (x : List ℕ) (pairs : List Pair) (ts : List Target) → NamesBuses buses line pairs ts → NamesNoBus buses line m x → ⊥
  named_or_unknown buses line m x pairs ts h k =
      let same : k.pairs ≡ pairs = one_load line k.pairs pairs k.load h.load in
      let P : List Pair → Type 0 = λ p. FirstFails (IsTarget buses) (IsUnknown buses) p m x in
      let at : ℕ × List ℕ = (m, x) in
      (decides_list (IsTarget buses) (IsUnknown buses) (targets buses)).apart pairs ts at h.found (subst P same k.first)

  large_or_fits : (fs : Files) (bench : Bench) (line : List ℕ) (room need : ℕ) → IsTooLarge (Some fs) bench line room need → IsFitting (Some fs) bench line room → ⊥
  large_or_fits fs bench line room need h k =
      let same : image_size h.next ≡ image_size k.next = ap image_size (one_next fs bench line h.next k.next h.is_next k.is_next) in
      omega (arith, h.large, h.need_is, k.fits, same)

  one_large : (fs : Files) (bench : Bench) (line : List ℕ) (room m n a b : ℕ) → IsTooLarge (Some fs) bench line room m → IsTooLarge (Some fs) bench line room n → a ≡ room → b ≡ room
      → replies.TooLarge m a ≡ replies.TooLarge n b
  one_large fs bench line room m n a b h k e f =
      let same : m ≡ n = h.need_is ∙ ap image_size (one_next fs bench line h.next k.next h.is_next k.is_next) ∙ sym k.need_is in
      ap (λ x. replies.TooLarge x a) same ∙ ap (λ x. replies.TooLarge n x) (e ∙ sym f)

  pub one_due : (limits : Limits) (fs : Files) (bench : Bench) (version : ℕ) (line : List ℕ) (r q : Reply) → Due limits (Some fs) bench version line r → Due limits (Some fs) bench version line q → r ≡ q
  one_due limits fs bench version line replies.Words replies.Words h k = refl
  one_due limits fs bench version line replies.Words (replies.UnknownBus m1 x1) h k = absurd (h k.pairs k.load)
  one_due limits fs bench version line replies.Words (replies.Refused bus1 f1) h k = absurd (h k.names.pairs k.names.names.load)
  one_due limits fs bench version line replies.Words (replies.TooLarge need1 room1) h k = absurd (h k.0.is_next.names.pairs k.0.is_next.names.names.load)
  one_due limits fs bench version line replies.Words replies.VersionsSpent h k = absurd (h k.0.is_next.names.pairs k.0.is_next.names.names.load)
  one_due limits fs bench version line replies.Words (replies.Ok v1) h k = absurd (h k.0.is_next.names.pairs k.0.is_next.names.names.load)
  one_due limits fs bench version line replies.Words (replies.OpenFault bus1) h k = absurd k
  one_due limits fs bench version line replies.Words (replies.ReadFault bus1) h k = absurd k
  one_due limits fs bench version line replies.Words (replies.Busy holders1) h k = absurd k
  one_due limits fs bench version line replies.Words replies.Memory h k = absurd k
  one_due limits fs bench version line (replies.UnknownBus m0 x0) replies.Words h k = absurd (k h.pairs h.load)
  one_due limits fs bench version line (replies.UnknownBus m0 x0) (replies.UnknownBus m1 x1) h k = one_unknown bench.buses line m0 m1 x0 x1 h k
  one_due limits fs bench version line (replies.UnknownBus m0 x0) (replies.Refused bus1 f1) h k = absurd (named_or_unknown bench.buses line m0 x0 k.names.pairs k.targets k.names.names h)
  one_due limits fs bench version line (replies.UnknownBus m0 x0) (replies.TooLarge need1 room1) h k = absurd (named_or_unknown bench.buses line m0 x0 k.0.is_next.names.pairs k.0.is_next.targets k.0.is_next.names.names h)
  one_due limits fs bench version line (replies.UnknownBus m0 x0) replies.VersionsSpent h k = absurd (named_or_unknown bench.buses line m0 x0 k.0.is_next.names.pairs k.0.is_next.targets k.0.is_next.names.names h)
  one_due limits fs bench version line (replies.UnknownBus m0 x0) (replies.Ok v1) h k = absurd (named_or_unknown bench.buses line m0 x0 k.0.is_next.names.pairs k.0.is_next.targets k.0.is_next.names.names h)
  one_due limits fs bench version line (replies.UnknownBus m0 x0) (replies.OpenFault bus1) h k = absurd k
  one_due limits fs bench version line (replies.UnknownBus m0 x0) (replies.ReadFault bus1) h k = absurd k
  one_due limits fs bench version line (replies.UnknownBus m0 x0) (replies.Busy holders1) h k = absurd k
  one_due limits fs bench version line (replies.UnknownBus m0 x0) replies.Memory h k = absurd k
  one_due limits fs bench version line (replies.Refused bus0 f0) replies.Words h k = absurd (k h.names.pairs h.names.names.load)
  one_due limits fs bench version line (replies.Refused bus0 f0) (replies.UnknownBus m1 x1) h k = absurd (named_or_unknown bench.buses line m1 x1 h.names.pairs h.targets h.names.names k)
  one_due limits fs bench version line (replies.Refused bus0 f0) (replies.Refused bus1 f1) h k = ap (λ (z : ℕ × DatabaseFault). replies.Refused z.0 z.1) (one_refused fs bench line (bus0, f0) (bus1, f1) h k)
  one_due limits fs bench version line (replies.Refused bus0 f0) (replies.TooLarge need1 room1) h k = absurd (next_or_refused fs bench line k.0.next (bus0, f0) k.0.is_next h)
  one_due limits fs bench version line (replies.Refused bus0 f0) replies.VersionsSpent h k = absurd (next_or_refused fs bench line k.0.next (bus0, f0) k.0.is_next h)
  one_due limits fs bench version line (replies.Refused bus0 f0) (replies.Ok v1) h k = absurd (next_or_refused fs bench line k.0.next (bus0, f0) k.0.is_next h)
  one_due limits fs bench version line (replies.Refused bus0 f0) (replies.OpenFault bus1) h k = absurd k
  one_due limits fs bench version line (replies.Refused bus0 f0) (replies.ReadFault bus1) h k = absurd k
  one_due limits fs bench version line (replies.Refused bus0 f0) (replies.Busy holders1) h k = absurd k
  one_due limits fs bench version line (replies.Refused bus0 f0) replies.Memory h k = absurd k
  one_due limits fs bench version line (replies.TooLarge need0 room0) replies.Words h k = absurd (k h.0.is_next.names.pairs h.0.is_next.names.names.load)
  one_due limits fs bench version line (replies.TooLarge need0 room0) (replies.UnknownBus m1 x1) h k = absurd (named_or_unknown bench.buses line m1 x1 h.0.is_next.names.pairs h.0.is_next.targets h.0.is_next.names.names k)
  one_due limits fs bench version line (replies.TooLarge need0 room0) (replies.Refused bus1 f1) h k = absurd (next_or_refused fs bench line h.0.next (bus1, f1) h.0.is_next k)
  one_due limits fs bench version line (replies.TooLarge need0 room0) (replies.TooLarge need1 room1) h k = one_large fs bench line limits.room need0 need1 room0 room1 h.0 k.0 h.1 k.1
  one_due limits fs bench version line (replies.TooLarge need0 room0) replies.VersionsSpent h k = absurd (large_or_fits fs bench line limits.room need0 h.0 k.0)
  one_due limits fs bench version line (replies.TooLarge need0 room0) (replies.Ok v1) h k = absurd (large_or_fits fs bench line limits.room need0 h.0 k.0)
  one_due limits fs bench version line (replies.TooLarge need0 room0) (replies.OpenFault bus1) h k = absurd k
  one_due limits fs bench version line (replies.TooLarge need0 room0) (replies.ReadFault bus1) h k = absurd k
  one_due limits fs bench version line (replies.TooLarge need0 room0) (replies.Busy holders1) h k = absurd k
  one_due limits fs bench version line (replies.TooLarge need0 room0) replies.Memory h k = absurd k
  one_due limits fs bench version line replies.VersionsSpent replies.Words h k = absurd (k h.0.is_next.names.pairs h.0.is_next.names.names.load)
  one_due limits fs bench version line replies.VersionsSpent (replies.UnknownBus m1 x1) h k = absurd (named_or_unknown bench.buses line m1 x1 h.0.is_next.names.pairs h.0.is_next.targets h.0.is_next.names.names k)
  one_due limits fs bench version line replies.VersionsSpent (replies.Refused bus1 f1) h k = absurd (next_or_refused fs bench line h.0.next (bus1, f1) h.0.is_next k)
  one_due limits fs bench version line replies.VersionsSpent (replies.TooLarge need1 room1) h k = absurd (large_or_fits fs bench line limits.room need1 k.0 h.0)
  one_due limits fs bench version line replies.VersionsSpent replies.VersionsSpent h k = refl
  one_due limits fs bench version line replies.VersionsSpent (replies.Ok v1) h k = absurd (k.1 h.1)
  one_due limits fs bench version line replies.VersionsSpent (replies.OpenFault bus1) h k = absurd k
  one_due limits fs bench version line replies.VersionsSpent (replies.ReadFault bus1) h k = absurd k
  one_due limits fs bench version line replies.VersionsSpent (replies.Busy holders1) h k = absurd k
  one_due limits fs bench version line replies.VersionsSpent replies.Memory h k = absurd k
  one_due limits fs bench version line (replies.Ok v0) replies.Words h k = absurd (k h.0.is_next.names.pairs h.0.is_next.names.names.load)
  one_due limits fs bench version line (replies.Ok v0) (replies.UnknownBus m1 x1) h k = absurd (named_or_unknown bench.buses line m1 x1 h.0.is_next.names.pairs h.0.is_next.targets h.0.is_next.names.names k)
  one_due limits fs bench version line (replies.Ok v0) (replies.Refused bus1 f1) h k = absurd (next_or_refused fs bench line h.0.next (bus1, f1) h.0.is_next k)
  one_due limits fs bench version line (replies.Ok v0) (replies.TooLarge need1 room1) h k = absurd (large_or_fits fs bench line limits.room need1 k.0 h.0)
  one_due limits fs bench version line (replies.Ok v0) replies.VersionsSpent h k = absurd (h.1 k.1)
  one_due limits fs bench version line (replies.Ok v0) (replies.Ok v1) h k = ap replies.Ok (h.2 ∙ sym k.2)
  one_due limits fs bench version line (replies.Ok v0) (replies.OpenFault bus1) h k = absurd k
  one_due limits fs bench version line (replies.Ok v0) (replies.ReadFault bus1) h k = absurd k
  one_due limits fs bench version line (replies.Ok v0) (replies.Busy holders1) h k = absurd k
  one_due limits fs bench version line (replies.Ok v0) replies.Memory h k = absurd k
  one_due limits fs bench version line (replies.OpenFault bus0) q h k = absurd h
  one_due limits fs bench version line (replies.ReadFault bus0) q h k = absurd h
  one_due limits fs bench version line (replies.Busy holders0) q h k = absurd h
  one_due limits fs bench version line replies.Memory q h k = absurd h

  same_files : (limits : Limits) (fs : Files) (files : Option Files) (bench : Bench) (version : ℕ) (line : List ℕ) (r q : Reply) → files ≡ Some fs → Due limits files bench version line r
      → Due limits (Some fs) bench version line q → r ≡ q
  same_files limits fs files bench version line r q e h k =
      let P : Option Files → Type 0 = λ x. Due limits x bench version line r in one_due limits fs bench version line r q (subst P e h) k

  pub due_given : (limits : Limits) (fs : Files) (library now : LibraryState) (before after : LoaderState) (line : List ℕ) (reply due : Reply) → Answers limits library before line reply now after
      → library.files ≡ Some fs → Due limits (Some fs) before.bench (version_in before) line due → (reply ≡ due) ⊎ IsFromOutside reply
  due_given limits fs library now before after line (replies.OpenFault bus) due h e k = inr tt
  due_given limits fs library now before after line (replies.ReadFault bus) due h e k = inr tt
  due_given limits fs library now before after line (replies.Busy holders) due h e k = inr tt
  due_given limits fs library now before after line replies.Memory due h e k = inr tt
  due_given limits fs library now before after line replies.Words due h e k = inl (same_files limits fs library.files before.bench (version_in before) line replies.Words due e h.cause k)
  due_given limits fs library now before after line (replies.UnknownBus p n) due h e k = inl (same_files limits fs library.files before.bench (version_in before) line (replies.UnknownBus p n) due e h.cause k)
  due_given limits fs library now before after line (replies.Refused b f) due h e k = inl (same_files limits fs library.files before.bench (version_in before) line (replies.Refused b f) due e h.cause k)
  due_given limits fs library now before after line (replies.TooLarge n r) due h e k = inl (same_files limits fs library.files before.bench (version_in before) line (replies.TooLarge n r) due e h.cause k)
  due_given limits fs library now before after line replies.VersionsSpent due h e k = inl (same_files limits fs library.files before.bench (version_in before) line replies.VersionsSpent due e h.cause k)
  due_given limits fs library now before after line (replies.Ok v) due h e k = inl (same_files limits fs library.files before.bench (version_in before) line (replies.Ok v) due e h.cause k)
