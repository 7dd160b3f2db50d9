-- A reply is due to each line, unless it is a command that names a file which is missing.
use Rattle.std.proofs.Common.{◌≡◌, ◌≢◌, ℕ, zero, suc, ◌+◌, ◌≤◌, List, [], ◌∷◌, ◌++◌, length, Some, refl, sym, ap, subst, ◌∙◌, arith, inl, inr, ⊎_elim}
use Rattle.std.specs.Prelude.{◌⊎◌, zip, codes}
use Rattle.std.specs.List.{AllZip}
use Rattle.std.specs.Str.{bytes_eq}
use Rattle.std.proofs.lemmas.Bool.{cases_Bool, cases_eq}
use Rattle.std.proofs.lemmas.Bool.Decides.{leb_tells}
use Rattle.std.proofs.lemmas.Slice.Eq.{bytes_eq-Decides}
use Rattle.std.proofs.lemmas.List.Elements.{All-nil}
use Rattle.std.proofs.lemmas.List.{append-nil, append_assoc, length-map}
use Rattle.text_words.specs.Words.{words_of}
use Rattle.port_io.specs.Library.{named}
use Rattle.decisions.specs.Decisions.{Decides}
use Rattle.decisions.specs.ListDecisions.{FirstFails, decides_list, decides_first}
use Rattle.bench_model.specs.declared.database.Kind.{Kind}
use Rattle.bench_model.specs.declared.database.Kind.TheVariants as kinds
use Rattle.bench_model.specs.declared.database.Message.{Message}
use Rattle.bench_model.specs.declared.database.Database.{Database}
use Rattle.bench_model.specs.declared.database.Bench.{Bench}
use Rattle.bench_model.specs.declared.valid.Valid.{Valid}
use Rattle.bench_model.specs.declared.replace.Change.{Change}
use Rattle.bench_model.specs.Limits.{IsMade}
use Rattle.bench_model.specs.Check.{IsValid, faults_by}
use Rattle.bench_model.specs.Replaced.{bench_after}
use Rattle.image_compiler.specs.Size.{image_size}
use Rattle.bench_inputs.specs.declared.database_file.DatabaseFile.{DatabaseFile}
use Rattle.bench_inputs.specs.declared.database_file.DatabaseFile.TheVariants as read
use Rattle.bench_inputs.specs.Asking.{Files}
use Rattle.bench_inputs.specs.BenchFiles.{HasDatabase}
use Rattle.bench_loader.specs.declared.fault.DatabaseFault.{DatabaseFault}
use Rattle.bench_loader.specs.declared.load_line.Pair.{Pair}
use Rattle.bench_loader.specs.declared.targets.Target.{Target}
use Rattle.bench_loader.specs.declared.reply.Reply.{Reply}
use Rattle.bench_loader.specs.declared.reply.Reply.TheVariants as replies
use Rattle.bench_loader.specs.Judging.{Holds, IsRefused}
use Rattle.bench_loader.specs.LoadLine.{longest_command, most_pairs, words_of_pairs, KeepRules, IsLoad, IsOtherForm}
use Rattle.bench_loader.specs.LineView.{ArePairs}
use Rattle.bench_loader.specs.Targets.{IsTarget, IsUnknown, NamesBuses}
use Rattle.bench_loader.specs.NextBench.{file_names, IsChange, IsRefusedChange, NamesFiles, IsNextBench, IsTooLarge, IsFitting}
use Rattle.bench_loader.specs.Verdict.{IsMissing}
use Rattle.bench_loader.specs.Due.{Limits, LacksFile, Due}
use Rattle.bench_loader.proofs.LineLaws.{has_file, is_named, rules_of_none, keep_pair, breaks_few, breaks_file, breaks_bus, not_load, no_words, too_long, other_pairs, no_pairs, is_load}
use Rattle.bench_loader.proofs.ZipLaws.{length-all_zip}
use Rattle.bench_loader.proofs.DueLaws.{same_pairs, one_load, targets, changes, named_or_unknown, HasFor}

-- ---- whether a line is a command

-- words go pair by pair, or not
odd_one : (w : List ℕ) (ps : List Pair) → words_of_pairs ps ≡ w ∷ [] → ⊥
odd_one w [] e = absurd (cc (e))
odd_one w (p ∷ ps) e = absurd (cc (e))

odd_more : (b f : List ℕ) (ws : List (List ℕ)) → ((ps : List Pair) → words_of_pairs ps ≡ ws → ⊥) → (ps : List Pair) → words_of_pairs ps ≡ b ∷ (f ∷ ws) → ⊥
odd_more b f ws none [] e = absurd (cc (e))
odd_more b f ws none (p ∷ ps) e = let rest : words_of_pairs ps ≡ ws = cc (e) in none ps rest

pairs_or_odd : (ws : List (List ℕ)) → ((ps : List Pair) × (ws ≡ words_of_pairs ps)) ⊎ ((ps : List Pair) → words_of_pairs ps ≡ ws → ⊥)
pairs_or_odd [] = inl ([], refl)
pairs_or_odd (w ∷ []) = inr (λ ps e. odd_one w ps e)
pairs_or_odd (b ∷ (f ∷ ws)) =
    elim (pairs_or_odd ws) [
      | inl found ↦ (let p : Pair = record { bus = b; file = f } in inl (p ∷ found.0, ap (λ (xs : List (List ℕ)). b ∷ (f ∷ xs)) found.1))
      | inr none ↦ inr (λ ps e. odd_more b f ws none ps e)
    ]

-- pairs keep the rules, or break one
abbrev Keeps : List Pair → Type 0
Keeps ps = KeepRules ps ⊎ (KeepRules ps → ⊥)

keep_or_break : (done rest : List Pair) → KeepRules done → Keeps (done ++ rest)
keep_or_break done [] k = inl (subst KeepRules (sym (append-nil done)) k)
keep_or_break done (p ∷ ps) k =
    elim (leb_tells most_pairs (length done)) as (λ _. Keeps (done ++ p ∷ ps)) [
      | inl full ↦ inr (breaks_few done ps p full.1)
      | inr room ↦ elim (cases_Bool (has_file p)) as (λ _. Keeps (done ++ p ∷ ps)) [
        | inl file ↦ elim (cases_Bool (is_named p.bus done)) as (λ _. Keeps (done ++ p ∷ ps)) [
          | inl named ↦ inr (breaks_bus done ps p named)
          | inr new ↦ subst Keeps (append_assoc done (p ∷ []) ps) (keep_or_break (done ++ p ∷ []) ps (keep_pair done p room.1 file new k))
        ]
        | inr none ↦ inr (breaks_file done ps p none)
      ]
    ]

abbrev Loads : List ℕ → Type 0
Loads line = ((ps : List Pair) × IsLoad line ps) ⊎ IsOtherForm line

module _ (line : List ℕ) (short : length line ≤ longest_command) (w : List ℕ) (ws : List (List ℕ)) (e : words_of line ≡ w ∷ ws) (first : w ≡ codes "LOAD") where
  with_pairs : (ps : List Pair) → ws ≡ words_of_pairs ps → Loads line
  with_pairs ps is =
      elim (keep_or_break [] ps rules_of_none) as (λ _. Loads line) [
        | inl keeps ↦ (let are : ArePairs ws ps = record { words_are = is; rules = keeps } in
            elim (leb_tells 1 (length ps)) as (λ _. Loads line) [
              | inl some ↦ inl (ps, is_load line ws w ps short e first some.1 are)
              | inr none ↦ inr (no_pairs line ws w ps e are (omega (arith, none.1)))
            ])
        | inr breaks ↦ inr (other_pairs line ws w e (λ qs are. breaks (subst KeepRules (same_pairs qs ps (sym are.words_are ∙ is)) are.rules)))
      ]

  with_word : Loads line
  with_word =
      elim (pairs_or_odd ws) as (λ _. Loads line) [
        | inl found ↦ with_pairs found.0 found.1
        | inr none ↦ inr (other_pairs line ws w e (λ qs are. none qs (sym are.words_are)))
      ]

by_words : (line : List ℕ) → length line ≤ longest_command → (ws : List (List ℕ)) → words_of line ≡ ws → Loads line
by_words line short [] e = inr (no_words line e)
by_words line short (w ∷ ws) e =
    elim (cases_Bool (bytes_eq w (codes "LOAD"))) as (λ _. Loads line) [
      | inl same ↦ with_word line short w ws e ((bytes_eq-Decides w (codes "LOAD")).0 same)
      | inr other ↦ inr (not_load line ws w e (λ same. absurd (cc ((bytes_eq-Decides w (codes "LOAD")).1 same, other))))
    ]

load_or_other : (line : List ℕ) → Loads line
load_or_other line =
    elim (leb_tells (length line) longest_command) as (λ _. Loads line) [
      | inl short ↦ by_words line short.1 (words_of line) refl
      | inr long ↦ inr (too_long line long.1)
    ]

-- ---- what its files make

none_valid : IsValid (record { messages = [] })
unfolding faults_by
none_valid = record { made = All-nil IsMade; faultless = refl }

empty_valid : (d : Database) → d.messages ≡ [] → IsValid d
empty_valid d e =
    let none : Database = record { messages = [] } in
    let same : d ≡ none = ap (λ (ms : List Message). let r : Database = record { messages = ms } in r) e in
    subst IsValid (sym same) none_valid

-- a database that a file holds is valid
holds_valid : (kind : Kind) (file : DatabaseFile) (d : Database) → Holds kind file d → IsValid d
holds_valid kind read.Absent d h = empty_valid d h
holds_valid kind read.TooLong d h = absurd h
holds_valid kinds.Lin (read.Bytes bytes) d h = h.valid
holds_valid kinds.Can (read.Bytes bytes) d h = h.valid
holds_valid kinds.J1939 (read.Bytes bytes) d h = h.valid

change_of : (x : Target × DatabaseFile) (y : ℕ × Database) → HasFor x y → (c : Change) × IsChange x c
change_of x y h =
    let valid : Valid = record { database = y.1; valid = holds_valid x.0.kind x.1 y.1 h.1 } in
    let change : Change = record { bus = y.0; database = valid } in
    let is : IsChange x change = record { bus = h.0; database = h.1 } in (change, is)

changes_of : (xs : List (Target × DatabaseFile)) (ys : List (ℕ × Database)) → AllZip HasFor xs ys → (cs : List Change) × AllZip IsChange xs cs
changes_of [] [] h = ([], tt)
changes_of [] (y ∷ ys) h = absurd h
changes_of (x ∷ xs) [] h = absurd h
changes_of (x ∷ xs) (y ∷ ys) h =
    let one = change_of x y h.0 in
    let rest = changes_of xs ys h.1 in (one.0 ∷ rest.0, (one.1, rest.1))

first_changes : (xs : List (Target × DatabaseFile)) (n : ℕ) (r : ℕ × DatabaseFault) → FirstFails HasFor IsRefusedChange xs n r → FirstFails IsChange IsRefusedChange xs n r
first_changes [] n r h = h
first_changes (x ∷ xs) zero r h = h
first_changes (x ∷ xs) (suc n) r h = (change_of x h.0.0 h.0.1, first_changes xs n r h.1)

module _ (F : (files : Files) → Decides (HasDatabase files) (IsMissing files))
    (J : Decides (λ (p : Kind × DatabaseFile) (d : Database). Holds p.0 p.1 d) (λ (p : Kind × DatabaseFile) (f : DatabaseFault). IsRefused p.0 p.1 f))
    (limits : Limits) (fs : Files) (bench : Bench) (version : ℕ) (line : List ℕ) where
  abbrev Answered : Type 0
  Answered = ((r : Reply) × Due limits (Some fs) bench version line r) ⊎ LacksFile fs bench line

  by_size : (next : Bench) → IsNextBench (Some fs) bench line next → Answered
  by_size next is =
      elim (leb_tells (image_size next) limits.room) as (λ _. Answered) [
        | inl small ↦ (let fitting : IsFitting (Some fs) bench line limits.room = record { next = next; is_next = is; fits = small.1 } in
            ⊎_elim
            (λ (spent : version ≡ limits.last). inl (replies.VersionsSpent, (fitting, spent)))
            (λ (more : version ≢ limits.last). inl (replies.Ok (version + 1), (fitting, more, refl)))
            (cases_eq version limits.last))
        | inr large ↦ (let too : IsTooLarge (Some fs) bench line limits.room (image_size next) = record { next = next; is_next = is; need_is = refl; large = large.1 } in
            inl (replies.TooLarge (image_size next) limits.room, (too, refl)))
      ]

  by_files : (ts : List Target) (files : List DatabaseFile) → NamesFiles (Some fs) bench line ts files → Answered
  by_files ts files names =
      elim ((decides_first HasFor IsRefusedChange (changes F J)).some (zip ts files)) as (λ _. Answered) [
        | inl made ↦ (let cs = changes_of (zip ts files) made.0 made.1 in
            by_size (bench_after bench cs.0) (record { targets = ts; read = files; names = names; changes = cs.0; each = cs.1; after = refl }))
        | inr refused ↦ inl (
          replies.Refused refused.0.0 refused.0.1,
          record { targets = ts; read = files; names = names; first = (refused.1.0, first_changes (zip ts files) refused.1.0 refused.0 refused.1.1) },
        )
      ]

  by_buses : (pairs : List Pair) (ts : List Target) → NamesBuses bench.buses line pairs ts → Answered
  by_buses pairs ts names =
      elim ((decides_first (HasDatabase fs) (IsMissing fs) (F fs)).some (file_names pairs)) as (λ _. Answered) [
        | inl found ↦ by_files ts found.0 (record {
          pairs = pairs;
          names = names;
          count = length-all_zip (HasDatabase fs) (file_names pairs) found.0 found.1 ∙ length-map pairs (λ (p : Pair). p.file);
          are_files = found.1;
        })
        | inr lacks ↦ inr (record { pairs = pairs; targets = ts; names = names; missing = lacks.1 })
      ]

  pub some_due : Answered
  some_due =
      elim (load_or_other line) as (λ _. Answered) [
        | inl load ↦ elim ((decides_list (IsTarget bench.buses) (IsUnknown bench.buses) (targets bench.buses)).some load.0) as (λ _. Answered) [
          | inl found ↦ by_buses load.0 found.0 (record { load = load.1; found = found.1 })
          | inr none ↦ inl (replies.UnknownBus none.0.0 none.0.1, record { pairs = load.0; load = load.1; first = none.1 })
        ]
        | inr other ↦ inl (replies.Words, other)
      ]

  all_read : LacksFile fs bench line → (ts : List Target) (files : List DatabaseFile) → NamesFiles (Some fs) bench line ts files → ⊥
  all_read l ts files k =
      let same : k.pairs ≡ l.pairs = one_load line k.pairs l.pairs k.names.load l.names.load in
      let P : List Pair → Type 0 = λ p. AllZip (HasDatabase fs) (file_names p) files in
      (decides_first (HasDatabase fs) (IsMissing fs) (F fs)).apart (file_names l.pairs) files tt (subst P same k.are_files) l.missing

  pub none_due : (r : Reply) → LacksFile fs bench line → Due limits (Some fs) bench version line r → ⊥
  none_due replies.Words l h = h l.pairs l.names.load
  none_due (replies.UnknownBus place name) l h = named_or_unknown F J bench.buses line place name l.pairs l.targets l.names h
  none_due (replies.Refused bus fault) l h = all_read l h.targets h.read h.names
  none_due (replies.TooLarge need room) l h = all_read l h.0.is_next.targets h.0.is_next.read h.0.is_next.names
  none_due replies.VersionsSpent l h = all_read l h.0.is_next.targets h.0.is_next.read h.0.is_next.names
  none_due (replies.Ok next) l h = all_read l h.0.is_next.targets h.0.is_next.read h.0.is_next.names
  none_due (replies.OpenFault bus) l h = h
  none_due (replies.ReadFault bus) l h = h
  none_due (replies.Busy holders) l h = h
  none_due replies.Memory l h = h
