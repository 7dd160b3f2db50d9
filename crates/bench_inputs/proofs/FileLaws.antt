-- Each bus's database is there and is read in one way, or it is missing.
use Rattle.std.proofs.Common.{◌≡◌, ◌⊎◌, ℕ, ◌<◌, ◌≤◌, List, [], ◌∷◌, length, refl, sym, ap, ◌∙◌, arith, inl, inr}
use Rattle.std.specs.Prelude.{Option, Some, None}
use Rattle.std.specs.List.{AllZip}
use Rattle.std.proofs.lemmas.Bool.{cases_lt}
use Rattle.port_io.specs.Library.{named}
use Rattle.decisions.specs.Decisions.{Decides}
use Rattle.decisions.specs.ListDecisions.{FirstFailsAt, decides_list}
use Rattle.bench_file.specs.declared.plan.PlannedBus.{PlannedBus}
use Rattle.bench_inputs.specs.declared.database_file.DatabaseFile.{DatabaseFile}
use Rattle.bench_inputs.specs.declared.database_file.DatabaseFile.TheVariants as databases
use Rattle.bench_inputs.specs.Asking.{Files}
use Rattle.bench_inputs.specs.BenchFiles.{longest_database, HasBytes, IsRead, HasDatabase, HasDatabaseOf, IsDatabaseOfBus, LacksDatabase}

-- a name has bytes or is missing
there_or_missing : (files : Files) (name : List ℕ) → ((bytes : List ℕ) × HasBytes files name bytes) ⊎ (named files name ≡ None)
there_or_missing files name = go (named files name) refl where
  go : (r : Option (List ℕ)) → named files name ≡ r → ((bytes : List ℕ) × HasBytes files name bytes) ⊎ (named files name ≡ None)
  go (Some bytes) e = inl (bytes, e)
  go None e = inr e

same_bytes : (files : Files) (name : List ℕ) (a b : List ℕ) → HasBytes files name a → HasBytes files name b → a ≡ b
same_bytes files name a b h k = cc

some_read : (bytes : List ℕ) → (file : DatabaseFile) × IsRead bytes file
some_read bytes = elim (cases_lt longest_database (length bytes)) [ inl long ↦ (databases.TooLong, long) | inr short ↦ (databases.Bytes bytes, (refl, short)) ]

one_read : (bytes : List ℕ) (a b : DatabaseFile) → IsRead bytes a → IsRead bytes b → a ≡ b
one_read bytes (databases.Bytes x) (databases.Bytes y) h k = ap databases.Bytes (h.0 ∙ sym k.0)
one_read bytes (databases.Bytes x) databases.TooLong h k = absurd (omega (arith, h.1, k))
one_read bytes (databases.Bytes x) databases.Absent h k = absurd k
one_read bytes databases.TooLong (databases.Bytes y) h k = absurd (omega (arith, h, k.1))
one_read bytes databases.TooLong databases.TooLong h k = refl
one_read bytes databases.TooLong databases.Absent h k = absurd k
one_read bytes databases.Absent b h k = absurd h

some_of : (files : Files) (name : Option (List ℕ)) → ((file : DatabaseFile) × HasDatabaseOf files name file) ⊎ ((n : List ℕ) × (name ≡ Some n) × (named files n ≡ None))
some_of files None = inl (databases.Absent, refl)
some_of files (Some name) =
    elim (there_or_missing files name) [
      | inl there ↦ let read = some_read there.0 in inl (read.0, record { bytes = there.0; is_there = there.1; is_read = read.1 })
      | inr missing ↦ inr (name, refl, missing)
    ]

one_of : (files : Files) (name : Option (List ℕ)) (a b : DatabaseFile) → HasDatabaseOf files name a → HasDatabaseOf files name b → a ≡ b
one_of files None a b h k = h ∙ sym k
one_of files (Some name) a b h k =
    let same : h.bytes ≡ k.bytes = same_bytes files name h.bytes k.bytes h.is_there k.is_there in
    one_read k.bytes a b (rw same at h.is_read) k.is_read

apart_of : (files : Files) (name : Option (List ℕ)) (a : DatabaseFile) (n : List ℕ) → HasDatabaseOf files name a → name ≡ Some n → named files n ≡ None → ⊥
apart_of files None a n h e missing = absurd (cc e)
apart_of files (Some name) a n h e missing =
    let same : name ≡ n = cc e in
    let there : named files n ≡ Some h.bytes = rw same at h.is_there in
    absurd (cc (there, missing))

pub one_named : (files : Files) → Decides (HasDatabase files) (λ (name : List ℕ) (why : Unit {0}). named files name ≡ None)
one_named files = record {
  some = λ name.
      elim (there_or_missing files name) [
        | inl there ↦ let read = some_read there.0 in inl (read.0, record { bytes = there.0; is_there = there.1; is_read = read.1 })
        | inr missing ↦ inr (tt, missing)
      ];
  one = λ name a b h k. one_of files (Some name) a b h k;
  only = λ name c d h k. refl;
  apart = λ name a c h k. apart_of files (Some name) a name h refl k;
}

pub one_database : (files : Files) → Decides (IsDatabaseOfBus files) (LacksDatabase files)
one_database files = record {
  some = λ bus. elim (some_of files bus.database) [ inl read ↦ inl read | inr missing ↦ inr (tt, missing) ];
  one = λ bus a b h k. one_of files bus.database a b h k;
  only = λ bus c d h k. refl;
  apart = λ bus a c h k. apart_of files bus.database a k.0 h k.1 k.2;
}

pub one_list : (files : Files) → Decides (AllZip (IsDatabaseOfBus files)) (FirstFailsAt (IsDatabaseOfBus files) (LacksDatabase files))
one_list files = decides_list (IsDatabaseOfBus files) (LacksDatabase files) (one_database files)
