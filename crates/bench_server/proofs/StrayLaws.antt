-- Names that files do not have were asked for only where the files decide that one is missing.
use Rattle.std.proofs.Common.{◌≡◌, ℕ, List, [], ◌∷◌, ◌++◌, length, Option, Some, None, refl, ap, ◌∙◌}
use Rattle.std.specs.Prelude.{cond, is_some}
use Rattle.std.specs.Option.{IsSome}
use Rattle.std.specs.List.{AllZip}
use Rattle.port_io.specs.OtherSide.{SourceState}
use Rattle.port_io.specs.Library.{named, strays_after}
use Rattle.port_io.specs.Causes.{raised}
use Rattle.decisions.specs.ListDecisions.{FirstFails}
use Rattle.bench_file.specs.declared.plan.PlannedBus.{PlannedBus}
use Rattle.bench_inputs.specs.declared.database_file.DatabaseFile.{DatabaseFile}
use Rattle.bench_inputs.specs.Asking.{Files, strays_over}
use Rattle.bench_inputs.specs.BenchFiles.{HasBytes, HasDatabaseOf, IsDatabaseOfBus, name_list, database_names}
use Rattle.bench_inputs.specs.Reading.{IsFresh}
use Rattle.bench_loader.specs.Verdict.{IsMissing}
use Rattle.bench_server.proofs.OptionLaws.{no_value}

-- a call for a name that is there is no stray
pub there : (files : Files) (name bytes : List ℕ) (strays : ℕ) → named files name ≡ Some bytes → strays_after (Some files) name strays ≡ strays
there files name bytes strays h = ap (λ (o : Option (List ℕ)). cond (is_some o) strays (raised strays)) h

-- calls for names that are all there, one after another
pub data AreThere (files : Files) : List (List ℕ) → Type 0 where
  no_names : AreThere files []
  one_more : {name : List ℕ} {names : List (List ℕ)} (bytes : List ℕ) → named files name ≡ Some bytes → AreThere files names → AreThere files (name ∷ names)

pub none_astray : (files : Files) (names : List (List ℕ)) (strays : ℕ) → AreThere files names → strays_over (Some files) names strays ≡ strays
none_astray files [] strays no_names = refl
none_astray files (name ∷ names) strays (one_more bytes h more) =
    ap (λ (n : ℕ). strays_over (Some files) names n) (there files name bytes strays h) ∙ none_astray files names strays more

-- the first of names that are there are there
pub first_there : (files : Files) (asked unasked : List (List ℕ)) → AreThere files (asked ++ unasked) → AreThere files asked
first_there files [] unasked h = no_names
first_there files (name ∷ asked) unasked (one_more bytes h more) = one_more bytes h (first_there files asked unasked more)

-- names of logs that were opened, and then one more
fresh_there : (files : Files) (name : List ℕ) (left : Option (List ℕ)) → named files name ≡ left → IsSome left → (bytes : List ℕ) × (named files name ≡ Some bytes)
fresh_there files name None e s = absurd (no_value (List ℕ) s)
fresh_there files name (Some bytes) e s = (bytes, e)

pub logs_there : (files : Files) (names : List (List ℕ)) (logs : List SourceState) → AllZip (IsFresh (Some files)) names logs → AreThere files names
logs_there files [] [] f = no_names
logs_there files [] (log ∷ logs) f = absurd f
logs_there files (name ∷ names) [] f = absurd f
logs_there files (name ∷ names) (log ∷ logs) f =
    let one = fresh_there files name log.left f.0.bytes.0 f.0.bytes.1 in
    one_more one.0 one.1 (logs_there files names logs f.1)

pub then_there : (files : Files) (names : List (List ℕ)) (last bytes : List ℕ) → AreThere files names → named files last ≡ Some bytes → AreThere files (names ++ last ∷ [])
then_there files [] last bytes h e = one_more bytes e no_names
then_there files (name ∷ names) last bytes (one_more b h more) e = one_more b h (then_there files names last bytes more e)

-- the first log that is not there is behind those that are
pub first_missing : (files : Files) (opened : List (List ℕ)) (last : List ℕ) (behind : List (List ℕ)) → AreThere files opened → named files last ≡ None
    → FirstFails (HasBytes files) (IsMissing files) (opened ++ last ∷ behind) (length opened) tt
first_missing files [] last behind h e = e
first_missing files (name ∷ names) last behind (one_more bytes h more) e = ((bytes, h), first_missing files names last behind more e)

-- databases that are there
database_there : (files : Files) (name : Option (List ℕ)) (file : DatabaseFile) → HasDatabaseOf files name file → AreThere files (name_list name)
database_there files None file h = no_names
database_there files (Some name) file h = one_more h.bytes h.is_there no_names

both_there : (files : Files) (xs ys : List (List ℕ)) → AreThere files xs → AreThere files ys → AreThere files (xs ++ ys)
both_there files [] ys h k = k
both_there files (x ∷ xs) ys (one_more bytes h more) k = one_more bytes h (both_there files xs ys more k)

pub databases_there : (files : Files) (buses : List PlannedBus) (read : List DatabaseFile) → AllZip (IsDatabaseOfBus files) buses read → AreThere files (database_names buses)
databases_there files [] [] h = no_names
databases_there files [] (file ∷ read) h = absurd h
databases_there files (bus ∷ buses) [] h = absurd h
databases_there files (bus ∷ buses) (file ∷ read) h =
    both_there files (name_list bus.database) (database_names buses) (database_there files bus.database file h.0) (databases_there files buses read h.1)
