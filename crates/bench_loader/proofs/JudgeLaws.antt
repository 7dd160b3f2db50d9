-- Buses judged so far and one more are judged, and a file that is refused behind buses that are there is the first one.
use Rattle.std.proofs.Common.{◌≡◌, ℕ, ◌+◌, ◌<◌, ◌≤◌, List, [], ◌∷◌, ◌++◌, length, get_or, take, Err, sym, ap, subst, ◌∙◌, arith, add-one}
use Rattle.std.specs.Prelude.{All, zip}
use Rattle.std.specs.List.{AllZip}
use Rattle.std.proofs.lemmas.List.{take_all}
use Rattle.std.proofs.lemmas.List.Elements.{All-push}
use Rattle.std.proofs.Math.Seq.{take-suc}
use Rattle.bench_model.specs.declared.database.Bus.{Bus}
use Rattle.bench_model.specs.Check.{IsValid}
use Rattle.bench_file.specs.declared.plan.PlannedBus.{PlannedBus}
use Rattle.bench_inputs.specs.declared.database_file.DatabaseFile.{DatabaseFile}
use Rattle.bench_loader.specs.declared.fault.DatabaseFault.{DatabaseFault}
use Rattle.bench_loader.specs.Judging.{IsBusOf, IsRefusedOnBus, IsFirstRefused}
use Rattle.bench_loader.specs.declared.fault.JudgeRefused.{JudgeRefused}
use Rattle.bench_loader.specs.declared.fault.JudgeRefused.TheVariants as refused
use Rattle.bench_loader.proofs.ZipLaws.{AllZip-snoc, length-zip, pair_at, first_fails}
use Rattle.bench_loader.specs.JudgeView.{IsJudged, IsJudgedBench, JudgesBus, JudgesBench, refusal_of_bus}

-- the buses of the first so many pairs, each with a valid database
pub record Judged (planned : List (PlannedBus × DatabaseFile)) (i : ℕ) (buses : List Bus) : Type 0 where
  pub are_buses : AllZip IsBusOf (take i planned) buses
  pub valid : All (λ (bus : Bus). IsValid bus.database) buses

pub judged_none : (planned : List (PlannedBus × DatabaseFile)) (buses : List Bus) → buses ≡ [] → Judged planned 0 buses
judged_none planned buses none = rw none (record { are_buses = tt; valid = λ k d within. absurd (omega arith) })

pub judged_more : (buses : List PlannedBus) (files : List DatabaseFile) (i : ℕ) (bus : PlannedBus) (file : DatabaseFile) (judged after : List Bus) (b : Bus) → length buses ≡ length files
    → i < length buses → bus ≡ get_or buses i bus → file ≡ get_or files i file → Judged (zip buses files) i judged
    → IsJudged (bus, file) b → after ≡ judged ++ b ∷ [] → Judged (zip buses files) (i + 1) after
judged_more buses files i bus file judged after b same within is is' before one pushed =
    let here : PlannedBus × DatabaseFile = (bus, file) in
    let inside : i < length (zip buses files) = omega (arith, length-zip buses files same) in
    let next : take (i + 1) (zip buses files) ≡ take i (zip buses files) ++ here ∷ [] =
    rw add-one (take-suc (zip buses files) i here inside) ∙ ap (λ (p : PlannedBus × DatabaseFile). take i (zip buses files) ++ p ∷ []) (pair_at buses files i bus file same within is is') in
    rw pushed (record {
      are_buses = rw next (AllZip-snoc IsBusOf (take i (zip buses files)) judged here b before.are_buses one.is_bus);
      valid = All-push (λ (x : Bus). IsValid x.database) judged b before.valid one.valid;
    })

pub judged_all : (buses : List PlannedBus) (files : List DatabaseFile) (i : ℕ) (judged : List Bus)
    → length buses ≡ length files → length buses ≤ i → Judged (zip buses files) i judged
    → IsJudgedBench (zip buses files) judged
judged_all buses files i judged same end before =
    let all : take i (zip buses files) ≡ zip buses files = take_all i (zip buses files) (omega (arith, length-zip buses files same)) in
    record { are_buses = rw all at before.are_buses; valid = before.valid }

pub judged_stops : (buses : List PlannedBus) (files : List DatabaseFile) (i : ℕ) (bus : PlannedBus) (file : DatabaseFile) (judged : List Bus) (fault : DatabaseFault) → length buses ≡ length files
    → i < length buses → bus ≡ get_or buses i bus → file ≡ get_or files i file → Judged (zip buses files) i judged
    → IsRefusedOnBus (bus, file) fault → IsFirstRefused (zip buses files) (i, fault)
judged_stops buses files i bus file judged fault same within is is' before refused =
    let here : PlannedBus × DatabaseFile = (bus, file) in
    let inside : i < length (zip buses files) = omega (arith, length-zip buses files same) in
    let P : PlannedBus × DatabaseFile → Type 0 = λ p. IsRefusedOnBus p fault in
    first_fails IsBusOf IsRefusedOnBus (zip buses files) judged i here fault inside before.are_buses (subst P (sym (pair_at buses files i bus file same within is is')) refused)

pub judged_refuses : (buses : List PlannedBus) (files : List DatabaseFile) (i : ℕ) (bus : PlannedBus) (file : DatabaseFile) (judged : List Bus) (why : JudgeRefused) → length buses ≡ length files
    → i < length buses → bus ≡ get_or buses i bus → file ≡ get_or files i file → Judged (zip buses files) i judged
    → JudgesBus (bus, file) (Err why) → JudgesBench (zip buses files) (Err (refusal_of_bus i why))
judged_refuses buses files i bus file judged (refused.Fault fault) same within is is' before h = judged_stops buses files i bus file judged fault same within is is' before h
judged_refuses buses files i bus file judged refused.Memory same within is is' before h = tt
