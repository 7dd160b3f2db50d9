-- Logs opened so far and one more are opened, each that of its name.
use Rattle.std.proofs.Common.{◌≡◌, ℕ, ◌+◌, ◌<◌, ◌≤◌, List, [], ◌∷◌, ◌++◌, length, map, get_or, take, drop, refl, sym, ap, subst, ◌∙◌, arith, add-one}
use Rattle.std.specs.Prelude.{Option}
use Rattle.std.specs.List.{AllZip}
use Rattle.std.proofs.lemmas.List.{map_push, take-append-drop, drop_more, map-append}
use Rattle.std.proofs.Math.Seq.{take-suc}
use Rattle.port_io.specs.Causes.{Rose}
use Rattle.port_io.specs.OtherSide.{SourceState}
use Rattle.port_io.specs.Library.{strays_after}
use Rattle.bench_file.specs.declared.plan.PlannedBus.{PlannedBus}
use Rattle.bench_inputs.specs.Asking.{Files, LibraryState, Asks}
use Rattle.bench_inputs.specs.BenchFiles.{log_names}
use Rattle.bench_inputs.specs.Reading.{IsFresh, OpensAll, StopsOpening}
use Rattle.bench_inputs.proofs.AskingLaws.{AllZip-snoc, asks_more}

pub logs-more : (buses : List PlannedBus) (i : ℕ) (d bus : PlannedBus) → i < length buses → bus ≡ get_or buses i d → log_names (take (i + 1) buses) ≡ log_names (take i buses) ++ bus.log ∷ []
logs-more buses i d bus within is =
    let next : take (i + 1) buses ≡ take i buses ++ bus ∷ [] = rw (is, add-one) (take-suc buses i d within) in
    ap log_names next ∙ map_push (λ (b : PlannedBus). b.log) (take i buses) bus

logs_parted : (buses : List PlannedBus) (i : ℕ) (d bus : PlannedBus) → i < length buses → bus ≡ get_or buses i d
    → log_names buses ≡ log_names (take i buses) ++ bus.log ∷ log_names (drop (i + 1) buses)
logs_parted buses i d bus within is =
    let rest : drop i buses ≡ bus ∷ drop (i + 1) buses = rw is (drop_more buses i d within) in
    ap log_names (sym (take-append-drop i buses)) ∙ map-append (λ (b : PlannedBus). b.log) (take i buses) (drop i buses) ∙ ap (λ bs. log_names (take i buses) ++ log_names bs) rest

-- a call for one log
pub asks_log : (was now : LibraryState) (name : List ℕ) → now.files ≡ was.files → was.open_faults ≤ now.open_faults → now.more_faults ≡ was.more_faults
    → now.strays ≡ strays_after was.files name was.strays → Asks was (name ∷ []) now
asks_log was now name files opens reads strays = record { files = files; opens = opens; reads = omega arith; strays = strays }

-- what is after so many buses
pub record Opened (before : LibraryState) (buses : List PlannedBus) (i : ℕ) (logs : List SourceState) (now : LibraryState) : Type 0 where
  pub asks : Asks before (log_names (take i buses)) now
  pub fresh : AllZip (IsFresh before.files) (log_names (take i buses)) logs
  pub unread : now.more_faults ≡ before.more_faults

pub opened_more : (before was now : LibraryState) (buses : List PlannedBus) (i : ℕ) (d bus : PlannedBus) (logs after : List SourceState) (log : SourceState)
    → i < length buses → bus ≡ get_or buses i d → Opened before buses i logs was → Asks was (bus.log ∷ []) now → now.more_faults ≡ was.more_faults → IsFresh was.files bus.log log
    → after ≡ logs ++ log ∷ [] → Opened before buses (i + 1) after now
opened_more before was now buses i d bus logs after log within is o asked unread fresh pushed =
    let P : Option Files → Type 0 = λ files. IsFresh files bus.log log in
    record {
      asks = rw (logs-more buses i d bus within is) (asks_more before was now (log_names (take i buses)) (bus.log ∷ []) o.asks asked);
      fresh = rw (logs-more buses i d bus within is, pushed) (AllZip-snoc (IsFresh before.files) (log_names (take i buses)) logs bus.log log o.fresh (subst P o.asks.files fresh));
      unread = unread ∙ o.unread;
    }

pub opening_stops : (before was now : LibraryState) (buses : List PlannedBus) (i : ℕ) (d bus : PlannedBus) (logs : List SourceState) → i < length buses → bus ≡ get_or buses i d
    → Opened before buses i logs was → Asks was (bus.log ∷ []) now → now.more_faults ≡ was.more_faults → Rose was.open_faults now.open_faults → StopsOpening before (log_names buses) logs now
opening_stops before was now buses i d bus logs within is o asked unread rose = record {
  opened = log_names (take i buses);
  refused = bus.log;
  behind = log_names (drop (i + 1) buses);
  parted = logs_parted buses i d bus within is;
  fresh = o.fresh;
  rose = omega (arith, o.asks.opens, rose);
  unread = unread ∙ o.unread;
  asks = asks_more before was now (log_names (take i buses)) (bus.log ∷ []) o.asks asked;
}

pub opened_all : (before now : LibraryState) (buses : List PlannedBus) (i : ℕ) (logs : List SourceState) → take i buses ≡ buses → Opened before buses i logs now → OpensAll before (log_names buses) logs now
opened_all before now buses i logs all o =
    let P : List PlannedBus → Type 0 = λ bs. Asks before (log_names bs) now in
    let Q : List PlannedBus → Type 0 = λ bs. AllZip (IsFresh before.files) (log_names bs) logs in
    record { asks = subst P all o.asks; fresh = subst Q all o.fresh; unread = o.unread }

pub opened_none : (before : LibraryState) (buses : List PlannedBus) (logs : List SourceState) → logs ≡ [] → Opened before buses 0 logs before
opened_none before buses logs none = record {
  asks = record { files = refl; opens = omega arith; reads = omega arith; strays = refl };
  fresh = rw none tt;
  unread = refl;
}

-- the same with the name as the code passes it
pub opened_next : (before was now : LibraryState) (buses : List PlannedBus) (i : ℕ) (d bus : PlannedBus) (logs after : List SourceState) (log : SourceState) (name : List ℕ) → name ≡ bus.log
    → i < length buses → bus ≡ get_or buses i d → Opened before buses i logs was → Asks was (name ∷ []) now → now.more_faults ≡ was.more_faults → IsFresh was.files name log
    → after ≡ logs ++ log ∷ [] → Opened before buses (i + 1) after now
opened_next before was now buses i d bus logs after log name e within is o asked unread fresh pushed =
    let P : List ℕ → Type 0 = λ n. Asks was (n ∷ []) now in
    let Q : List ℕ → Type 0 = λ n. IsFresh was.files n log in
    opened_more before was now buses i d bus logs after log within is o (subst P e asked) unread (subst Q e fresh) pushed

pub opening_stops_at : (before was now : LibraryState) (buses : List PlannedBus) (i : ℕ) (d bus : PlannedBus) (logs : List SourceState) (name : List ℕ) → name ≡ bus.log → i < length buses
    → bus ≡ get_or buses i d → Opened before buses i logs was → Asks was (name ∷ []) now → now.more_faults ≡ was.more_faults → Rose was.open_faults now.open_faults
    → StopsOpening before (log_names buses) logs now
opening_stops_at before was now buses i d bus logs name e within is o asked unread rose =
    let P : List ℕ → Type 0 = λ n. Asks was (n ∷ []) now in
    opening_stops before was now buses i d bus logs within is o (subst P e asked) unread rose
