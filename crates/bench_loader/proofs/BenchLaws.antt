-- A planned bus and its file make one bus or are refused for one fault, and what a judge answers of all is that one.
use Rattle.std.proofs.Common.{◌≡◌, ◌⊎◌, ℕ, List, Result, Ok, Err, IsOkAnd, IsErrOf, refl, sym, ap, ◌∙◌, inl, inr}
use Rattle.std.specs.List.{AllZip}
use Rattle.decisions.specs.Decisions.{Decides}
use Rattle.decisions.specs.ListDecisions.{FirstFailsAt, decides_list}
use Rattle.bench_model.specs.declared.database.Kind.{Kind}
use Rattle.bench_model.specs.declared.database.Database.{Database}
use Rattle.bench_model.specs.declared.database.Bus.{Bus}
use Rattle.bench_model.specs.declared.database.Bench.{Bench}
use Rattle.bench_file.specs.declared.plan.PlannedBus.{PlannedBus}
use Rattle.bench_inputs.specs.declared.database_file.DatabaseFile.{DatabaseFile}
use Rattle.bench_loader.specs.declared.fault.DatabaseFault.{DatabaseFault}
use Rattle.bench_loader.specs.declared.fault.BenchRefused.{BenchRefused}
use Rattle.bench_loader.specs.declared.fault.BenchRefused.TheVariants as benches
use Rattle.bench_loader.specs.Judging.{Holds, IsRefused, IsBusOf, IsRefusedOnBus, AreBuses, IsFirstRefused}
use Rattle.bench_loader.specs.JudgeView.{JudgesBench}

bus_path : (a b : Bus) → a.name ≡ b.name → a.kind ≡ b.kind → a.database ≡ b.database → a ≡ b
bus_path a b p q r =
    ap (λ x. let bus : Bus = record a { name = x } in bus) p
    ∙ ap (λ x. let bus : Bus = record a { name = b.name; kind = x } in bus) q
    ∙ ap (λ x. let bus : Bus = record b { database = x } in bus) r

module _ (F : Decides (λ (p : Kind × DatabaseFile) (d : Database). Holds p.0 p.1 d) (λ (p : Kind × DatabaseFile) (f : DatabaseFault). IsRefused p.0 p.1 f)) where
  some_bus : (planned : PlannedBus × DatabaseFile)
      → ((bus : Bus) × IsBusOf planned bus) ⊎ ((f : DatabaseFault) × IsRefusedOnBus planned f)
  some_bus planned =
      elim (F.some (planned.0.kind, planned.1)) [
        | inl d ↦
            let bus : Bus = record { name = planned.0.name; kind = planned.0.kind; database = d.0 } in
            let is_bus : IsBusOf planned bus = record { name = refl; kind = refl; database = d.1 } in
            inl (bus, is_bus)
        | inr f ↦ inr (f.0, f.1)
      ]

  one_bus : (p : PlannedBus × DatabaseFile) (a b : Bus) → IsBusOf p a → IsBusOf p b → a ≡ b
  one_bus p a b h k =
      bus_path a b (h.name ∙ sym k.name) (h.kind ∙ sym k.kind) (F.one (p.0.kind, p.1) a.database b.database h.database k.database)

  pub decides_bus : Decides IsBusOf IsRefusedOnBus
  decides_bus = record {
    some = some_bus;
    one = one_bus;
    only = λ p f g h k. F.only (p.0.kind, p.1) f g h k;
    apart = λ p a f h k. F.apart (p.0.kind, p.1) a.database f h.database k;
  }

module _ (J : Decides IsBusOf IsRefusedOnBus) (planned : List (PlannedBus × DatabaseFile)) where
  all : Decides (AllZip IsBusOf) (FirstFailsAt IsBusOf IsRefusedOnBus)
  all = decides_list IsBusOf IsRefusedOnBus J

  -- the bench that the files make, or out of memory
  pub bench_answered : (r : Result Bench BenchRefused) → JudgesBench planned r → (buses : List Bus) → AreBuses planned buses
      → IsOkAnd r (λ bench. bench.buses ≡ buses) ⊎ IsErrOf r benches.Memory
  bench_answered (Ok bench) judges buses h = inl (all.one planned bench.buses buses judges.are_buses h)
  bench_answered (Err (benches.Refused at f)) judges buses h = absurd (all.apart planned buses (at, f) h judges)
  bench_answered (Err benches.Memory) judges buses h = inr refl

  refusal_path : (p q : ℕ × DatabaseFault) → p ≡ q → benches.Refused p.0 p.1 ≡ benches.Refused q.0 q.1
  refusal_path p q e = ap (λ (x : ℕ × DatabaseFault). benches.Refused x.0 x.1) e

  -- the first refusal, or out of memory
  pub refusal_answered : (r : Result Bench BenchRefused) → JudgesBench planned r → (bus : ℕ) (f : DatabaseFault)
      → IsFirstRefused planned (bus, f)
      → IsErrOf r (benches.Refused bus f) ⊎ IsErrOf r benches.Memory
  refusal_answered (Ok bench) judges bus f h = absurd (all.apart planned bench.buses (bus, f) judges.are_buses h)
  refusal_answered (Err (benches.Refused at g)) judges bus f h =
      inl (ap (λ x. Err x) (refusal_path (at, g) (bus, f) (all.only planned (at, g) (bus, f) judges h)))
  refusal_answered (Err benches.Memory) judges bus f h = inr refl
