-- How a run over buses that were loaded ends, for a plan that has just these buses.
use Rattle.std.proofs.Common.{◌≡◌, ℕ, List, sym, subst}
use Rattle.std.specs.Prelude.{Result}
use Rattle.std.specs.Option.{IfSome}
use Rattle.port_io.specs.OtherSide.{SourceState}
use Rattle.bench_model.specs.declared.database.Bench.{Bench}
use Rattle.bench_file.specs.declared.plan.Plan.{Plan}
use Rattle.bench_file.specs.declared.plan.PlannedBus.{PlannedBus}
use Rattle.bench_inputs.specs.BenchFiles.{HasPlan, log_names}
use Rattle.bench_loader.specs.Verdict.{FitsRegion}
use Rattle.bench_inputs.specs.Reading.{OpensAll, StopsOpening}
use Rattle.subscriber_text.specs.Wants.{WantList}
use Rattle.bench_text.specs.declared.refused.BusesRefused.{BusesRefused}
use Rattle.bench_text.specs.Printing.{PrintsBuses}
use Rattle.bench_server.specs.declared.status.Status.TheVariants as status
use Rattle.bench_server.specs.ToolText.{all_wanted}
use Rattle.bench_server.specs.EndView.{printed_status}
use Rattle.bench_server.specs.Outcomes.{Seen, WroteNothing, EndsDecode}
use Rattle.bench_server.specs.Loading.{MakeBench}
use Rattle.bench_server.proofs.OptionLaws.{if_some, of_some}
use Rattle.bench_server.proofs.EndLaws.{IsLoaded, open_end, printed_end}

module _ (name : List ℕ) (plan : Plan) (bench : Bench) (s : Seen) (buses : List PlannedBus) (same : plan.buses ≡ buses) (fits : FitsRegion plan bench)
    (has : IfSome s.library.files (λ files. HasPlan files name plan)) (made : IfSome s.library.files (λ files. MakeBench files buses bench)) where
  loaded : IfSome s.library.files (λ files. IsLoaded files name plan bench)
  loaded = if_some s.library.files (λ files. IsLoaded files name plan bench) (λ files e. record {
    has_plan = of_some s.library.files (λ files. HasPlan files name plan) files e has;
    made = subst (λ (bs : List PlannedBus). MakeBench files bs bench) (sym same) (of_some s.library.files (λ files. MakeBench files buses bench) files e made);
    fits = fits;
  })

  -- a log could not be opened
  pub logs_unopened : StopsOpening s.library (log_names buses) s.logs s.library_now → WroteNothing s → EndsDecode name s status.OpenFault
  logs_unopened o nothing =
      open_end name plan bench s loaded (subst (λ (bs : List PlannedBus). StopsOpening s.library (log_names bs) s.logs s.library_now) (sym same) o) nothing

  -- the buses were printed, as far as they were
  pub buses_printed : (w : WantList) → w ≡ all_wanted bench → (logs : List SourceState) → OpensAll s.library (log_names buses) logs s.library_now
      → (result : Result (Unit {0}) BusesRefused) → PrintsBuses w bench logs s.logs s.out s.out_now result → EndsDecode name s (printed_status result)
  buses_printed w e logs o result p =
      printed_end name plan bench s logs loaded (subst (λ (bs : List PlannedBus). OpensAll s.library (log_names bs) logs s.library_now) (sym same) o) result
      (subst (λ (v : WantList). PrintsBuses v bench logs s.logs s.out s.out_now result) e p)
