-- How a run over a bench that was loaded ends, row by row.
use Rattle.std.proofs.Common.{◌≡◌, ◌⊎◌, ℕ, List, [], ◌∷◌, ◌++◌, length, Option, Some, None, refl, sym, ap, subst, ◌∙◌, inl, inr}
use Rattle.std.specs.Prelude.{Result, Ok, Err}
use Rattle.std.specs.Option.{IfSome}
use Rattle.std.specs.List.{AllZip}
use Rattle.std.proofs.lemmas.List.{append-nil}
use Rattle.port_io.specs.Library.{named}
use Rattle.port_io.specs.OtherSide.{SourceState}
use Rattle.decisions.specs.ListDecisions.{FirstFailsAt}
use Rattle.bench_model.specs.declared.database.Bench.{Bench}
use Rattle.bench_file.specs.declared.plan.Plan.{Plan}
use Rattle.bench_inputs.specs.Asking.{Files, strays_over}
use Rattle.bench_inputs.specs.BenchFiles.{HasPlan, HasBytes, log_names}
use Rattle.bench_inputs.specs.Reading.{IsFresh, OpensAll, StopsOpening}
use Rattle.bench_loader.specs.Verdict.{Run, missing, IsVerdict, IsMissing, HasInputs, FitsRegion}
use Rattle.bench_text.specs.declared.refused.BusesRefused.{BusesRefused}
use Rattle.bench_text.specs.declared.refused.BusesRefused.TheVariants as refused
use Rattle.bench_text.specs.LogsRead.{HaveLeft}
use Rattle.bench_text.specs.Printing.{PrintsBuses, PrintsPrefix, Ends}
use Rattle.bench_server.specs.declared.status.Status.TheVariants as status
use Rattle.bench_server.specs.ToolText.{all_wanted, tool_text}
use Rattle.bench_server.specs.EndView.{printed_status}
use Rattle.bench_server.specs.Outcomes.{Seen, Wrote, WroteNothing, WrotePrefix, StopsAt, WroteTo, Caused, Decodes, MakesBench, Shows, AreFirstLogs, EndsDecode}
use Rattle.bench_server.specs.Loading.{MakeBench}
use Rattle.bench_server.proofs.OptionLaws.{if_some, of_some}
use Rattle.bench_server.proofs.LogLaws.{reads_of, ReadOf, opened_named, all_unread, all_heard}
use Rattle.bench_server.proofs.StopLaws.{stops_failed, stops_long, read_in_order, stops_text}
use Rattle.bench_server.proofs.StrayLaws.{none_astray, logs_there, then_there, first_missing, AreThere}

-- the bench file of this name makes this plan, whose buses make this bench, and its image fits
pub record IsLoaded (files : Files) (name : List ℕ) (plan : Plan) (bench : Bench) : Type 0 where
  pub has_plan : HasPlan files name plan
  pub made : MakeBench files plan.buses bench
  pub fits : FitsRegion plan bench

inputs_of : (files : Files) (name : List ℕ) (plan : Plan) (bench : Bench) (l : IsLoaded files name plan bench) → HasInputs files name plan l.made.databases
inputs_of files name plan bench l = record { has_plan = l.has_plan; databases_are = l.made.databases_are }

makes_bench : (files : Files) (name : List ℕ) (plan : Plan) (bench : Bench) → IsLoaded files name plan bench → MakesBench files name
makes_bench files name plan bench l = record {
  plan = plan;
  databases = l.made.databases;
  inputs = inputs_of files name plan bench l;
  bench = bench;
  are_buses = l.made.are_buses;
  fits = l.fits;
}

-- a log that is not there is missing, and one that is there is no stray
stray_log : (files : Files) (name : List ℕ) (plan : Plan) (bench : Bench) → IsLoaded files name plan bench → (opened : List (List ℕ)) (last : List ℕ) (behind : List (List ℕ))
    → log_names plan.buses ≡ opened ++ last ∷ behind → AreThere files opened → (o : Option (List ℕ)) → named files last ≡ o
    → (before now : ℕ) → now ≡ strays_over (Some files) (opened ++ last ∷ []) before → (now ≡ before) ⊎ IsVerdict files name missing
stray_log files name plan bench l opened last behind parted there None e before now n =
    inr (inr (inr (record {
      plan = plan;
      databases = l.made.databases;
      inputs = inputs_of files name plan bench l;
      bench = bench;
      are_buses = l.made.are_buses;
      fits = l.fits;
      first = (length opened, tt);
      lacks = subst (λ (names : List (List ℕ)). FirstFailsAt (HasBytes files) (IsMissing files) names (length opened, tt)) (sym parted) (first_missing files opened last behind there e);
    })))
stray_log files name plan bench l opened last behind parted there (Some bytes) e before now n =
    inl (n ∙ none_astray files (opened ++ last ∷ []) before (then_there files opened last bytes there e))

-- a log could not be opened
pub open_end : (name : List ℕ) (plan : Plan) (bench : Bench) (s : Seen) → IfSome s.library.files (λ files. IsLoaded files name plan bench)
    → StopsOpening s.library (log_names plan.buses) s.logs s.library_now → WroteNothing s → EndsDecode name s status.OpenFault
open_end name plan bench s loaded o nothing =
    let fresh = λ (files : Files) (e : s.library.files ≡ Some files).
    subst (λ (fs : Option Files). AllZip (IsFresh fs) o.opened s.logs) e o.fresh in
    record {
      caused = (o.rose, nothing, all_unread s.library.files o.opened s.logs o.fresh);
      shows = if_some s.library.files (λ files. (s.logs ≡ []) ⊎ MakesBench files name) (λ files e.
          inr (makes_bench files name plan bench (of_some s.library.files (λ files. IsLoaded files name plan bench) files e loaded)));
      logs = if_some s.library.files (λ files. (s.logs ≡ []) ⊎ AreFirstLogs files name s.logs) (λ files e. inr (record {
        plan = plan;
        has_plan = (of_some s.library.files (λ files. IsLoaded files name plan bench) files e loaded).has_plan;
        opened = o.opened;
        unopened = o.refused ∷ o.behind;
        parted = sym o.parted;
        are_logs = opened_named files o.opened s.logs (fresh files e);
      }));
      strays = if_some s.library.files (λ files. (s.library_now.strays ≡ s.library.strays) ⊎ IsVerdict files name missing) (λ files e.
          stray_log files name plan bench (of_some s.library.files (λ files. IsLoaded files name plan bench) files e loaded) o.opened o.refused o.behind o.parted
          (logs_there files o.opened s.logs (fresh files e)) (named files o.refused) refl s.library.strays s.library_now.strays
          (o.asks.strays ∙ ap (λ (fs : Option Files). strays_over fs (o.opened ++ o.refused ∷ []) s.library.strays) e));
    }

-- the buses were printed from logs that were opened
module _ (name : List ℕ) (plan : Plan) (bench : Bench) (s : Seen) (logs : List SourceState)
    (loaded : IfSome s.library.files (λ files. IsLoaded files name plan bench))
    (opens : OpensAll s.library (log_names plan.buses) logs s.library_now) where
  caused_by : (result : Result (Unit {0}) BusesRefused) → Ends (all_wanted bench) bench logs s.logs s.out s.out_now result → Caused s (printed_status result)
  caused_by (Ok done) p = all_heard logs s.logs p.to_end
  caused_by (Err (refused.ReadFault bus)) p = stops_failed s.library.files (log_names plan.buses) logs s.logs opens.fresh bus p.0.stops p.0.goes_on p.1 p.2
  caused_by (Err (refused.TooLong bus)) p = stops_long s.library.files (log_names plan.buses) logs s.logs opens.fresh bus p.0.stops p.0.goes_on p.1
  caused_by (Err refused.WriteFault) p = (p.1, read_in_order s.library.files (log_names plan.buses) logs s.logs opens.fresh p.0.reads)
  caused_by (Err refused.Memory) p = read_in_order s.library.files (log_names plan.buses) logs s.logs opens.fresh p.reads

  prefix_by : (bytes : List (List ℕ)) → HaveLeft logs bytes → PrintsPrefix (all_wanted bench) bench logs s.logs s.out s.out_now
      → WrotePrefix s (tool_text (record { plan = plan; bench = bench; logs = bytes }))
  prefix_by bytes left p = let more = p.prefix bytes left in record { sent = p.sent; rest = more.0; parted = more.1; written = p.written }

  decodes_run : (files : Files) (l : IsLoaded files name plan bench) (r : ReadOf files (log_names plan.buses) logs s.logs) (Holds : Run → Type 0)
      → Holds (record { plan = plan; bench = bench; logs = r.bytes }) → Decodes files name s.logs Holds
  decodes_run files l r Holds h = record {
    run = record { plan = plan; bench = bench; logs = r.bytes };
    is_run = record { databases = l.made.databases; inputs = inputs_of files name plan bench l; are_buses = l.made.are_buses; fits = l.fits; logs_are = r.are_there };
    logs = r.are_logs;
    holds = h;
  }

  shows_by : (files : Files) (l : IsLoaded files name plan bench) (r : ReadOf files (log_names plan.buses) logs s.logs) → AllZip (IsFresh (Some files)) (log_names plan.buses) logs
      → (result : Result (Unit {0}) BusesRefused) → Ends (all_wanted bench) bench logs s.logs s.out s.out_now result → Shows files name s (printed_status result)
  shows_by files l r f (Ok done) p = decodes_run files l r (λ run. Wrote s (tool_text run)) (p.text r.bytes r.left)
  shows_by files l r f (Err (refused.ReadFault bus)) p =
      decodes_run files l r (λ run. StopsAt s.logs bus (WroteTo s run bus)) (stops_text (Some files) (log_names plan.buses) logs s.logs f bench bus s.out s.out_now r.bytes r.left p.0)
  shows_by files l r f (Err (refused.TooLong bus)) p =
      decodes_run files l r (λ run. StopsAt s.logs bus (WroteTo s run bus)) (stops_text (Some files) (log_names plan.buses) logs s.logs f bench bus s.out s.out_now r.bytes r.left p.0)
  shows_by files l r f (Err refused.WriteFault) p = decodes_run files l r (λ run. WrotePrefix s (tool_text run)) (prefix_by r.bytes r.left p.0)
  shows_by files l r f (Err refused.Memory) p = inr (decodes_run files l r (λ run. WrotePrefix s (tool_text run)) (prefix_by r.bytes r.left p))

  pub printed_end : (result : Result (Unit {0}) BusesRefused) → PrintsBuses (all_wanted bench) bench logs s.logs s.out s.out_now result → EndsDecode name s (printed_status result)
  printed_end result p =
      let fresh = λ (files : Files) (e : s.library.files ≡ Some files).
      subst (λ (fs : Option Files). AllZip (IsFresh fs) (log_names plan.buses) logs) e opens.fresh in
      let ran = λ (files : Files) (e : s.library.files ≡ Some files). reads_of files (log_names plan.buses) logs s.logs (fresh files e) p.read in
      let l = λ (files : Files) (e : s.library.files ≡ Some files). of_some s.library.files (λ files. IsLoaded files name plan bench) files e loaded in
      record {
        caused = caused_by result p.ends;
        shows = if_some s.library.files (λ files. Shows files name s (printed_status result)) (λ files e. shows_by files (l files e) (ran files e) (fresh files e) result p.ends);
        logs = if_some s.library.files (λ files. (s.logs ≡ []) ⊎ AreFirstLogs files name s.logs) (λ files e. inr (record {
          plan = plan;
          has_plan = (l files e).has_plan;
          opened = log_names plan.buses;
          unopened = [];
          parted = append-nil (log_names plan.buses);
          are_logs = (ran files e).are_named;
        }));
        strays = if_some s.library.files (λ files. (s.library_now.strays ≡ s.library.strays) ⊎ IsVerdict files name missing) (λ files e.
            inl (opens.asks.strays ∙ ap (λ (fs : Option Files). strays_over fs (log_names plan.buses) s.library.strays) e
            ∙ none_astray files (log_names plan.buses) s.library.strays (logs_there files (log_names plan.buses) logs (fresh files e))));
      }
