-- A run of the tool: its report may lack memory, its line names buses as the bench file does, and its status agrees with
-- whatever the files decide.
use Rattle.std.proofs.Common.{◌≡◌, ◌⊎◌, ℕ, suc, List, [], ◌∷◌, Option, Some, None, refl, sym, subst, inl, inr}
use Rattle.std.specs.Option.{IfSome}
use Rattle.std.specs.List.{AllZip}
use Rattle.port_io.specs.Library.{named}
use Rattle.decisions.specs.ListDecisions.{FirstFails}
use Rattle.bench_file.specs.declared.plan.Plan.{Plan}
use Rattle.std.specs.Prelude.{Ok}
use Rattle.bench_inputs.specs.Asking.{Files, LibraryState}
use Rattle.bench_inputs.specs.Reading.{ReadsPlan}
use Rattle.bench_server.proofs.PhaseLaws.{none_heard, plan_asked, plan_read, ends_since}
use Rattle.bench_inputs.specs.BenchFiles.{HasBytes, HasPlan, log_names}
use Rattle.bench_loader.specs.declared.fault.DatabaseFault.{DatabaseFault}
use Rattle.bench_model.specs.declared.database.Database.{Database}
use Rattle.bench_loader.specs.Checking.{CheckVerdict, has_fault, has_database, IsCheckVerdict}
use Rattle.bench_loader.specs.Verdict.{Run, Verdict, missing, faulty, refused, large, decodes, IsMissing, IsVerdict}
use Rattle.bench_server.specs.declared.status.Status.{Status}
use Rattle.bench_server.specs.declared.status.Status.TheVariants as status
use Rattle.bench_server.specs.Outcomes.{Seen, WroteNothing, Decodes, MakesBench, Caused, Shows, EndsDecode}
use Rattle.bench_server.specs.CheckOutcomes.{Counts, ShowsCheck}
use Rattle.bench_server.specs.Reporting.{Stays}
use Rattle.bench_server.specs.Tool.{EndsTool, Decided, MayOpenLogs, Agrees, AgreesWithFiles, Held, AgreesCheck}
use Rattle.tool_words.specs.Commands.{ToolCommand}
use Rattle.tool_words.specs.Commands as commands
use Rattle.bench_server.proofs.OptionLaws.{if_some, of_some}

-- a refused database whose line lacks memory
nothing_written : (s : Seen) (bus : Option ℕ) (fault : DatabaseFault) → Caused s (status.Refused bus fault) → WroteNothing s
nothing_written s None fault c = absurd c
nothing_written s (Some bus) fault c = c.0

no_logs : (s : Seen) (bus : Option ℕ) (fault : DatabaseFault) → Caused s (status.Refused bus fault) → s.logs ≡ []
no_logs s None fault c = absurd c
no_logs s (Some bus) fault c = c.1

lacking : (name : List ℕ) (s : Seen) (bus : Option ℕ) (fault : DatabaseFault) → EndsDecode name s (status.Refused bus fault) → EndsDecode name s status.Memory
lacking name s bus fault h = record {
  caused = none_heard s.logs (no_logs s bus fault h.caused);
  shows = if_some s.library.files (λ files. Shows files name s status.Memory) (λ files e. inl (no_logs s bus fault h.caused, nothing_written s bus fault h.caused));
  logs = h.logs;
  strays = h.strays;
}

pub reported : (name : List ℕ) (s : Seen) (was now : Status) → EndsDecode name s was → Stays was now → EndsDecode name s now
reported name s was now h stays =
    elim stays [
      | inl same ↦ subst (λ (end : Status). EndsDecode name s end) (sym same) h
      | inr lacks ↦ subst (λ (end : Status). EndsDecode name s end) (sym lacks.memory)
          (lacking name s lacks.bus lacks.fault (subst (λ (end : Status). EndsDecode name s end) lacks.refused h))
    ]

-- the plan was read, its buses were decoded, and the end was reported
pub plan_decoded : (name : List ℕ) (before : LibraryState) (plan : Plan) (s : Seen) (end was now : Status) → ReadsPlan before name (Ok plan) s.library
    → (IfSome s.library.files (λ files. HasPlan files name plan) → EndsDecode name s end) → was ≡ end → Stays was now → EndsDecode name (record s { library = before }) now
plan_decoded name before plan s end was now r h e stays =
    let seen_before : Seen = record s { library = before } in
    let ended : EndsDecode name seen_before end = ends_since before s.library name s end refl (plan_asked name before s.library (Ok plan) r) (h (plan_read name before s.library plan r)) in
    reported name seen_before was now (subst (λ (t : Status). EndsDecode name seen_before t) (sym e) ended) stays

-- each of these names is of a file that is there, or one is not
abbrev LogsFound : Files → List (List ℕ) → Type 0
LogsFound files names = ((bytes : List (List ℕ)) × AllZip (HasBytes files) names bytes) ⊎ ((at : ℕ) × FirstFails (HasBytes files) (IsMissing files) names at tt)

one_more : (files : Files) (name : List ℕ) (names : List (List ℕ)) (o : Option (List ℕ)) → named files name ≡ o → LogsFound files names → LogsFound files (name ∷ names)
one_more files name names None e more = inr (0, e)
one_more files name names (Some log) e more = elim more [ inl all ↦ inl (log ∷ all.0, (e, all.1)) | inr lost ↦ inr (suc lost.0, ((log, e), lost.1)) ]

logs_found : (files : Files) (names : List (List ℕ)) → LogsFound files names
logs_found files [] = inl ([], tt)
logs_found files (name ∷ names) = one_more files name names (named files name) refl (logs_found files names)

-- a bench that the files make is decoded, or one of its logs is missing
bench_made : (files : Files) (name : List ℕ) → MakesBench files name → (v : Verdict) × IsVerdict files name v × MayOpenLogs v
bench_made files name m =
    elim (logs_found files (log_names m.plan.buses)) [
      | inl logs ↦ (
        decodes (record { plan = m.plan; bench = m.bench; logs = logs.0 }),
        record { databases = m.databases; inputs = m.inputs; are_buses = m.are_buses; fits = m.fits; logs_are = logs.1 },
        tt,
      )
      | inr lost ↦ (
        missing,
        inr (inr (record {
          plan = m.plan;
          databases = m.databases;
          inputs = m.inputs;
          bench = m.bench;
          are_buses = m.are_buses;
          fits = m.fits;
          first = (lost.0, tt);
          lacks = lost.1;
        })),
        tt,
      )
    ]

-- whatever verdict the files have, the status agrees
module _ (files : Files) (name : List ℕ) (s : Seen) (one : (v w : Verdict) → IsVerdict files name v → IsVerdict files name w → v ≡ w) where
  decided : (Holds : Run → Type 0) → Decodes files name s.logs Holds → (v : Verdict) → IsVerdict files name v → Decided v Holds
  decided Holds d v i = subst (λ (w : Verdict). Decided w Holds) (one (decodes d.run) v d.is_run i) d.holds

  pub agrees : (end : Status) → Shows files name s end → (v : Verdict) → IsVerdict files name v → Agrees v s end
  agrees status.Ok h v i = decided _ h v i
  agrees status.Usage h v i = h
  agrees (status.BenchFile line) h v i = one v (faulty line) i h
  agrees (status.Refused None fault) h v i = h
  agrees (status.Refused (Some bus) fault) h v i = one v (refused bus fault) i h
  agrees (status.TooLarge need room) h v i = one v (large need room) i h
  agrees status.OpenFault h v i =
      elim h [
        | inl none ↦ inl none
        | inr made ↦ let w = bench_made files name made in inr (subst MayOpenLogs (one w.0 v w.1 i) w.2)
      ]
  agrees (status.ReadFault None) h v i = tt
  agrees (status.ReadFault (Some bus)) h v i = decided _ h v i
  agrees status.WriteFault h v i = decided _ h v i
  agrees (status.TooLong bus) h v i = decided _ h v i
  agrees status.Memory h v i = elim h [ inl none ↦ inl none | inr d ↦ inr (decided _ d v i) ]

-- the same of a file that is checked
module _ (files : Files) (name : List ℕ) (s : Seen) (one : (v w : CheckVerdict) → IsCheckVerdict files name v → IsCheckVerdict files name w → v ≡ w) where
  held : (Holds : Database → Type 0) → Counts files name Holds → (v : CheckVerdict) → IsCheckVerdict files name v → Held v Holds
  held Holds c v i = subst (λ (w : CheckVerdict). Held w Holds) (one (has_database c.database) v c.is_there i) c.holds

  pub check_agrees : (end : Status) → ShowsCheck files name s end → (v : CheckVerdict) → IsCheckVerdict files name v → AgreesCheck v s end
  check_agrees status.Ok h v i = held _ h v i
  check_agrees status.Usage h v i = h
  check_agrees (status.BenchFile line) h v i = h
  check_agrees (status.Refused None fault) h v i = one v (has_fault fault) i h
  check_agrees (status.Refused (Some bus) fault) h v i = h
  check_agrees (status.TooLarge need room) h v i = h
  check_agrees status.OpenFault h v i = tt
  check_agrees (status.ReadFault None) h v i = tt
  check_agrees (status.ReadFault (Some bus)) h v i = h
  check_agrees status.WriteFault h v i = held _ h v i
  check_agrees (status.TooLong bus) h v i = h
  check_agrees status.Memory h v i = tt

-- the same of a run for the words
pub exact_by : (command : Option ToolCommand) (s : Seen) (end : Status) → ((files : Files) (name : List ℕ) (v w : Verdict) → IsVerdict files name v → IsVerdict files name w → v ≡ w)
    → ((files : Files) (name : List ℕ) (v w : CheckVerdict) → IsCheckVerdict files name v → IsCheckVerdict files name w → v ≡ w)
    → EndsTool command s end → AgreesWithFiles command s end
exact_by None s end one check h = tt
exact_by (Some (commands.Decodes bench)) s end one check h =
    if_some s.library.files (λ files. (v : Verdict) → IsVerdict files bench v → Agrees v s end) (λ files e v i.
    agrees files bench s (one files bench) end (of_some s.library.files (λ files. Shows files bench s end) files e h.shows) v i)
exact_by (Some (commands.Checks file)) s end one check h =
    if_some s.library.files (λ files. (v : CheckVerdict) → IsCheckVerdict files file v → AgreesCheck v s end) (λ files e v i.
    check_agrees files file s (check files file) end (of_some s.library.files (λ files. ShowsCheck files file s end) files e h.shows) v i)
exact_by (Some (commands.Mills frames)) s end one check h = tt
