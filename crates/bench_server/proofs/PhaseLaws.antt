-- How a run ends whose library was asked before: what ended a later phase ends the run.
use Rattle.std.proofs.Common.{◌≡◌, ◌⊎◌, ℕ, ◌<◌, ◌≤◌, List, [], ◌∷◌, Option, Some, None, refl, sym, ap, subst, ◌∙◌, inl, inr, arith}
use Rattle.std.specs.Prelude.{Result, Ok, Err}
use Rattle.std.specs.Option.{IfSome}
use Rattle.std.specs.List.{All}
use Rattle.std.proofs.lemmas.List.Elements.{All-nil}
use Rattle.port_io.specs.Causes.{Rose}
use Rattle.port_io.specs.Library.{named}
use Rattle.port_io.specs.OtherSide.{SourceState}
use Rattle.bench_file.specs.declared.plan.Plan.{Plan}
use Rattle.bench_file.specs.declared.plan.PlannedBus.{PlannedBus}
use Rattle.bench_model.specs.declared.database.Bench.{Bench}
use Rattle.bench_inputs.specs.Asking.{Files, LibraryState, strays_over}
use Rattle.bench_inputs.specs.BenchFiles.{HasBytes, HasPlan}
use Rattle.bench_inputs.specs.Reading.{ReadsPlan}
use Rattle.bench_inputs.specs.declared.refused.BenchRefused.{BenchRefused}
use Rattle.bench_loader.specs.Verdict.{missing, IsVerdict}
use Rattle.bench_server.specs.declared.status.Status.{Status}
use Rattle.bench_server.specs.declared.status.Status.TheVariants as status
use Rattle.bench_server.specs.declared.refused.DecodeRefused.{DecodeRefused}
use Rattle.bench_server.specs.declared.refused.DecodeRefused.TheVariants as refused
use Rattle.bench_server.specs.EndView.{refused_status}
use Rattle.bench_server.specs.Outcomes.{Seen, WroteNothing, IsHeard, IsUnread, AreHeardInOrder, Caused, Shows, AreFirstLogs, EndsDecode}
use Rattle.bench_server.specs.Loading.{MakeBench, RefuseBench, LacksFile, IsBenchOf, AnswersLoad, LoadsDatabases, AnswersImage}
use Rattle.bench_server.proofs.OptionLaws.{if_some, of_some}
use Rattle.bench_server.proofs.StrayLaws.{there}

-- a name that is not there was asked for only where the files decide that one is missing
abbrev pub NoStray : LibraryState → ℕ → List ℕ → Type 0
NoStray before now name = IfSome before.files (λ files. (now ≡ before.strays) ⊎ IsVerdict files name missing)

-- the library was asked in an earlier phase
pub record WasAsked (before mid : LibraryState) (name : List ℕ) : Type 0 where
  pub files : mid.files ≡ before.files
  pub opens : before.open_faults ≤ mid.open_faults
  pub reads : before.more_faults ≤ mid.more_faults
  pub strays : NoStray before mid.strays name

rose_since : (a b c : ℕ) → a ≤ b → Rose b c → Rose a c
rose_since a b c h r = omega arith

caused_since : (before mid : LibraryState) (name : List ℕ) (s : Seen) (end : Status) → s.library ≡ mid → WasAsked before mid name → Caused s end → Caused (record s { library = before }) end
caused_since before mid name s status.Ok e w c = c
caused_since before mid name s status.Usage e w c = c
caused_since before mid name s (status.BenchFile line) e w c = c
caused_since before mid name s (status.Refused None fault) e w c = c
caused_since before mid name s (status.Refused (Some bus) fault) e w c = c
caused_since before mid name s (status.TooLarge need room) e w c = c
caused_since before mid name s status.OpenFault e w c =
    (rose_since before.open_faults s.library.open_faults s.library_now.open_faults (subst (λ (m : LibraryState). before.open_faults ≤ m.open_faults) (sym e) w.opens) c.0, c.1, c.2)
caused_since before mid name s (status.ReadFault None) e w c =
    (rose_since before.more_faults s.library.more_faults s.library_now.more_faults (subst (λ (m : LibraryState). before.more_faults ≤ m.more_faults) (sym e) w.reads) c.0, c.1, c.2)
caused_since before mid name s (status.ReadFault (Some bus)) e w c = c
caused_since before mid name s status.WriteFault e w c = c
caused_since before mid name s (status.TooLong bus) e w c = c
caused_since before mid name s status.Memory e w c = c

shows_since : (files : Files) (before : LibraryState) (name : List ℕ) (s : Seen) (end : Status) → Shows files name s end → Shows files name (record s { library = before }) end
shows_since files before name s status.Ok h = h
shows_since files before name s status.Usage h = h
shows_since files before name s (status.BenchFile line) h = h
shows_since files before name s (status.Refused None fault) h = h
shows_since files before name s (status.Refused (Some bus) fault) h = h
shows_since files before name s (status.TooLarge need room) h = h
shows_since files before name s status.OpenFault h = h
shows_since files before name s (status.ReadFault None) h = h
shows_since files before name s (status.ReadFault (Some bus)) h = h
shows_since files before name s status.WriteFault h = h
shows_since files before name s (status.TooLong bus) h = h
shows_since files before name s status.Memory h = h

strays_since : (before mid : LibraryState) (name : List ℕ) (s : Seen) (files : Files) → s.library ≡ mid
    → (mid.strays ≡ before.strays) ⊎ IsVerdict files name missing → (s.library_now.strays ≡ s.library.strays) ⊎ IsVerdict files name missing
    → (s.library_now.strays ≡ before.strays) ⊎ IsVerdict files name missing
strays_since before mid name s files e first second =
    elim second [
      | inl same ↦ elim first [ inl was ↦ inl (same ∙ ap (λ (m : LibraryState). m.strays) e ∙ was) | inr lost ↦ inr lost ]
      | inr lost ↦ inr lost
    ]

-- a run whose library was asked before
pub ends_since : (before mid : LibraryState) (name : List ℕ) (s : Seen) (end : Status) → s.library ≡ mid → WasAsked before mid name → EndsDecode name s end
    → EndsDecode name (record s { library = before }) end
ends_since before mid name s end e w h =
    let kept : s.library.files ≡ before.files = ap (λ (m : LibraryState). m.files) e ∙ w.files in
    let since = λ (files : Files) (t : before.files ≡ Some files). kept ∙ t in
    record {
      caused = caused_since before mid name s end e w h.caused;
      shows = if_some before.files (λ files. Shows files name (record s { library = before }) end) (λ files t.
          shows_since files before name s end (of_some s.library.files (λ files. Shows files name s end) files (since files t) h.shows));
      logs = if_some before.files (λ files. (s.logs ≡ []) ⊎ AreFirstLogs files name s.logs) (λ files t.
          of_some s.library.files (λ files. (s.logs ≡ []) ⊎ AreFirstLogs files name s.logs) files (since files t) h.logs);
      strays = if_some before.files (λ files. (s.library_now.strays ≡ before.strays) ⊎ IsVerdict files name missing) (λ files t.
          strays_since before mid name s files e
          (of_some before.files (λ files. (mid.strays ≡ before.strays) ⊎ IsVerdict files name missing) files t w.strays)
          (of_some s.library.files (λ files. (s.library_now.strays ≡ s.library.strays) ⊎ IsVerdict files name missing) files (since files t) h.strays));
    }

-- no log was opened, and so none was read
pub none_heard : (logs : List SourceState) → logs ≡ [] → AreHeardInOrder logs
none_heard logs none = inl (subst (λ (ls : List SourceState). All IsHeard ls) (sym none) (All-nil IsHeard))

-- the databases were not loaded
load_caused : (buses_of : Plan) (s : Seen) (why : DecodeRefused) → AnswersLoad s.library buses_of.buses s.library_now (Err why) → WroteNothing s → s.logs ≡ [] → Caused s (refused_status why)
load_caused plan s (refused.Database bus fault) a nothing none = (nothing, none)
load_caused plan s (refused.Large need room) a nothing none = absurd a
load_caused plan s refused.Open a nothing none = (a, nothing, subst (λ (ls : List SourceState). All IsUnread ls) (sym none) (All-nil IsUnread))
load_caused plan s refused.Read a nothing none = (a, nothing, none)
load_caused plan s (refused.Buses why) a nothing none = absurd a
load_caused plan s refused.Memory a nothing none = none_heard s.logs none

load_shows : (files : Files) (name : List ℕ) (plan : Plan) (s : Seen) (why : DecodeRefused) → s.library.files ≡ Some files → HasPlan files name plan
    → AnswersLoad s.library plan.buses s.library_now (Err why) → WroteNothing s → s.logs ≡ [] → Shows files name s (refused_status why)
load_shows files name plan s (refused.Database bus fault) e has a nothing none =
    let r = of_some s.library.files (λ files. RefuseBench files plan.buses bus fault) files e a in
    record { plan = plan; databases = r.databases; inputs = record { has_plan = has; databases_are = r.databases_are }; is_first = r.is_first }
load_shows files name plan s (refused.Large need room) e has a nothing none = absurd a
load_shows files name plan s refused.Open e has a nothing none = inl none
load_shows files name plan s refused.Read e has a nothing none = tt
load_shows files name plan s (refused.Buses why) e has a nothing none = absurd a
load_shows files name plan s refused.Memory e has a nothing none = inl (none, nothing)

-- where a database is missing, that is what the files decide
missing_database : (files : Files) (name : List ℕ) (plan : Plan) (before now : ℕ) → HasPlan files name plan → (now ≡ before) ⊎ LacksFile files plan.buses
    → (now ≡ before) ⊎ IsVerdict files name missing
missing_database files name plan before now has h =
    elim h [ inl same ↦ inl same | inr lacks ↦ inr (inr (inl (record { plan = plan; has_plan = has; first = lacks.0; lacks = lacks.1 }))) ]

pub load_end : (name : List ℕ) (plan : Plan) (s : Seen) (why : DecodeRefused) → IfSome s.library.files (λ files. HasPlan files name plan)
    → LoadsDatabases s.library plan.buses (Err why) s.library_now → WroteNothing s → s.logs ≡ [] → EndsDecode name s (refused_status why)
load_end name plan s why has l nothing none = record {
  caused = load_caused plan s why l.answer nothing none;
  shows = if_some s.library.files (λ files. Shows files name s (refused_status why)) (λ files e.
      load_shows files name plan s why e (of_some s.library.files (λ files. HasPlan files name plan) files e has) l.answer nothing none);
  logs = if_some s.library.files (λ files. (s.logs ≡ []) ⊎ AreFirstLogs files name s.logs) (λ files e. inl none);
  strays = if_some s.library.files (λ files. (s.library_now.strays ≡ s.library.strays) ⊎ IsVerdict files name missing) (λ files e.
      missing_database files name plan s.library.strays s.library_now.strays (of_some s.library.files (λ files. HasPlan files name plan) files e has)
      (of_some s.library.files (λ files. (s.library_now.strays ≡ s.library.strays) ⊎ LacksFile files plan.buses) files e l.strays));
}

-- databases that were loaded were asked for
pub load_asked : (name : List ℕ) (plan : Plan) (before mid : LibraryState) (result : Result Bench DecodeRefused) → IfSome before.files (λ files. HasPlan files name plan)
    → LoadsDatabases before plan.buses result mid → WasAsked before mid name
load_asked name plan before mid result has l = record {
  files = l.files;
  opens = l.opens;
  reads = l.reads;
  strays = if_some before.files (λ files. (mid.strays ≡ before.strays) ⊎ IsVerdict files name missing) (λ files e.
      missing_database files name plan before.strays mid.strays (of_some before.files (λ files. HasPlan files name plan) files e has)
      (of_some before.files (λ files. (mid.strays ≡ before.strays) ⊎ LacksFile files plan.buses) files e l.strays));
}

-- the bench file: it is there or the files decide that it is missing
stray_bench : (files : Files) (name : List ℕ) (o : Option (List ℕ)) → named files name ≡ o → (before now : ℕ) → now ≡ strays_over (Some files) (name ∷ []) before
    → (now ≡ before) ⊎ IsVerdict files name missing
stray_bench files name None e before now n = inr (inl e)
stray_bench files name (Some bytes) e before now n = inl (n ∙ there files name bytes before e)

pub plan_asked : (name : List ℕ) (before mid : LibraryState) (result : Result Plan BenchRefused) → ReadsPlan before name result mid → WasAsked before mid name
plan_asked name before mid result r = record {
  files = r.asks.files;
  opens = r.asks.opens;
  reads = r.asks.reads;
  strays = if_some before.files (λ files. (mid.strays ≡ before.strays) ⊎ IsVerdict files name missing) (λ files e.
      stray_bench files name (named files name) refl before.strays mid.strays (r.asks.strays ∙ ap (λ (fs : Option Files). strays_over fs (name ∷ []) before.strays) e));
}

-- the plan of a bench file that was read
pub plan_read : (name : List ℕ) (before mid : LibraryState) (plan : Plan) → ReadsPlan before name (Ok plan) mid → IfSome mid.files (λ files. HasPlan files name plan)
plan_read name before mid plan r = if_some mid.files (λ files. HasPlan files name plan) (λ files e.
    record { bytes = r.answer.bytes; is_there = of_some before.files (λ files. HasBytes files name r.answer.bytes) files (sym r.asks.files ∙ e) r.answer.known; is_plan = r.answer.is_plan })

-- the image was not made
image_caused : (s : Seen) (room : ℕ) (bench : Bench) (why : DecodeRefused) → AnswersImage room bench (Err why) → WroteNothing s → s.logs ≡ [] → Caused s (refused_status why)
image_caused s room bench (refused.Large need has) a nothing none = (nothing, none)
image_caused s room bench refused.Memory a nothing none = none_heard s.logs none
image_caused s room bench (refused.Database bus fault) a nothing none = absurd a
image_caused s room bench refused.Open a nothing none = absurd a
image_caused s room bench refused.Read a nothing none = absurd a
image_caused s room bench (refused.Buses why) a nothing none = absurd a

image_shows : (files : Files) (name : List ℕ) (plan : Plan) (s : Seen) (bench : Bench) (why : DecodeRefused) → HasPlan files name plan → MakeBench files plan.buses bench
    → AnswersImage plan.words bench (Err why) → WroteNothing s → s.logs ≡ [] → Shows files name s (refused_status why)
image_shows files name plan s bench (refused.Large need has) there made a nothing none = record {
  plan = plan;
  databases = made.databases;
  inputs = record { has_plan = there; databases_are = made.databases_are };
  bench = bench;
  are_buses = made.are_buses;
  needs = a.0;
  has = a.1;
  larger = subst (λ (room : ℕ). room < need) (sym a.1) a.2;
}
image_shows files name plan s bench refused.Memory there made a nothing none = inl (none, nothing)
image_shows files name plan s bench (refused.Database bus fault) there made a nothing none = absurd a
image_shows files name plan s bench refused.Open there made a nothing none = absurd a
image_shows files name plan s bench refused.Read there made a nothing none = absurd a
image_shows files name plan s bench (refused.Buses why) there made a nothing none = absurd a

image_end : (name : List ℕ) (plan : Plan) (s : Seen) (bench : Bench) (why : DecodeRefused) → IfSome s.library.files (λ files. HasPlan files name plan)
    → IfSome s.library.files (λ files. MakeBench files plan.buses bench) → AnswersImage plan.words bench (Err why) → WroteNothing s → s.logs ≡ []
    → s.library_now ≡ s.library → EndsDecode name s (refused_status why)
image_end name plan s bench why has made a nothing none same = record {
  caused = image_caused s plan.words bench why a nothing none;
  shows = if_some s.library.files (λ files. Shows files name s (refused_status why)) (λ files e.
      image_shows files name plan s bench why (of_some s.library.files (λ files. HasPlan files name plan) files e has)
      (of_some s.library.files (λ files. MakeBench files plan.buses bench) files e made) a nothing none);
  logs = if_some s.library.files (λ files. (s.logs ≡ []) ⊎ AreFirstLogs files name s.logs) (λ files e. inl none);
  strays = if_some s.library.files (λ files. (s.library_now.strays ≡ s.library.strays) ⊎ IsVerdict files name missing) (λ files e.
      inl (ap (λ (l : LibraryState). l.strays) same));
}

-- a bench that was loaded, seen by a library that was asked
pub bench_since : (before mid : LibraryState) (buses : List PlannedBus) (bench image : Bench) → mid.files ≡ before.files → image ≡ bench
    → IsBenchOf before buses bench → IsBenchOf mid buses image
bench_since before mid buses bench image files same b =
    subst (λ (i : Bench). IsBenchOf mid buses i) (sym same)
    (record { count = b.count; valid = b.valid; made = subst (λ (o : Option Files). IfSome o (λ fs. MakeBench fs buses bench)) (sym files) b.made })

-- the databases were loaded, but the image was not made
pub image_after : (name : List ℕ) (plan : Plan) (before : LibraryState) (buses : List PlannedBus) (bench : Bench) (s : Seen) (why : DecodeRefused) → buses ≡ plan.buses
    → LoadsDatabases before buses (Ok bench) s.library → IfSome before.files (λ files. HasPlan files name plan) → AnswersImage plan.words bench (Err why)
    → WroteNothing s → s.logs ≡ [] → s.library_now ≡ s.library → EndsDecode name (record s { library = before }) (refused_status why)
image_after name plan before buses bench s why e l has a nothing none same =
    let loads : LoadsDatabases before plan.buses (Ok bench) s.library = subst (λ (bs : List PlannedBus). LoadsDatabases before bs (Ok bench) s.library) e l in
    let known : IfSome s.library.files (λ files. HasPlan files name plan) = subst (λ (o : Option Files). IfSome o (λ files. HasPlan files name plan)) (sym l.files) has in
    let made = (bench_since before s.library plan.buses bench bench l.files refl loads.answer).made in
    ends_since before s.library name s (refused_status why) refl (load_asked name plan before s.library (Ok bench) has loads)
    (image_end name plan s bench why known made a nothing none same)

-- the databases were loaded, and then the logs decoded
pub decode_after : (name : List ℕ) (plan : Plan) (before : LibraryState) (buses : List PlannedBus) (bench : Bench) (s : Seen) (end : Status) → buses ≡ plan.buses
    → LoadsDatabases before buses (Ok bench) s.library → IfSome before.files (λ files. HasPlan files name plan)
    → (IfSome s.library.files (λ files. HasPlan files name plan) → EndsDecode name s end) → EndsDecode name (record s { library = before }) end
decode_after name plan before buses bench s end e l has h =
    let loads : LoadsDatabases before plan.buses (Ok bench) s.library = subst (λ (bs : List PlannedBus). LoadsDatabases before bs (Ok bench) s.library) e l in
    let known : IfSome s.library.files (λ files. HasPlan files name plan) = subst (λ (o : Option Files). IfSome o (λ files. HasPlan files name plan)) (sym l.files) has in
    ends_since before s.library name s end refl (load_asked name plan before s.library (Ok bench) has loads) (h known)
