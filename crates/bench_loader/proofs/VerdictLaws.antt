-- The files of a bench have one verdict.
use Rattle.std.proofs.Common.{◌≡◌, ◌⊎◌, ℕ, ◌<◌, ◌≤◌, List, Option, Some, None, refl, sym, ap, subst, ◌∙◌, inl, inr, arith}
use Rattle.std.specs.Prelude.{zip}
use Rattle.std.specs.List.{AllZip}
use Rattle.std.proofs.lemmas.Bool.{cases_lt}
use Rattle.port_io.specs.Library.{named}
use Rattle.decisions.specs.Decisions.{Decides}
use Rattle.decisions.specs.ListDecisions.{FirstFailsAt, decides_list}
use Rattle.bench_model.specs.declared.database.Bench.{Bench}
use Rattle.bench_model.specs.declared.database.Bus.{Bus}
use Rattle.image_compiler.specs.Size.{image_size}
use Rattle.bench_file.specs.declared.plan.Plan.{Plan}
use Rattle.bench_file.specs.PlanOf.{IsPlan, IsFault}
use Rattle.bench_inputs.specs.declared.database_file.DatabaseFile.{DatabaseFile}
use Rattle.bench_inputs.specs.Asking.{Files}
use Rattle.bench_inputs.specs.BenchFiles.{HasBytes, HasPlan, HasFaultyPlan, IsDatabaseOfBus, LacksDatabase, log_names}
use Rattle.bench_loader.specs.declared.fault.DatabaseFault.{DatabaseFault}
use Rattle.bench_loader.specs.Judging.{IsBusOf, IsRefusedOnBus, AreBuses, IsFirstRefused}
use Rattle.bench_loader.specs.Verdict.{Run, Verdict, missing, faulty, refused, large, decodes, HasInputs, LacksSomeDatabase, IsMissing, FitsRegion, LacksSomeLog, IsRefusedBench, IsLargeBench, IsRun, IsVerdict}

there_or_missing : (files : Files) (name : List ℕ) → ((bytes : List ℕ) × HasBytes files name bytes) ⊎ IsMissing files name tt
there_or_missing files name = go (named files name) refl where
  go : (r : Option (List ℕ)) → named files name ≡ r → ((bytes : List ℕ) × HasBytes files name bytes) ⊎ IsMissing files name tt
  go (Some bytes) e = inl (bytes, e)
  go None e = inr e

same_bytes : (files : Files) (name a b : List ℕ) → HasBytes files name a → HasBytes files name b → a ≡ b
same_bytes files name a b h k = cc

not_there : (files : Files) (name a : List ℕ) → HasBytes files name a → named files name ≡ None → ⊥
not_there files name a h k = absurd (cc (h, k))

one_file : (files : Files) → Decides (HasBytes files) (IsMissing files)
one_file files = record {
  some = λ name. elim (there_or_missing files name) [ inl there ↦ inl there | inr gone ↦ inr (tt, gone) ];
  one = λ name a b h k. same_bytes files name a b h k;
  only = λ name c d h k. refl;
  apart = λ name a c h k. not_there files name a h k;
}

-- what fits into a room is not larger than it
above : (size need words room : ℕ) → size ≡ need → words ≡ room → size ≤ words → room < need → ⊥
above size need words room s w fits larger = absurd (omega (arith, s, w, fits, larger))

module _ (P : Decides IsPlan IsFault) (D : (files : Files) → Decides (AllZip (IsDatabaseOfBus files)) (FirstFailsAt (IsDatabaseOfBus files) (LacksDatabase files)))
    (J : Decides IsBusOf IsRefusedOnBus) (files : Files) (name : List ℕ) where
  judged : Decides (AllZip IsBusOf) (FirstFailsAt IsBusOf IsRefusedOnBus)
  judged = decides_list IsBusOf IsRefusedOnBus J

  logs : Decides (AllZip (HasBytes files)) (FirstFailsAt (HasBytes files) (IsMissing files))
  logs = decides_list (HasBytes files) (IsMissing files) (one_file files)

  with_bench : (plan : Plan) (dbs : List DatabaseFile) → HasInputs files name plan dbs → (bench : Bench)
      → AreBuses (zip plan.buses dbs) bench.buses → FitsRegion plan bench → (v : Verdict) × IsVerdict files name v
  with_bench plan dbs inputs bench are fits =
      elim (logs.some (log_names plan.buses)) [
        | inl bytes ↦
            let run : Run = record { plan = plan; bench = bench; logs = bytes.0 } in
            let is_run : IsRun files name run = record { databases = dbs; inputs = inputs; are_buses = are; fits = fits; logs_are = bytes.1 } in
            (decodes run, is_run)
        | inr first ↦
            let lacks : LacksSomeLog files name = record { plan = plan; databases = dbs; inputs = inputs; bench = bench; are_buses = are; fits = fits; first = first.0; lacks = first.1 } in
            (missing, inr (inr lacks))
      ]

  with_buses : (plan : Plan) (dbs : List DatabaseFile) → HasInputs files name plan dbs → (buses : List Bus)
      → AreBuses (zip plan.buses dbs) buses → (v : Verdict) × IsVerdict files name v
  with_buses plan dbs inputs buses are =
      let bench : Bench = record { buses = buses } in
      elim (cases_lt plan.words (image_size bench)) [
        | inl larger ↦
            let is : IsLargeBench files name (image_size bench) plan.words = record { plan = plan; databases = dbs; inputs = inputs; bench = bench; are_buses = are; needs = refl; has = refl; larger = larger } in
            (large (image_size bench) plan.words, is)
        | inr fits ↦ with_bench plan dbs inputs bench are fits
      ]

  with_inputs : (plan : Plan) (dbs : List DatabaseFile) → HasInputs files name plan dbs → (v : Verdict) × IsVerdict files name v
  with_inputs plan dbs inputs =
      elim (judged.some (zip plan.buses dbs)) [
        | inl buses ↦ with_buses plan dbs inputs buses.0 buses.1
        | inr first ↦
            let is : IsRefusedBench files name first.0.0 first.0.1 = record { plan = plan; databases = dbs; inputs = inputs; is_first = first.1 } in
            (refused first.0.0 first.0.1, is)
      ]

  with_plan : (plan : Plan) → HasPlan files name plan → (v : Verdict) × IsVerdict files name v
  with_plan plan has =
      elim ((D files).some plan.buses) [
        | inl dbs ↦ with_inputs plan dbs.0 (record { has_plan = has; databases_are = dbs.1 })
        | inr first ↦
            let lacks : LacksSomeDatabase files name = record { plan = plan; has_plan = has; first = first.0; lacks = first.1 } in
            (missing, inr (inl lacks))
      ]

  with_bytes : (bytes : List ℕ) → HasBytes files name bytes → (v : Verdict) × IsVerdict files name v
  with_bytes bytes there =
      elim (P.some bytes) [
        | inl plan ↦ with_plan plan.0 (record { bytes = bytes; is_there = there; is_plan = plan.1 })
        | inr line ↦
            let is : HasFaultyPlan files name line.0 = record { bytes = bytes; is_there = there; is_fault = line.1 } in
            (faulty line.0, is)
      ]

  pub some_verdict : (v : Verdict) × IsVerdict files name v
  some_verdict = elim (there_or_missing files name) [ inl there ↦ with_bytes there.0 there.1 | inr gone ↦ (missing, inl gone) ]

  same_plan : (p q : Plan) → HasPlan files name p → HasPlan files name q → p ≡ q
  same_plan p q h k =
      let same : h.bytes ≡ k.bytes = same_bytes files name h.bytes k.bytes h.is_there k.is_there in
      let Q : List ℕ → Type 0 = λ b. IsPlan b p in
      P.one k.bytes p q (subst Q same h.is_plan) k.is_plan

  plan_or_fault : (p : Plan) (n : ℕ) → HasPlan files name p → HasFaultyPlan files name n → ⊥
  plan_or_fault p n h k =
      let same : h.bytes ≡ k.bytes = same_bytes files name h.bytes k.bytes h.is_there k.is_there in
      let Q : List ℕ → Type 0 = λ b. IsPlan b p in
      P.apart k.bytes p n (subst Q same h.is_plan) k.is_fault

  same_fault : (m n : ℕ) → HasFaultyPlan files name m → HasFaultyPlan files name n → m ≡ n
  same_fault m n h k =
      let same : h.bytes ≡ k.bytes = same_bytes files name h.bytes k.bytes h.is_there k.is_there in
      let Q : List ℕ → Type 0 = λ b. IsFault b m in
      P.only k.bytes m n (subst Q same h.is_fault) k.is_fault

  same_databases : (p q : Plan) (a b : List DatabaseFile) → HasInputs files name p a → HasInputs files name q b → a ≡ b
  same_databases p q a b h k =
      let Q : Plan → Type 0 = λ r. AllZip (IsDatabaseOfBus files) r.buses a in
      (D files).one q.buses a b (subst Q (same_plan p q h.has_plan k.has_plan) h.databases_are) k.databases_are

  databases_or_none : (p : Plan) (a : List DatabaseFile) → HasInputs files name p a → LacksSomeDatabase files name → ⊥
  databases_or_none p a h l =
      let Q : Plan → Type 0 = λ r. AllZip (IsDatabaseOfBus files) r.buses a in
      (D files).apart l.plan.buses a l.first (subst Q (same_plan p l.plan h.has_plan l.has_plan) h.databases_are) l.lacks

  -- buses of the one inputs are those of the other
  moved : (p q : Plan) (a b : List DatabaseFile) → HasInputs files name p a → HasInputs files name q b → (buses : List Bus)
      → AreBuses (zip p.buses a) buses → AreBuses (zip q.buses b) buses
  moved p q a b h k buses are =
      let Q : Plan → Type 0 = λ r. AreBuses (zip r.buses a) buses in
      let R : List DatabaseFile → Type 0 = λ d. AreBuses (zip q.buses d) buses in
      subst R (same_databases p q a b h k) (subst Q (same_plan p q h.has_plan k.has_plan) are)

  buses_or_refused : (p : Plan) (a : List DatabaseFile) (buses : List Bus) (bus : ℕ) (fault : DatabaseFault)
      → HasInputs files name p a → AreBuses (zip p.buses a) buses → IsRefusedBench files name bus fault → ⊥
  buses_or_refused p a buses bus fault h are r =
      judged.apart (zip r.plan.buses r.databases) buses (bus, fault) (moved p r.plan a r.databases h r.inputs buses are) r.is_first

  same_buses : (p q : Plan) (a b : List DatabaseFile) → HasInputs files name p a → HasInputs files name q b → (xs ys : List Bus)
      → AreBuses (zip p.buses a) xs → AreBuses (zip q.buses b) ys → xs ≡ ys
  same_buses p q a b h k xs ys are are' = judged.one (zip q.buses b) xs ys (moved p q a b h k xs are) are'

  same_size : (p q : Plan) (a b : List DatabaseFile) → HasInputs files name p a → HasInputs files name q b → (x y : Bench)
      → AreBuses (zip p.buses a) x.buses → AreBuses (zip q.buses b) y.buses → image_size x ≡ image_size y
  same_size p q a b h k x y are are' =
      ap (λ bs. let bench : Bench = record { buses = bs } in image_size bench) (same_buses p q a b h k x.buses y.buses are are')

  same_words : (p q : Plan) → HasPlan files name p → HasPlan files name q → p.words ≡ q.words
  same_words p q h k = ap (λ (r : Plan). r.words) (same_plan p q h k)

  fits_or_large : (p : Plan) (a : List DatabaseFile) (bench : Bench) (need room : ℕ) → HasInputs files name p a
      → AreBuses (zip p.buses a) bench.buses → FitsRegion p bench → IsLargeBench files name need room → ⊥
  fits_or_large p a bench need room h are fits l =
      above (image_size bench) need p.words room
      (same_size p l.plan a l.databases h l.inputs bench l.bench are l.are_buses ∙ sym l.needs)
      (same_words p l.plan h.has_plan l.inputs.has_plan ∙ sym l.has) fits l.larger

  same_large : (m n r s : ℕ) → IsLargeBench files name m r → IsLargeBench files name n s → large m r ≡ large n s
  same_large m n r s h k =
      ap (λ x. large x r) (h.needs ∙ same_size h.plan k.plan h.databases k.databases h.inputs k.inputs h.bench k.bench h.are_buses k.are_buses ∙ sym k.needs)
      ∙ ap (λ x. large n x) (h.has ∙ same_words h.plan k.plan h.inputs.has_plan k.inputs.has_plan ∙ sym k.has)

  run_or_missing_log : (run : Run) → IsRun files name run → LacksSomeLog files name → ⊥
  run_or_missing_log run h l =
      let Q : Plan → Type 0 = λ r. AllZip (HasBytes files) (log_names r.buses) run.logs in
      logs.apart (log_names l.plan.buses) run.logs l.first (subst Q (same_plan run.plan l.plan h.inputs.has_plan l.inputs.has_plan) h.logs_are) l.lacks

  missing_or_fault : (n : ℕ) → IsVerdict files name missing → HasFaultyPlan files name n → ⊥
  missing_or_fault n (inl gone) f = not_there files name f.bytes f.is_there gone
  missing_or_fault n (inr (inl l)) f = plan_or_fault l.plan n l.has_plan f
  missing_or_fault n (inr (inr l)) f = plan_or_fault l.plan n l.inputs.has_plan f

  missing_or_refused : (bus : ℕ) (fault : DatabaseFault) → IsVerdict files name missing → IsRefusedBench files name bus fault → ⊥
  missing_or_refused bus fault (inl gone) r = not_there files name r.inputs.has_plan.bytes r.inputs.has_plan.is_there gone
  missing_or_refused bus fault (inr (inl l)) r = databases_or_none r.plan r.databases r.inputs l
  missing_or_refused bus fault (inr (inr l)) r = buses_or_refused l.plan l.databases l.bench.buses bus fault l.inputs l.are_buses r

  missing_or_large : (need room : ℕ) → IsVerdict files name missing → IsLargeBench files name need room → ⊥
  missing_or_large need room (inl gone) r = not_there files name r.inputs.has_plan.bytes r.inputs.has_plan.is_there gone
  missing_or_large need room (inr (inl l)) r = databases_or_none r.plan r.databases r.inputs l
  missing_or_large need room (inr (inr l)) r = fits_or_large l.plan l.databases l.bench need room l.inputs l.are_buses l.fits r

  missing_or_run : (run : Run) → IsVerdict files name missing → IsRun files name run → ⊥
  missing_or_run run (inl gone) r = not_there files name r.inputs.has_plan.bytes r.inputs.has_plan.is_there gone
  missing_or_run run (inr (inl l)) r = databases_or_none run.plan r.databases r.inputs l
  missing_or_run run (inr (inr l)) r = run_or_missing_log run r l

  same_refusal : (m n : ℕ) (f g : DatabaseFault) → IsRefusedBench files name m f → IsRefusedBench files name n g
      → refused m f ≡ refused n g
  same_refusal m n f g h k =
      let Q : Plan → Type 0 = λ r. IsFirstRefused (zip r.buses h.databases) (m, f) in
      let R : List DatabaseFile → Type 0 = λ d. IsFirstRefused (zip k.plan.buses d) (m, f) in
      let here = subst R (same_databases h.plan k.plan h.databases k.databases h.inputs k.inputs) (subst Q (same_plan h.plan k.plan h.inputs.has_plan k.inputs.has_plan) h.is_first) in
      ap (λ (r : ℕ × DatabaseFault). refused r.0 r.1) (judged.only (zip k.plan.buses k.databases) (m, f) (n, g) here k.is_first)

  run_path : (a b : Run) → a.plan ≡ b.plan → a.bench.buses ≡ b.bench.buses → a.logs ≡ b.logs → a ≡ b
  run_path a b p q r =
      ap (λ x. let run : Run = record a { plan = x } in run) p
      ∙ ap (λ x. let bench : Bench = record { buses = x } in let run : Run = record a { plan = b.plan; bench = bench } in run) q
      ∙ ap (λ x. let run : Run = record b { logs = x } in run) r

  same_run : (a b : Run) → IsRun files name a → IsRun files name b → a ≡ b
  same_run a b h k =
      let plans : a.plan ≡ b.plan = same_plan a.plan b.plan h.inputs.has_plan k.inputs.has_plan in
      let Q : Plan → Type 0 = λ r. AllZip (HasBytes files) (log_names r.buses) a.logs in
      run_path a b plans
      (judged.one (zip b.plan.buses k.databases) a.bench.buses b.bench.buses (moved a.plan b.plan h.databases k.databases h.inputs k.inputs a.bench.buses h.are_buses) k.are_buses)
      (logs.one (log_names b.plan.buses) a.logs b.logs (subst Q plans h.logs_are) k.logs_are)

  pub one_verdict : (v w : Verdict) → IsVerdict files name v → IsVerdict files name w → v ≡ w
  one_verdict missing missing h k = refl
  one_verdict missing (faulty n) h k = absurd (missing_or_fault n h k)
  one_verdict missing (refused bus fault) h k = absurd (missing_or_refused bus fault h k)
  one_verdict missing (large need room) h k = absurd (missing_or_large need room h k)
  one_verdict missing (decodes run) h k = absurd (missing_or_run run h k)
  one_verdict (faulty n) missing h k = absurd (missing_or_fault n k h)
  one_verdict (faulty m) (faulty n) h k = ap faulty (same_fault m n h k)
  one_verdict (faulty n) (refused bus fault) h k = absurd (plan_or_fault k.plan n k.inputs.has_plan h)
  one_verdict (faulty n) (large need room) h k = absurd (plan_or_fault k.plan n k.inputs.has_plan h)
  one_verdict (faulty n) (decodes run) h k = absurd (plan_or_fault run.plan n k.inputs.has_plan h)
  one_verdict (refused bus fault) missing h k = absurd (missing_or_refused bus fault k h)
  one_verdict (refused bus fault) (faulty n) h k = absurd (plan_or_fault h.plan n h.inputs.has_plan k)
  one_verdict (refused m f) (refused n g) h k = same_refusal m n f g h k
  one_verdict (refused bus fault) (large need room) h k = absurd (buses_or_refused k.plan k.databases k.bench.buses bus fault k.inputs k.are_buses h)
  one_verdict (refused bus fault) (decodes run) h k = absurd (buses_or_refused run.plan k.databases run.bench.buses bus fault k.inputs k.are_buses h)
  one_verdict (large need room) missing h k = absurd (missing_or_large need room k h)
  one_verdict (large need room) (faulty n) h k = absurd (plan_or_fault h.plan n h.inputs.has_plan k)
  one_verdict (large need room) (refused bus fault) h k = absurd (buses_or_refused h.plan h.databases h.bench.buses bus fault h.inputs h.are_buses k)
  one_verdict (large m r) (large n s) h k = same_large m n r s h k
  one_verdict (large need room) (decodes run) h k = absurd (fits_or_large run.plan k.databases run.bench need room k.inputs k.are_buses k.fits h)
  one_verdict (decodes run) missing h k = absurd (missing_or_run run k h)
  one_verdict (decodes run) (faulty n) h k = absurd (plan_or_fault run.plan n h.inputs.has_plan k)
  one_verdict (decodes run) (refused bus fault) h k = absurd (buses_or_refused run.plan h.databases run.bench.buses bus fault h.inputs h.are_buses k)
  one_verdict (decodes run) (large need room) h k = absurd (fits_or_large run.plan h.databases run.bench need room h.inputs h.are_buses h.fits k)
  one_verdict (decodes a) (decodes b) h k = ap decodes (same_run a b h k)
