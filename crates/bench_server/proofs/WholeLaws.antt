-- A run of files that decide it, in which nothing failed, is whole, unless memory ran out.
use Rattle.std.proofs.Common.{◌≡◌, ℕ, ◌+◌, ◌<◌, ◌≤◌, List, [], ◌∷◌, ◌++◌, length, Some, None, refl, sym, ap, subst, ◌∙◌, arith, inl, inr}
use Rattle.std.specs.List.{All, AllZip}
use Rattle.std.proofs.lemmas.List.{length-append}
use Rattle.std.proofs.lemmas.List.Elements.{All-head, All-tail}
use Rattle.port_io.specs.OtherSide.{SourceState}
use Rattle.candump_log.specs.LinesState.{log_limit}
use Rattle.bench_model.specs.declared.database.Database.{Database}
use Rattle.bench_inputs.specs.Asking.{Files}
use Rattle.bench_loader.specs.Checking.{CheckVerdict, has_fault, has_database, IsCheckVerdict, HoldsNamed}
use Rattle.bench_loader.specs.Verdict.{Run, Verdict, faulty, refused, large, decodes, IsVerdict, IsRun}
use Rattle.bench_server.specs.declared.status.Status.{Status}
use Rattle.bench_server.specs.declared.status.Status.TheVariants as status
use Rattle.bench_server.specs.Outcomes.{Seen, HasFailed, IsTooLong, StopsAt, IsLogOf, WroteTo, Caused, Decodes, Shows, EndsDecode}
use Rattle.bench_server.specs.CheckOutcomes.{CausedCheck, ShowsCheck, EndsCheck}
use Rattle.bench_server.specs.MillOutcomes.{CausedMill, EndsMill}
use Rattle.bench_server.specs.Tool.{Decided, NothingFailed, AreShort, IsWhole}
use Rattle.bench_server.proofs.OptionLaws.{of_some}

-- what holds of all holds of the one between
between : {X : Type 0} (P : X → Type 0) (xs : List X) (x : X) (ys : List X) → All P (xs ++ x ∷ ys) → P x
between P [] x ys h = All-head P x ys h
between P (z ∷ xs) x ys h = between P xs x ys (All-tail P z (xs ++ x ∷ ys) h)

-- no read failed of a log whose count is none
none_failed : (s : Seen) (bus : ℕ) → NothingFailed s → StopsAt s.logs bus HasFailed → ⊥
none_failed s bus n st =
    let none : st.log.read_faults ≡ 0 =
    between (λ (log : SourceState). log.read_faults ≡ 0) st.heard st.log st.behind (subst (λ (ls : List SourceState). All (λ (log : SourceState). log.read_faults ≡ 0) ls) st.parted n.logs) in
    let failed : 1 ≤ st.log.read_faults = st.holds.failed in
    absurd (omega (arith, none, failed))

-- the bytes of the log between
bytes_between : (logs : List (List ℕ)) (heard : List SourceState) (log : SourceState) (behind : List SourceState) → AllZip IsLogOf logs (heard ++ log ∷ behind) → AreShort logs
    → (bytes : List ℕ) × (length bytes < log_limit) × IsLogOf bytes log
bytes_between [] [] log behind z h = absurd z
bytes_between [] (x ∷ heard) log behind z h = absurd z
bytes_between (b ∷ bs) [] log behind z h = (b, All-head (λ (bytes : List ℕ). length bytes < log_limit) b bs h, z.0)
bytes_between (b ∷ bs) (x ∷ heard) log behind z h = bytes_between bs heard log behind z.1 (All-tail (λ (bytes : List ℕ). length bytes < log_limit) b bs h)

-- no more bytes are taken than there are
taken_within : (bytes took rest : List ℕ) → took ++ rest ≡ bytes → length took ≤ length bytes
taken_within bytes took rest e =
    let all : length took + length rest ≡ length bytes = sym (length-append took rest) ∙ ap length e in
    omega (arith, all)

less : (a b c : ℕ) → a ≡ c → a ≤ b → b < c → ⊥
less a b c e le lt = absurd (omega (arith, e, le, lt))

-- no log that is short is too long
none_too_long : (s : Seen) (bus : ℕ) (logs : List (List ℕ)) → AllZip IsLogOf logs s.logs → AreShort logs → StopsAt s.logs bus IsTooLong → ⊥
none_too_long s bus logs are short st =
    let found = bytes_between logs st.heard st.log st.behind (subst (λ (ls : List SourceState). AllZip IsLogOf logs ls) st.parted are) short in
    let l = found.2 in
    less (length l.took) (length found.0) log_limit (of_some st.log.taken (λ taken. length taken ≡ log_limit) l.took l.taken st.holds.long)
    (taken_within found.0 l.took l.rest l.joined) found.1

module _ (files : Files) (name : List ℕ) (s : Seen) (run : Run) (is_run : IsRun files name run) (short : AreShort run.logs) (n : NothingFailed s)
    (one : (v w : Verdict) → IsVerdict files name v → IsVerdict files name w → v ≡ w) where
  -- the logs handed back are those of this run
  logs_of_run : (Holds : Run → Type 0) → Decodes files name s.logs Holds → AllZip IsLogOf run.logs s.logs
  logs_of_run Holds d =
      subst (λ (v : Verdict). Decided v (λ (r : Run). AllZip IsLogOf r.logs s.logs)) (one (decodes d.run) (decodes run) d.is_run is_run) d.logs

  whole_by : (end : Status) → Caused s end → Shows files name s end → IsWhole end
  whole_by status.Ok c h = inl refl
  whole_by status.Usage c h = absurd c
  whole_by (status.BenchFile line) c h = absurd (let e : faulty line ≡ decodes run = one (faulty line) (decodes run) h is_run in cc)
  whole_by (status.Refused None fault) c h = absurd c
  whole_by (status.Refused (Some bus) fault) c h = absurd (let e : refused bus fault ≡ decodes run = one (refused bus fault) (decodes run) h is_run in cc)
  whole_by (status.TooLarge need room) c h = absurd (let e : large need room ≡ decodes run = one (large need room) (decodes run) h is_run in cc)
  whole_by status.OpenFault c h = absurd (n.opens c.0)
  whole_by (status.ReadFault None) c h = absurd (n.reads c.0)
  whole_by (status.ReadFault (Some bus)) c h = absurd (none_failed s bus n c)
  whole_by status.WriteFault c h = absurd (n.writes c.0)
  whole_by (status.TooLong bus) c h = absurd (none_too_long s bus run.logs (logs_of_run (λ r. StopsAt s.logs bus (WroteTo s r bus)) h) short c)
  whole_by status.Memory c h = inr refl

-- where nothing failed, the run is whole or memory ran out
pub whole : ((files : Files) (name : List ℕ) (v w : Verdict) → IsVerdict files name v → IsVerdict files name w → v ≡ w)
    → (files : Files) (name : List ℕ) (run : Run) (s : Seen) (end : Status) → s.library.files ≡ Some files → IsRun files name run → AreShort run.logs → EndsDecode name s end → NothingFailed s → IsWhole end
whole one files name run s end e is_run short h n =
    whole_by files name s run is_run short n (one files name) end h.caused (of_some s.library.files (λ files. Shows files name s end) files e h.shows)

module _ (files : Files) (name : List ℕ) (s : Seen) (d : Database) (holds : HoldsNamed files name d) (n : NothingFailed s)
    (one : (v w : CheckVerdict) → IsCheckVerdict files name v → IsCheckVerdict files name w → v ≡ w) where
  whole_check_by : (end : Status) → CausedCheck s end → ShowsCheck files name s end → IsWhole end
  whole_check_by status.Ok c h = inl refl
  whole_check_by status.Usage c h = absurd c
  whole_check_by (status.BenchFile line) c h = absurd c
  whole_check_by (status.Refused None fault) c h = absurd (let e : has_fault fault ≡ has_database d = one (has_fault fault) (has_database d) h holds in cc)
  whole_check_by (status.Refused (Some bus) fault) c h = absurd c
  whole_check_by (status.TooLarge need room) c h = absurd c
  whole_check_by status.OpenFault c h = absurd (n.opens c.0)
  whole_check_by (status.ReadFault None) c h = absurd (n.reads c.0)
  whole_check_by (status.ReadFault (Some bus)) c h = absurd c
  whole_check_by status.WriteFault c h = absurd (n.writes c)
  whole_check_by (status.TooLong bus) c h = absurd c
  whole_check_by status.Memory c h = inr refl

-- so is a check of a database
pub whole_check : ((files : Files) (name : List ℕ) (v w : CheckVerdict) → IsCheckVerdict files name v → IsCheckVerdict files name w → v ≡ w)
    → (files : Files) (name : List ℕ) (d : Database) (s : Seen) (end : Status) → s.library.files ≡ Some files → HoldsNamed files name d → EndsCheck name s end → NothingFailed s → IsWhole end
whole_check one files name d s end e holds h n =
    whole_check_by files name s d holds n (one files name) end h.caused (of_some s.library.files (λ files. ShowsCheck files name s end) files e h.shows)

whole_mill_by : (frames : ℕ) (s : Seen) (end : Status) → NothingFailed s → CausedMill frames s end → IsWhole end
whole_mill_by frames s status.Ok n c = inl refl
whole_mill_by frames s status.Usage n c = absurd c
whole_mill_by frames s (status.BenchFile line) n c = absurd c
whole_mill_by frames s (status.Refused bus fault) n c = absurd c
whole_mill_by frames s (status.TooLarge need room) n c = absurd c
whole_mill_by frames s status.OpenFault n c = absurd c
whole_mill_by frames s (status.ReadFault bus) n c = absurd c
whole_mill_by frames s status.WriteFault n c = absurd (n.writes c.0)
whole_mill_by frames s (status.TooLong bus) n c = absurd c
whole_mill_by frames s status.Memory n c = inr refl

-- so is each run of `mill`
pub whole_mill : (frames : ℕ) (s : Seen) (end : Status) → EndsMill frames s end → NothingFailed s → IsWhole end
whole_mill frames s end h n = whole_mill_by frames s end n h.caused
