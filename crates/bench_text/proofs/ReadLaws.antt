-- Of each log that was read in order, as far as it was read, its first bytes were taken.
use Rattle.std.proofs.Common.{◌≡◌, ℕ, List, [], ◌∷◌, ◌++◌, Option, None, Some, refl, sym, ap, subst, lit≤, arith}
use Rattle.std.proofs.lemmas.List.{append-nil}
use Rattle.std.specs.List.{AllZip}
use Rattle.std.specs.Io.KnownBytes.{prepend_known, append_known}
use Rattle.port_io.specs.OtherSide.{SourceState}
use Rattle.bench_text.specs.LogsRead.{HasRead, IsReadToEnd, StopsAt}
use Rattle.bench_text.proofs.ListLaws.{zip_join, zip_weaker, zip_same}

nothing_left : (o : Option (List ℕ)) → o ≡ prepend_known [] o
nothing_left None = refl
nothing_left (Some bytes) = refl

nothing_more : (o : Option (List ℕ)) → o ≡ append_known o []
nothing_more None = refl
nothing_more (Some bytes) = ap (λ (l : List ℕ). Some l) (sym (append-nil bytes))

-- nothing was taken of a log that is as it was
pub nothing_taken : (log : SourceState) → HasRead log log
nothing_taken log = ([], record { left = nothing_left log.left; taken = nothing_more log.taken; limit = lit≤ tt; later = omega arith })

read_to_end : (log log_now : SourceState) → IsReadToEnd log log_now → HasRead log log_now
read_to_end log log_now r = (r.took, r.takes)

pub all_read : (logs logs_now : List SourceState) → AllZip IsReadToEnd logs logs_now → AllZip HasRead logs logs_now
all_read logs logs_now h = zip_weaker IsReadToEnd HasRead read_to_end logs logs_now h

pub stops_read : {place : ℕ} {logs logs_now : List SourceState} → StopsAt place logs logs_now → AllZip HasRead logs logs_now
stops_read {place} {logs} {logs_now} s =
    let behind = zip_same HasRead nothing_taken s.behind in
    let all = zip_join HasRead s.heard s.heard_now (s.log ∷ s.behind) (s.log_now ∷ s.behind) (all_read s.heard s.heard_now s.to_end) ((s.took, s.takes), behind) in
    let P : List SourceState → Type 0 = λ l. AllZip HasRead l logs_now in
    let Q : List SourceState → Type 0 = λ l. AllZip HasRead (s.heard ++ s.log ∷ s.behind) l in
    subst P (sym s.parted) (subst Q (sym s.parted_now) all)
