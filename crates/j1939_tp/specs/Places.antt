-- The open sessions by the places of the frames of a log, counted from 0: the session of a pair is that of
-- the last frame that opens the pair, where no frame since ended it.
use Rattle.std.specs.Prelude.{◌≡◌, ◌≢◌, ℕ, ◌+◌, ◌<◌, Bool, true, false, List, [], ◌∷◌, ◌++◌, take, drop}
use Rattle.std.specs.Prelude.{slice_get, IsSomeAnd, Option, None, Some, if◌then◌else◌}
use Rattle.j1939_tp.specs.declared.out.TpOut.TheVariants.{Nothing}
use Rattle.j1939_tp.specs.Frames.{Frame}
use Rattle.j1939_tp.specs.Session.{Session}
use Rattle.j1939_tp.specs.OpenSessions.{Pair, same_pair, opens_pair, acts_on, open_after, answer_at}

-- a fact of the frame at this place and of the frames before it
abbrev pub At : (List Frame → Frame → Type 0) → List Frame → ℕ → Type 0
At P frames k = IsSomeAnd (slice_get frames k) (P (take k frames))

abbrev pub Opens : Pair → List Frame → Frame → Type 0
Opens p before f = opens_pair f p ≡ true

-- it acts on the session of the pair, and something comes of that session
abbrev pub Ends : Pair → List Frame → Frame → Type 0
Ends p before f = (acts_on (open_after before) f ≡ Some p) × (answer_at before f ≢ Nothing)

abbrev pub is_same : Pair → Option Pair → Bool
is_same p None = false
is_same p (Some q) = same_pair q p

-- those of the later frames that act on the session of the pair, where the earlier ones came before
abbrev pub acting : Pair → List Frame → List Frame → List Frame
acting p earlier [] = []
acting p earlier (f ∷ later) =
    (if is_same p (acts_on (open_after earlier) f) then f ∷ [] else []) ++ acting p (earlier ++ f ∷ []) later

-- the session of the pair was opened at this place
pub record IsOpenSince (p : Pair) (frames : List Frame) (i : ℕ) (s : Session) : Type 0 where
  pub opening : slice_get frames i ≡ Some s.opening
  pub opens : opens_pair s.opening p ≡ true
  pub last : (k : ℕ) → i < k → ¬ At (Opens p) frames k
  pub not_ended : (k : ℕ) → i < k → ¬ At (Ends p) frames k
  pub acted : s.acted ≡ acting p (take (i + 1) frames) (drop (i + 1) frames)
