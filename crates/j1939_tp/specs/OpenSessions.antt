-- The sessions that are open after the frames of a log, and what each further frame brings.
use Rattle.std.specs.Prelude.{ℕ, ◌==◌, ◌&&◌, Bool, true, false, List, [], fold, Option, None, Some, is_some}
use Rattle.std.specs.Prelude.{if◌then◌else◌}
use Rattle.std.specs.Option.{option_or}
use Rattle.j1939_tp.specs.declared.out.TpOut.{TpOut}
use Rattle.j1939_tp.specs.declared.out.TpOut.TheVariants.{Nothing, Whole, Cut}
use Rattle.j1939_tp.specs.Frames.{Frame, Role, opens, renews, ends, aborts, packet, other, role, sender}
use Rattle.j1939_tp.specs.Frames.{receiver, named_group}
use Rattle.j1939_tp.specs.Session.{Session, Outcome, nothing, whole, cut, outcome, with_frame}

-- a sender and a receiver
abbrev pub Pair : Type 0
Pair = ℕ × ℕ

abbrev pub same_pair : Pair → Pair → Bool
same_pair p q = p.0 == q.0 && p.1 == q.1

-- the pair of a frame's sender and receiver, and that of the session of which its receiver is the sender
abbrev pub pair_of : Frame → Pair
pair_of f = (sender f, receiver f)

abbrev pub reversed : Frame → Pair
reversed f = (receiver f, sender f)

-- the open sessions: at most one for each pair
abbrev pub Sessions : Type 0
Sessions = Pair → Option Session

abbrev pub no_sessions : Sessions
no_sessions p = None

-- the pair, where a session of it is open; where that session has the group that the frame names
abbrev pub if_open : Sessions → Pair → Option Pair
if_open sessions p = if is_some (sessions p) then Some p else None

abbrev pub has_group : ℕ → Option Session → Bool
has_group group None = false
has_group group (Some s) = named_group s.opening == group

abbrev pub if_named : Sessions → Frame → Pair → Option Pair
if_named sessions f p = if has_group (named_group f) (sessions p) then Some p else None

-- the pair whose open session a frame acts on
abbrev pub acts_by : Role → Sessions → Frame → Option Pair
acts_by opens sessions f = if_open sessions (pair_of f)
acts_by packet sessions f = if_open sessions (pair_of f)
acts_by renews sessions f = if_named sessions f (reversed f)
acts_by ends sessions f = if_named sessions f (reversed f)
acts_by aborts sessions f = option_or (if_named sessions f (pair_of f)) (if_named sessions f (reversed f))
acts_by other sessions f = None

abbrev pub acts_on : Sessions → Frame → Option Pair
acts_on sessions f = acts_by (role f) sessions f

-- whether a frame opens a session of the pair
abbrev pub is_opening : Role → Bool
is_opening opens = true
is_opening _ = false

abbrev pub opens_pair : Frame → Pair → Bool
opens_pair f p = is_opening (role f) && same_pair (pair_of f) p

-- a session that a frame acted on stays open where nothing came of it
abbrev pub left_by : Outcome → Session → Frame → Option Session
left_by nothing s f = Some (with_frame s f)
left_by _ s f = None

abbrev pub left_of : Option Session → Frame → Option Session
left_of None f = None
left_of (Some s) f = left_by (outcome s f) s f

abbrev pub after_acting : Option Pair → Sessions → Frame → Sessions
after_acting None sessions f p = sessions p
after_acting (Some q) sessions f p = if same_pair q p then left_of (sessions p) f else sessions p

-- the open sessions after one more frame: the one that it opens, which takes the place of an earlier one, and
-- the others as they were, but for the one that it acts on
abbrev pub after : Sessions → Frame → Sessions
after sessions f p =
    if opens_pair f p then Some (record { opening = f; acted = [] })
    else after_acting (acts_on sessions f) sessions f p

-- the open sessions after these frames
abbrev pub open_after : List Frame → Sessions
open_after frames = fold after no_sessions frames

-- what comes of a session: its group, its sender and its receiver
abbrev pub answer_by : Pair → Session → Outcome → TpOut
answer_by p s nothing = Nothing
answer_by p s (whole bytes) = Whole (named_group s.opening) p.0 p.1 bytes
answer_by p s (cut cause) = Cut (named_group s.opening) p.0 p.1 cause

abbrev pub answer_of : Pair → Option Session → Frame → TpOut
answer_of p None f = Nothing
answer_of p (Some s) f = answer_by p s (outcome s f)

abbrev pub answer : Option Pair → Sessions → Frame → TpOut
answer None sessions f = Nothing
answer (Some p) sessions f = answer_of p (sessions p) f

-- what a frame brings after these frames
abbrev pub answer_at : List Frame → Frame → TpOut
answer_at before f = answer (acts_on (open_after before) f) (open_after before) f
