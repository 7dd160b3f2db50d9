-- One session of the transport protocol of SAE J1939-21, as a passive listener follows it: the frame that
-- opened it, and the frames that acted on it since. How far it has come, when its last frame came and which
-- bytes it has are read out of these frames.
use Rattle.std.specs.Prelude.{ℕ, zero, suc, ◌+◌, ◌==◌, ◌&&◌, List, [], ◌∷◌, ◌++◌, take, max, find, nat_lt}
use Rattle.std.specs.Prelude.{unwrap_or, if◌then◌else◌}
use Rattle.std.specs.Option.{option_map}
use Rattle.bench_model.specs.declared.reading.CutCause.{CutCause}
use Rattle.bench_model.specs.declared.reading.CutCause.TheVariants.{Late, Again, Order, Abort, End}
use Rattle.j1939_tp.specs.Frames.{Frame, Role, opens, renews, ends, aborts, packet, other, role, byte}
use Rattle.j1939_tp.specs.Frames.{stated_size, stated_packets, carried}

pub record Session : Type 0 where
  pub opening : Frame
  pub acted : List Frame

-- the longest pause between two frames of a session, in microseconds
abbrev pub longest_pause : ℕ
longest_pause = 1250000

-- the stamp of the last of these frames, or this one where there is none
abbrev pub last_stamp_of : ℕ → List Frame → ℕ
last_stamp_of stamp [] = stamp
last_stamp_of stamp (f ∷ fs) = last_stamp_of f.micros fs

-- the stamp of a session's last frame
abbrev pub last_stamp : Session → ℕ
last_stamp s = last_stamp_of s.opening.micros s.acted

-- the number of a packet, and 0 for any other frame
abbrev pub number_by : Role → Frame → ℕ
number_by packet f = byte 1 f
number_by _ f = 0

abbrev pub number : Frame → ℕ
number f = number_by (role f) f

-- the greatest packet number among these frames, or 0
abbrev pub most : List Frame → ℕ
most [] = 0
most (f ∷ fs) = max (number f) (most fs)

-- the seven bytes of the first of these frames that is the packet of this number
abbrev pub packet_of : List Frame → ℕ → List ℕ
packet_of fs n = unwrap_or (option_map carried (find (λ f. number f == n) fs)) []

-- the packets from 1 to this number, one after another
abbrev pub packets_to : List Frame → ℕ → List ℕ
packets_to fs zero = []
packets_to fs (suc n) = packets_to fs n ++ packet_of fs (suc n)

-- what a frame makes of the session that it acts on
pub data Outcome : Type 0 where
  nothing : Outcome
  whole : List ℕ → Outcome
  cut : CutCause → Outcome

-- the session with one more frame that acted on it
abbrev pub with_frame : Session → Frame → Session
with_frame s f = record { opening = s.opening; acted = s.acted ++ f ∷ [] }

-- the first bytes of the packets from 1 to the last, as many as the message has
abbrev pub message_of : Session → List ℕ
message_of s = take (stated_size s.opening) (packets_to s.acted (stated_packets s.opening))

abbrev pub outcome_of_packet : Session → Frame → Outcome
outcome_of_packet s f =
    if nat_lt (most s.acted + 1) (number f) then cut Order
    else if number f == most s.acted + 1 && number f == stated_packets s.opening
    then whole (message_of (with_frame s f)) else nothing

abbrev pub outcome_by : Role → Session → Frame → Outcome
outcome_by opens s f = cut Again
outcome_by ends s f = cut End
outcome_by aborts s f = cut Abort
outcome_by packet s f = outcome_of_packet s f
outcome_by renews s f = nothing
outcome_by other s f = nothing

-- what a frame makes of a session: its pause is tested before all else
abbrev pub outcome : Session → Frame → Outcome
outcome s f = if nat_lt (last_stamp s + longest_pause) f.micros then cut Late else outcome_by (role f) s f
