-- The code's view of a frame and of a session's progress.
use Rattle.std.specs.Prelude.{◌≡◌, ℕ, ◌++◌, List, [], take, Option, None, Some}
use Rattle.bench_model.specs.declared.reading.CutCause.TheVariants.{Again}
use Rattle.j1939_tp.specs.declared.out.TpOut.{TpOut}
use Rattle.j1939_tp.specs.declared.out.TpOut.TheVariants as out
use Rattle.j1939_tp.specs.declared.tp_frame.Opening.{Opening}
use Rattle.j1939_tp.specs.declared.tp_frame.TpFrame.{TpFrame}
use Rattle.j1939_tp.specs.declared.tp_frame.TpFrame.TheVariants as tp
use Rattle.j1939_tp.specs.declared.session.Progress.{Progress}
use Rattle.j1939_tp.specs.declared.session.Progress.TheVariants as progress
use Rattle.j1939_tp.specs.Frames.{Frame, Role, opens, renews, ends, aborts, packet, other, named_group}
use Rattle.j1939_tp.specs.Frames.{stated_size, stated_packets, byte, carried}
use Rattle.j1939_tp.specs.OpenSessions.{Pair}
use Rattle.j1939_tp.specs.Keeping.{Kept, Fate, goes_on, is_whole, is_cut, late_or}

-- the frame states this
pub record IsStatedBy (f : Frame) (opening : Opening) : Type 0 where
  pub group : opening.pgn ≡ named_group f
  pub size : opening.size ≡ stated_size f
  pub packets : opening.packets ≡ stated_packets f

-- a frame of this role is read so
abbrev pub IsReading : Role → Frame → Option TpFrame → Type 0
IsReading r f None = r ≡ other
IsReading r f (Some (tp.Opens opening)) = (r ≡ opens) × IsStatedBy f opening
IsReading r f (Some (tp.Renews pgn)) = (r ≡ renews) × (pgn ≡ named_group f)
IsReading r f (Some (tp.Ends pgn)) = (r ≡ ends) × (pgn ≡ named_group f)
IsReading r f (Some (tp.Aborts pgn)) = (r ≡ aborts) × (pgn ≡ named_group f)
IsReading r f (Some (tp.Packet p)) = (r ≡ packet) × (p.number ≡ byte 1 f) × (p.carried.now ≡ carried f)

abbrev pub IsOpening : TpFrame → Type 0
IsOpening (tp.Opens opening) = Unit {0}
IsOpening _ = ⊥

-- a new session
abbrev pub fresh : ℕ → Opening → Kept
fresh micros o =
    record { group = o.pgn; size = o.size; packets = o.packets; taken = 0; stamp = micros; bytes = [] }

-- a session goes on so: one that ends is as it was
abbrev pub IsProgress : List ℕ → Kept → Kept → Fate → Progress → Type 0
IsProgress carried old new fate progress.GoesOn = fate ≡ goes_on new
IsProgress carried old new fate progress.Last =
    (fate ≡ is_whole (take old.size (old.bytes ++ carried))) × (new ≡ old)
IsProgress carried old new fate (progress.Cut cause) = (fate ≡ is_cut cause) × (new ≡ old)

-- what is answered where a session takes the place of this one
abbrev pub answer_to_opening : Pair → ℕ → Option Kept → TpOut
answer_to_opening p micros None = out.Nothing
answer_to_opening p micros (Some k) = out.Cut k.group p.0 p.1 (late_or Again k micros)
