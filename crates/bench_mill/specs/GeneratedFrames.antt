-- The frames that the generator makes, as lines of a log say them.
use Rattle.std.specs.Prelude.{ℕ, ◌^◌, List, false, map}
use Rattle.std.specs.List.{range_with_len}
use Rattle.candump_log.specs.declared.log_line.LogLine.{LogLine}
use Rattle.candump_log.specs.declared.log_line.LogLine.TheVariants as line
use Rattle.mill_log.specs.GeneratedLog.{frame_number, identifier_of, low_bytes, stamp_of}

-- the stamps of so many frames have ten digits of seconds at most, as their lines have
abbrev pub most_frames : ℕ
most_frames = 10 ^ 14

-- the frame that a number makes at place i: its time, an 11-bit identifier and eight bytes
abbrev pub frame_of : ℕ → ℕ → LogLine
frame_of i x = line.Frame (stamp_of i) (record { extended = false; id = identifier_of x }) (low_bytes 8 x)

-- frame i behind a seed, and all of them, whose seed is their number
abbrev pub generated_frame : ℕ → ℕ → LogLine
generated_frame seed i = frame_of i (frame_number seed i)

abbrev pub generated_frames : ℕ → List LogLine
generated_frames frames = map (generated_frame frames) (range_with_len 0 frames)
