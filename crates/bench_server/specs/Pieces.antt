-- What a write of pieces does to a sink.
use Rattle.std.specs.Prelude.{◌≡◌, ◌⊎◌, ℕ, ◌≤◌, List, [], ◌++◌, flat_map, OnOk, OnErr, Result}
use Rattle.std.specs.Borrow.{Bor}
use Rattle.std.specs.Io.KnownBytes.{append_known}
use Rattle.port_io.specs.Causes.{Rose}
use Rattle.port_io.specs.OtherSide.{SinkState}

-- a prefix of a text was written: all of it, or the sink's count rose
pub record WritesPrefix (before : SinkState) (text : List ℕ) (now : SinkState) : Type 0 where
  pub sent : List ℕ
  pub rest : List ℕ
  pub parted : sent ++ rest ≡ text
  pub written : now.written ≡ append_known before.written sent
  pub later : before.write_faults ≤ now.write_faults
  pub cut : (rest ≡ []) ⊎ Rose before.write_faults now.write_faults

-- all of it on Ok, and a fault where the count rose
pub record WritesText {E : Type 0} (before : SinkState) (text : List ℕ) (result : Result (Unit {0}) E) (now : SinkState) : Type 0 where
  pub prefix : WritesPrefix before text now
  pub all : OnOk result (now.written ≡ append_known before.written text)
  pub cause : OnErr result (Rose before.write_faults now.write_faults)

-- pieces behind references, one after another
abbrev pub joined : List (Bor (List ℕ)) → List ℕ
joined pieces = flat_map (λ piece. piece.now) pieces
