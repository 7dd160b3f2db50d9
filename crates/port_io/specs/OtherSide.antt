-- The other side of a source or a sink: plain data that reading or writing leaves as it is. What is one end of a link
-- shows there the link's other end and whether the link was closed; what is alone shows nothing.
use Rattle.std.specs.Prelude.{ℕ, Bool, false, List, Option, None}

-- what a source shows: the bytes left and taken (where known), its count of faults, whether a read has said the end
pub record SourceState : Type 0 where
  pub left : Option (List ℕ)
  pub taken : Option (List ℕ)
  pub read_faults : ℕ
  pub ended : Bool

-- what a sink shows: the bytes written (where known) and its count of faults
pub record SinkState : Type 0 where
  pub written : Option (List ℕ)
  pub write_faults : ℕ

-- the other end's state and whether both were closed
pub record OtherSide : Type 0 where
  pub source : Option SourceState
  pub sink : Option SinkState
  pub closed : Bool

-- there is nothing on the other side
abbrev pub no_other_side : OtherSide
no_other_side = record { source = None; sink = None; closed = false }
