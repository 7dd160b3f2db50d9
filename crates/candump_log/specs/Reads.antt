-- What the calls for lines have read of a log so far, one after another.
use Rattle.std.specs.Prelude.{◌≡◌, ℕ, ◌≤◌, List, length}
use Rattle.std.specs.Option.{option_map}
use Rattle.std.specs.Io.KnownBytes.{prepend_known, append_known}
use Rattle.port_io.specs.OtherSide.{SourceState}
use Rattle.candump_log.specs.LinesState.{LinesState, log_limit, log_of}
use Rattle.candump_log.specs.NextLine.{IsPrefix}

-- these bytes were taken of a log: they were the first of those left, and are left no more
pub record TakesBytes (before now : SourceState) (took : List ℕ) : Type 0 where
  pub left : before.left ≡ prepend_known took now.left
  pub taken : now.taken ≡ append_known before.taken took
  pub limit : length took ≤ log_limit
  pub later : before.read_faults ≤ now.read_faults

-- a reader that was just made has given the lines of these texts since, and taken these bytes for them: what was taken
-- and what is left are the log as it was, and the texts are the first of its lines
pub record Reads (made now : LinesState) (read : List (List ℕ)) : Type 0 where
  pub took : List ℕ
  pub takes : TakesBytes made.source now.source took
  pub count : now.taken ≡ length took
  pub texts : now.texts ≡ option_map (λ _. read) made.source.taken
  pub log : log_of now ≡ made.source.left
  pub start : log_of made ≡ made.source.left
  pub prefix : IsPrefix now.texts (log_of now)
  pub given : now.given ≤ log_limit
  pub other : now.other ≡ made.other
