-- What becomes of the logs of buses that are read one after another.
use Rattle.std.specs.Prelude.{◌≡◌, ◌⊎◌, ℕ, true, List, [], ◌∷◌, ◌++◌, length, Some, IfSome}
use Rattle.std.specs.List.{AllZip}
use Rattle.port_io.specs.OtherSide.{SourceState}
use Rattle.candump_log.specs.Reads.{TakesBytes}

-- these logs show that they have these bytes left
abbrev pub HaveLeft : List SourceState → List (List ℕ) → Type 0
HaveLeft logs bytes = AllZip (λ (log : SourceState) (left : List ℕ). log.left ≡ Some left) logs bytes

-- some bytes were taken of a log: the first of those left, which now are behind those taken before
abbrev pub HasRead : SourceState → SourceState → Type 0
HasRead log log_now = (took : List ℕ) × TakesBytes log log_now took

-- a log was read to its end
pub record IsReadToEnd (log log_now : SourceState) : Type 0 where
  pub took : List ℕ
  pub takes : TakesBytes log log_now took
  pub ended : log_now.ended ≡ true
  pub none_left : IfSome log_now.left (λ left. left ≡ [])

-- The logs before this place were read to their ends, some bytes were taken of the log there, and those behind it are
-- as they were.
pub record StopsAt (place : ℕ) (logs logs_now : List SourceState) : Type 0 where
  pub heard : List SourceState
  pub heard_now : List SourceState
  pub log : SourceState
  pub log_now : SourceState
  pub behind : List SourceState
  pub parted : logs ≡ heard ++ log ∷ behind
  pub parted_now : logs_now ≡ heard_now ++ log_now ∷ behind
  pub count : length heard ≡ place
  pub to_end : AllZip IsReadToEnd heard heard_now
  pub took : List ℕ
  pub takes : TakesBytes log log_now took

-- logs were read in order: all to their ends, or up to a place
abbrev pub ReadsInOrder : List SourceState → List SourceState → Type 0
ReadsInOrder logs logs_now = AllZip IsReadToEnd logs logs_now ⊎ ((place : ℕ) × StopsAt place logs logs_now)
