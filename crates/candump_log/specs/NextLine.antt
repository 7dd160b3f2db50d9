-- What a call for the next line does: the state before, the answer and the state now.
use Rattle.std.specs.Prelude.{◌≡◌, ◌⊎◌, ℕ, ◌+◌, ◌<◌, ◌≤◌, true, false, List, [], ◌∷◌, ◌++◌, length, Option, None, Some, IfSome, Result, Ok, Err, is_err}
use Rattle.std.specs.Option.{option_map}
use Rattle.std.specs.Io.KnownBytes.{prepend_known, append_known}
use Rattle.byte_forms.specs.Lines.{all_lines}
use Rattle.port_io.specs.Causes.{Rose}
use Rattle.candump_log.specs.declared.log_line.LogLine.{LogLine}
use Rattle.candump_log.specs.declared.place.LinesRefused.{LinesRefused}
use Rattle.candump_log.specs.declared.place.LinesRefused.TheVariants as refused
use Rattle.candump_log.specs.declared.place.Routed.{Routed}
use Rattle.candump_log.specs.LineOf.{line_of}
use Rattle.candump_log.specs.LogLines.{whole_lines}
use Rattle.candump_log.specs.LinesState.{LinesState, log_limit, log_taken, log_of}
use Rattle.candump_log.specs.Routing.{place_of}

-- these bytes were taken: they were the first of those left, and are the last of those that the source gave
pub record Took (before now : LinesState) : Type 0 where
  pub bytes : List ℕ
  pub left : before.source.left ≡ prepend_known bytes now.source.left
  pub taken : now.source.taken ≡ append_known before.source.taken bytes
  pub count : now.taken ≡ before.taken + length bytes

-- the texts are the first lines of the log, where both are known
abbrev pub IsPrefix : Option (List (List ℕ)) → Option (List ℕ) → Type 0
IsPrefix None log = Unit {0}
IsPrefix (Some texts) None = Unit {0}
IsPrefix (Some texts) (Some log) = (rest : List (List ℕ)) × (all_lines log ≡ texts ++ rest)

-- the source need not or may not be asked: a line is ready, or the log has ended or is at its limit
abbrev pub AsksNothing : LinesState → Type 0
AsksNothing s = (s.ready ≡ true) ⊎ ((s.source.ended ≡ true) ⊎ (s.taken ≡ log_limit))

-- what every call does, known or not
pub record Advances (before now : LinesState) : Type 0 where
  pub took : Took before now
  pub log : log_of now ≡ log_of before
  pub other : now.other ≡ before.other
  pub faults : before.source.read_faults ≤ now.source.read_faults
  pub unasked : AsksNothing before → now.source ≡ before.source
  pub still : AsksNothing before → now.taken ≡ before.taken
  pub given : now.given ≤ now.taken
  pub limit : now.taken ≤ log_limit
  pub counted : IfSome (log_taken now) (λ bytes. length bytes ≡ now.taken)
  pub prefix : IsPrefix now.texts (log_of now)

-- one line more was given, that of this text; where none was ready, bytes were taken for it or the end was said now
pub record GivesLine (before : LinesState) (line : LogLine) (now : LinesState) : Type 0 where
  pub text : List ℕ
  pub texts : now.texts ≡ option_map (λ texts. texts ++ text ∷ []) before.texts
  pub line_is : line ≡ line_of text
  pub given : now.given ≡ before.given + 1
  pub asked : before.ready ≡ false →
      (before.taken < now.taken) ⊎ ((before.source.ended ≡ false) × (now.source.ended ≡ true))

-- no line was given, and none is ready
pub record GivesNone (before now : LinesState) : Type 0 where
  pub texts : now.texts ≡ before.texts
  pub given : now.given ≡ before.given
  pub was_not_ready : before.ready ≡ false
  pub is_not_ready : now.ready ≡ false

-- the log has ended, nothing of it is left, and all its lines were given
pub record HasEnded (now : LinesState) : Type 0 where
  pub ended : now.source.ended ≡ true
  pub left : IfSome now.source.left (λ left. left ≡ [])
  pub all : now.texts ≡ option_map all_lines (log_taken now)

-- it has not ended, and the whole lines of the bytes taken were given
pub record HasStopped (now : LinesState) : Type 0 where
  pub ended : now.source.ended ≡ false
  pub whole : now.texts ≡ option_map whole_lines (log_taken now)

-- a read failed before the limit, or the limit was reached
abbrev pub Why : LinesRefused → LinesState → LinesState → Type 0
Why refused.ReadFault before now = Rose before.source.read_faults now.source.read_faults × (now.taken < log_limit)
Why refused.TooLong before now = now.taken ≡ log_limit

abbrev pub Answers : LinesState → Result (Option LogLine) LinesRefused → LinesState → Type 0
Answers before (Ok (Some line)) now = GivesLine before line now
Answers before (Ok None) now = GivesNone before now × HasEnded now
Answers before (Err why) now = GivesNone before now × HasStopped now × Why why before now

pub record NextLine (before : LinesState) (result : Result (Option LogLine) LinesRefused) (now : LinesState) : Type 0 where
  pub failed : now.failed ≡ is_err result
  pub advances : Advances before now
  pub answer : Answers before result now

-- the same, with the place of the line's interface among these names
abbrev pub AnswersOn : List (List ℕ) → LinesState → Result (Option Routed) LinesRefused → LinesState → Type 0
AnswersOn names before (Ok (Some routed)) now =
    (line : GivesLine before routed.line now) × (routed.place ≡ place_of names line.text)
AnswersOn names before (Ok None) now = GivesNone before now × HasEnded now
AnswersOn names before (Err why) now = GivesNone before now × HasStopped now × Why why before now

pub record NextOn (names : List (List ℕ)) (before : LinesState) (result : Result (Option Routed) LinesRefused)
    (now : LinesState) : Type 0 where
  pub failed : now.failed ≡ is_err result
  pub advances : Advances before now
  pub answer : AnswersOn names before result now

-- no line was given, none is left, and the log has ended
pub record IsAtEnd (before now : LinesState) : Type 0 where
  pub given : now.given ≡ before.given
  pub ready : now.ready ≡ false
  pub ended : now.source.ended ≡ true

-- no whole line was given or is left, the log has not ended, and its limit was taken
pub record IsAtLimit (before now : LinesState) : Type 0 where
  pub given : now.given ≡ before.given
  pub ready : now.ready ≡ false
  pub ended : now.source.ended ≡ false
  pub taken : now.taken ≡ log_limit

-- the answer without the place
abbrev pub unrouted : Result (Option Routed) LinesRefused → Result (Option LogLine) LinesRefused
unrouted (Ok (Some routed)) = Ok (Some routed.line)
unrouted (Ok None) = Ok None
unrouted (Err why) = Err why
