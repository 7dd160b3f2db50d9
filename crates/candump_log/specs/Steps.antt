-- What the parts of a reader of lines do to the bytes that it holds and to its place in the log.
use Rattle.std.specs.Prelude.{◌≡◌, ◌⊎◌, ◌↔◌, ℕ, ◌+◌, ◌-◌, ◌*◌, ◌<◌, ◌≤◌, ◌==◌, Bool, true, false, List, [], ◌∷◌, ◌++◌, length, Option, None, IfSome, MatchOption, Result, MatchResult, if◌then◌else◌}
use Rattle.std.specs.Io.KnownBytes.{prepend_known, append_known}
use Rattle.byte_forms.specs.Bytes.{line_feed}
use Rattle.port_io.specs.Causes.{Rose}
use Rattle.port_io.specs.OtherSide.{SourceState}
use Rattle.candump_log.specs.declared.log_line.LogLine.TheVariants as line
use Rattle.candump_log.specs.declared.place.Place.{Place}
use Rattle.candump_log.specs.declared.place.Routed.{Routed}
use Rattle.candump_log.specs.declared.place.LinesRefused.{LinesRefused}
use Rattle.candump_log.specs.declared.place.LinesRefused.TheVariants as refused
use Rattle.candump_log.specs.Line.{line_limit}
use Rattle.candump_log.specs.LineOf.{line_of}
use Rattle.candump_log.specs.LinesState.{log_limit}
use Rattle.candump_log.specs.Routing.{place_of}
use Rattle.candump_log.specs.LogLines.{NoFeed}

-- what a piece says whose bytes before it may have been let go, since the line is too long
abbrev pub route : List (List ℕ) → Bool → List ℕ → Routed
route names long piece =
    if long then (record { line = line.Bad; place = None })
    else (record { line = line_of piece; place = place_of names piece })

-- the place is in the log, and what is held lies behind it
pub record IsInLog (place : Place) (held : List ℕ) : Type 0 where
  pub limit : place.taken ≤ log_limit
  pub given : place.given ≤ place.start
  pub behind : place.start + length held ≤ place.taken
  pub long : place.long ≡ true → place.start + length held < place.taken

-- what is left to do before the end is said: each fetch takes a byte or learns the end
abbrev pub unsaid : Bool → ℕ
unsaid true = 0
unsaid false = 1

abbrev pub work : Place → Bool → ℕ
work place ended = 2 * (log_limit - place.taken) + unsaid ended

-- the next line was given
abbrev pub next_place : Place → ℕ → Place
next_place place start = record { taken = place.taken; start = start; given = place.given + 1; long = false }

pub record GivesWhole (names : List (List ℕ)) (was : List ℕ) (place : Place) (routed : Routed) (held : List ℕ)
    (now : Place) : Type 0 where
  pub piece : List ℕ
  pub plain : NoFeed piece
  pub parted : was ≡ piece ++ line_feed ∷ held
  pub routed_is : routed ≡ route names place.long piece
  pub now_is : now ≡ next_place place (place.taken - length held)

abbrev pub TakesWhole : List (List ℕ) → List ℕ → Place → Option Routed → List ℕ → Place → Type 0
TakesWhole names was place result held now =
    MatchOption result ((held ≡ was) × (now ≡ place) × NoFeed was) (λ routed. GivesWhole names was place routed held now)

pub record GivesLast (names : List (List ℕ)) (was : List ℕ) (place : Place) (routed : Routed) (held : List ℕ)
    (now : Place) : Type 0 where
  pub held_is : held ≡ []
  pub some : (0 < length was) ⊎ (place.long ≡ true)
  pub routed_is : routed ≡ route names place.long was
  pub now_is : now ≡ next_place place place.taken

abbrev pub TakesLast : List (List ℕ) → List ℕ → Place → Option Routed → List ℕ → Place → Type 0
TakesLast names was place result held now =
    MatchOption result ((held ≡ was) × (now ≡ place) × (length was ≡ 0) × (place.long ≡ false))
    (λ routed. GivesLast names was place routed held now)

-- bytes of a line that is too long are let go
abbrev pub long_place : Place → Place
long_place place = record { taken = place.taken; start = place.start; given = place.given; long = true }

abbrev pub LetsGo : List ℕ → Place → List ℕ → Place → Type 0
LetsGo was place held now =
    ((length was ≤ line_limit) × (held ≡ was) × (now ≡ place))
    ⊎ ((line_limit < length was) × (held ≡ []) × (now ≡ long_place place))

-- one read: these bytes were taken, none where the end was said
pub record Reads (before : SourceState) (was : List ℕ) (n : ℕ) (now : SourceState) (held : List ℕ) : Type 0 where
  pub bytes : List ℕ
  pub count : length bytes ≡ n
  pub held_is : held ≡ was ++ bytes
  pub left : before.left ≡ prepend_known bytes now.left
  pub taken : now.taken ≡ append_known before.taken bytes
  pub ended : now.ended ≡ (if n == 0 then true else before.ended)
  pub end : IfSome before.left (λ bytes. (n ≡ 0) ↔ (bytes ≡ []))
  pub later : before.read_faults ≤ now.read_faults

-- a read that failed
pub record Fails (before : SourceState) (was : List ℕ) (now : SourceState) (held : List ℕ) : Type 0 where
  pub held_is : held ≡ was
  pub left : now.left ≡ before.left
  pub taken : now.taken ≡ before.taken
  pub ended : now.ended ≡ before.ended
  pub later : before.read_faults ≤ now.read_faults
  pub rose : Rose before.read_faults now.read_faults

abbrev pub ReadsInto : {E : Type 0} → SourceState → List ℕ → Result ℕ E → SourceState → List ℕ → Type 0
ReadsInto before was result now held = MatchResult result (λ n. Reads before was n now held) (λ _. Fails before was now held)

abbrev pub further : Place → ℕ → Place
further place n = record { taken = place.taken + n; start = place.start; given = place.given; long = place.long }

-- one read more before the limit; whether it said the end
pub record Fetches (before : SourceState) (was : List ℕ) (place : Place) (ended : Bool) (source : SourceState)
    (held : List ℕ) (now : Place) : Type 0 where
  pub n : ℕ
  pub reads : Reads before was n source held
  pub room : place.taken < log_limit
  pub limit : place.taken + n ≤ log_limit
  pub now_is : now ≡ further place n
  pub ended_is : ended ≡ (n == 0)

abbrev pub StopsFetching : LinesRefused → SourceState → List ℕ → Place → SourceState → List ℕ → Type 0
StopsFetching refused.ReadFault before was place source held = Fails before was source held × (place.taken < log_limit)
StopsFetching refused.TooLong before was place source held = (source ≡ before) × (held ≡ was) × (place.taken ≡ log_limit)

abbrev pub FetchesSome : SourceState → List ℕ → Place → Result Bool LinesRefused → SourceState → List ℕ → Place → Type 0
FetchesSome before was place result source held now = MatchResult result
    (λ ended. Fetches before was place ended source held now)
    (λ why. StopsFetching why before was place source held × (now ≡ place))
