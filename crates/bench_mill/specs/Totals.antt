-- What a log means on the bus of the generated database, in three numbers: how many frames a message matches, how many
-- signals they have, and the sum of the raw values.
use Rattle.std.specs.Prelude.{◌≡◌, ℕ, ◌+◌, ◌+ℤ◌, ℤ, pos, List, [], ◌∷◌, ◌++◌, length, Option, None, codes, decimal}
use Rattle.std.specs.List.{flat_map, filter_map}
use Rattle.std.specs.Fmt.{signed_decimal}
use Rattle.bench_model.specs.declared.reading.Ask.TheVariants as ask
use Rattle.bench_model.specs.declared.reading.Plain.{Plain}
use Rattle.bench_model.specs.declared.reading.SignalValue.{SignalValue}
use Rattle.bench_model.specs.Meaning.{bench_meaning}
use Rattle.byte_forms.specs.Lines.{all_lines}
use Rattle.candump_log.specs.declared.log_line.LogLine.{LogLine}
use Rattle.candump_log.specs.declared.log_line.LogLine.TheVariants as line
use Rattle.candump_log.specs.LineOf.{line_of}
use Rattle.mill_log.specs.GeneratedLog.{generated_log}
use Rattle.bench_mill.specs.declared.totals.Totals.{Totals}
use Rattle.bench_mill.specs.GeneratedBench.{generated_bench}

-- what a line means, where it is a frame that a message matches
abbrev pub line_meaning : LogLine → Option Plain
line_meaning (line.Frame micros key bytes) = bench_meaning generated_bench 0 (ask.Frame key) bytes
line_meaning (line.Remote micros key) = None
line_meaning (line.Error micros id) = None
line_meaning line.Bad = None

-- the meanings of a log's lines, in order, and the values of all their signals
unfoldable pub plains : List (List ℕ) → List Plain
plains lines = filter_map (λ text. line_meaning (line_of text)) lines

unfoldable pub values : List Plain → List SignalValue
values ps = flat_map (λ (p : Plain). p.signals) ps

-- the sum of the raw values
unfoldable pub raw_sum : List SignalValue → ℤ
raw_sum [] = pos 0
raw_sum (v ∷ vs) = v.raw +ℤ raw_sum vs

-- the three numbers of frames that were matched, and of a log's lines
pub record AreTotalsOf (ps : List Plain) (totals : Totals) : Type 0 where
  pub frames : totals.frames ≡ length ps
  pub signals : totals.signals ≡ length (values ps)
  pub sum : totals.sum ≡ raw_sum (values ps)

abbrev pub AreTotals : List (List ℕ) → Totals → Type 0
AreTotals lines totals = AreTotalsOf (plains lines) totals

-- those of the generated log of so many frames
unfoldable pub mill_totals : ℕ → Totals
mill_totals frames =
    let ps = plains (all_lines (generated_log frames)) in
    record { frames = length ps; signals = length (values ps); sum = raw_sum (values ps) }

-- whatever lines were counted before, these come to them
abbrev pub Adds : Totals → List (List ℕ) → Totals → Type 0
Adds old lines new = (done : List (List ℕ)) → AreTotals done old → AreTotals (done ++ lines) new

abbrev pub none : Totals
none = record { frames = 0; signals = 0; sum = pos 0 }

-- a message was matched, and a signal has this value
pub record IsMessageMore (old new : Totals) : Type 0 where
  pub frames : new.frames ≡ old.frames + 1
  pub signals : new.signals ≡ old.signals
  pub sum : new.sum ≡ old.sum

pub record IsValueMore (old : Totals) (value : SignalValue) (new : Totals) : Type 0 where
  pub frames : new.frames ≡ old.frames
  pub signals : new.signals ≡ old.signals + 1
  pub sum : new.sum ≡ old.sum +ℤ value.raw

-- a line with a number, and the three lines
unfoldable pub number_line : List ℕ → List ℕ → List ℕ
number_line name number = name ++ (number ++ codes "\n")

abbrev pub totals_text : Totals → List ℕ
totals_text t =
    number_line (codes "frames ") (decimal t.frames) ++ (number_line (codes "signals ") (decimal t.signals)
    ++ number_line (codes "sum ") (signed_decimal t.sum))

-- what `mill` writes for so many frames
abbrev pub mill_text : ℕ → List ℕ
mill_text frames = totals_text (mill_totals frames)
