use Rattle.std.proofs.Common.{◌≡◌, ◌++◌, take}
use Rattle.subscriber_text.specs.ItemText.{signal_lines}
use Rattle.subscriber_text.specs.WantView.{name_of}
use Rattle.subscriber_text.proofs.signal.append_signals.Given as goal

-- the lines of the signals so far were appended
abbrev pub invariant-loop-signal : goal.invariant-loop-signal
invariant-loop-signal l =
    l.out.items ≡ l.fn.out.items ++ signal_lines l.wants l.bus (name_of l.message) (take l.signal-index l.signals)
