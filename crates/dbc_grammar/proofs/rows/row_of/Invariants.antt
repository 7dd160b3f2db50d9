use Rattle.std.proofs.Common.{◌≡◌, take, map}
use Rattle.std.specs.List.{flat_map, enumerate_from, AllZip}
use Rattle.dbc_grammar.specs.declared.statement.SignalForm.{SignalForm}
use Rattle.dbc_grammar.specs.Gather.{IsSignalAt, signal_links}
use Rattle.dbc_grammar.specs.Noted.{notes_seen}
use Rattle.dbc_grammar.proofs.rows.row_of.Given as goal

-- the signals, the marks and the links so far
abbrev pub invariant-loop-place : goal.invariant-loop-place
invariant-loop-place l = record {
  signals : AllZip (IsSignalAt l.bytes l.utf8 (notes_seen l.index.notes) l.named l.message)
      (enumerate_from 0 (take l.place l.message.signals)) l.signals.items;
  marks : l.marks.items ≡ map (λ (s : SignalForm). s.mark) (take l.place l.message.signals);
  links : l.links.items ≡ flat_map (signal_links l.bytes (notes_seen l.index.notes) l.named l.message)
      (enumerate_from 0 (take l.place l.message.signals));
}
