use Rattle.std.proofs.Common.{◌≡◌, take, List, ℕ}
use Rattle.std.specs.Prelude.{filter}
use Rattle.bench_model.specs.declared.database.Key.{Key}
use Rattle.dbc_grammar.specs.Naming.{names_signal}
use Rattle.dbc_grammar.specs.Noted.{notes_seen}
use Rattle.dbc_grammar.proofs.notes.NoteIndex.of.Given as goal

-- the notes so far
abbrev pub invariant-loop-note : goal.invariant-loop-note
invariant-loop-note l = (k : Key) (n : List ℕ) → notes_seen l.index.notes k n ≡ filter (names_signal l.bytes k n) (take l.note-index l.notes)
