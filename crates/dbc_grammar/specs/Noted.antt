-- What the map of notes has.
use Rattle.std.specs.Prelude.{ℕ, Bool, List, [], map, Option, Some, None, Vec}
use Rattle.std.specs.Borrow.{Bor}
use Rattle.std.specs.declared.cmp.Ordering.{Ordering}
use Rattle.std.specs.declared.alloc.Global.{Global}
use Rattle.std.specs.Ordering.{ordering_then, nat_cmp}
use Rattle.std.specs.Cmp.Lexicographic.{slice_cmp}
use Rattle.std.specs.BTreeMap.{BTreeMap, get_by}
use Rattle.bench_model.specs.declared.database.Key.{Key}
use Rattle.dbc_grammar.specs.declared.statement.Note.{Note}
use Rattle.dbc_grammar.specs.Places.{key_order}

-- notes behind references
abbrev pub seen_notes : List (Bor Note) → List Note
seen_notes notes = map (λ (note : Bor Note). note.now) notes

abbrev pub listed : Option (Vec (Bor Note) Global) → List Note
listed None = []
listed (Some notes) = seen_notes notes.items

-- the order of a key and a name
abbrev pub signal_order : Key → List ℕ → (Bool × ℕ) × Bor (List ℕ) → Ordering
signal_order key name k = ordering_then (key_order (key.extended, key.id) k.0) (slice_cmp nat_cmp name k.1.now)

-- the notes that the map has on the signal of this name in the message with this key
abbrev pub notes_seen : BTreeMap ((Bool × ℕ) × Bor (List ℕ)) (Vec (Bor Note) Global) → Key → List ℕ → List Note
notes_seen notes key name = listed (get_by (signal_order key name) notes)
