use Rattle.std.proofs.Common.{◌≡◌, take, List, ℕ}
use Rattle.dbc_grammar.specs.Naming.{place_of_name}
use Rattle.dbc_grammar.specs.Places.{signal_place}
use Rattle.dbc_grammar.proofs.places.SignalPlaces.of.Given as goal

-- the first places of the signals so far
abbrev pub invariant-loop-place : goal.invariant-loop-place
invariant-loop-place l = (q : List ℕ) → signal_place l.places.places q ≡ place_of_name l.bytes q (take l.place l.signals)
