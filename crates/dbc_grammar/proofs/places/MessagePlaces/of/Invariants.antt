use Rattle.std.proofs.Common.{◌≡◌, take}
use Rattle.bench_model.specs.declared.database.Key.{Key}
use Rattle.dbc_grammar.specs.Naming.{place_of_key}
use Rattle.dbc_grammar.specs.Places.{message_place}
use Rattle.dbc_grammar.proofs.places.MessagePlaces.of.Given as goal

-- the first places of the messages so far
abbrev pub invariant-loop-place : goal.invariant-loop-place
invariant-loop-place l = (q : Key) → message_place l.places.places q ≡ place_of_key q (take l.place l.messages)
