use Rattle.std.proofs.Common.{refl}
use Rattle.j1939_tp.proofs.read.read_control.Goals as goal

pub returns-in-16 : goal.returns-in-16
returns-in-16 c = λ micros. rw c.in-16.is (rw (c.destination_of.ensures micros c.args.bytes.now) at (c.read_opening.ensures micros c.args.id))

pub returns-in-32 : goal.returns-in-32
returns-in-32 c = λ micros. rw c.in-32.is (rw (c.destination_of-in-32.ensures micros c.args.bytes.now) at (c.read_opening-in-32.ensures micros c.args.id))

pub returns-in-17 : goal.returns-in-17
returns-in-17 c = λ micros. (rw c.in-17.is refl, c.named_group-pgn.ensures micros c.args.id)

pub returns-in-19 : goal.returns-in-19
returns-in-19 c = λ micros. (rw c.in-19.is refl, c.named_group-pgn.ensures micros c.args.id)

pub returns-in-255 : goal.returns-in-255
returns-in-255 c = λ micros. (rw c.in-255.is refl, c.named_group-pgn.ensures micros c.args.id)
