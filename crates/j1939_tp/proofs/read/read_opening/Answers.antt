use Rattle.std.proofs.Common.{◌≡◌, true, sym, ◌∙◌, refl}
use Rattle.j1939_tp.specs.Frames.{frame, is_possible, stated_size, stated_packets}
use Rattle.j1939_tp.proofs.read.read_opening.Goals as goal

pub returns : goal.returns
returns c = λ micros id.
    let f = frame micros id c.args.bytes.now in
    let possible : is_possible (stated_size f) (stated_packets f) ≡ true = rw (← c.from.ensures, ← c.from-2.ensures) (sym c.is_possible.ensures ∙ c.if-not-is_possible.false) in (
      rw (c.if-not-reaches.false, possible) refl,
      record { group = c.named_group.ensures micros id; size = rw (c.from.ensures, c.from-2.ensures) refl; packets = refl },
    )
