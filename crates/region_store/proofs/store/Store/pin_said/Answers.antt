use Rattle.std.proofs.Common.{arith}
use Rattle.region_store.proofs.PlaceLaws.{count_high, pin_low}
use Rattle.region_store.proofs.store.Store.pin_said.Goals as goal

pub store_pin-requires-clause-inside : goal.store_pin-requires-clause-inside
store_pin-requires-clause-inside g c =
    let key = c.args.self.now.table.shared.key in
    omega (arith, pin_low c.args.seat.lane c.args.seat.low, count_high key.shape.regions key.shape.room, c.requires.own.wide, c.pin_word.ensures)
