use Rattle.std.proofs.Common.{arith}
use Rattle.region_store.proofs.PlaceLaws.{count_high, pin_low}
use Rattle.region_store.proofs.pinned.Pinned.unpin.Goals as goal

pub store_none-requires-clause-inside : goal.store_none-requires-clause-inside
store_none-requires-clause-inside c =
    let p = c.args.self in
    let key = p.store.now.table.shared.key in
    omega (arith, pin_low p.lane p.low, count_high key.shape.regions key.shape.room, p.on.wide, c.pin_word.ensures)
