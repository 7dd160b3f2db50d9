use Rattle.std.proofs.Common.{◌≡◌, ◌<◌, suc, length, take, drop, map, is_ok, true, arith}
use Rattle.std.specs.Prelude.{insert}
use Rattle.candump_log.specs.LinesState.{source_state}
use Rattle.bench_text.proofs.PlaceLaws.{parted_before, parted_after, same_after, length_before}
use Rattle.bench_text.proofs.buses.print_at.Goals as goal

pub returns-clause-prints : goal.returns-clause-prints
returns-clause-prints g c =
    let tells = λ (log : g.row.S.Denot). source_state (g.S.Source.left log) (g.S.Source.taken log) (g.S.Source.read_faults log) (g.S.Source.ended log) in
    let i = c.args.place in
    let items = c.args.logs.now.items in
    let lt : i < length items = omega (arith, c.requires.bus, c.requires.count, c.args.logs.now.ok) in
    let ok : is_ok c.insert.result ≡ true = c.insert.ensures.succeeds (omega (arith, c.remove-log.ensures.len, c.remove-log.ensures.capacity, c.args.logs.now.ok)) in
    let now : c.insert.new.self.items ≡ insert c.remove-log.new.self.items i c.print_bus-log.result.log = rw ok at c.insert.ensures.items in
    record {
      first = take i (map tells items);
      log = tells c.remove-log.result;
      log_now = tells c.print_bus-log.result.log;
      behind = drop (suc i) (map tells items);
      parted = parted_before tells items i c.remove-log.result c.remove-log.ensures.value lt;
      parted_now = parted_after tells items c.remove-log.new.self.items c.insert.new.self.items i c.print_bus-log.result.log c.remove-log.ensures.items now lt;
      count = length_before tells items i lt;
      prints = c.print_bus-log.ensures.prints;
    }

pub returns-clause-log_sides : goal.returns-clause-log_sides
returns-clause-log_sides g c =
    let i = c.args.place in
    let items = c.args.logs.now.items in
    let lt : i < length items = omega (arith, c.requires.bus, c.requires.count, c.args.logs.now.ok) in
    let ok : is_ok c.insert.result ≡ true = c.insert.ensures.succeeds (omega (arith, c.remove-log.ensures.len, c.remove-log.ensures.capacity, c.args.logs.now.ok)) in
    let now : c.insert.new.self.items ≡ insert c.remove-log.new.self.items i c.print_bus-log.result.log = rw ok at c.insert.ensures.items in
    same_after g.S.Source.other items c.remove-log.new.self.items c.insert.new.self.items i c.remove-log.result c.print_bus-log.result.log c.remove-log.ensures.value
    c.remove-log.ensures.items now lt c.print_bus-log.ensures.log_side
