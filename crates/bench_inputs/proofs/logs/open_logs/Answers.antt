use Rattle.std.proofs.Common.{◌≡◌, ◌++◌, [], ◌∷◌, map, is_ok, true, ap, ◌∙◌, arith}
use Rattle.std.proofs.lemmas.List.{map_push}
use Rattle.bench_inputs.specs.Reading.{log_state}
use Rattle.bench_inputs.proofs.OpeningLaws.{asks_log, opened_next, opening_stops_at}
use Rattle.bench_inputs.proofs.logs.open_logs.Goals as goal

pub returns-in_default-clause-opens : goal.returns-in_default-clause-opens
returns-in_default-clause-opens g c =
    opening_stops_at _ _ _ c.args.buses.now c.loop-bus.bus-index c.bus-item.result c.bus-item.result _ c.as_str.result.now c.as_str.ensures c.loop-bus-test.true c.bus-item.is
    c.loop-bus.invariant.opened (asks_log _ _ c.as_str.result.now c.log.ensures.files c.log.ensures.cause.later c.log.ensures.more_faults c.log.ensures.strays) c.log.ensures.more_faults
    c.in_default.ensures.cause.failed

pub loop-bus-preserved : goal.loop-bus-preserved
loop-bus-preserved g c =
    let source_state = λ (log : g.row.B-Log.Denot). log_state (g.B.Log.Source.left log) (g.B.Log.Source.taken log) (g.B.Log.Source.read_faults log) (g.B.Log.Source.ended log) in
    let ok : is_ok c.push.result ≡ true = c.push.ensures.succeeds (omega (arith, c.loop-bus.invariant.count, c.loop-bus.invariant.room, c.loop-bus-test.true)) in
    let items : c.push.new.self.items ≡ c.loop-bus.logs.items ++ c.in-Ok.log ∷ [] = rw ok at c.push.ensures.items in
    record {
      opened = opened_next _ _ _ c.args.buses.now c.loop-bus.bus-index c.bus-item.result c.bus-item.result _ _ (source_state c.in-Ok.log) c.as_str.result.now c.as_str.ensures c.loop-bus-test.true
          c.bus-item.is c.loop-bus.invariant.opened
          (asks_log _ _ c.as_str.result.now c.log.ensures.files c.log.ensures.cause.later c.log.ensures.more_faults c.log.ensures.strays) c.log.ensures.more_faults
          c.in-Ok.ensures.opened (ap (map source_state) items ∙ map_push source_state c.loop-bus.logs.items c.in-Ok.log);
      count = omega (arith, rw ok at c.push.ensures.len, c.loop-bus.invariant.count);
      room = omega (arith, c.push.ensures.capacity, c.loop-bus.invariant.room);
    }
