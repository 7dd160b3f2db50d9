use Rattle.std.proofs.Common.{◌∷◌, [], ◌+◌, length, ap, ◌∙◌}
use Rattle.std.proofs.lemmas.List.{length-append}
use Rattle.bench_inputs.specs.declared.refused.FileRefused.TheVariants as file
use Rattle.bench_inputs.proofs.ReadingLaws.{reads_stop, reads_more}
use Rattle.bench_inputs.proofs.databases.read_databases.Goals as goal

pub returns-in_err-read_database_of : goal.returns-in_err-read_database_of
returns-in_err-read_database_of g c =
    reads_stop _ _ _ c.args.buses.now c.loop-bus.bus-index c.bus-item.result c.bus-item.result c.from_residual.result c.in_err-read_database_of.field-0.0 c.from_residual.ensures.1
    c.loop-bus-test.true c.bus-item.is c.loop-bus.invariant.asks c.read_database_of.ensures.asks c.in_err-read_database_of.ensures.answer

pub returns-in_err-push : goal.returns-in_err-push
returns-in_err-push g c =
    reads_stop _ _ _ c.args.buses.now c.loop-bus.bus-index c.bus-item.result c.bus-item.result c.from_residual-in_err-push.result file.Memory c.from_residual-in_err-push.ensures.1
    c.loop-bus-test.true c.bus-item.is c.loop-bus.invariant.asks c.read_database_of.ensures.asks tt

pub loop-bus-preserved : goal.loop-bus-preserved
loop-bus-preserved g c =
    let more = reads_more _ _ _ c.args.buses.now c.loop-bus.bus-index c.bus-item.result c.bus-item.result c.loop-bus.databases.items c.push.new.self.items c.in_ok-read_database_of.field-0
    c.loop-bus-test.true c.bus-item.is c.loop-bus.invariant.asks c.loop-bus.invariant.databases c.in_ok-read_database_of.ensures c.in_ok-push.ensures.items in
    record {
      asks = more.0;
      databases = more.1;
      count = ap length c.in_ok-push.ensures.items ∙ length-append c.loop-bus.databases.items (c.in_ok-read_database_of.field-0 ∷ []) ∙ ap (λ n. n + 1) c.loop-bus.invariant.count;
    }
