use Rattle.std.proofs.Common.{◌≡◌, ◌≤◌, false, length, map, refl, ap, ◌∙◌, arith}
use Rattle.std.proofs.lemmas.List.{length-map}
use Rattle.std.proofs.lemmas.List.Elements.{All-map}
use Rattle.port_io.specs.OtherSide.{SourceState}
use Rattle.bench_model.specs.declared.database.Bench.{Bench}
use Rattle.candump_log.specs.LinesState.{source_state}
use Rattle.bus_text.specs.Buffering.{output}
use Rattle.bench_text.specs.declared.refused.BusesRefused.TheVariants as buses
use Rattle.bench_text.proofs.BusesLaws.{same_error, goes_on_from, next_log, goes_on, stopped, printed, not_flushed}
use Rattle.bench_text.proofs.buses.print_buses.Goals as goal

pub loop-place-init : goal.loop-place-init
loop-place-init g c =
    let tells : g.row.S.Denot → SourceState = λ log. source_state (g.S.Source.left log) (g.S.Source.taken log) (g.S.Source.read_faults log) (g.S.Source.ended log) in
    record {
      goes = goes_on_from c.uses_of_a_buffer_are_one.ensures.unused c.args.wants.now c.args.image.now (map tells c.args.logs.now.items)
          (output (g.K.Sink.written c.args.out.now) (g.K.Sink.write_faults c.args.out.now) c.args.buffer.now)
          (All-map (λ (s : SourceState). s.ended ≡ false) tells c.args.logs.now.items c.requires.fresh);
      bench = refl;
      len = refl;
      log_sides = refl;
      other = refl;
    }

pub print_at-requires-clause-log : goal.print_at-requires-clause-log
print_at-requires-clause-log g c =
    let tells : g.row.S.Denot → SourceState = λ log. source_state (g.S.Source.left log) (g.S.Source.taken log) (g.S.Source.read_faults log) (g.S.Source.ended log) in
    let items = c.loop-place.logs.items in
    next_log c.loop-place.invariant.goes
    (omega (arith, length-map items tells, c.loop-place.logs.ok, c.loop-place.invariant.len, c.requires.count, ap length c.items.ensures, ap (λ (b : Bench). length b.buses) c.bench.ensures.bench, c.loop-place-test.true))

pub returns-in-Err-clause-prints : goal.returns-in-Err-clause-prints
returns-in-Err-clause-prints g c =
    let law = c.uses_of_a_buffer_are_one.ensures in
    let e = c.print_at.ensures in
    rw c.refused_at.ensures (stopped law.joined law.written c.in-Err.why c.loop-place.invariant.goes (rw (c.in-Err.is, c.loop-place.invariant.bench) at e.prints) c.requires.empty (rw c.in-Err.is at e.written))

pub loop-place-preserved : goal.loop-place-preserved
loop-place-preserved g c =
    let e = c.print_at.ensures in
    record {
      goes = goes_on c.uses_of_a_buffer_are_one.ensures.joined c.loop-place.invariant.goes (rw (c.in_default.is, c.loop-place.invariant.bench) at e.prints);
      bench = e.bench ∙ c.loop-place.invariant.bench;
      len = e.count ∙ c.loop-place.invariant.len;
      log_sides = e.log_sides ∙ c.loop-place.invariant.log_sides;
      other = e.other ∙ c.loop-place.invariant.other;
    }

pub returns-in_err-flush-clause-prints : goal.returns-in_err-flush-clause-prints
returns-in_err-flush-clause-prints g c =
    let tells : g.row.S.Denot → SourceState = λ log. source_state (g.S.Source.left log) (g.S.Source.taken log) (g.S.Source.read_faults log) (g.S.Source.ended log) in
    let all : length (map tells c.args.logs.now.items) ≤ c.loop-place.place = omega (arith, length-map c.args.logs.now.items tells, c.args.logs.now.ok, c.requires.count, ap length c.items.ensures, ap (λ (b : Bench). length b.buses) c.bench.ensures.bench, c.loop-place-test.false) in
    rw (same_error c.from_residual.result buses.WriteFault c.from_residual.ensures)
    (not_flushed c.uses_of_a_buffer_are_one.ensures.joined c.loop-place.invariant.goes all c.flush.ensures.kept c.requires.empty c.in_err-flush.ensures.cause.failed)

pub returns-clause-prints : goal.returns-clause-prints
returns-clause-prints g c =
    let tells : g.row.S.Denot → SourceState = λ log. source_state (g.S.Source.left log) (g.S.Source.taken log) (g.S.Source.read_faults log) (g.S.Source.ended log) in
    let law = c.uses_of_a_buffer_are_one.ensures in
    printed law.joined law.written c.loop-place.invariant.goes
    (omega (arith, length-map c.args.logs.now.items tells, c.args.logs.now.ok, c.requires.count, ap length c.items.ensures, ap (λ (b : Bench). length b.buses) c.bench.ensures.bench, c.loop-place-test.false))
    c.flush.ensures.kept c.requires.empty c.in_ok-flush.ensures.all
