use Rattle.std.proofs.Common.{◌≡◌, sym, ap, subst, ◌∙◌}
use Rattle.bench_model.specs.declared.database.Bench.{Bench}
use Rattle.port_io.specs.OtherSide.{SourceState}
use Rattle.candump_log.specs.LinesState.{LinesState, source_state}
use Rattle.bus_text.specs.declared.bus.BusPlace.{BusPlace}
use Rattle.bus_text.specs.BusText.{bus_at}
use Rattle.bus_text.specs.Buffering.{output}
use Rattle.bus_text.specs.Printing.{PrintsBus}
use Rattle.bus_text.proofs.BusLaws.{nothing_read, settled, whole_on_ok}
use Rattle.bus_text.proofs.printing.print_bus.Goals as goal

pub returns-in-Err-clause-prints : goal.returns-in-Err-clause-prints
returns-in-Err-clause-prints g c =
    rw c.in-Err.ensures.refused (settled (nothing_read c.args.wants.now c.args.image.now (bus_at c.args.image.now c.args.place) _ _) c.settle.ensures.kept c.settle.ensures.answer)

pub returns-clause-prints : goal.returns-clause-prints
returns-clause-prints g c =
    let log = source_state (g.S.Source.left c.args.log) (g.S.Source.taken c.args.log) (g.S.Source.read_faults c.args.log) (g.S.Source.ended c.args.log) in
    let before = output (g.K.Sink.written c.args.out.now) (g.K.Sink.write_faults c.args.out.now) c.args.buffer.now in
    let now = output (g.K.Sink.written c.settle-end.new.out) (g.K.Sink.write_faults c.settle-end.new.out) c.settle-end.new.buffer in
    let made : c.in-Ok.lines.source ≡ log = ap (λ (l : LinesState). l.source) c.in-Ok.ensures.lines in
    let bus = c.of-bus.result in
    let P : SourceState → Type 0 = λ s. PrintsBus c.args.wants.now c.args.image.now bus s c.print_lines-end.new.lines.source before now c.settle-end.result in
    let Q : SourceState → Type 0 = λ s. PrintsBus c.args.wants.now c.args.image.now bus log s before now c.settle-end.result in
    let back = source_state (g.S.Source.left c.into_source.result) (g.S.Source.taken c.into_source.result) (g.S.Source.read_faults c.into_source.result) (g.S.Source.ended c.into_source.result) in
    let R : BusPlace → Type 0 = λ b. PrintsBus c.args.wants.now c.args.image.now b log back before now c.settle-end.result in
    subst R (c.of-bus.ensures ∙ ap (λ (b : Bench). bus_at b c.args.place) c.bench.ensures.bench) (subst Q (sym c.into_source.ensures.source) (subst P made (settled c.print_lines-end.ensures.prints c.settle-end.ensures.kept c.settle-end.ensures.answer)))

pub returns-in-Err-clause-ok : goal.returns-in-Err-clause-ok
returns-in-Err-clause-ok g c = whole_on_ok c.settle.result (returns-in-Err-clause-prints g c)

pub returns-clause-ok : goal.returns-clause-ok
returns-clause-ok g c = whole_on_ok c.settle-end.result (returns-clause-prints g c)
