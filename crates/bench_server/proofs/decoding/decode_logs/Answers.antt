use Rattle.std.proofs.Common.{Ok, Err, refl, ap, ◌∙◌}
use Rattle.bench_model.specs.declared.database.Bench.{Bench}
use Rattle.bench_inputs.specs.Reading.{log_state}
use Rattle.bench_server.specs.ToolText.{all_wanted}
use Rattle.bench_server.specs.declared.refused.DecodeRefused.TheVariants as refused
use Rattle.bench_server.proofs.LogLaws.{none_ended}
use Rattle.bench_server.proofs.LoadLaws.{same_error}
use Rattle.bench_server.proofs.DecodeLaws.{logs_unopened, buses_printed}
use Rattle.bench_server.proofs.decoding.decode_logs.Goals as goal

pub returns-in_err-open_logs-clause-ends : goal.returns-in_err-open_logs-clause-ends
returns-in_err-open_logs-clause-ends g c name plan same fits has =
    rw (same_error c.from_residual-in_err-open_logs.result refused.Open c.from_residual-in_err-open_logs.ensures)
    (logs_unopened name plan c.args.image.now _ c.args.buses.now same fits has c.requires.bench.made c.in_err-open_logs.ensures.opens refl)

pub print_buses-requires-clause-fresh : goal.print_buses-requires-clause-fresh
print_buses-requires-clause-fresh g c =
    none_ended (λ (log : g.row.B-Log.Denot). log_state (g.B.Log.Source.left log) (g.B.Log.Source.taken log) (g.B.Log.Source.read_faults log) (g.B.Log.Source.ended log)) _ _
    c.open_logs.new.logs.items c.in_ok-open_logs.ensures.opens.fresh

pub returns-in_err-print_buses-clause-ends : goal.returns-in_err-print_buses-clause-ends
returns-in_err-print_buses-clause-ends g c name plan same fits has =
    let why = c.in_err-print_buses.field-0.0 in
    let wants = c.in_ok-wants.ensures.wants ∙ ap (λ (b : Bench). all_wanted b) c.bench.ensures.bench in
    rw (same_error c.from_residual-in_err-print_buses.result (refused.Buses why) c.from_residual-in_err-print_buses.ensures)
    (buses_printed name plan c.args.image.now _ c.args.buses.now same fits has c.requires.bench.made c.in_ok-wants.field-0.wants wants _ c.in_ok-open_logs.ensures.opens (Err why)
    c.in_err-print_buses.ensures.prints)

pub returns-clause-ends : goal.returns-clause-ends
returns-clause-ends g c name plan same fits has =
    let wants = c.in_ok-wants.ensures.wants ∙ ap (λ (b : Bench). all_wanted b) c.bench.ensures.bench in
    buses_printed name plan c.args.image.now _ c.args.buses.now same fits has c.requires.bench.made c.in_ok-wants.field-0.wants wants _ c.in_ok-open_logs.ensures.opens (Ok tt)
    c.in_ok-print_buses.ensures.prints
