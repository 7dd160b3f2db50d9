use Rattle.std.proofs.Common.{◌≤◌, map, refl, sym, ap, subst}
use Rattle.bench_model.specs.declared.database.Bench.{Bench}
use Rattle.bench_inputs.specs.Reading.{log_state}
use Rattle.image_compiler.specs.Size.{image_size}
use Rattle.bench_server.proofs.LoadLaws.{same_error}
use Rattle.bench_server.proofs.PhaseLaws.{bench_since, image_after, decode_after}
use Rattle.bench_server.proofs.decoding.decode.Goals as goal

pub returns-in_err-image-clause-ends : goal.returns-in_err-image-clause-ends
returns-in_err-image-clause-ends g c name has =
    let known = λ (log : g.row.B-Log.Denot). log_state (g.B.Log.Source.left log) (g.B.Log.Source.taken log) (g.B.Log.Source.read_faults log) (g.B.Log.Source.ended log) in
    rw (same_error c.from_residual-in_err-image.result c.in_err-image.field-0.0 c.from_residual-in_err-image.ensures)
    (image_after name c.args.plan.now _ c.items-buses.result.now c.in_ok-bench.bench _ c.in_err-image.field-0.0 c.items-buses.ensures c.in_ok-bench.ensures has
    c.in_err-image.ensures refl (ap (map known) c.requires.none) refl)

pub decode_logs-requires-clause-bench : goal.decode_logs-requires-clause-bench
decode_logs-requires-clause-bench g c =
    bench_since _ _ c.items-buses.result.now c.in_ok-bench.bench c.in_ok-image.image c.in_ok-bench.ensures.files c.in_ok-image.ensures.0 c.in_ok-bench.ensures.answer

pub returns-clause-ends : goal.returns-clause-ends
returns-clause-ends g c name has =
    let fits = subst (λ (b : Bench). image_size b ≤ c.args.plan.now.words) (sym c.in_ok-image.ensures.0) c.in_ok-image.ensures.1 in
    decode_after name c.args.plan.now _ c.items-buses.result.now c.in_ok-bench.bench _ _ c.items-buses.ensures c.in_ok-bench.ensures has
    (c.decode_logs.ensures.ends name c.args.plan.now (sym c.items-buses.ensures) fits)
