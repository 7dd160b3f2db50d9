use Rattle.std.proofs.Common.{List, subst, Ok, Err}
use Rattle.std.specs.Prelude.{zip}
use Rattle.bench_inputs.specs.declared.database_file.DatabaseFile.{DatabaseFile}
use Rattle.bench_loader.specs.JudgeView.{JudgesBench}
use Rattle.bench_server.specs.EndView.{of_file, of_bench}
use Rattle.bench_server.proofs.LoadLaws.{same_error, load_unread, load_judged}
use Rattle.bench_server.proofs.decoding.load_databases.Goals as goal

pub returns-in_err-files : goal.returns-in_err-files
returns-in_err-files g c =
    rw (same_error c.from_residual.result (of_file c.in_err-files.field-0.0) c.from_residual.ensures)
    (load_unread _ _ c.args.buses.now c.in_err-files.field-0.0 c.one_reading_of_databases.ensures c.in_err-files.ensures)

pub returns-in_err-judge_bench : goal.returns-in_err-judge_bench
returns-in_err-judge_bench g c =
    let why = c.in_err-judge_bench.field-0.0 in
    rw (same_error c.from_residual-in_err-judge_bench.result (of_bench why) c.from_residual-in_err-judge_bench.ensures)
    (load_judged _ _ c.args.buses.now c.requires.planned c.in_ok-files.files.items c.in_ok-files.ensures (Err why)
    (subst (λ (read : List DatabaseFile). JudgesBench (zip c.args.buses.now read) (Err why)) c.deref.ensures.value c.in_err-judge_bench.ensures.judges))

pub returns : goal.returns
returns g c =
    let made = c.in_ok-judge_bench.field-0 in
    load_judged _ _ c.args.buses.now c.requires.planned c.in_ok-files.files.items c.in_ok-files.ensures (Ok made)
    (subst (λ (read : List DatabaseFile). JudgesBench (zip c.args.buses.now read) (Ok made)) c.deref.ensures.value c.in_ok-judge_bench.ensures.judges)
