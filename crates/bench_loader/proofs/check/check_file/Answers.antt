use Rattle.std.proofs.Common.{Err, subst}
use Rattle.bench_model.specs.declared.database.Kind.{Kind}
use Rattle.bench_loader.specs.Judging.{Holds}
use Rattle.bench_loader.specs.JudgeView.{JudgesFile}
use Rattle.bench_loader.specs.CheckRefusals.{of_file, of_judge}
use Rattle.bench_loader.proofs.CheckLaws.{checks_as, stops_at_file, stops_at_judge, checks}
use Rattle.bench_loader.proofs.check.check_file.Goals as goal

pub returns-in_err-file : goal.returns-in_err-file
returns-in_err-file g c =
    checks_as _ _ c.args.name.now c.from_residual.result (of_file c.in_err-file.field-0.0) c.from_residual.ensures.1
    (stops_at_file _ _ c.args.name.now c.read_database.ensures.asks c.in_err-file.field-0.0 c.in_err-file.ensures.answer)

pub returns-in_err-valid : goal.returns-in_err-valid
returns-in_err-valid g c =
    let P : Kind → Type 0 = λ kind. JudgesFile kind c.in_ok-file.file (Err c.in_err-valid.field-0.0) in
    checks_as _ _ c.args.name.now c.from_residual-in_err-valid.result (of_judge c.in_err-valid.field-0.0) c.from_residual-in_err-valid.ensures.1
    (stops_at_judge _ _ c.args.name.now c.read_database.ensures.asks c.in_ok-file.file c.in_err-valid.field-0.0 c.in_ok-file.ensures.answer
    (subst P c.kind_of_name.ensures c.in_err-valid.ensures.judges))

pub returns : goal.returns
returns g c =
    let P : Kind → Type 0 = λ kind. Holds kind c.in_ok-file.file c.in_ok-valid.valid.database in
    checks _ _ c.args.name.now c.read_database.ensures.asks c.in_ok-file.file c.in_ok-valid.valid c.in_ok-file.ensures.answer
    (subst P c.kind_of_name.ensures c.in_ok-valid.ensures.judges) c.in_ok-valid.valid.valid
