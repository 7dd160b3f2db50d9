use Rattle.bench_loader.specs.LoaderView.{state_of, limits_of}
use Rattle.bench_loader.proofs.CommandLaws.{answers_as, answers_put}
use Rattle.bench_loader.proofs.PutLaws.{names_after}
use Rattle.bench_loader.proofs.loader.Loader.load.Goals as goal

pub publish-requires-clause-names : goal.publish-requires-clause-names
publish-requires-clause-names g c =
    names_after c.args.self.now.bench c.in_ok-next.next c.in_ok-next.ensures.answer.0.changes c.in_ok-next.ensures.answer.0.after

pub returns-in_err-next-clause-answers : goal.returns-in_err-next-clause-answers
returns-in_err-next-clause-answers g c =
    answers_as (limits_of c.args.store.now) _ _ (state_of c.args.self.now) c.args.line.now c.from_residual.result c.in_err-next.field-0.0 c.from_residual.ensures.1 c.in_err-next.ensures

pub returns-clause-answers : goal.returns-clause-answers
returns-clause-answers g c =
    answers_put (limits_of c.args.store.now) _ _ (state_of c.args.self.now) c.args.line.now c.in_ok-next.next c.publish.result _ c.in_ok-next.ensures c.publish.ensures.puts
