use Rattle.bench_loader.specs.LoaderView.{IsLoaderOn}
use Rattle.tool_tests.proofs.loading.commands.are_answered.Given as goal

-- the loader works on the store
abbrev pub invariant-loop-line : goal.invariant-loop-line
invariant-loop-line g l = IsLoaderOn l.store l.loader
