use Rattle.region_store.specs.LoaderEnd.{IsLoaderOf}
use Rattle.sharing_tests.proofs.stores.regions_are_used_again_under_an_idle_lane.Given as goal

abbrev pub invariant-loop-version : goal.invariant-loop-version
invariant-loop-version g l = IsLoaderOf l.store l.loader
