use Rattle.std.proofs.Common.{◌≡◌}
use Rattle.region_store.specs.Ends.{use_of_pin}
use Rattle.sharing_tests.proofs.stores.is_whole.Given as goal

-- the pin is of the same store, and its image of the same length
abbrev pub invariant-loop-at : goal.invariant-loop-at
invariant-loop-at l = record {
  store : l.pin.store ≡ l.fn.pin.store;
  size : (use_of_pin l.pin).size ≡ (use_of_pin l.fn.pin).size;
}
