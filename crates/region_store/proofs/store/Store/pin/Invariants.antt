use Rattle.region_store.proofs.store.Store.pin.Given as goal

abbrev pub ghosts-pin_said : goal.ghosts-pin_said
ghosts-pin_said a = record { number = a.lines }
