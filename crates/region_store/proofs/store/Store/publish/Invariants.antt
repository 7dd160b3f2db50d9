use Rattle.region_store.proofs.store.Store.publish.Given as goal

abbrev pub ghosts-write_out : goal.ghosts-write_out
ghosts-write_out a = record { number = a.region }
