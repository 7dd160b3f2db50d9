use Rattle.exact_scale.proofs.printing.+without_last_zeros.Given as goal

abbrev pub decreases-without_last_zeros : goal.decreases-without_last_zeros
decreases-without_last_zeros l = l.places
