-- What the functions that judge a rule answer of the faults by it.
use Rattle.std.specs.Prelude.{◌≡◌, List, [], Some, Result, MatchResult, slice_get}
use Rattle.bench_model.specs.declared.fault.CheckFault.{CheckFault}
use Rattle.bench_model.specs.declared.fault.CheckFault.TheVariants.{At, Memory}

-- the first of these faults; memory may run out
abbrev pub IsFirstOf : List CheckFault → CheckFault → Type 0
IsFirstOf faults (At why message signal) = slice_get faults 0 ≡ Some (At why message signal)
IsFirstOf faults Memory = Unit {0}

-- Ok where there is none of these faults, else the first
abbrev pub IsVerdict : List CheckFault → Result (Unit {0}) CheckFault → Type 0
IsVerdict faults r = MatchResult r (λ _. faults ≡ []) (IsFirstOf faults)
