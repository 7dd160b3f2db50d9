-- The due answer to a command: the one that is given where nothing of the outside fails, memory is there, and a region of the
-- store is free. It is a function of the line, the library's files, the bench and the version that were published last, the
-- room of a region and the last version.
use Rattle.std.specs.Prelude.{◌≡◌, ◌≢◌, ℕ, ◌+◌, List, Option}
use Rattle.bench_model.specs.declared.database.Bench.{Bench}
use Rattle.decisions.specs.ListDecisions.{FirstFailsFor}
use Rattle.bench_inputs.specs.Asking.{Files}
use Rattle.bench_inputs.specs.BenchFiles.{HasDatabase}
use Rattle.bench_loader.specs.declared.reply.Reply.{Reply}
use Rattle.bench_loader.specs.declared.reply.Reply.TheVariants as replies
use Rattle.bench_loader.specs.LoadLine.{IsOtherForm}
use Rattle.bench_loader.specs.declared.load_line.Pair.{Pair}
use Rattle.bench_loader.specs.declared.targets.Target.{Target}
use Rattle.bench_loader.specs.Targets.{NamesBuses, NamesNoBus}
use Rattle.bench_loader.specs.Verdict.{IsMissing}
use Rattle.bench_loader.specs.NextBench.{file_names, IsRefusedLoad, IsTooLarge, IsFitting}

-- the numbers of a store: how many words a region has, and the last version
pub record Limits : Type 0 where
  pub room : ℕ
  pub last : ℕ

-- the line is a command whose buses are known, and a file that it names is missing: no reply is due then
pub record LacksFile (files : Files) (bench : Bench) (line : List ℕ) : Type 0 where
  pub pairs : List Pair
  pub targets : List Target
  pub names : NamesBuses bench.buses line pairs targets
  pub missing : FirstFailsFor (HasDatabase files) (IsMissing files) (file_names pairs) tt

-- At most one reply is due where the files are known, and one is unless a file is missing.
abbrev pub Due : Limits → Option Files → Bench → ℕ → List ℕ → Reply → Type 0
Due limits files bench version line replies.Words = IsOtherForm line
Due limits files bench version line (replies.UnknownBus place name) = NamesNoBus bench.buses line place name
Due limits files bench version line (replies.Refused bus fault) = IsRefusedLoad files bench line (bus, fault)
Due limits files bench version line (replies.TooLarge need room) =
    IsTooLarge files bench line limits.room need × (room ≡ limits.room)
Due limits files bench version line replies.VersionsSpent =
    IsFitting files bench line limits.room × (version ≡ limits.last)
Due limits files bench version line (replies.Ok next) =
    IsFitting files bench line limits.room × (version ≢ limits.last) × (next ≡ version + 1)
Due limits files bench version line (replies.OpenFault bus) = ⊥
Due limits files bench version line (replies.ReadFault bus) = ⊥
Due limits files bench version line (replies.Busy holders) = ⊥
Due limits files bench version line replies.Memory = ⊥
