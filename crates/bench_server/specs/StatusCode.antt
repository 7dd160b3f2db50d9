-- The exit statuses of the program.
use Rattle.std.specs.Prelude.{ℕ}
use Rattle.bench_server.specs.declared.status.Status.{Status}
use Rattle.bench_server.specs.declared.status.Status.TheVariants as status

abbrev pub code_of : Status → ℕ
code_of status.Ok = 0
code_of status.Usage = 2
code_of (status.BenchFile line) = 3
code_of (status.Refused bus fault) = 4
code_of status.OpenFault = 5
code_of (status.ReadFault bus) = 6
code_of status.WriteFault = 7
code_of (status.TooLong bus) = 9
code_of (status.TooLarge need room) = 10
code_of status.Memory = 11
