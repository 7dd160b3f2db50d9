-- The status that each end of the code has.
use Rattle.std.specs.Prelude.{Some, None, Result, Ok, Err}
use Rattle.bench_inputs.specs.declared.refused.BenchRefused.{BenchRefused as PlanRefused}
use Rattle.bench_inputs.specs.declared.refused.BenchRefused.TheVariants as plan
use Rattle.bench_inputs.specs.declared.refused.FileRefused.{FileRefused}
use Rattle.bench_inputs.specs.declared.refused.FileRefused.TheVariants as file
use Rattle.port_io.specs.declared.source.Failed.{Failed}
use Rattle.bench_loader.specs.declared.check.CheckRefused.{CheckRefused}
use Rattle.bench_loader.specs.declared.check.CheckRefused.TheVariants as check
use Rattle.bench_loader.specs.declared.fault.BenchRefused.{BenchRefused}
use Rattle.bench_loader.specs.declared.fault.BenchRefused.TheVariants as bench
use Rattle.bench_text.specs.declared.refused.BusesRefused.{BusesRefused}
use Rattle.bench_text.specs.declared.refused.BusesRefused.TheVariants as buses
use Rattle.bench_server.specs.declared.refused.DecodeRefused.{DecodeRefused}
use Rattle.bench_server.specs.declared.refused.DecodeRefused.TheVariants as refused
use Rattle.bench_server.specs.declared.ended.Ended.{Ended}
use Rattle.bench_server.specs.declared.ended.Ended.TheVariants as ended
use Rattle.bench_server.specs.declared.status.Status.{Status}
use Rattle.bench_server.specs.declared.status.Status.TheVariants as status

abbrev pub of_file : FileRefused → DecodeRefused
of_file file.Open = refused.Open
of_file file.Read = refused.Read
of_file file.Memory = refused.Memory

abbrev pub of_bench : BenchRefused → DecodeRefused
of_bench (bench.Refused bus fault) = refused.Database bus fault
of_bench bench.Memory = refused.Memory

abbrev pub buses_status : BusesRefused → Status
buses_status (buses.ReadFault bus) = status.ReadFault (Some bus)
buses_status (buses.TooLong bus) = status.TooLong bus
buses_status buses.WriteFault = status.WriteFault
buses_status buses.Memory = status.Memory

abbrev pub printed_status : Result (Unit {0}) BusesRefused → Status
printed_status (Ok done) = status.Ok
printed_status (Err why) = buses_status why

abbrev pub refused_status : DecodeRefused → Status
refused_status (refused.Database bus fault) = status.Refused (Some bus) fault
refused_status (refused.Large need room) = status.TooLarge need room
refused_status refused.Open = status.OpenFault
refused_status refused.Read = status.ReadFault None
refused_status (refused.Buses why) = buses_status why
refused_status refused.Memory = status.Memory

abbrev pub decode_status : Result (Unit {0}) DecodeRefused → Status
decode_status (Ok done) = status.Ok
decode_status (Err why) = refused_status why

abbrev pub plan_status : PlanRefused → Status
plan_status (plan.Line line) = status.BenchFile line
plan_status plan.Open = status.OpenFault
plan_status plan.Read = status.ReadFault None
plan_status plan.Memory = status.Memory

abbrev pub check_status : CheckRefused → Status
check_status (check.Fault fault) = status.Refused None fault
check_status check.Open = status.OpenFault
check_status check.Read = status.ReadFault None
check_status check.Memory = status.Memory

abbrev pub written_status : Result (Unit {0}) Failed → Status
written_status (Ok done) = status.Ok
written_status (Err failed) = status.WriteFault

abbrev pub status_of : Ended → Status
status_of ended.Usage = status.Usage
status_of (ended.Plan why) = plan_status why
status_of (ended.Decode end) = decode_status end
status_of (ended.Check why) = check_status why
status_of (ended.Write end) = written_status end
status_of ended.Memory = status.Memory
