-- Refusals of one phase of a check as those of the check.
use Rattle.bench_inputs.specs.declared.refused.FileRefused.{FileRefused}
use Rattle.bench_inputs.specs.declared.refused.FileRefused.TheVariants as files
use Rattle.bench_loader.specs.declared.fault.JudgeRefused.{JudgeRefused}
use Rattle.bench_loader.specs.declared.fault.JudgeRefused.TheVariants as judges
use Rattle.bench_loader.specs.declared.check.CheckRefused.{CheckRefused}
use Rattle.bench_loader.specs.declared.check.CheckRefused.TheVariants as refused

abbrev pub of_file : FileRefused → CheckRefused
of_file files.Open = refused.Open
of_file files.Read = refused.Read
of_file files.Memory = refused.Memory

abbrev pub of_judge : JudgeRefused → CheckRefused
of_judge (judges.Fault fault) = refused.Fault fault
of_judge judges.Memory = refused.Memory
