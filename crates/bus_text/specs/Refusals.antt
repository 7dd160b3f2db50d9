-- The refusals of a line and of a print as refusals of a bus.
use Rattle.candump_log.specs.declared.place.LinesRefused.{LinesRefused}
use Rattle.candump_log.specs.declared.place.LinesRefused.TheVariants as lines
use Rattle.subscriber_text.specs.declared.fault.PrintRefused.{PrintRefused}
use Rattle.subscriber_text.specs.declared.fault.PrintRefused.TheVariants as print
use Rattle.bus_text.specs.declared.refused.BusRefused.{BusRefused}
use Rattle.bus_text.specs.declared.refused.BusRefused.TheVariants as bus

abbrev pub of_lines : LinesRefused → BusRefused
of_lines lines.ReadFault = bus.ReadFault
of_lines lines.TooLong = bus.TooLong

abbrev pub of_print : PrintRefused → BusRefused
of_print print.WriteFault = bus.WriteFault
of_print print.Memory = bus.Memory
