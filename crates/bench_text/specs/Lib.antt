-- the text of a bench
pub mod BenchText
-- what a print of its buses does to their logs and to the sink
pub mod LogsRead
pub mod Printing
-- how the code comes to it, bus by bus
pub mod BusAt
