-- the text of a bus
pub mod BusText
-- what a print does to its log and its sink
pub mod Buffering
pub mod Printing
-- how the code comes to it, line by line
pub mod LineView
pub mod PrinterView
pub mod ImageView
pub mod Refusals
pub mod Prefixes
