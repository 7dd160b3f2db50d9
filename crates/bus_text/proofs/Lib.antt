pub mod TextLaws
pub mod LineLaws
pub mod PrinterLaws
pub mod BufferLaws
pub mod BusLaws
