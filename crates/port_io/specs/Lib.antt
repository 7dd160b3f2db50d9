-- what the outside shows, and what each call on it does
pub mod Causes
pub mod OtherSide
pub mod Source
pub mod Sink
pub mod Library
pub mod Transfers
-- objects in memory that keep to it
pub mod MemoryReader
pub mod MemoryWriter
pub mod MemoryLibrary
-- how values of the code are seen
pub mod Overrun
pub mod Progress
pub mod MemSource
pub mod MemSink
pub mod MemFile
pub mod MemLibrary
pub mod MemLog
