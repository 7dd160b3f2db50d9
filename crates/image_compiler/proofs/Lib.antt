pub mod ListLaws
pub mod TextLaws
pub mod AscendingLaws
pub mod RowLaws
pub mod SignalLaws
pub mod BenchLaws
pub mod WritingLaws
