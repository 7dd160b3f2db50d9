-- what a log decodes to
pub mod Records
pub mod Asking
pub mod Decoded
-- how the code's answers and its listener are seen
pub mod RecordsView
pub mod Listening
