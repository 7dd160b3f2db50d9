-- the statements of the format, what they make, and the faults
pub mod Statements
pub mod Words
pub mod Passed
pub mod Limits
pub mod Naming
pub mod Gather
pub mod Contract
-- statements as functions, which the readers equal, and how values of the code are seen
pub mod Forms
pub mod Views
pub mod Sorts
pub mod Kept
pub mod Places
pub mod Noted
pub mod Rows
pub mod Reads
