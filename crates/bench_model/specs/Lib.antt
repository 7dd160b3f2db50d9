-- what frames mean, and which databases are valid
pub mod Raw
pub mod Value
pub mod Meaning
pub mod Names
pub mod Limits
pub mod Check
pub mod Rules
pub mod ValidBench
pub mod Replaced
-- the same bits seen otherwise
pub mod Weights
pub mod Shifts
-- what the code asks of its values, and how they are seen
pub mod CodingView
pub mod Decodable
pub mod Props
pub mod Verdict
pub mod Seen
