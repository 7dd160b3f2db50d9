-- what the tool writes, and how its runs end
pub mod ToolText
pub mod Outcomes
pub mod CheckOutcomes
pub mod MillOutcomes
pub mod StatusCode
pub mod FaultLine
pub mod Tool
-- how the code comes to it
pub mod EndView
pub mod Loading
pub mod Reporting
pub mod Pieces
