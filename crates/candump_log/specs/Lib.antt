-- what a line says
pub mod Bytes
pub mod Data
pub mod Line
-- the lines of a log
pub mod LogLines
pub mod LinesState
pub mod Routing
pub mod NextLine
pub mod Reads
-- the code's shape, views and steps
pub mod LineOf
pub mod LineView
pub mod Cut
pub mod Steps
pub mod LinesView
