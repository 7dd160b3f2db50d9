-- what the words of a command line ask for
pub mod Operands
pub mod Commands
-- how words of the code are seen
pub mod WordView
