-- what is at the front of tokens, as relations
pub mod Grammar
-- the same as functions, which the readers equal
pub mod Pieces
pub mod Numbers
pub mod Runs
-- what factors and offsets say
pub mod Scaling
-- the names of what readers make of them
pub mod Names
-- how values of the code are seen
pub mod Views
pub mod Outcomes
