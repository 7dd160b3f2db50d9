-- the meaning of a text
pub mod Sizes
pub mod Statements
pub mod Run
pub mod Scaling
pub mod Gather
pub mod Unknown
pub mod Described
-- functions of the code's own shape, and views of its types
pub mod Forms
pub mod LineForms
pub mod StatementForms
pub mod Gives
pub mod Kinds
pub mod Lookup
pub mod Answer
