-- questions that have one answer
pub mod Decisions
-- lists of things that are each asked
pub mod ListDecisions
