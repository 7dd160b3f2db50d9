-- which bench a list of words encodes
pub mod Layout
pub mod Index
pub mod Image
-- what is known of a list of words
pub mod Knowledge
-- all words of a list, and where its rows are
pub mod Whole
-- what a visitor of a frame's meaning is given
pub mod Visits
pub mod Buffers
-- what the code reads on its way
pub mod Reading
pub mod Found
