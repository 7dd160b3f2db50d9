-- the size of an image, and what is in it
pub mod Size
pub mod Layout
-- when there is none
pub mod Refusal
-- what the types of the code say
pub mod Typed
