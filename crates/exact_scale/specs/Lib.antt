-- decimal texts and the fractions that they denote
pub mod Bytes
pub mod Digits
pub mod Numeral
pub mod Fraction
pub mod Limits
pub mod ShortestText
-- what the code finds of a text, and what an append leaves
pub mod Parts
pub mod Buffer
