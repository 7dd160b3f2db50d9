-- classes of bytes, the lines and pieces of a text, and numbers by their digits
pub mod Bytes
pub mod Classes
pub mod Lines
pub mod Pieces
pub mod Numerals
pub mod Hexadecimal
