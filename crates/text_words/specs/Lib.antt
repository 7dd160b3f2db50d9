-- the lines of a text that people write, the words of a line, and words as they are written
pub mod TextLines
pub mod Words
pub mod SpacedWords
