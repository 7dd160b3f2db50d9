-- the tokens of a text, what is between them, and the content of strings
pub mod Bytes
pub mod Lexemes
pub mod Prefixes
pub mod Blank
pub mod Tokens
pub mod Content
-- how the code finds what is between tokens
pub mod Comments
