-- the text that is made for `mill`, and the database that it is
pub mod GeneratedText
pub mod GeneratedDatabase
