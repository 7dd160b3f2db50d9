pub mod ListLaws
mod AskingLaws
