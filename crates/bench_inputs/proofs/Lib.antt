pub mod AskingLaws
pub mod FileLaws
pub mod ReadingLaws
pub mod OpeningLaws
