pub mod NumberLaws
pub mod LogLaws
pub mod LineLaws
