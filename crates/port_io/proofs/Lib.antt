pub mod KnownLaws
pub mod PieceLaws
pub mod RefusalLaws
pub mod CopyLaws
pub mod OpeningLaws
