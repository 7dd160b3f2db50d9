pub mod DecimalTextLaws
pub mod RunLaws
pub mod ScaleLaws
pub mod ParsesLaws
