pub mod ListLaws
pub mod LaneLaws
pub mod LoaderLaws
pub mod FirstLaws
pub mod ScheduleLaws
pub mod RangeLaws
pub mod UseLaws
