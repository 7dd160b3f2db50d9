pub mod BenchLaws
pub mod SumLaws
pub mod DigitLaws
pub mod LineLaws
pub mod FrameLaws
pub mod MatchLaws
