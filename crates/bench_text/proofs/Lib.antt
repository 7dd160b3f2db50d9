pub mod TextLaws
pub mod ListLaws
pub mod PlaceLaws
pub mod ReadLaws
pub mod BusesLaws
pub mod FaultLaws
