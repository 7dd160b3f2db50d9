pub mod ClaimLaws
pub mod ParentLaws
pub mod ChainLaws
pub mod ActivityLaws
pub mod UniqueLaws
pub mod ExistenceLaws
pub mod TreeLaws
