-- what marks, links, trees and active signals mean
pub mod Parents
pub mod Chain
pub mod Activity
pub mod Fault
pub mod Trees
-- what the code keeps on its way
pub mod Claims
pub mod FarAbove
