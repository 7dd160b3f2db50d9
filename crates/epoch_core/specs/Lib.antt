-- the machine of the regions: its states, its steps, its rule and its runs
pub mod Machine
pub mod Steps
pub mod Rule
pub mod Runs
