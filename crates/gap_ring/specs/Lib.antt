-- What the ring promises: what was put, its groups and its gaps, and what was taken in a turn.
pub mod Offers
pub mod Tiles
pub mod Groups
pub mod Turns
-- How the table keeps it: its words and slots, the views of its two seats, and what each step changes.
pub mod Rule
pub mod Steps
pub mod May
pub mod Takes
pub mod Ends
pub mod Offering
pub mod PutterView
pub mod TakerView
pub mod MetView
