-- Where the words of a store lie, which images it takes, how the uses of a lane fit the images, and which lanes
-- hold a region.
pub mod Layout
pub mod Images
pub mod Uses
pub mod Holders
-- What callers see of a store, of its seats, of a pin and of a publication.
pub mod Ends
pub mod LoaderEnd
pub mod Publishing
pub mod Reading
-- How the table keeps it: its rule, what each step changes, where a step may be made, and what is found on the way.
pub mod Rule
pub mod Steps
pub mod May
pub mod Store
pub mod Finding
