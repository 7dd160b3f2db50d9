-- what a subscriber wants, how it asks for it, and the text that it is sent
pub mod Bytes
pub mod Wants
pub mod WantLines
pub mod FirstFault
pub mod ItemText
pub mod MessageParts
pub mod Prints
pub mod Parts
pub mod BeforeGo
-- how values of the code are seen
pub mod Plain
pub mod LineParts
pub mod WantView
pub mod LineView
pub mod PartsView
