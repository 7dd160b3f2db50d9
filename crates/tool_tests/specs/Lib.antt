-- how the buses of the tests are seen
pub mod EmptyBus
