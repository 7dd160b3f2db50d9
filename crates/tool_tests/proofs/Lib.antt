pub mod BusLaws
