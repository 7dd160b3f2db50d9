-- what a library shows, and what is asked of it
pub mod Asking
-- the files of a bench
pub mod BenchFiles
-- what the readers answer
pub mod Reading
