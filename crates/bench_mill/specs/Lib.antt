-- the bench of the generated database, the frames of the generator, and the three numbers of a log
pub mod GeneratedBench
pub mod GeneratedFrames
pub mod Totals
