-- the generated frames and their log
pub mod GeneratedLog
