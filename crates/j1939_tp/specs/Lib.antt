-- What the protocol means.
pub mod Frames
pub mod Session
pub mod OpenSessions
pub mod Places
-- How the code keeps it.
pub mod Keeping
pub mod FrameReading
