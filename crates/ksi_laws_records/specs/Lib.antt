pub mod Logged
pub mod Recorded
pub mod Messages
