pub mod Seen
pub mod Deeds
pub mod Since
pub mod State
pub mod Steps
pub mod Recalled
pub mod Stored
