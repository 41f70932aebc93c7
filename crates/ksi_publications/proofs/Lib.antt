pub mod Finds
pub mod Named
pub mod Files
pub mod Answered
pub mod Writes
