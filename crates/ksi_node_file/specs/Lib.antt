pub mod CoreFacts
pub mod Followed
pub mod Crashed
