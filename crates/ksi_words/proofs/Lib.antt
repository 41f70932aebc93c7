pub mod Building
pub mod Commands
mod Counted
pub mod Leaf
pub mod Misfits
pub mod Parsed
pub mod WordLemmas
pub mod Early
pub mod Unnamed
