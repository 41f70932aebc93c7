pub mod Powers
pub mod Ways
pub mod Parts
pub mod Trees
pub mod Upward
pub mod Leaves
pub mod Layout
pub mod Stored
