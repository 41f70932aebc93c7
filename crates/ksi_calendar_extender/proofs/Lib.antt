pub mod Leading
pub mod Rooted
pub mod Steps
pub mod Told
pub mod Same
