pub mod Kept
pub mod Climbed
pub mod Audit
pub mod Shown
