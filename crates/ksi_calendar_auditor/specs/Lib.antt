pub mod Kept
pub mod Audited
