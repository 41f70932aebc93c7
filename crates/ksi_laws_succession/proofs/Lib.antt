pub mod Unasked
pub mod Deciding
pub mod Retiring
pub mod Examples
