pub mod Roots
pub mod Again
