pub mod Checks
pub mod Sums
pub mod Again
pub mod Loops
