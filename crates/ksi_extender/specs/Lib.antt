pub mod Checks
pub mod Extended
pub mod Accepted
