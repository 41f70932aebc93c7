pub mod Retired
pub mod Minority
