pub mod Words
pub mod Names
pub mod Chains
pub mod Calendar
pub mod Text
