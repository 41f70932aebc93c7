pub mod Host
pub mod Memory
pub mod Outside
pub mod Stored
pub mod Sure
