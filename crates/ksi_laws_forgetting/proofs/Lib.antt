pub mod Leaving
pub mod Unnoticed
pub mod Known
pub mod Guarding
pub mod Missed
pub mod Keeping
