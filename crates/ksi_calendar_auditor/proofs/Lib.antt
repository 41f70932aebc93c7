pub mod Keeping
pub mod Accepting
pub mod Told
