pub mod Cases
pub mod Strings
pub mod Bits
pub mod Going
pub mod Walking
