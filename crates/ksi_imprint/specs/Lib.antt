pub mod Imprints
pub mod Reading
pub mod Refused
pub mod Held
