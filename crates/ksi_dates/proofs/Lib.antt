pub mod DateLemmas
pub mod BasicLemmas
