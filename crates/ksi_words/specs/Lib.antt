pub mod Grammar
pub mod Sorts
pub mod Words
