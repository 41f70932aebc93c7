pub mod Answers
pub mod Drawn
pub mod Fronts
pub mod Seconds
