pub mod LineLengths
pub mod Spacing
