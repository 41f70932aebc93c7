pub mod Beside
pub mod Standing
pub mod Walks
