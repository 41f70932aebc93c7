pub mod Rooms
pub mod FactsMore
pub mod Answering
pub mod Onwards
pub mod Crashing
pub mod Calls
