pub mod RoundLinks
pub mod AboveSaid
pub mod Taken
mod Ends
mod ToldLines
