pub mod Numbers
pub mod Majorities
pub mod Vote
pub mod Deciding
pub mod Issuing
pub mod Runs
