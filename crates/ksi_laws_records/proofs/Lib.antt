pub mod Asking
pub mod Fitting
pub mod HandingOut
pub mod Staying
pub mod Votes
pub mod Decrees
pub mod Taking
pub mod Shortness
