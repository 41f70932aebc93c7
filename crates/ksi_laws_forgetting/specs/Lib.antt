pub mod Forgotten
pub mod Left
pub mod Horizon
