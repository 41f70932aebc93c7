pub mod Deciding
pub mod Padding
pub mod Lending
pub mod Stating
