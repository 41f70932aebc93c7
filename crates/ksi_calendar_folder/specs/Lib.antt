pub mod Folder
pub mod Over
