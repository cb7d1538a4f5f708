pub mod Again
pub mod Folder
pub mod Names
pub mod Places
pub mod Taken
