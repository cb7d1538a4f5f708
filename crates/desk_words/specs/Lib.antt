pub mod Causes
pub mod Parser
pub mod Topics
pub mod Words
