pub mod Seen
pub mod Followed
pub mod Choices
pub mod Dictionaries
pub mod Goals
pub mod Steps
pub mod Environments
pub mod Means
