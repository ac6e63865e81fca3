pub mod Resolved
pub mod Choice
pub mod Ways
pub mod Resolves
