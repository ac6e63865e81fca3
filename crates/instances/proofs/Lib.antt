pub mod Seen
pub mod Held
pub mod Attempts
pub mod Loops
pub mod Plain
pub mod Means
