pub mod Moves
pub mod Puts
pub mod Ways
pub mod Lasts
pub mod Seen
