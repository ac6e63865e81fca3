pub mod Pairs
pub mod Steps
pub mod Heads
pub mod Ways
pub mod Means
