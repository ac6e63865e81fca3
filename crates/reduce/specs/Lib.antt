pub mod Reduced
pub mod Reduces
