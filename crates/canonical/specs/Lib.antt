pub mod Picks
pub mod Named
pub mod Rows
