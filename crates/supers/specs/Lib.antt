pub mod ClassTable
pub mod Rows
pub mod Givens
pub mod Frames
pub mod Searched
pub mod Search
