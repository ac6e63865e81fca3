pub mod Whole
pub mod Once
