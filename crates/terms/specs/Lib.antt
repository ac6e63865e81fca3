pub mod Plain
pub mod Rows
pub mod Answers
