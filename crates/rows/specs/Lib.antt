pub mod BuiltIns
pub mod Rows
