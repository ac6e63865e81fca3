pub mod Entries
pub mod Tables
